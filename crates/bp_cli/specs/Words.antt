-- The words of a command line, without the program's name, each as its bytes.
use Rattle.std.specs.Prelude.{ℕ, Bool, ◌||◌, ◌==◌, Option, List, [], length, map, slice_index}
use Rattle.std.specs.Prelude.{slice_index_or, String}
use Rattle.std.specs.declared.alloc.Global.{Global}
use Rattle.std.specs.Borrow.{Bor}
use Rattle.std.specs.Option.{option_and_then}
use Rattle.std.specs.String.{string_bytes}
use Rattle.bp_core.specs.Characters.{hyphen}
use Rattle.bp_core.specs.Digits.{unpadded_in}

-- the words as their bytes
abbrev pub word_bytes : List (String Global) → List (List ℕ)
word_bytes words = map string_bytes words

-- words behind references
abbrev pub words_lent : List (Bor (List ℕ)) → List (List ℕ)
words_lent words = map (λ word. word.now) words

-- the word at a place, counted from 0
abbrev pub word_of : List (List ℕ) → ℕ → List ℕ
word_of words at = slice_index_or words at []

-- no word may be empty or begin with `-`
abbrev pub is_bad_word : List ℕ → Bool
is_bad_word word = length word == 0 || slice_index word 0 == hyphen

-- the number of a word, if it is one: `0`, or 1 to 9 digits without a leading zero
abbrev pub operand_number : List ℕ → Option ℕ
operand_number = unpadded_in

-- a value, and what follows from it
infixl 10 ◌>>=◌
-- what is read, and then the next, where both are there
abbrev pub ◌>>=◌ : {A B : Type 0} → Option A → (A → Option B) → Option B
o >>= f = option_and_then f o
