-- When a term matches a word. Both are lists of characters, and case is no matter: characters are
-- compared after simple case folding (Unicode, section 3.13 and CaseFolding.txt).
use Rattle.std.specs.Prelude.{ℕ, Bool, true, false, ◌==◌, ◌&&◌, ◌||◌, ◌-◌, if◌then◌else◌, List, [], ◌∷◌, length, reverse, take, drop, slice_index}
use Rattle.std.specs.Char.{is_ascii_digit}
use Rattle.ucd_case.specs.CaseFolding.{simple_fold}
use Rattle.ucd_category.specs.GeneralCategory.{general_category, general_category_number}
use Rattle.ucd_category.specs.GeneralCategoryGroup.{in_group}
use Rattle.ucd_category.specs.declared.GeneralCategory.TheVariants.{DecimalNumber}
use Rattle.ucd_category.specs.declared.GeneralCategoryGroup.TheVariants.{Letter}
use Rattle.bp_looks.specs.declared.matching.TheConstants.{NUMBER_SIGN, STAR}

-- a sign of a term stands for this character: `#` for a digit 0 to 9, each other sign for itself in
-- either case
-- by Unicode, section 3.13, simple case folding
abbrev pub stands_for_one : ℕ → ℕ → Bool
stands_for_one sign c =
    if sign == NUMBER_SIGN then is_ascii_digit c else (simple_fold sign == simple_fold c)

-- the signs stand for the word or, where more may follow, for its beginning
abbrev pub begins : Bool → List ℕ → List ℕ → Bool
begins more_follows [] [] = true
begins more_follows [] (c ∷ cs) = more_follows
begins more_follows (sign ∷ signs) [] = false
begins more_follows (sign ∷ signs) (c ∷ cs) =
    stands_for_one sign c && begins more_follows signs cs

-- the same of the word, or of what is left of it after some of its characters
abbrev pub begins_somewhere : Bool → List ℕ → List ℕ → Bool
begins_somewhere more_follows signs [] = begins more_follows signs []
begins_somewhere more_follows signs (c ∷ cs) =
    begins more_follows signs (c ∷ cs) || begins_somewhere more_follows signs cs

-- the first sign of a term is `*`
abbrev pub has_front_star : List ℕ → Bool
has_front_star term = slice_index term 0 == STAR

-- the term without it
abbrev pub without_front_star : List ℕ → List ℕ
without_front_star term = if has_front_star term then drop 1 term else term

-- the last sign of a term is `*`
abbrev pub has_end_star : List ℕ → Bool
has_end_star term = slice_index term (length term - 1) == STAR

-- the term without it
abbrev pub without_end_star : List ℕ → List ℕ
without_end_star term = if has_end_star term then take (length term - 1) term else term

-- the term stands for the word: a `*` at its front or its end stands for any characters, none too
abbrev pub stands_for : List ℕ → List ℕ → Bool
stands_for term word =
    let rest = without_front_star term in
    if has_front_star term
    then begins_somewhere (has_end_star rest) (without_end_star rest) word
    else begins (has_end_star rest) (without_end_star rest) word

-- a letter or a digit
-- by Unicode, section 4.5: General_Category L or Nd
abbrev pub is_letter_or_digit : ℕ → Bool
is_letter_or_digit c =
    in_group Letter (general_category c)
    || (general_category_number (general_category c) == general_category_number DecimalNumber)

-- the characters from the first letter or digit on
abbrev pub from_first_letter : List ℕ → List ℕ
from_first_letter [] = []
from_first_letter (c ∷ cs) = if is_letter_or_digit c then c ∷ cs else from_first_letter cs

-- the word from its first letter or digit to its last
abbrev pub core_of : List ℕ → List ℕ
core_of word = reverse (from_first_letter (reverse (from_first_letter word)))

-- the term matches the word: it stands for the word or for its core
abbrev pub matches : List ℕ → List ℕ → Bool
matches term word = stands_for term word || stands_for term (core_of word)
