-- How many rows a words file has at most.
use Rattle.std.proofs.Common.{◌≡◌, ℕ, zero, suc, ◌+◌, ◌≤◌, Bool, true, false, Option, Some, None, Result, Ok, List, [], ◌∷◌, length, arith, if◌then◌else◌}
use Rattle.csv.specs.Machine.{Read, next_record}
use Rattle.csv.specs.Reading.{default_config, is_bom, records, records_from, records_next, strip_bom}
use Rattle.csv.specs.declared.parser.State.{State}
use Rattle.csv.specs.declared.parser.State.TheVariants as st
use Rattle.bp_text.specs.WordFiles.{word_row as word_of, words_of}
use Rattle.bp_text.specs.declared.words.WordRow.{WordRow}
use Rattle.bp_import.proofs.EachLemmas.{each_one, each_read}

few_next : (more : State → List ℕ → List (List (List ℕ))) (n : ℕ) (o : Option Read) → ((s : State) (xs : List ℕ) → length (more s xs) ≤ n) → length (records_next more o) ≤ n + 1
few_next more n None few = omega arith
few_next more n (Some p) few = omega (arith, few p.1 p.2)

records_few : (n : ℕ) (s : State) (xs : List ℕ) → length (records_from default_config n s xs) ≤ n
unfolding records_from
records_few zero s xs = omega arith
records_few (suc n) s xs = omega (arith, few_next (records_from default_config n) n (next_record default_config s [] [] xs) (records_few n))

shorter_without : (b : Bool) (rest text : List ℕ) → length rest ≤ length text → length (if b then rest else text) ≤ length text
shorter_without true rest text less = less
shorter_without false rest text less = omega arith

pub bom_less : (text : List ℕ) → length (strip_bom text) ≤ length text
unfolding strip_bom
bom_less [] = omega arith
bom_less (a ∷ []) = omega arith
bom_less (a ∷ b ∷ []) = omega arith
bom_less (a ∷ b ∷ c ∷ rest) = shorter_without (is_bom a b c) rest (a ∷ b ∷ c ∷ rest) (omega arith)

pub words_few : (bytes : List ℕ) (rows : List WordRow) → words_of bytes ≡ Ok rows → length rows ≤ length bytes + 1
words_few bytes rows is =
    let all = records default_config (strip_bom bytes) in
    let read = each_read (λ _. Unit {0}) (λ _. Unit {0}) word_of _ 1 all rows (λ piece value p e. tt) is (each_one (λ _. Unit {0}) all (λ _. tt)) in
    omega (arith, records_few (length (strip_bom bytes) + 1) st.StartRecord (strip_bom bytes), bom_less bytes, read.1)
