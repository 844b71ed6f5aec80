-- How many lines and records a load file has at most.
use Rattle.std.proofs.Common.{◌≡◌, ℕ, ◌+◌, ◌<◌, ◌≤◌, ◌==◌, Bool, true, false, cond, not, Option, Some, None, Result, Ok, Err, List, [], ◌∷◌, length, drop, refl, sym, ap, arith}
use Rattle.std.specs.List.{filter, onto_first, starts_with, slice_split}
use Rattle.std.specs.Prelude.{nat_eq}
use Rattle.std.specs.Str.{is_utf8}
use Rattle.std.specs.Str.Lines.{lines, lines_of_parts}
use Rattle.std.proofs.lemmas.List.{length-drop}
use Rattle.std.proofs.lemmas.List.Splits.{length-slice_split}
use Rattle.bp_core.specs.InTurn.{first_then, read_each}
use Rattle.bp_core.specs.Rules.{rule_at_line}
use Rattle.bp_core.specs.declared.rules.Rule.{Rule}
use Rattle.bp_core.specs.declared.rules.RuleKind.TheVariants.{DatEncoding, DatShape, OptShape}
use Rattle.bp_load.specs.Dat.{after_header, dat_of, row_of_values, values_of_line, table_with_rows, table_of}
use Rattle.bp_load.specs.Lines.{byte_order_mark, filled_lines, without_mark}
use Rattle.bp_load.specs.Opt.{opt_line_of, opt_of}
use Rattle.bp_load.specs.Table.{Table}
use Rattle.bp_load.specs.declared.opt.OptLine.{OptLine}

-- ---- lines

kept_less : {X : Type 0} (x : X) (rest : List X) (n : ℕ) (keep : Bool) → length rest ≤ n → length (cond keep (x ∷ rest) rest) ≤ n + 1
kept_less x rest n true less = omega arith
kept_less x rest n false less = omega arith

pub filter_less : {X : Type 0} (p : X → Bool) (xs : List X) → length (filter p xs) ≤ length xs
filter_less p [] = omega arith
filter_less p (x ∷ xs) = omega (arith, kept_less x (filter p xs) (length xs) (p x) (filter_less p xs))

part_more : {X : Type 0} (x : X) (parts : List (List X)) (n : ℕ) (here : Bool) → 0 < length parts → length parts ≤ n
    → length (cond here ([] ∷ parts) (onto_first x parts)) ≤ n + 1
part_more x parts n true some less = omega arith
part_more x [] n false some less = absurd (omega arith)
part_more x (part ∷ parts) n false some less = omega arith

some_parts : {X : Type 0} (p : X → Bool) (xs : List X) → 0 < length (slice_split p xs)
some_parts p xs = omega (arith, length-slice_split p xs)

pub parts_few : {X : Type 0} (p : X → Bool) (xs : List X) → length (slice_split p xs) ≤ length xs + 1
parts_few p [] = omega arith
parts_few p (x ∷ xs) = omega (arith, part_more x (slice_split p xs) (length xs + 1) (p x) (some_parts p xs) (parts_few p xs))

last_few : (x : List ℕ) (empty : Bool) → length (cond empty [] (x ∷ [])) ≤ 1
last_few x true = omega arith
last_few x false = omega arith

lines_few : (parts : List (List ℕ)) → length (lines_of_parts parts) ≤ length parts
lines_few [] = omega arith
lines_few (x ∷ []) = last_few x (length x == 0)
lines_few (x ∷ y ∷ more) = omega (arith, lines_few (y ∷ more))

without_less : (bytes : List ℕ) (marked : Bool) → length (cond marked (drop 3 bytes) bytes) ≤ length bytes
without_less bytes true = omega (arith, length-drop 3 bytes)
without_less bytes false = omega arith

pub unmarked_less : (bytes : List ℕ) → length (without_mark bytes) ≤ length bytes
unmarked_less bytes = without_less bytes (starts_with nat_eq bytes byte_order_mark)

pub filled_few : (bytes : List ℕ) → length (filled_lines (without_mark bytes)) ≤ length bytes + 1
filled_few bytes =
    let rest = without_mark bytes in
    omega (arith, filter_less (λ line. not (length line == 0)) (lines rest), lines_few (slice_split (λ b. b == 10) rest), parts_few (λ b. b == 10) rest, unmarked_less bytes)

-- ---- a value a line

-- a value before others
pub one_more : {V : Type 0} (o : Option V) (rule : Rule) (others : Result (List V) Rule) (values : List V) (n : ℕ)
    → ((rest : List V) → others ≡ Ok rest → length rest ≤ n)
    → first_then o rule others ≡ Ok values
    → length values ≤ n + 1
one_more None rule others values n few e = absurd cc
one_more (Some value) rule (Ok rest) values n few e = let same : value ∷ rest ≡ values = cc in omega (arith, sym (ap length same), few rest refl)
one_more (Some value) rule (Err broken) values n few e = absurd cc

each_few : {X V : Type 0} (read : X → Option V) (rule : ℕ → Rule) (n : ℕ) (pieces : List X) (values : List V)
    → read_each read rule n pieces ≡ Ok values → length values ≤ length pieces
each_few read rule n [] values e = let none : [] ≡ values = cc in omega (arith, sym (ap length none))
each_few read rule n (piece ∷ pieces) values e =
    omega (arith, one_more (read piece) (rule n) (read_each read rule (n + 1) pieces) values (length pieces) (λ rest is. each_few read rule (n + 1) pieces rest is) e)

pub opt_few : (bytes : List ℕ) (found : List OptLine) → opt_of bytes ≡ Ok found → length found ≤ length bytes + 1
opt_few bytes found is = omega (arith, filled_few bytes, each_few opt_line_of (rule_at_line OptShape) 1 (filled_lines (without_mark bytes)) found is)

rows_few : (columns : List (List ℕ)) (rows : Result (List (List (List ℕ))) Rule) (table : Table) (n : ℕ)
    → ((found : List (List (List ℕ))) → rows ≡ Ok found → length found ≤ n)
    → table_with_rows columns rows ≡ Ok table
    → length table.rows ≤ n
rows_few columns (Ok found) table n few e = let same : record { columns = columns; rows = found } ≡ table = cc in omega (arith, ap (λ t. length t.rows) (sym same), few found refl)
rows_few columns (Err rule) table n few e = absurd cc

header_few : (header : Option (List (List ℕ))) (records : List (List ℕ)) (table : Table) → after_header header records ≡ Ok table → length table.rows ≤ length records
header_few None records table e = absurd cc
header_few (Some columns) records table e =
    rows_few columns (read_each (row_of_values (length columns)) (rule_at_line DatShape) 2 records) table (length records)
    (λ found is. each_few (row_of_values (length columns)) (rule_at_line DatShape) 2 records found is) e

table_few : (found : List (List ℕ)) (table : Table) → table_of found ≡ Ok table → length table.rows ≤ length found
table_few [] table e = absurd cc
table_few (header ∷ records) table e = omega (arith, header_few (values_of_line header) records table e)

text_few : (text : Bool) (bytes : List ℕ) (table : Table)
    → cond text (table_of (filled_lines (without_mark bytes))) (Err (rule_at_line DatEncoding 0)) ≡ Ok table
    → length table.rows ≤ length bytes + 1
text_few true bytes table e = omega (arith, filled_few bytes, table_few (filled_lines (without_mark bytes)) table e)
text_few false bytes table e = absurd cc

pub dat_few : (bytes : List ℕ) (table : Table) → dat_of bytes ≡ Ok table → length table.rows ≤ length bytes + 1
dat_few bytes table e = text_few (is_utf8 bytes) bytes table e
