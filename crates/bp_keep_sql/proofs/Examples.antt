-- Worked examples of the definitions in specs/, each run by the check.
use Rattle.std.proofs.Common.{◌≡◌, ℕ, ℤ, pos, negsuc, true, false, List, [], ◌∷◌, length, codes, Some, None, refl, ap, inl, inr, arith}
use Rattle.std.proofs.lemmas.Bool.{cases_Bool}
use Rattle.sqlite_value.specs.declared.value.Value.TheVariants.{Null, Int, Text, Blob}
use Rattle.sqlite_value.specs.Order.{Row as Line, value_cmp}
use Rattle.sqlite_trees.specs.Tree.{Trees, no_trees, with_tree}
use Rattle.sqlite_sql.specs.Ops.{binary}
use Rattle.sqlite_schema.specs.declared.schema.Schema.{Schema}
use Rattle.sqlite_schema.specs.Rules.{passes_checks}
use Rattle.sqlite.specs.declared.error.ErrorCode.TheVariants as code
use Rattle.sqlite.specs.declared.error.Error.TheVariants.{SqliteFailure}
use Rattle.bp_core.specs.declared.kept.Row.{Row}
use Rattle.bp_keep.specs.declared.refusals.KeepRefusal.TheVariants.{Failed, OutOfMemory}
use Rattle.bp_keep_sql.specs.Table.{kept_table, kept_schema, no_schema}
use Rattle.bp_keep_sql.specs.Lines.{kept_row, shown_row, kept_rows, is_row}
use Rattle.bp_keep_sql.specs.Asked.{are_rows, told_as}
use Rattle.bp_keep_sql.specs.Schemas.{same_schema}
use Rattle.bp_keep_sql.specs.Told.{rows_of_database}
use Rattle.bp_keep_sql.specs.declared.files.TheConstants.{CACHE_PAGES}
use Rattle.bp_keep_sql.proofs.SchemaLemmas.{same_schema-true, same_schema-itself}

abbrev line : ℤ → ℕ → ℕ → ℕ → List ℕ → Line
line id kind k1 k2 body = Int id ∷ Int (pos kind) ∷ Int (pos k1) ∷ Int (pos k2) ∷ Blob body ∷ []

abbrev row : ℕ → ℕ → ℕ → List ℕ → Row
row kind k1 k2 body = record { kind = kind; k1 = k1; k2 = k2; body = body }

-- a page was put before the staff row; a removed row left a hole in the rowids
abbrev lines : List Line
lines = line (pos 1) 4 2 3 (9 ∷ []) ∷ line (pos 2) 1 1 0 (1 ∷ 2 ∷ []) ∷ line (pos 5) 4 2 1 [] ∷ []

a_line : kept_row (line (pos 7) 4 2 3 (9 ∷ [])) ≡ row 4 2 3 (9 ∷ [])
a_line = refl

-- an answer shows no rowid
a_shown_line : shown_row (Int (pos 4) ∷ Int (pos 2) ∷ Int (pos 3) ∷ Blob (9 ∷ []) ∷ [])
    ≡ row 4 2 3 (9 ∷ [])
a_shown_line = refl

rows_by_key : kept_rows lines ≡ row 1 1 0 (1 ∷ 2 ∷ []) ∷ row 4 2 1 [] ∷ row 4 2 3 (9 ∷ []) ∷ []
rows_by_key = refl

no_line : kept_rows [] ≡ []
no_line = refl

-- ---- lines that are rows

abbrev shown : ℤ → ℤ → ℤ → Line
shown kind k1 k2 = Int kind ∷ Int k1 ∷ Int k2 ∷ Blob (7 ∷ []) ∷ []

the_greatest_row : is_row (shown (pos 255) (pos 4294967295) (pos 4294967295)) ≡ true
the_greatest_row = refl

no_kind : is_row (shown (pos 256) (pos 2) (pos 1)) ≡ false
no_kind = refl

no_first_number : is_row (shown (pos 4) (negsuc 0) (pos 1)) ≡ false
no_first_number = refl

no_second_number : is_row (shown (pos 4) (pos 2) (pos 4294967296)) ≡ false
no_second_number = refl

no_body : is_row (Int (pos 4) ∷ Int (pos 2) ∷ Int (pos 1) ∷ Text (7 ∷ []) ∷ []) ≡ false
no_body = refl

no_number : is_row (Int (pos 4) ∷ Int (pos 2) ∷ Null ∷ Blob (7 ∷ []) ∷ []) ≡ false
no_number = refl

rising_rows : are_rows (shown (pos 4) (pos 2) (pos 1) ∷ shown (pos 4) (pos 2) (pos 2) ∷ []) ≡ true
rising_rows = refl

one_key_twice : are_rows (shown (pos 4) (pos 2) (pos 1) ∷ shown (pos 4) (pos 2) (pos 1) ∷ []) ≡ false
one_key_twice = refl

want_of_memory : told_as (SqliteFailure code.OutOfMemory) ≡ OutOfMemory
want_of_memory = refl

a_full_disk : told_as (SqliteFailure code.DiskFull) ≡ Failed
a_full_disk = refl

-- ---- the ranges that the table asks

the_greatest_key : passes_checks kept_table (line (pos 1) 255 4294967295 4294967295 []) ≡ true
unfolding binary value_cmp lib.Ieee.is_nan lib.Ieee.lt
the_greatest_key = refl

the_least_key : passes_checks kept_table (line (pos 1) 0 0 0 []) ≡ true
unfolding binary value_cmp lib.Ieee.is_nan lib.Ieee.lt
the_least_key = refl

a_kind_too_great : passes_checks kept_table (line (pos 1) 256 0 0 []) ≡ false
unfolding binary value_cmp lib.Ieee.is_nan lib.Ieee.lt
a_kind_too_great = refl

a_first_number_too_great : passes_checks kept_table (line (pos 1) 0 4294967296 0 []) ≡ false
unfolding binary value_cmp lib.Ieee.is_nan lib.Ieee.lt
a_first_number_too_great = refl

a_second_number_too_great : passes_checks kept_table (line (pos 1) 0 0 4294967296 []) ≡ false
unfolding binary value_cmp lib.Ieee.is_nan lib.Ieee.lt
a_second_number_too_great = refl

a_kind_below_zero : passes_checks kept_table
    (Int (pos 1) ∷ Int (negsuc 0) ∷ Int (pos 0) ∷ Int (pos 0) ∷ Blob [] ∷ []) ≡ false
unfolding binary value_cmp lib.Ieee.is_nan lib.Ieee.lt
a_kind_below_zero = refl

-- ---- what is told

abbrev with_view : Schema
with_view = record kept_schema {
  views = record {
    name = codes "v";
    tree = 2;
    sql = codes "CREATE VIEW v AS SELECT 1";
    foreign = None;
    binds = false;
    is_bound = false;
  } ∷ [];
}

abbrev trees : Trees
trees = with_tree no_trees 0 lines

apart : (a b : Schema) → (a ≡ b → ⊥) → same_schema a b ≡ false
apart a b other = elim (cases_Bool (same_schema a b)) [
  | inl same ↦ absurd (other (same_schema-true a b same))
  | inr off ↦ off
]

abbrev tables_of : Schema → ℕ
tables_of schema = length schema.tables

abbrev views_of : Schema → ℕ
views_of schema = length schema.views

the_same_schema : same_schema kept_schema kept_schema ≡ true
the_same_schema = same_schema-itself kept_schema kept_schema refl

an_empty_schema : same_schema kept_schema no_schema ≡ false
an_empty_schema =
    apart kept_schema no_schema (λ e. let n : 1 ≡ 0 = ap tables_of e in omega (arith, n))

a_view_beside_it : same_schema with_view kept_schema ≡ false
a_view_beside_it =
    apart with_view kept_schema (λ e. let n : 1 ≡ 0 = ap views_of e in omega (arith, n))

neither : same_schema with_view no_schema ≡ false
neither = apart with_view no_schema (λ e. let n : 1 ≡ 0 = ap views_of e in omega (arith, n))

no_table_no_rows : rows_of_database (record { schema = no_schema; trees = no_trees }) ≡ Some []
no_table_no_rows = rw (same_schema-itself no_schema no_schema refl) refl

rows_of_the_table : rows_of_database (record { schema = kept_schema; trees = trees })
    ≡ Some (row 1 1 0 (1 ∷ 2 ∷ []) ∷ row 4 2 1 [] ∷ row 4 2 3 (9 ∷ []) ∷ [])
rows_of_the_table = rw (an_empty_schema, the_same_schema) refl

of_another_schema_nothing : rows_of_database (record { schema = with_view; trees = trees }) ≡ None
of_another_schema_nothing = rw (neither, a_view_beside_it) refl

-- ---- the number

pages_in_memory : CACHE_PAGES ≡ 256
pages_in_memory = refl
