-- What is known of a DAT file whose table an import takes.
use Rattle.std.proofs.Common.{◌≡◌, ℕ, ◌+◌, ◌≤◌, ◌==◌, Bool, true, false, cond, Option, Some, None, Result, Ok, Err, List, [], ◌∷◌, length, refl, sym, ap, ◌∙◌, arith, subst}
use Rattle.std.specs.Option.{ok_or}
use Rattle.std.specs.Str.{is_utf8}
use Rattle.bp_core.specs.InTurn.{read_each}
use Rattle.bp_core.specs.Rules.{bare_rule, rule_at_line}
use Rattle.bp_core.specs.declared.rules.Rule.{Rule}
use Rattle.bp_core.specs.declared.rules.RuleKind.TheVariants.{DatColumns, DatEncoding, DatShape}
use Rattle.bp_load.specs.Dat.{after_header, columns_in, dat_columns, dat_of, row_of_values, values_of_line, table_with_rows, table_of as table_in}
use Rattle.bp_load.specs.Lines.{each_line, filled_lines, without_mark}
use Rattle.bp_load.specs.Table.{Table}
use Rattle.bp_import.specs.Columns.{are_columns, tested_table}
use Rattle.bp_core.specs.RuleSteps.{◌>>=◌}
use Rattle.bp_import.specs.Steps.{demanded}
use Rattle.bp_load.proofs.CountLemmas.{filled_few}
use Rattle.bp_import.proofs.EachLemmas.{each_one, each_read}

-- the value of a first step, and what comes of it
pub next_parts : {A B : Type 0} (r : Result A Rule) (next : A → Result B Rule) (b : B) → (r >>= next) ≡ Ok b → (a : A) × ((r ≡ Ok a) × (next a ≡ Ok b))
next_parts (Ok a) next b e = (a, (refl, e))
next_parts (Err rule) next b e = cc

pub demand_parts : (passes : Bool) (rule : Rule) (done : Unit {0}) → demanded passes rule ≡ Ok done → passes ≡ true
demand_parts true rule done e = refl
demand_parts false rule done e = cc

record FileFacts (bytes : List ℕ) (table : Table) : Type 0 where
  pub text : is_utf8 bytes ≡ true
  pub table_is : table_in (filled_lines (without_mark bytes)) ≡ Ok table

file_facts : (bytes : List ℕ) (table : Table) (b : Bool) → is_utf8 bytes ≡ b
    → cond b (table_in (filled_lines (without_mark bytes))) (Err (rule_at_line DatEncoding 0)) ≡ Ok table → FileFacts bytes table
file_facts bytes table true is e = record { text = is; table_is = e }
file_facts bytes table false is e = cc

-- the header and the lines of records
pub record TableFacts (bytes : List ℕ) (table : Table) : Type 0 where
  pub text : is_utf8 bytes ≡ true
  pub header : List ℕ
  pub rest : List (List ℕ)
  pub lines : filled_lines (without_mark bytes) ≡ header ∷ rest
  pub names : values_of_line header ≡ Some table.columns
  pub rows : each_line (row_of_values (length table.columns)) DatShape 2 rest ≡ Ok table.rows
  pub taken : are_columns table.columns ≡ true

rows_parts : (columns : List (List ℕ)) (r : Result (List (List (List ℕ))) Rule) (table : Table) → table_with_rows columns r ≡ Ok table → (columns ≡ table.columns) × (r ≡ Ok table.rows)
rows_parts columns (Ok rows) table e = let same : record { columns = columns; rows = rows } ≡ table = cc in (ap (λ t. t.columns) same, ap (λ t. Ok t.rows) same)
rows_parts columns (Err rule) table e = cc

header_parts : (o : Option (List (List ℕ))) (rest : List (List ℕ)) (table : Table) → after_header o rest ≡ Ok table
    → (o ≡ Some table.columns) × (each_line (row_of_values (length table.columns)) DatShape 2 rest ≡ Ok table.rows)
header_parts None rest table e = cc
header_parts (Some columns) rest table e =
    let parts = rows_parts columns (each_line (row_of_values (length columns)) DatShape 2 rest) table e in
    (ap Some parts.0, ap (λ cs. each_line (row_of_values (length cs)) DatShape 2 rest) (sym parts.0) ∙ parts.1)

first_of : (o : Option (List (List ℕ))) (rule : Rule) (columns columns' : List (List ℕ)) → ok_or o rule ≡ Ok columns → o ≡ Some columns' → columns ≡ columns'
first_of None rule columns columns' e is = cc
first_of (Some c) rule columns columns' e is = cc

lines_facts : (bytes : List ℕ) (table : Table) (columns : List (List ℕ)) (found : List (List ℕ)) → is_utf8 bytes ≡ true
    → filled_lines (without_mark bytes) ≡ found
    → columns_in found ≡ Ok columns → table_in found ≡ Ok table → are_columns columns ≡ true → TableFacts bytes table
lines_facts bytes table columns [] text are first is taken = cc
lines_facts bytes table columns (header ∷ rest) text are first is taken =
    let parts = header_parts (values_of_line header) rest table is in
    record {
      text = text;
      header = header;
      rest = rest;
      lines = are;
      names = parts.0;
      rows = parts.1;
      taken = ap are_columns (sym (first_of (values_of_line header) (rule_at_line DatShape 1) columns table.columns first parts.0)) ∙ taken;
    }

pub table_facts : (bytes : List ℕ) (table : Table) → tested_table bytes ≡ Ok table → TableFacts bytes table
table_facts bytes table e =
    let one = next_parts (dat_columns bytes) (λ columns. demanded (are_columns columns) (bare_rule DatColumns) >>= (λ _. dat_of bytes)) table e in
    let two = next_parts (demanded (are_columns one.0) (bare_rule DatColumns)) (λ _. dat_of bytes) table one.1.1 in
    let file = file_facts bytes table (is_utf8 bytes) refl two.1.1 in
    let head = sym (ap (λ b. cond b (columns_in (filled_lines (without_mark bytes))) (Err (rule_at_line DatEncoding 0))) file.text) ∙ one.1.0 in
    lines_facts bytes table one.0 (filled_lines (without_mark bytes)) file.text refl head file.table_is (demand_parts (are_columns one.0) (bare_rule DatColumns) two.0 two.1.0)

pub table_few : (bytes : List ℕ) (table : Table) → tested_table bytes ≡ Ok table → length table.rows ≤ length bytes
table_few bytes table e =
    let facts = table_facts bytes table e in
    let read = each_read (λ _. Unit {0}) (λ _. Unit {0}) (row_of_values (length table.columns)) (rule_at_line DatShape) 2 facts.rest table.rows (λ piece value p r. tt) facts.rows (each_one (λ _. Unit {0}) facts.rest (λ _. tt)) in
    omega (arith, filled_few bytes, ap length facts.lines, read.1)
