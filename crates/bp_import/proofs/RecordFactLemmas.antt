-- What is known of the fields and the records of a DAT file, and of the image ids of an OPT file.
use Rattle.std.proofs.Common.{◌≡◌, ℕ, zero, suc, ◌+◌, ◌<◌, ◌≤◌, ◌==◌, ◌&&◌, ◌||◌, Bool, true, false, cond, not, inl, inr, Option, Some, None, Result, Ok, Err, List, [], ◌∷◌, ◌++◌, length, map, nat_le, encode_utf8_all, refl, sym, ap, ◌∙◌, arith, subst}
use Rattle.std.specs.List.{filter, list_all, list_any, slice_split}
use Rattle.std.specs.Str.{IsUtf8, bytes_eq, chars, is_utf8}
use Rattle.std.proofs.lemmas.Bool.{and_from, and_parts, cases_Bool, eqb-true}
use Rattle.std.proofs.lemmas.Str.{IsUtf8-from_is_utf8, encodes-chars}
use Rattle.bp_core.specs.Characters.{comma, newline, separator}
use Rattle.bp_core.specs.Rules.{rule_at_line}
use Rattle.bp_core.specs.declared.rules.RuleKind.TheVariants.{DatShape, OptShape}
use Rattle.bp_load.specs.Dat.{row_of_values, values_of_line}
use Rattle.bp_load.specs.Lines.{filled_lines, without_mark}
use Rattle.bp_load.specs.Opt.{are_of_form, opt_field, has_count, is_opt_text, opt_line_of, opt_of, page_of}
use Rattle.bp_load.specs.Table.{Table}
use Rattle.bp_load.specs.declared.opt.OptLine.{OptLine}
use Rattle.bp_matter.specs.Texts.{is_field_name, is_name_character, is_value, is_value_character}
use Rattle.bp_matter.specs.ValidProductions.{itself}
use Rattle.bp_core.specs.Differing.{all_differ}
use Rattle.bp_import.specs.Columns.{are_columns, is_begattach, is_column, is_field, tested_table}
use Rattle.bp_import.specs.Records.{field_cells, fields_of, record_of, records_of}
use Rattle.bp_import.specs.declared.columns.TheConstants.{MAX_COLUMN}
use Rattle.bp_import.specs.declared.files.TheConstants.{FILE_LIMIT}
use Rattle.bp_import.specs.declared.records.Record.{Record}
use Rattle.bp_load.proofs.CountLemmas.{filter_less, parts_few, unmarked_less}
use Rattle.bp_import.proofs.DatFactLemmas.{TableFacts, table_facts, table_few}
use Rattle.bp_import.proofs.EachLemmas.{Each, all_both, all_from, each_at, each_both, each_filter, each_from, each_map, each_one, each_read, each_weaker}
use Rattle.bp_import.proofs.TextFactLemmas.{Strips, filled_each, split_all, split_none, split_short, split_text, strips_all, strips_short, strips_text, unmarked_text}
use Rattle.bp_import.proofs.ValueFactLemmas.{GoodValue, chars_pass, empty_value, not_same, row_good, values_good}
use Rattle.bp_load.specs.Documents.{cell_under, is_begdoc}

-- ---- the table

abbrev Line : List ℕ → Type 0
Line line = IsUtf8 line × (length line ≤ FILE_LIMIT)

strips_line : Strips Line
strips_line l ends is = (strips_text l ends is.0, strips_short FILE_LIMIT l ends is.1)

lines_good : (bytes : List ℕ) → is_utf8 bytes ≡ true → length bytes ≤ FILE_LIMIT → Each Line (filled_lines (without_mark bytes))
lines_good bytes text short =
    let rest = without_mark bytes in
    let utf8 = unmarked_text bytes (IsUtf8-from_is_utf8 bytes text) in
    let parts = slice_split (λ b. b == 10) rest in
    filled_each Line strips_line rest
    (each_both IsUtf8 (λ p. length p ≤ FILE_LIMIT) parts (split_text 10 (omega arith) refl rest utf8)
    (each_weaker (λ p. length p ≤ length rest) (λ p. length p ≤ FILE_LIMIT) parts (λ p less. omega (arith, less, short, unmarked_less bytes)) (split_short (λ b. b == 10) rest)))

abbrev pub GoodRow : ℕ → List (List ℕ) → Type 0
GoodRow n row = Each GoodValue row × (length row ≡ n)

pub record GoodTable (table : Table) : Type 0 where
  pub columns : Each GoodValue table.columns
  pub rows : Each (GoodRow (length table.columns)) table.rows
  pub few_columns : length table.columns ≤ FILE_LIMIT + 1
  pub few_rows : length table.rows ≤ FILE_LIMIT
  pub taken : are_columns table.columns ≡ true

pub table_good : (bytes : List ℕ) (table : Table) → tested_table bytes ≡ Ok table → length bytes ≤ FILE_LIMIT → GoodTable table
table_good bytes table says short =
    let facts = table_facts bytes table says in
    let lines = subst (Each Line) facts.lines (lines_good bytes facts.text short) in
    let names = values_good facts.header table.columns lines.0.0 lines.0.1 facts.names in
    record {
      columns = names.0;
      rows = (each_read Line (GoodRow (length table.columns)) (row_of_values (length table.columns)) (rule_at_line DatShape) 2 facts.rest table.rows
          (λ line row is read. row_good (length table.columns) line row is.0 is.1 read) facts.rows lines.1).0;
      few_columns = omega (arith, names.1, parts_few (λ c. c == separator) facts.header, lines.0.1);
      few_rows = omega (arith, table_few bytes table says, short);
      taken = facts.taken;
    }

-- ---- fields

or_both : (a b : Bool) → (a || b) ≡ false → (a ≡ false) × (b ≡ false)
or_both true b e = cc
or_both false b e = (refl, e)

or_from : (a b : Bool) → a ≡ false → b ≡ false → (a || b) ≡ false
or_from true b one other = cc
or_from false b one other = other

not_true : (b : Bool) → not b ≡ true → b ≡ false
not_true true e = cc
not_true false e = refl

-- a name of a column, from its test
column_single : (name : List ℕ) → is_column name ≡ true → list_all (λ c. not (c == newline)) name ≡ true
column_single name is = (and_parts (not (length name == 0) && nat_le (length (encode_utf8_all name)) MAX_COLUMN) (list_all (λ c. not (c == newline)) name) is).1

name_good : (name : List ℕ) → GoodValue name × (is_column name ≡ true) → is_field_name name ≡ true
name_good name is = all_both is_value_character (λ c. not (c == newline)) name is.0.fits (column_single name is.1)

not_any : {X : Type 0} (p q : X → Bool) (xs : List X) → list_any p xs ≡ false → list_any p (filter q xs) ≡ false
not_any p q [] none = refl
not_any p q (x ∷ xs) none =
    let parts = or_both (p x) (list_any p xs) none in
    elim (cases_Bool (q x)) [
      | inl is ↦ ap (λ b. list_any p (cond b (x ∷ filter q xs) (filter q xs))) is ∙ or_from (p x) (list_any p (filter q xs)) parts.0 (not_any p q xs parts.1)
      | inr isnt ↦ ap (λ b. list_any p (cond b (x ∷ filter q xs) (filter q xs))) isnt ∙ not_any p q xs parts.1
    ]

differ_filter : (q : List ℕ → Bool) (xs : List (List ℕ)) → all_differ itself xs ≡ true → all_differ itself (filter q xs) ≡ true
differ_filter q [] differ = refl
differ_filter q (x ∷ xs) differ =
    let parts = and_parts (not (list_any (λ other. bytes_eq other x) xs)) (all_differ itself xs) differ in
    elim (cases_Bool (q x)) [
      | inl is ↦
          ap (λ b. all_differ itself (cond b (x ∷ filter q xs) (filter q xs))) is
          ∙ and_from (not (list_any (λ other. bytes_eq other x) (filter q xs))) (all_differ itself (filter q xs))
          (ap not (not_any (λ other. bytes_eq other x) q xs (not_true (list_any (λ other. bytes_eq other x) xs) parts.0))) (differ_filter q xs parts.1)
      | inr isnt ↦ ap (λ b. all_differ itself (cond b (x ∷ filter q xs) (filter q xs))) isnt ∙ differ_filter q xs parts.1
    ]

pub record GoodFields (fields : List (List ℕ)) : Type 0 where
  pub values : Each GoodValue fields
  pub names : list_all is_field_name fields ≡ true
  pub differ : all_differ itself fields ≡ true
  pub few : length fields ≤ FILE_LIMIT + 1

pub fields_good : (table : Table) → GoodTable table → GoodFields (fields_of table.columns)
fields_good table good =
    let columns = table.columns in
    let one = and_parts (list_any is_begdoc columns && list_any is_begattach columns && list_all is_column columns) (all_differ itself columns) good.taken in
    let two = and_parts (list_any is_begdoc columns && list_any is_begattach columns) (list_all is_column columns) one.0 in
    let each = each_both GoodValue (λ c. is_column c ≡ true) columns good.columns (each_from is_column columns two.1) in
    record {
      values = each_filter GoodValue is_field columns good.columns;
      names = all_from (λ c. GoodValue c × (is_column c ≡ true)) is_field_name (fields_of columns) name_good (each_filter (λ c. GoodValue c × (is_column c ≡ true)) is_field columns each);
      differ = differ_filter is_field columns one.1;
      few = omega (arith, filter_less is_field columns, good.few_columns);
    }

-- ---- records

pub record GoodRecord (n : ℕ) (doc : Record) : Type 0 where
  pub id : GoodValue doc.id
  pub values : Each GoodValue doc.values
  pub even : length doc.values ≡ n

under_good : (is_it : List ℕ → Bool) (columns row : List (List ℕ)) → Each GoodValue row → GoodValue (cell_under is_it columns row)
under_good is_it [] row each = empty_value
under_good is_it (column ∷ columns) [] each = empty_value
under_good is_it (column ∷ columns) (cell ∷ row) each =
    elim (cases_Bool (is_it column)) [
      | inl is ↦ subst (λ b. GoodValue (cond b cell (cell_under is_it columns row))) (sym is) each.0
      | inr isnt ↦ subst (λ b. GoodValue (cond b cell (cell_under is_it columns row))) (sym isnt) (under_good is_it columns row each.1)
    ]

cells_good : (columns row : List (List ℕ)) → Each GoodValue row → length row ≡ length columns → GoodRow (length (filter is_field columns)) (field_cells columns row)
cells_good [] row each even = (tt, refl)
cells_good (column ∷ columns) [] each even = absurd (omega (arith, even))
cells_good (column ∷ columns) (cell ∷ row) each even =
    let rest = cells_good columns row each.1 (omega (arith, even)) in
    elim (cases_Bool (is_field column)) [
      | inl is ↦
          subst (λ b. GoodRow (length (cond b (column ∷ filter is_field columns) (filter is_field columns))) (cond b (cell ∷ field_cells columns row) (field_cells columns row))) (sym is)
          ((each.0, rest.0), ap suc rest.1)
      | inr isnt ↦
          subst (λ b. GoodRow (length (cond b (column ∷ filter is_field columns) (filter is_field columns))) (cond b (cell ∷ field_cells columns row) (field_cells columns row))) (sym isnt) rest
    ]

record_good : (columns row : List (List ℕ)) → GoodRow (length columns) row → GoodRecord (length (fields_of columns)) (record_of columns row)
record_good columns row good =
    let cells = cells_good columns row good.0 good.1 in
    record { id = under_good is_begdoc columns row good.0; values = cells.0; even = cells.1 }

pub records_good : (table : Table) → GoodTable table → Each (GoodRecord (length (fields_of table.columns))) (records_of table)
records_good table good = each_map (GoodRow (length table.columns)) (GoodRecord (length (fields_of table.columns))) (record_of table.columns) table.rows (record_good table.columns) good.rows

-- ---- image ids

pub record GoodImage (image : List ℕ) : Type 0 where
  pub filled : not (length image == 0) ≡ true
  pub single : list_all (λ c. not (c == newline)) image ≡ true
  pub plain : list_all (λ c. not (c == comma)) image ≡ true

pub some_chars : (bytes : List ℕ) (cs : List ℕ) → encode_utf8_all cs ≡ bytes → not (length bytes == 0) ≡ true → not (length cs == 0) ≡ true
some_chars bytes [] is some = let e : not (length bytes == 0) ≡ false = ap (λ b. not (length b == 0)) (sym is) in let f : true ≡ false = sym some ∙ e in cc
some_chars bytes (c ∷ cs) is some = not_same (length (c ∷ cs)) 0 (omega arith)

image_good : (bytes : List ℕ) → IsUtf8 bytes → not (length bytes == 0) ≡ true
    → list_all (λ c. not (c == newline)) bytes ≡ true → list_all (λ c. not (c == comma)) bytes ≡ true → GoodImage (chars bytes)
image_good bytes text some single plain = record {
  filled = some_chars bytes (chars bytes) (encodes-chars bytes text) some;
  single = chars_pass (λ c. not (c == newline)) (λ b large. not_same b newline (omega (arith, large))) bytes text single;
  plain = chars_pass (λ c. not (c == comma)) (λ b large. not_same b comma (omega (arith, large))) bytes text plain;
}

abbrev Single : List ℕ → Type 0
Single line = list_all (λ c. not (c == newline)) line ≡ true

line_parts : (line : List ℕ) (fields : List (List ℕ)) (l : OptLine) (fits : Bool) → is_opt_text line fields ≡ fits
    → cond fits (Some (page_of fields)) None ≡ Some l → (is_utf8 line ≡ true) × (are_of_form fields ≡ true) × (l ≡ page_of fields)
line_parts line fields l true is e =
    let form = and_parts (is_utf8 line && not (list_any (λ c. c == 13) line) && has_count fields) (are_of_form fields) is in
    let count = and_parts (is_utf8 line && not (list_any (λ c. c == 13) line)) (has_count fields) form.0 in
    let text = and_parts (is_utf8 line) (not (list_any (λ c. c == 13) line)) count.0 in
    let same : page_of fields ≡ l = cc in
    (text.0, form.1, sym same)
line_parts line fields l false is e = cc

first_filled : (fields : List (List ℕ)) → are_of_form fields ≡ true → not (length (opt_field fields 0) == 0) ≡ true
first_filled fields form =
    let some = not (length (opt_field fields 0) == 0) in
    let one = and_parts _ _ form in
    let two = and_parts _ _ one.0 in
    let three = and_parts _ _ two.0 in
    let four = and_parts _ _ three.0 in
    (and_parts some _ four.0).0

line_good : (line : List ℕ) (l : OptLine) → Single line → opt_line_of line ≡ Some l → GoodImage l.image
line_good line l single e =
    let p : ℕ → Bool = λ c. c == comma in
    let fields = slice_split p line in
    let parts = line_parts line fields l (is_opt_text line fields) refl e in
    let texts = split_text comma (omega arith) refl line (IsUtf8-from_is_utf8 line parts.0) in
    let first = opt_field fields 0 in
    subst (λ x. GoodImage x.image) (sym parts.2)
    (image_good first (each_at IsUtf8 fields 0 [] ([], (refl, refl)) texts) (first_filled fields parts.1)
    (each_at Single fields 0 [] refl (split_all (λ c. not (c == newline)) p line single))
    (each_at (λ part. list_all (λ c. not (c == comma)) part ≡ true) fields 0 [] refl (split_none p line)))

pub images_good : (bytes : List ℕ) (lines : List OptLine) → opt_of bytes ≡ Ok lines → Each (λ line. GoodImage line.image) lines
images_good bytes lines says =
    let rest = without_mark bytes in
    (each_read Single (λ line. GoodImage line.image) opt_line_of (rule_at_line OptShape) 1 (filled_lines rest) lines line_good says
    (filled_each Single (strips_all (λ c. not (c == newline))) rest (split_none (λ b. b == 10) rest))).0
