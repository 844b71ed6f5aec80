-- Worked examples of the definitions in specs/, each run by the check.
use Rattle.std.proofs.Common.{◌≡◌, [], ◌∷◌, ◌++◌, true, false, refl, Some, None, Ok, Err}
use Rattle.std.specs.Prelude.{codes, ℕ}
use Rattle.std.specs.List.{list_all}
use Rattle.std.specs.Str.{chars, is_utf8}
use Rattle.std.proofs.Math.Utf8.{encode}
use Rattle.bp_core.specs.declared.rules.RuleKind.TheVariants.{OptShape, DatShape, DatEncoding}
use Rattle.bp_core.specs.Rules.{rule_at_line}
use Rattle.bp_load.specs.Lines.{without_mark, filled_lines}
use Rattle.bp_load.specs.Opt.{opt_of, opt_text, are_opt_lines}
use Rattle.bp_load.specs.declared.opt.OptLine.{OptLine}
use Rattle.bp_load.specs.Dat.{dat_columns, dat_of, dat_text, quoted_value, stands_for_itself, is_writable}
use Rattle.bp_load.specs.Documents.{cell_under, docs_after, is_begdoc, until_break}
use Rattle.bp_load.specs.Table.{Table}

one_mark : without_mark (0xEF ∷ 0xBB ∷ 0xBF ∷ 0xEF ∷ 0xBB ∷ 0xBF ∷ []) ≡ 0xEF ∷ 0xBB ∷ 0xBF ∷ []
one_mark = refl

-- empty lines are passed over, and a CR before no LF is part of its line
kept_lines : filled_lines (codes "A" ++ 13 ∷ 10 ∷ 10 ∷ codes "B" ++ 13 ∷ []) ≡ codes "A" ∷ (codes "B" ++ 13 ∷ []) ∷ []
kept_lines = refl

-- a line of one CR is not empty
lone_return : filled_lines (13 ∷ []) ≡ (13 ∷ []) ∷ []
lone_return = refl

abbrev page : OptLine
page = record {
  image = codes "AB-0001";
  volume = codes "V";
  path = codes "V/a.tif";
  doc_break = true;
  folder_break = false;
  box_break = false;
  pages = codes "2";
}

written_page : opt_text (page ∷ []) ≡ codes "AB-0001,V,V/a.tif,Y,,,2" ++ 13 ∷ 10 ∷ []
unfolding encode
written_page = refl

page_can_be_written : are_opt_lines (page ∷ []) ≡ true
page_can_be_written = refl

page_read : opt_of (codes "AB-0001,V,V/a.tif,Y,,,2" ++ 10 ∷ []) ≡ Ok (page ∷ [])
unfolding chars is_utf8 encode
page_read = refl

eight_fields : opt_of (codes "A,,a" ++ 10 ∷ codes "B,,a,,,,,") ≡ Err (rule_at_line OptShape 2)
unfolding chars is_utf8 encode
eight_fields = refl

no_bytes : dat_of [] ≡ Err (rule_at_line DatShape 1)
unfolding chars is_utf8 encode
no_bytes = refl

utf16 : dat_of (0xFF ∷ 0xFE ∷ []) ≡ Err (rule_at_line DatEncoding 0)
unfolding chars is_utf8 encode
utf16 = refl

sign_read : quoted_value (0xFE ∷ codes "one" ++ 0xAE ∷ codes "two" ++ 0xFE ∷ []) ≡ Some (codes "one" ++ 10 ∷ codes "two")
sign_read = refl

quote_inside : quoted_value (0xFE ∷ 0xFE ∷ 0xFE ∷ []) ≡ None
quote_inside = refl

plain_bytes : list_all stands_for_itself (codes "Fee note") ≡ true
plain_bytes = refl

return_is_not_plain : stands_for_itself 13 ≡ false
return_is_not_plain = refl

outside_ascii_is_not_plain : stands_for_itself 0x80 ≡ false
outside_ascii_is_not_plain = refl

abbrev small : Table
small = record { columns = codes "ID" ∷ codes "NOTE" ∷ []; rows = (codes "A1" ∷ (codes "one" ++ 10 ∷ codes "two") ∷ []) ∷ [] }

small_can_be_written : is_writable small ≡ true
small_can_be_written = refl

small_read : dat_of (dat_text small) ≡ Ok small
unfolding chars is_utf8 encode
small_read = refl

-- the columns are read whatever stands behind their line
columns_of_small : dat_columns (dat_text small) ≡ Ok (codes "ID" ∷ codes "NOTE" ∷ [])
unfolding chars is_utf8 encode
columns_of_small = refl

columns_before_a_bad_line : dat_columns (dat_text small ++ codes "A1") ≡ Ok (codes "ID" ∷ codes "NOTE" ∷ [])
unfolding chars is_utf8 encode
columns_before_a_bad_line = refl

columns_of_other_bytes : dat_columns (0xFE ∷ []) ≡ Err (rule_at_line DatEncoding 0)
unfolding chars is_utf8 encode
columns_of_other_bytes = refl

no_columns : dat_columns [] ≡ Err (rule_at_line DatShape 1)
unfolding chars is_utf8 encode
no_columns = refl

-- ---- documents

begdoc : is_begdoc (codes "BEGDOC") ≡ true
unfolding encode
begdoc = refl

-- a column is told by its name to the letter
not_begdoc : is_begdoc (codes "BegDoc") ≡ false
unfolding encode
not_begdoc = refl

-- of two columns of a name the first counts
first_cell : cell_under is_begdoc (codes "ID" ∷ codes "BEGDOC" ∷ codes "BEGDOC" ∷ []) (codes "7" ∷ codes "A1" ∷ codes "A2" ∷ []) ≡ codes "A1"
unfolding encode
first_cell = refl

no_such_cell : cell_under is_begdoc (codes "ID" ∷ []) (codes "7" ∷ []) ≡ []
unfolding encode
no_such_cell = refl

abbrev next_page : OptLine
next_page = record page { doc_break = false; pages = [] }

two_before_a_break : until_break (next_page ∷ next_page ∷ page ∷ next_page ∷ []) ≡ 2
two_before_a_break = refl

no_break_follows : until_break (next_page ∷ next_page ∷ []) ≡ 2
no_break_follows = refl

a_break_takes_one : docs_after {D = ℕ} (1 ∷ 2 ∷ []) page ≡ 2 ∷ []
a_break_takes_one = refl

no_break_takes_none : docs_after {D = ℕ} (1 ∷ 2 ∷ []) next_page ≡ 1 ∷ 2 ∷ []
no_break_takes_none = refl
