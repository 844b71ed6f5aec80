-- The columns that the DAT file of a batch has.
use Rattle.std.specs.Prelude.{ℕ, Bool, List, length, nat_le, ◌==◌, ◌&&◌, ◌||◌, not, Result, codes, encode_utf8_all}
use Rattle.std.specs.List.{list_all, list_any}
use Rattle.std.specs.Str.{bytes_eq}
use Rattle.bp_core.specs.Characters.{newline}
use Rattle.bp_core.specs.Rules.{bare_rule}
use Rattle.bp_core.specs.declared.rules.Rule.{Rule}
use Rattle.bp_core.specs.declared.rules.RuleKind.TheVariants.{DatColumns}
use Rattle.bp_load.specs.Dat.{dat_columns, dat_of}
use Rattle.bp_load.specs.Documents.{is_begdoc}
use Rattle.bp_load.specs.Table.{Table}
use Rattle.bp_matter.specs.ValidProductions.{itself}
use Rattle.bp_core.specs.Differing.{all_differ}
use Rattle.bp_core.specs.RuleSteps.{◌>>=◌}
use Rattle.bp_import.specs.Steps.{demanded}
use Rattle.bp_import.specs.declared.columns.TheConstants.{MAX_COLUMN}

-- the first page of a document's family
abbrev pub is_begattach : List ℕ → Bool
is_begattach column = bytes_eq (encode_utf8_all column) (codes "BEGATTACH")

-- the last pages of both, which nothing uses
abbrev pub is_end : List ℕ → Bool
is_end column =
    bytes_eq (encode_utf8_all column) (codes "ENDDOC")
    || bytes_eq (encode_utf8_all column) (codes "ENDATTACH")

-- every other column becomes a field
abbrev pub is_field : List ℕ → Bool
is_field column = not (is_begdoc column) && not (is_begattach column) && not (is_end column)

-- a column has a name of at most 64 bytes, without a newline
abbrev pub is_column : List ℕ → Bool
is_column name =
    not (length name == 0) && nat_le (length (encode_utf8_all name)) MAX_COLUMN
    && list_all (λ c. not (c == newline)) name

-- the columns that an import takes: such names, no two alike, and both that it needs
abbrev pub are_columns : List (List ℕ) → Bool
are_columns columns =
    list_any is_begdoc columns && list_any is_begattach columns
    && list_all is_column columns && all_differ itself columns

-- the table of a file: its columns are tested before its later lines are
abbrev pub tested_table : List ℕ → Result Table Rule
tested_table bytes = do
  columns ← dat_columns bytes
  _ ← demanded (are_columns columns) (bare_rule DatColumns)
  dat_of bytes
