-- The fields of a valid matter.
use Rattle.std.specs.List.{list_all, list_any}
use Rattle.std.specs.Prelude.{Bool, IsTrue, List, length, nat_le, ℕ}
use Rattle.std.specs.Str.{bytes_eq}
use Rattle.bp_matter.specs.Written.{field_written}
use Rattle.bp_matter.specs.Matter.{field_key}
use Rattle.bp_matter.specs.Texts.{is_field_name}
use Rattle.bp_core.specs.Differing.{all_differ}
use Rattle.bp_matter.specs.ValidRows.{is_numbered}
use Rattle.bp_matter.specs.declared.rows.FieldRow.{FieldRow}
use Rattle.bp_matter.specs.declared.limits.TheConstants.{MAX_FIELDS}

-- the name of a field
abbrev pub field_name : FieldRow → List ℕ
field_name row = row.name

-- it is one that an import takes
abbrev pub field_fits : FieldRow → Bool
field_fits row = is_field_name row.name

-- some field has that name
abbrev pub has_field : List FieldRow → List ℕ → Bool
has_field fields name = list_any (λ row. bytes_eq row.name name) fields

-- the fields of a matter
pub record FieldFacts (fields : List FieldRow) : Type 0 where
  pub numbered : IsTrue (is_numbered field_key 1 fields)
  pub few : IsTrue (nat_le (length fields) MAX_FIELDS)
  pub names_differ : IsTrue (all_differ field_name fields)
  pub fit : IsTrue (list_all field_fits fields)
  pub written : IsTrue (list_all field_written fields)
