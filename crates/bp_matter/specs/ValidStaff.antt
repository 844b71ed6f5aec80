-- The staff of a valid matter.
use Rattle.std.specs.List.{list_all}
use Rattle.std.specs.Prelude.{Bool, IsTrue, List, None, Option, Some, [], false, length, nat_le, not, true, ℕ, ◌&&◌, ◌==◌, ◌∷◌}
use Rattle.bp_core.specs.declared.review.Role.{Role}
use Rattle.bp_core.specs.declared.review.Role.TheVariants.{Lead, Second}
use Rattle.bp_matter.specs.Written.{staff_written}
use Rattle.bp_matter.specs.Matter.{staff_key}
use Rattle.bp_matter.specs.Texts.{is_text}
use Rattle.bp_core.specs.Differing.{all_differ}
use Rattle.bp_matter.specs.ValidRows.{is_numbered}
use Rattle.bp_matter.specs.declared.rows.StaffRow.{StaffRow}
use Rattle.bp_matter.specs.declared.limits.TheConstants.{MAX_NAME, MAX_STAFF}

-- a lead
abbrev pub is_lead : Role → Bool
is_lead Lead = true
is_lead _ = false

-- who may confirm a call
abbrev pub is_checker : Role → Bool
is_checker Second = true
is_checker Lead = true
is_checker _ = false

-- the first member of the staff is a lead
abbrev pub begins_with_lead : List StaffRow → Bool
begins_with_lead [] = false
begins_with_lead (row ∷ rows) = is_lead row.role

-- the digest of the key of a member
abbrev pub staff_digest : StaffRow → List ℕ
staff_digest row = row.digest

-- the name of a member is a text, and not empty
abbrev pub staff_fits : StaffRow → Bool
staff_fits row = not (length row.name == 0) && is_text MAX_NAME row.name

-- the member of the staff of that number may confirm
abbrev pub checker_there : Option StaffRow → Bool
checker_there None = false
checker_there (Some row) = is_checker row.role

-- the staff of a matter
pub record StaffFacts (staff : List StaffRow) : Type 0 where
  pub numbered : IsTrue (is_numbered staff_key 1 staff)
  pub few : IsTrue (nat_le (length staff) MAX_STAFF)
  pub lead_first : IsTrue (begins_with_lead staff)
  pub digests_differ : IsTrue (all_differ staff_digest staff)
  pub fit : IsTrue (list_all staff_fits staff)
  pub written : IsTrue (list_all staff_written staff)
