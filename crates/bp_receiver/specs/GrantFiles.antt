-- Files of grants: comma-separated values (RFC 4180), a record a grant. What the records of a text
-- are is csv's to say.
use Rattle.std.specs.Prelude.{ℕ, ◌==◌, List, length, Option, Some, None, Result, if◌then◌else◌}
use Rattle.std.specs.Str.{chars}
use Rattle.bp_core.specs.Digits.{ordinal_in}
use Rattle.bp_core.specs.OptionSteps.{◌>>=◌}
use Rattle.bp_core.specs.declared.rules.Rule.{Rule}
use Rattle.bp_core.specs.declared.rules.RuleKind.TheVariants.{GrantShape}
use Rattle.bp_records.specs.Fields.{characters_of, field_of}
use Rattle.bp_records.specs.Rows.{rows_in}
use Rattle.bp_receiver.specs.EventBodies.{staff_no}
use Rattle.bp_receiver.specs.declared.grant_files.Part.{Part}
use Rattle.bp_receiver.specs.declared.grant_files.TheConstants.{FIELDS, STAFF, ID}
use Rattle.bp_receiver.specs.declared.grants.Grant.{Grant}

-- the grant in the fields staff number and id
abbrev pub grant_in : List (List ℕ) → Option Grant
grant_in fields = do
  staff ← ordinal_in (field_of fields STAFF)
  id ← characters_of (field_of fields ID)
  Some (record { staff = staff_no staff; id = id })

-- what a record says
abbrev pub grant_of_record : List (List ℕ) → Option Grant
grant_of_record fields = if length fields == FIELDS then grant_in fields else None

-- what a file says: the grants of its records, without the byte order mark at its head, or GrantShape
-- with the number of the first record that says none
abbrev pub grants_in : List ℕ → Result (List Grant) Rule
grants_in bytes = rows_in grant_of_record GrantShape bytes

-- the grant with its id in memory of its own
abbrev pub part_seen : Part → Grant
part_seen part = record { staff = staff_no part.staff; id = chars part.id.now }
