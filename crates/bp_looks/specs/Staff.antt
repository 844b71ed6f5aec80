-- What is told of the staff.
use Rattle.std.specs.Prelude.{List, map}
use Rattle.bp_matter.specs.Matter.{Matter}
use Rattle.bp_matter.specs.declared.rows.StaffRow.{StaffRow}
use Rattle.bp_matter.specs.declared.looks.PersonRow.{PersonRow}

-- a member of the staff, without the digest of their key
abbrev pub person_of : StaffRow → PersonRow
person_of row = record { staff = row.staff; name = row.name; role = row.role }

-- each member, in order
abbrev pub people_of : Matter → List PersonRow
people_of m = map person_of m.staff
