use Rattle.std.proofs.Common.{◌≡◌, map, take}
use Rattle.bp_looks.specs.Staff.{person_of}
use Rattle.bp_looks.proofs.staff.see_staff.Given as goal

-- those so far
abbrev pub invariant-loop-row : goal.invariant-loop-row
invariant-loop-row l = l.people.items ≡ map person_of (take l.row-index l.row-items)
