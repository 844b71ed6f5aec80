use Rattle.std.proofs.Common.{◌≡◌, ◌-◌}
use Rattle.std.specs.List.{find}
use Rattle.bp_freeze.specs.Seeing.{seen_from}
use Rattle.bp_freeze.specs.Selecting.{is_unsettled}
use Rattle.bp_freeze.proofs.families.first_unsettled.Given as goal

-- what is left has the same first one
abbrev pub invariant-loop-number : goal.invariant-loop-number
invariant-loop-number l =
    find is_unsettled (seen_from l.tables.matter l.number (l.end - l.number)) ≡ find is_unsettled (seen_from l.tables.matter l.from (l.end - l.from))
