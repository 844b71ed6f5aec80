use Rattle.std.proofs.Common.{◌≡◌, ◌+◌, ◌-◌}
use Rattle.std.specs.List.{find}
use Rattle.bp_freeze.specs.Families.{reaches_outside}
use Rattle.bp_freeze.specs.Seeing.{decisions_of, seen_from, seen_of}
use Rattle.bp_freeze.proofs.families.first_split.Given as goal

-- what is left has the same first one
abbrev pub invariant-loop-number : goal.invariant-loop-number
invariant-loop-number l =
    find (λ s. reaches_outside l.request 1 (decisions_of l.tables.matter).parents s.parent) (seen_from l.tables.matter l.number (l.request.to.0 + 1 - l.number))
    ≡ find (λ s. reaches_outside l.request 1 (decisions_of l.tables.matter).parents s.parent) (seen_of l.tables.matter l.request)
