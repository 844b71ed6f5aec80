use Rattle.std.proofs.Common.{◌≡◌, take}
use Rattle.bp_burn.specs.Covered.{covered_rows}
use Rattle.bp_burn.specs.Ink.{page_changed}
use Rattle.bp_burn.proofs.stamps.cover_rows.Given as goal

-- the rows have the stamps so far
abbrev pub invariant-loop-stamp : goal.invariant-loop-stamp
invariant-loop-stamp l = l.page ≡ page_changed l.initial.page (covered_rows l.rows l.first l.ink (take l.stamp-index l.stamps))
