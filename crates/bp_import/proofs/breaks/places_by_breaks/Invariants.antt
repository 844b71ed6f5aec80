use Rattle.std.proofs.Common.{◌≡◌, take, drop}
use Rattle.bp_import.specs.Breaks.{breaks_behind, breaks_of}
use Rattle.bp_import.specs.Places.{Finds}
use Rattle.bp_import.proofs.breaks.places_by_breaks.Given as goal

-- behind the lines so far, the others come to what all lines come to
abbrev pub invariant-loop-line : goal.invariant-loop-line
invariant-loop-line l = record {
  number : l.number ≡ l.line-index;
  finds : Finds l.places (take l.line-index l.lines);
  told : breaks_behind (take l.line-index l.lines) l.left (drop l.line-index l.lines) ≡ breaks_of l.fn.docs l.fn.lines;
}
