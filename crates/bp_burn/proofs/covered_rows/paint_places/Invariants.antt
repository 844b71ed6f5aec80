use Rattle.std.proofs.Common.{◌≡◌, ◌-◌, List, Bool, false, length}
use Rattle.bp_rows.specs.Changes.{Shows, odd, place_at}
use Rattle.bp_rows.specs.Image.{row_of}
use Rattle.bp_burn.proofs.OutLemmas.{IsFront}
use Rattle.bp_burn.proofs.covered_rows.paint_places.Given as goal

-- the pixels left of a place are painted
abbrev pub invariant-loop-k : goal.invariant-loop-k
invariant-loop-k l = record {
  even : odd l.k ≡ false;
  wide : l.page.width ≡ l.fn.page.width;
  high : l.page.height ≡ l.fn.page.height;
  long : length (row_of l.page 0) ≡ l.width;
  front : (line : List Bool) → Shows l.places l.width line → IsFront l.page l.width (place_at l.places l.width l.k) line;
}

abbrev pub decreases-loop-k : goal.decreases-loop-k
decreases-loop-k l = length l.places - l.k
