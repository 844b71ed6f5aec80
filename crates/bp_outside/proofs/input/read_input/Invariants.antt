use Rattle.std.proofs.Common.{◌≡◌, ◌-◌, ◌≤◌, false, length}
use Rattle.bp_outside.specs.Door.{changed, took}
use Rattle.bp_outside.specs.Input.{WasNeeded}
use Rattle.bp_outside.proofs.input.read_input.Given as goal

abbrev pub invariant-reading : goal.invariant-reading
invariant-reading g l =
    record {
      within : length l.bytes.items ≤ l.limit;
      read : g.D.Door.shows l.door
          ≡ changed (took l.bytes.items false) (g.D.Door.shows l.initial.door);
      needed : WasNeeded (g.E.Enough.Tells l.until) l.bytes.items;
    }

abbrev pub decreases-reading : goal.decreases-reading
decreases-reading g l = l.limit - length l.bytes.items
