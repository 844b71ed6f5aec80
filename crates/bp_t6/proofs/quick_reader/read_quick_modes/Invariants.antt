use Rattle.std.proofs.Common.{ℕ, ◌+◌, ◌-◌, ◌*◌, ◌<◌, ◌≤◌, ◌≡◌, List, Bool, length, drop, vec_capacity}
use Rattle.bp_codes.specs.Span.{span_bits}
use Rattle.bp_rows.specs.Changes.{Shows}
use Rattle.bp_t6.specs.Near.{Holds}
use Rattle.bp_t6.specs.Reading.{IsUnder, ModesRead}
use Rattle.bp_t6.proofs.quick_reader.read_quick_modes.Given as goal

abbrev pub invariant-loop-left : goal.invariant-loop-left
invariant-loop-left l = record {
  under : IsUnder l.above l.line.items l.width l.under;
  on : l.under.right ≤ l.width;
  onward : 0 < l.under.right;
  within : l.under.at ≤ length (span_bits l.span);
  moves : l.fn.first.right ≤ l.under.right;
  since : l.since ≤ l.under.right;
  far : l.since + 1 ≤ l.under.right + l.left;
  few : l.left ≤ 8;
  room : vec_capacity l.line ≡ vec_capacity l.fn.line;
  holds : Holds l.word (7 * l.left) (drop l.under.at (span_bits l.span));
  read : (over : List Bool) (start : ℕ) → Shows l.above l.width over → ModesRead over (span_bits l.span) start l.fn.line.items l.fn.first → ModesRead over (span_bits l.span) start l.line.items l.under;
}

abbrev pub decreases-loop-left : goal.decreases-loop-left
decreases-loop-left l = 8 * (l.width + 1 - l.under.right) + l.left

abbrev pub invariant-loop-word : goal.invariant-loop-word
invariant-loop-word l = record {
  under : IsUnder l.above l.line.items l.width l.under;
  on : l.under.right ≤ l.width;
  onward : 0 < l.under.right;
  within : l.under.at ≤ length (span_bits l.span);
  moves : l.fn.first.right ≤ l.under.right;
  room : vec_capacity l.line ≡ vec_capacity l.fn.line;
  read : (over : List Bool) (start : ℕ) → Shows l.above l.width over → ModesRead over (span_bits l.span) start l.fn.line.items l.fn.first → ModesRead over (span_bits l.span) start l.line.items l.under;
}

abbrev pub decreases-loop-word : goal.decreases-loop-word
decreases-loop-word l = l.width + 1 - l.under.right
