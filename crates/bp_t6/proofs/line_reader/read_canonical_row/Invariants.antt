use Rattle.std.proofs.Common.{◌+◌, ◌-◌, ◌≤◌, ◌≡◌, List, Bool, length, vec_capacity}
use Rattle.bp_codes.specs.Span.{span_bits}
use Rattle.bp_rows.specs.Changes.{Shows}
use Rattle.bp_t6.specs.Reading.{IsUnder, ModesRead}
use Rattle.bp_t6.proofs.line_reader.read_canonical_row.Given as goal

abbrev pub invariant-loop-under : goal.invariant-loop-under
invariant-loop-under l = record {
  under : IsUnder l.above l.line.items l.width l.under;
  within : l.under.at ≤ length (span_bits l.span);
  read : (over : List Bool) → Shows l.above l.width over → ModesRead over (span_bits l.span) l.start l.line.items l.under;
  room : vec_capacity l.line ≡ vec_capacity l.fn.line;
}

abbrev pub decreases-loop-under : goal.decreases-loop-under
decreases-loop-under l = l.width + 1 - l.under.right
