use Rattle.std.proofs.Common.{◌+◌, ◌≤◌, length, vec_capacity}
use Rattle.bp_codes.specs.Span.{span_bits}
use Rattle.bp_t6.specs.Canonical.{LinesAreCoded}
use Rattle.bp_t6.proofs.canonical_strip.are_coded_lines.Given as goal

abbrev pub invariant-loop-row : goal.invariant-loop-row
invariant-loop-row l = record {
  within : l.at ≤ length (span_bits l.span);
  so : LinesAreCoded (span_bits l.span) l.width l.row l.at l.above.items;
  above_room : l.width + 2 ≤ vec_capacity l.above;
  line_room : l.width + 2 ≤ vec_capacity l.line;
}
