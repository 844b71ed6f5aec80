use Rattle.std.proofs.Common.{◌≤◌, length}
use Rattle.bp_codes.specs.Span.{span_bits}
use Rattle.bp_t6.proofs.StripLemmas.{LinesSoFar}
use Rattle.bp_t6.proofs.strip_reader.StripReader.read_rows.Given as goal

abbrev pub invariant-loop-row : goal.invariant-loop-row
invariant-loop-row l = record {
  within : l.at ≤ length (span_bits l.span);
  so : LinesSoFar (span_bits l.span) l.width l.row l.at l.initial.out.items l.out.items l.self.above.items;
}
