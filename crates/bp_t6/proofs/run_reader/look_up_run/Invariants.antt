use Rattle.std.proofs.Common.{◌≤◌, ◌-◌, length}
use Rattle.bp_codes.specs.Span.{span_bits}
use Rattle.bp_t6.specs.Modes.{run_codes}
use Rattle.bp_t6.proofs.LookLemmas.{MakeUps}
use Rattle.bp_t6.proofs.run_reader.look_up_run.Given as goal

abbrev pub invariant-codes : goal.invariant-codes
invariant-codes l = record {
  made : MakeUps (run_codes l.black) (span_bits l.span) l.start l.at l.pixels l.canonical;
  fits : l.pixels ≤ l.room;
  within : l.at ≤ length (span_bits l.span);
}

abbrev pub decreases-codes : goal.decreases-codes
decreases-codes l = l.room - l.pixels
