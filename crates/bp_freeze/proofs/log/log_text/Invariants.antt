use Rattle.std.proofs.Common.{◌≡◌, ◌++◌, length, flat_map}
use Rattle.std.specs.Prelude.{IsTrue}
use Rattle.std.specs.List.{list_all}
use Rattle.bp_freeze.specs.Csv.{csv_line}
use Rattle.bp_freeze.specs.Log.{entry_stands, log_columns, log_line, span_fits}
use Rattle.bp_freeze.specs.Writing.{WriterIsBetween, written_text}
use Rattle.bp_freeze.proofs.log.log_text.Given as goal

abbrev pub invariant-loop-item : goal.invariant-loop-item
invariant-loop-item l = record {
  between : WriterIsBetween l.writer;
  so_far : written_text l.writer ++ flat_map (log_line l.production.request.prefix) l.rest ≡ csv_line log_columns ++ flat_map (log_line l.production.request.prefix) l.production.items;
  spans : IsTrue (list_all (span_fits l.production.request.prefix.width) l.rest);
  entries : IsTrue (list_all entry_stands l.rest);
}

abbrev pub decreases-loop-item : goal.decreases-loop-item
decreases-loop-item l = length l.rest
