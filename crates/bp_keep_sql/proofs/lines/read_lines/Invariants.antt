use Rattle.std.proofs.Common.{◌≡◌, true, map}
use Rattle.std.specs.List.{list_all}
use Rattle.bp_keep_sql.specs.Lines.{shown_row, is_row}
use Rattle.bp_keep_sql.proofs.lines.read_lines.Given as goal

abbrev pub invariant-loop-line : goal.invariant-loop-line
invariant-loop-line l = record {
  rows : l.rows.items ≡ map shown_row l.yielded;
  all : list_all is_row l.yielded ≡ true;
}
