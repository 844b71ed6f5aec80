use Rattle.bp_burn.proofs.RowLemmas.{line_covered}
use Rattle.bp_burn.proofs.stamps.covered_line.Goals as goal

pub returns-clause-row : goal.returns-clause-row
returns-clause-row c =
    λ p down wide is.
    line_covered c.in_ok-line.line c.set_runs.new.self c.cover_rows.new.page p c.args.ink c.as_slice.result.now c.args.stamps.now c.args.row c.width_of.result c.args.runs.now
    c.in_ok-line.ensures c.width_of.ensures c.set_runs.ensures c.as_slice.ensures c.cover_rows.ensures down wide is
