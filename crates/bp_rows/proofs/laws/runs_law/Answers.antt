use Rattle.bp_rows.proofs.RunLemmas.{one_runs, runs_total}
use Rattle.bp_rows.proofs.RowSetLemmas.{row_itself}
use Rattle.bp_rows.proofs.laws.runs_law.Goals as goal

pub returns-clause-one : goal.returns-clause-one
returns-clause-one c = one_runs

pub returns-clause-total : goal.returns-clause-total
returns-clause-total c = runs_total

pub returns-clause-same : goal.returns-clause-same
returns-clause-same c = row_itself
