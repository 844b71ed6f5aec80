use Rattle.bp_rows.specs.Image.{row_of}
use Rattle.bp_rows.specs.Runs.{IsRuns}
use Rattle.std.proofs.Common.{subst}
use Rattle.bp_burn.specs.Covered.{covered}
use Rattle.bp_burn.proofs.RowLemmas.{if_ok}
use Rattle.bp_burn.proofs.stamps.covered_runs.Goals as goal

pub returns : goal.returns
returns c =
    λ p down wide is.
    if_ok c.row_runs.result (λ found. IsRuns found (row_of c.in_ok-line.line 0)) (λ found. IsRuns found (row_of (covered c.args.ink p c.args.stamps.now) c.args.row))
    (λ found. subst (IsRuns found) (c.in_ok-line.ensures.row p down wide is))
    c.row_runs.ensures
