use Rattle.std.proofs.Common.{List, ℕ, sym, ◌∙◌, subst}
use Rattle.bp_rows.specs.Image.{row_of}
use Rattle.bp_rows.specs.Runs.{IsRuns}
use Rattle.bp_rows.proofs.ShownLemmas.{shows_row}
use Rattle.bp_rows.proofs.page.Page.row_runs.Goals as goal

pub push_runs-requires : goal.push_runs-requires
push_runs-requires c =
    (shows_row (row_of c.args.self.now c.args.row) c.deref.result.now c.width.result
    (c.width.ensures.page.grid.across c.args.row c.requires ∙ sym c.width.ensures.value) (c.deref.ensures.value ∙ c.in_ok-row_changes.ensures)).rises

pub returns : goal.returns
returns c =
    let row = row_of c.args.self.now c.args.row in
    subst (λ (runs : List ℕ). IsRuns runs row) (sym c.from_vec.ensures) (c.in_ok-push_runs.ensures row
    (shows_row row c.deref.result.now c.width.result
    (c.width.ensures.page.grid.across c.args.row c.requires ∙ sym c.width.ensures.value) (c.deref.ensures.value ∙ c.in_ok-row_changes.ensures)))
