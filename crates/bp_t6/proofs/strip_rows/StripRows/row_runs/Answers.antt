use Rattle.std.proofs.Common.{◌≡◌, ℕ, List, sum, sym, subst}
use Rattle.std.specs.Result.{IfOk}
use Rattle.bp_rows.specs.Changes.{Shows}
use Rattle.bp_t6.specs.SoFar.{ReadSoFar}
use Rattle.bp_t6.proofs.SoFarLemmas.{runs_total}
use Rattle.bp_t6.proofs.strip_rows.StripRows.row_runs.Goals as goal

pub returns-clause-are : goal.returns-clause-are
returns-clause-are c = λ row shows.
    let s = c.self.inside in
    let shown = subst (λ (r : ReadSoFar). Shows r.above r.width row) (sym c.self.view_is) shows in
    c.runs_of.ensures row (subst (λ (ps : List ℕ). Shows ps s.width row) (sym c.deref.ensures.value) shown)

pub returns-clause-total : goal.returns-clause-total
returns-clause-total c =
    let s = c.self.inside in
    let over = c.self.invariant.over in
    let are = c.runs_of.ensures over (subst (λ (ps : List ℕ). Shows ps s.width over) (sym c.deref.ensures.value) c.self.invariant.shows) in
    subst (λ (r : ReadSoFar). IfOk c.runs_of.result (λ runs. sum runs ≡ r.width)) c.self.view_is
    (runs_total c.runs_of.result s.width over c.self.invariant.shows.long are)
