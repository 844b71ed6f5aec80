use Rattle.std.proofs.Common.{◌≡◌, ◌<◌, ◌-◌, ℕ, List, Bool, false, true, sym, ap, ◌∙◌, subst, arith}
use Rattle.bp_core.specs.declared.stamps.Stamp.{Stamp}
use Rattle.bp_rows.specs.Changes.{Shows}
use Rattle.bp_rows.specs.Image.{row_of}
use Rattle.bp_t6.specs.SoFar.{row_above}
use Rattle.bp_t6.specs.Written.{row_code}
use Rattle.bp_burn.specs.Covered.{covered}
use Rattle.bp_burn.specs.RowsOut.{AreOf, IsApart, IsBelowStamp, RowsOut, above_out, last_out}
use Rattle.bp_burn.specs.Strips.{touches_above, touches_row}
use Rattle.bp_burn.proofs.MakingLemmas.{same_above}
use Rattle.bp_burn.proofs.StripLemmas.{untouched_row}
use Rattle.bp_burn.proofs.covered_rows.CoveredRows.row.Goals as goal

pub overflow_sub-row : goal.overflow_sub-row
overflow_sub-row c =
    let some : 0 < c.self.inside.row = subst (λ (o : RowsOut). 0 < o.row) (sym c.self.view_is) c.requires in
    omega (arith, some)

pub returns-then-touches_row-clause-line : goal.returns-then-touches_row-clause-line
returns-then-touches_row-clause-line c = λ p these.
    let s = c.self.inside in let inv = c.self.invariant in
    let some : 0 < s.row = subst (λ (o : RowsOut). 0 < o.row) (sym c.self.view_is) c.requires in
    let own = subst (λ (o : RowsOut). AreOf o p) (sym c.self.view_is) these in
    let touched : touches_row s.stamps.now (s.row - 1) ≡ true =
    ap (λ (marks : List Stamp). touches_row marks (s.row - 1)) (sym c.as_slice-marks.ensures) ∙ sym c.touches_row.ensures ∙ c.if-touches_row.true in
    record {
      wide = inv.wide ∙ ap (λ (o : RowsOut). o.width) c.self.view_is;
      high = inv.high;
      row = (inv.last some p own).painted touched ∙ ap (λ (o : RowsOut). last_out o p) c.self.view_is;
    }

pub returns-then-touches_above-clause-line : goal.returns-then-touches_above-clause-line
returns-then-touches_above-clause-line c = λ p these.
    let s = c.self.inside in let inv = c.self.invariant in
    let row = s.row - 1 in
    let some : 0 < s.row = subst (λ (o : RowsOut). 0 < o.row) (sym c.self.view_is) c.requires in
    let own = subst (λ (o : RowsOut). AreOf o p) (sym c.self.view_is) these in
    let down : row < p.height = omega (arith, some, inv.down, own.high) in
    let none : touches_row s.stamps.now row ≡ false =
    ap (λ (marks : List Stamp). touches_row marks row) (sym c.as_slice-marks.ensures) ∙ sym c.touches_row.ensures ∙ c.if-touches_row.false in
    let same = untouched_row p s.ink s.stamps.now row down (own.page.grid.across row down) none in
    let shows = subst (λ (ps : List ℕ). Shows ps s.rows.width (row_of p row)) (sym c.places-places.ensures.are) (inv.last some p own).shows in
    subst (λ (o : RowsOut). Shows c.places-places.result.now o.width (last_out o p)) c.self.view_is
    (subst (λ (line : List Bool). Shows c.places-places.result.now s.rows.width line) same shows)

pub returns-clause-line : goal.returns-clause-line
returns-clause-line c = λ p these.
    let s = c.self.inside in let inv = c.self.invariant in
    let row = s.row - 1 in
    let some : 0 < s.row = subst (λ (o : RowsOut). 0 < o.row) (sym c.self.view_is) c.requires in
    let own = subst (λ (o : RowsOut). AreOf o p) (sym c.self.view_is) these in
    let down : row < p.height = omega (arith, some, inv.down, own.high) in
    let none : touches_row s.stamps.now row ≡ false =
    ap (λ (marks : List Stamp). touches_row marks row) (sym c.as_slice-marks.ensures) ∙ sym c.touches_row.ensures ∙ c.if-touches_row.false in
    let none_above : touches_above s.stamps.now row ≡ false =
    ap (λ (marks : List Stamp). touches_above marks row) (sym c.as_slice-marks.ensures) ∙ sym c.touches_above.ensures ∙ c.if-touches_above.false in
    let same = untouched_row p s.ink s.stamps.now row down (own.page.grid.across row down) none in
    let last = inv.last some p own in
    let shows = subst (λ (ps : List ℕ). Shows ps s.rows.width (row_of p row)) (sym c.places-places.ensures.are) last.shows in
    let q = covered s.ink p s.stamps.now in
    let code : c.code_since.result ≡ row_code (row_above q row) (row_of q row) =
    c.code_since.ensures ∙ last.code
    ∙ ap (λ over. row_code over (row_of p row)) (sym (same_above p s.ink s.stamps.now row own.page down none_above))
    ∙ ap (row_code (row_above q row)) same in (
      subst (λ (o : RowsOut). Shows c.places-places.result.now o.width (last_out o p)) c.self.view_is
          (subst (λ (line : List Bool). Shows c.places-places.result.now s.rows.width line) same shows),
      code ∙ ap (λ (o : RowsOut). row_code (above_out o p) (last_out o p)) c.self.view_is,
    )

pub code_since-requires : goal.code_since-requires
code_since-requires c = c.self.invariant.before

pub returns-then-touches_row-clause-kind : goal.returns-then-touches_row-clause-kind
returns-then-touches_row-clause-kind c =
    let marks = sym c.as_slice-marks.ensures in
    let touched = ap (λ (marks : List Stamp). touches_row marks (c.self.inside.row - 1)) marks ∙ sym c.touches_row.ensures ∙ c.if-touches_row.true in
    subst (λ (o : RowsOut). touches_row o.stamps (o.row - 1) ≡ true) c.self.view_is touched

pub returns-then-touches_above-clause-kind : goal.returns-then-touches_above-clause-kind
returns-then-touches_above-clause-kind c =
    let row = c.self.inside.row - 1 in
    let marks = sym c.as_slice-marks.ensures in
    let none = ap (λ (marks : List Stamp). touches_row marks row) marks ∙ sym c.touches_row.ensures ∙ c.if-touches_row.false in
    let above = ap (λ (marks : List Stamp). touches_above marks row) marks ∙ sym c.touches_above.ensures ∙ c.if-touches_above.true in
    subst (λ (o : RowsOut). IsBelowStamp o.stamps (o.row - 1)) c.self.view_is (record { bare = none; above = above })

pub returns-clause-kind : goal.returns-clause-kind
returns-clause-kind c =
    let row = c.self.inside.row - 1 in
    let marks = sym c.as_slice-marks.ensures in
    let none = ap (λ (marks : List Stamp). touches_row marks row) marks ∙ sym c.touches_row.ensures ∙ c.if-touches_row.false in
    let above = ap (λ (marks : List Stamp). touches_above marks row) marks ∙ sym c.touches_above.ensures ∙ c.if-touches_above.false in
    subst (λ (o : RowsOut). IsApart o.stamps (o.row - 1)) c.self.view_is (record { bare = none; above = above })
