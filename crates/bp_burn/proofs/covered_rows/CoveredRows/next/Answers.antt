use Rattle.std.proofs.Common.{◌≡◌, ◌<◌, ◌≤◌, ◌+◌, ◌-◌, ◌∷◌, [], ℕ, List, Bool, true, take, sym, ap, ◌∙◌, subst, arith}
use Rattle.std.specs.Prelude.{slice_range}
use Rattle.bp_core.specs.declared.stamps.Stamp.{Stamp}
use Rattle.bp_rows.specs.Changes.{Rises, Shows}
use Rattle.bp_rows.specs.Image.{Image, row_of}
use Rattle.bp_rows.proofs.PageLemmas.{sides_bound}
use Rattle.bp_t6.specs.SoFar.{ReadsPage, row_above}
use Rattle.bp_t6.specs.Written.{row_code}
use Rattle.bp_burn.specs.Covered.{covered}
use Rattle.bp_burn.specs.RowsOut.{HasBits, HasGoneOut, RowsOut}
use Rattle.bp_burn.specs.Strips.{touches_row}
use Rattle.bp_burn.proofs.OutLemmas.{bits_after, bits_before, next_out}
use Rattle.bp_burn.proofs.covered_rows.CoveredRows.next.Goals as goal

pub next_row-requires : goal.next_row-requires
next_row-requires c =
    let s = c.self.inside in
    let less : s.row < s.height = subst (λ (o : RowsOut). o.row < o.height) (sym c.self.view_is) c.requires in
    next_out s.rows s.from s.line s.white s.ink s.stamps.now s.height s.row c.self.invariant less

pub cover_row-requires-clause-one : goal.cover_row-requires-clause-one
cover_row-requires-clause-one c = c.self.invariant.high

pub cover_row-requires-clause-white : goal.cover_row-requires-clause-white
cover_row-requires-clause-white c = c.self.invariant.blank ∙ ap (λ w. w ∷ []) (sym c.self.invariant.wide)

pub cover_row-requires-clause-rises : goal.cover_row-requires-clause-rises
cover_row-requires-clause-rises c =
    subst (λ (w : ℕ). Rises c.places-places.result.now w) (c.next_row.ensures.width ∙ sym c.self.invariant.wide) c.places-places.ensures.show.1.rises

pub overflow_add-self : goal.overflow_add-self
overflow_add-self c =
    let s = c.self.inside in
    let own = c.self.invariant.own in
    let less : s.row < s.height = subst (λ (o : RowsOut). o.row < o.height) (sym c.self.view_is) c.requires in
    let high = (sides_bound c.self.invariant.page.width c.self.invariant.page.height own.page.sides).1 in
    omega (arith, less, own.high, high)

pub invariant_of-self : goal.invariant_of-self
invariant_of-self c =
    let s = c.self.inside in let inv = c.self.invariant in
    let old = s.rows in let new = c.next_row.new.self in let e = c.next_row.ensures in
    let row = s.row in
    let less : row < s.height = subst (λ (o : RowsOut). o.row < o.height) (sym c.self.view_is) c.requires in
    let next : (p : Image) → HasBits new.width s.height new.bits p → Shows new.above new.width (row_of p row) × ReadsPage p (row + 1) new =
    λ p has.
    let reads = inv.reads p (bits_before old new s.height p e.bits e.width has) in
    c.rows_law.ensures.line p row old new has.page (omega (arith, has.high, less)) reads e.bits e.width e.read (e.next (take row p.rows) reads.read) in
    let own = bits_after old new s.height inv.page e.bits e.width inv.own in
    let wide = c.cover_row.ensures.width ∙ inv.wide in
    let back : row ≡ row + 1 - 1 = omega arith in
    record {
      page = inv.page;
      own = own;
      reads = λ p has. (next p has).1;
      down = omega (arith, less);
      before = (let order = c.code_law.ensures.order inv.page row old new own.page (omega (arith, own.high, less)) (inv.reads inv.page inv.own) (next inv.page own).1 in
          subst (λ (n : ℕ). n ≤ new.at) (sym c.at-from.ensures.at) order);
      wide = wide ∙ sym e.width;
      high = c.cover_row.ensures.height;
      blank = inv.blank ∙ ap (λ w. w ∷ []) (sym e.width);
      last = λ some p has.
          let had = bits_before old new s.height p e.bits e.width has in
          let both = next p has in
          let down : row < p.height = omega (arith, has.high, less) in
          let alone = inv.wide ∙ sym e.width in
          let shows : Shows c.places-places.result.now s.line.width (row_of p row) =
          subst (λ (w : ℕ). Shows c.places-places.result.now w (row_of p row)) (sym alone)
          (subst (λ (ps : List ℕ). Shows ps new.width (row_of p row)) (sym c.places-places.ensures.are) both.0) in
          let painted = c.cover_row.ensures.row p down (has.wide ∙ sym alone) shows in
          let P : List Stamp → Type 0 = λ marks. touches_row marks row ≡ true → row_of c.cover_row.new.line 0 ≡ row_of (covered s.ink p marks) row in
          subst (λ (n : ℕ). HasGoneOut p new c.at-from.result c.cover_row.new.line s.ink s.stamps.now n) back
          (record {
            shows = both.0;
            code = subst (λ (n : ℕ). slice_range new.bits n new.at ≡ row_code (row_above p row) (row_of p row)) (sym c.at-from.ensures.at)
                (c.code_law.ensures.code p row old new has.page down (inv.reads p had) both.1);
            painted = subst P c.as_slice-marks.ensures painted;
          });
    }

pub returns : goal.returns
returns c =
    let s = c.self.inside in let e = c.next_row.ensures in
    let out : List Bool → ℕ → RowsOut = λ bs w. record { bits = bs; width = w; height = s.height; ink = s.ink; stamps = s.stamps.now; row = s.row + 1 } in
    ap (λ bs. out bs c.next_row.new.self.width) e.bits ∙ ap (out s.rows.bits) e.width
    ∙ ap (λ (o : RowsOut). record o { row = o.row + 1 }) c.self.view_is
