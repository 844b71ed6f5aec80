use Rattle.std.proofs.Common.{ℕ, List, ap, subst, sym, ◌∙◌}
use Rattle.std.specs.Prelude.{IsTrue}
use Rattle.bp_codes.specs.Bits.{bits_of}
use Rattle.bp_codes.specs.declared.span.Fill.TheVariants.{High}
use Rattle.bp_rows.specs.Limits.{sides_are_imported}
use Rattle.bp_t6.specs.Written.{bits_strip}
use Rattle.bp_burn.specs.RowsOut.{RowsOut}
use Rattle.bp_press.proofs.JobLemmas.{own_strip}
use Rattle.bp_press.proofs.lent.CoveredPage.rows.Goals as goal

pub over-requires-clause-sides : goal.over-requires-clause-sides
over-requires-clause-sides c =
    subst (λ (w : ℕ). IsTrue (sides_are_imported w c.height.result)) (sym c.requires.room)
    (subst (λ (h : ℕ). IsTrue (sides_are_imported c.args.self.now.page.now.width h)) (sym c.height.ensures.height) c.requires.sides)

pub over-requires-clause-strip : goal.over-requires-clause-strip
over-requires-clause-strip c = record {
  page = c.args.self.now.page.now;
  has = own_strip c.args.self.now.page.now c.args.room c.height.result c.strip.result.now c.strip.ensures.page (sym c.requires.room) (sym c.height.ensures.height) c.strip.ensures.strip;
}

pub returns : goal.returns
returns c =
    let p = c.args.self.now.page.now in
    let out : List ℕ → ℕ → ℕ → RowsOut = λ strip width height. record {
      bits = bits_of High strip;
      width = width;
      height = height;
      ink = c.args.self.now.ink;
      stamps = c.args.self.now.stamps.now;
      row = 0;
    } in
    c.over.ensures ∙ ap (λ (strip : List ℕ). out strip c.args.room c.height.result) c.strip.ensures.strip
    ∙ ap (λ (width : ℕ). out (bits_strip p) width c.height.result) c.requires.room
    ∙ ap (λ (height : ℕ). out (bits_strip p) p.width height) c.height.ensures.height
