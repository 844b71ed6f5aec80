use Rattle.std.proofs.Common.{◌<◌, ◌^◌, ℕ, List, length, sym, ap, ◌∙◌, subst}
use Rattle.std.specs.Prelude.{IsTrue}
use Rattle.bp_codes.specs.declared.span.Fill.TheVariants.{High}
use Rattle.bp_codes.specs.Bits.{bits_of}
use Rattle.bp_rows.specs.Limits.{sides_are_imported}
use Rattle.bp_t6.specs.SoFar.{ReadSoFar}
use Rattle.bp_burn.specs.RowsOut.{RowsOut}
use Rattle.bp_burn.specs.Strips.{HasStrip}
use Rattle.bp_burn.proofs.MakingLemmas.{imported_width}
use Rattle.bp_burn.proofs.OutLemmas.{bits_of_strip, none_out}
use Rattle.bp_burn.proofs.covered_rows.CoveredRows.over.Goals as goal

pub over-requires-clause-short : goal.over-requires-clause-short
over-requires-clause-short c =
    let has = c.requires.strip.has in
    subst (λ (bytes : List ℕ). length bytes < 2 ^ 32) (sym has.codes) (c.strip_size.ensures.fits c.requires.strip.page has.page)

pub over-requires-clause-some : goal.over-requires-clause-some
over-requires-clause-some c =
    (imported_width c.room.inside.rows c.args.height (subst (λ (w : ℕ). IsTrue (sides_are_imported w c.args.height)) (sym c.room.view_is) c.requires.sides)).0

pub over-requires-clause-wide : goal.over-requires-clause-wide
over-requires-clause-wide c =
    (imported_width c.room.inside.rows c.args.height (subst (λ (w : ℕ). IsTrue (sides_are_imported w c.args.height)) (sym c.room.view_is) c.requires.sides)).1

pub invariant_of-result : goal.invariant_of-result
invariant_of-result c =
    let r = c.room.inside in
    let p = c.requires.strip.page in
    let has = subst (λ (w : ℕ). HasStrip w c.args.height c.args.strip.now p) (sym c.room.view_is) c.requires.strip.has in
    none_out c.over.result (bits_of High c.args.strip.now) r.rows c.args.height r.line r.white c.args.ink c.args.stamps.now p
    c.rows_law.ensures.begins c.over.ensures.unread (bits_of_strip r.rows c.args.height c.args.strip.now p has) c.room.invariant

pub returns : goal.returns
returns c =
    let out : ReadSoFar → RowsOut = λ r. record { bits = r.bits; width = r.width; height = c.args.height; ink = c.args.ink; stamps = c.args.stamps.now; row = 0 } in
    let own : ℕ → RowsOut = λ w. record { bits = bits_of High c.args.strip.now; width = w; height = c.args.height; ink = c.args.ink; stamps = c.args.stamps.now; row = 0 } in
    ap out c.over.ensures.unread ∙ ap own c.room.view_is
