use Rattle.std.proofs.Common.{◌≡◌, ℕ, sym, ap, ◌∙◌, subst}
use Rattle.std.specs.Prelude.{IfOk, IsTrue}
use Rattle.bp_codes.specs.declared.span.Fill.TheVariants.{High}
use Rattle.bp_codes.specs.Bits.{bits_of}
use Rattle.bp_rows.specs.Limits.{sides_are_imported}
use Rattle.bp_t6.specs.Written.{bits_strip}
use Rattle.bp_burn.specs.Band.{produced_of}
use Rattle.bp_burn.specs.RowsOut.{AreOf, OfSomePage, RowsOut}
use Rattle.bp_burn.specs.Strips.{IsPageStrip}
use Rattle.bp_burn.proofs.MakingLemmas.{imported_width}
use Rattle.bp_burn.proofs.OutLemmas.{bits_of_strip}
use Rattle.bp_burn.proofs.strips.produced_strip.Goals as goal

pub take-requires-clause-some : goal.take-requires-clause-some
take-requires-clause-some c = (imported_width c.args.width c.args.height c.requires.sides).0

pub take-requires-clause-wide : goal.take-requires-clause-wide
take-requires-clause-wide c = (imported_width c.args.width c.args.height c.requires.sides).1

pub over-rows-requires-clause-sides : goal.over-rows-requires-clause-sides
over-rows-requires-clause-sides c = subst (λ (w : ℕ). IsTrue (sides_are_imported w c.args.height)) (sym c.in_ok-room.ensures) c.requires.sides

pub over-rows-requires-clause-strip : goal.over-rows-requires-clause-strip
over-rows-requires-clause-strip c = subst (λ (w : ℕ). IsPageStrip w c.args.height c.args.strip.now) (sym c.in_ok-room.ensures) c.requires.strip

pub strip_of_rows-requires-clause-sides : goal.strip_of_rows-requires-clause-sides
strip_of_rows-requires-clause-sides c =
    let out : ℕ → RowsOut = λ w. record { bits = bits_of High c.args.strip.now; width = w; height = c.args.height; ink = c.args.ink; stamps = c.args.stamps.now; row = 0 } in
    let are = c.over-rows.ensures ∙ ap out c.in_ok-room.ensures in
    subst (λ (o : RowsOut). IsTrue (sides_are_imported o.width o.height)) (sym are) c.requires.sides

pub strip_of_rows-requires-clause-page : goal.strip_of_rows-requires-clause-page
strip_of_rows-requires-clause-page c =
    let out : ℕ → RowsOut = λ w. record { bits = bits_of High c.args.strip.now; width = w; height = c.args.height; ink = c.args.ink; stamps = c.args.stamps.now; row = 0 } in
    let are = c.over-rows.ensures ∙ ap out c.in_ok-room.ensures in
    let own = c.requires.strip in
    subst OfSomePage (sym are) (record { page = own.page; are = bits_of_strip c.args.width c.args.height c.args.strip.now own.page own.has })

pub strip_of_rows-requires-clause-none : goal.strip_of_rows-requires-clause-none
strip_of_rows-requires-clause-none c = ap (λ (o : RowsOut). o.row) c.over-rows.ensures

pub returns : goal.returns
returns c =
    let out : ℕ → RowsOut = λ w. record { bits = bits_of High c.args.strip.now; width = w; height = c.args.height; ink = c.args.ink; stamps = c.args.stamps.now; row = 0 } in
    let are = c.over-rows.ensures ∙ ap out c.in_ok-room.ensures in
    λ p has.
    let made = c.strip_of_rows.ensures p (subst (λ (o : RowsOut). AreOf o p) (sym are) (bits_of_strip c.args.width c.args.height c.args.strip.now p has)) in
    subst (λ (o : RowsOut). IfOk c.strip_of_rows.result (λ made. made ≡ bits_strip (produced_of o.ink p o.stamps c.args.label.now c.args.designation.now))) are made
