use Rattle.std.proofs.Common.{◌≡◌, ap, subst, sym, ◌∙◌, arith}
use Rattle.std.specs.Prelude.{IfOk, IsTrue}
use Rattle.bp_rows.specs.Image.{Image}
use Rattle.bp_rows.specs.Limits.{sides_are_imported}
use Rattle.bp_t6.specs.Written.{bits_strip}
use Rattle.bp_burn.specs.Band.{produced_of}
use Rattle.bp_burn.specs.RowsOut.{AreOf, OfSomePage, RowsOut}
use Rattle.bp_press.proofs.JobLemmas.{imported_width, own_rows}
use Rattle.bp_press.proofs.strips.page_strip.Goals as goal

pub take-requires-clause-some : goal.take-requires-clause-some
take-requires-clause-some c =
    let wide = ap (λ (p : Image). p.width) c.frame-frame.ensures.frame in
    omega (arith, wide, (imported_width c.args.page.page.now.width c.args.page.page.now.height c.requires.sides).0)

pub take-requires-clause-wide : goal.take-requires-clause-wide
take-requires-clause-wide c =
    let wide = ap (λ (p : Image). p.width) c.frame-frame.ensures.frame in
    omega (arith, wide, (imported_width c.args.page.page.now.width c.args.page.page.now.height c.requires.sides).1)

pub rows-requires-clause-room : goal.rows-requires-clause-room
rows-requires-clause-room c = c.in_ok-room.ensures ∙ sym (ap (λ (p : Image). p.width) c.frame-frame.ensures.frame)

pub strip_of_rows-requires-clause-sides : goal.strip_of_rows-requires-clause-sides
strip_of_rows-requires-clause-sides c = subst (λ (o : RowsOut). IsTrue (sides_are_imported o.width o.height)) (sym c.rows.ensures) c.requires.sides

pub strip_of_rows-requires-clause-page : goal.strip_of_rows-requires-clause-page
strip_of_rows-requires-clause-page c = subst OfSomePage (sym c.rows.ensures) (record { page = c.args.page.page.now; are = own_rows c.args.page c.frame-frame.ensures.page })

pub strip_of_rows-requires-clause-none : goal.strip_of_rows-requires-clause-none
strip_of_rows-requires-clause-none c = ap (λ (o : RowsOut). o.row) c.rows.ensures

pub returns : goal.returns
returns c =
    let p = c.args.page.page.now in
    let made = c.strip_of_rows.ensures p (subst (λ (o : RowsOut). AreOf o p) (sym c.rows.ensures) (own_rows c.args.page c.frame-frame.ensures.page)) in
    subst (λ (o : RowsOut). IfOk c.strip_of_rows.result (λ out. out ≡ bits_strip (produced_of o.ink p o.stamps c.args.page.label.now c.args.page.designation.now))) c.rows.ensures made
