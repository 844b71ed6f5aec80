use Rattle.std.proofs.Common.{◌≡◌, ◌++◌, List, Bool, ap, sym, ◌∙◌, subst}
use Rattle.std.specs.Result.{OnOk}
use Rattle.bp_rows.specs.Image.{Image, IsPage}
use Rattle.bp_t6.specs.SoFar.{HasAdded}
use Rattle.bp_burn.specs.Band.{band_texts}
use Rattle.bp_burn.specs.Ink.{inked}
use Rattle.bp_burn.specs.Strips.{band_rows}
use Rattle.bp_burn.proofs.MakingLemmas.{band_is, band_page, band_sides}
use Rattle.bp_burn.proofs.strips.add_band.Goals as goal

pub white_page-requires : goal.white_page-requires
white_page-requires c = band_sides c.args.width c.requires.some c.requires.wide

pub draw_band-requires-clause-page : goal.draw_band-requires-clause-page
draw_band-requires-clause-page c =
    let P : Image → Type 0 = λ page. IsPage page in
    subst P (sym c.in_ok-band.ensures) (band_page c.args.width c.requires.some c.requires.wide)

pub add_rows-requires : goal.add_rows-requires
add_rows-requires c =
    c.requires.width ∙ sym (ap (λ (p : Image). p.width) c.draw_band.ensures ∙ ap (λ (p : Image). p.width) c.in_ok-band.ensures)

pub returns-clause-added : goal.returns-clause-added
returns-clause-added c =
    let label = c.args.label.now in
    let designation = c.args.designation.now in
    let rows : c.draw_band.new.page.rows ≡ band_rows c.args.width label designation =
    ap (λ (p : Image). p.rows) (c.draw_band.ensures ∙ ap (λ (p : Image). inked p (band_texts p.width 0 label designation)) c.in_ok-band.ensures)
    ∙ band_is c.args.width label designation in
    λ lines held.
    let P : List (List Bool) → Type 0 = λ rs. OnOk c.add_rows.result (HasAdded c.add_rows.new.writer (lines ++ rs)) in
    subst P rows (c.add_rows.ensures.added lines held)
