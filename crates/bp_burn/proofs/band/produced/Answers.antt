use Rattle.std.proofs.Common.{ℕ, ◌≡◌, ap, sym, ◌∙◌, subst}
use Rattle.bp_rows.specs.Image.{Image, IsPage}
use Rattle.bp_burn.specs.Band.{band_texts}
use Rattle.bp_burn.specs.Covered.{covered_rows}
use Rattle.bp_burn.specs.Ink.{page_changed, inked, with_white_rows}
use Rattle.bp_burn.proofs.BandLemmas.{band_fits, page_with_rows, produced_made}
use Rattle.bp_burn.proofs.ChangeLemmas.{changed_page}
use Rattle.bp_burn.proofs.band.produced.Goals as goal
use Rattle.bp_burn.proofs.band.produced.Goals.{After-cover_rows}

covered_copy : (c : After-cover_rows) → c.cover_rows.new.page ≡ page_changed (with_white_rows c.args.page.now 32) (covered_rows c.args.page.now.height 0 c.args.ink c.args.stamps.now)
covered_copy c =
    let q = with_white_rows c.args.page.now 32 in
    c.cover_rows.ensures
    ∙ ap (λ page. page_changed page (covered_rows c.height-height.result 0 c.args.ink c.as_slice.result.now)) c.in_ok-out.ensures
    ∙ ap (λ rows. page_changed q (covered_rows rows 0 c.args.ink c.as_slice.result.now)) c.height-height.ensures.value
    ∙ ap (λ stamps. page_changed q (covered_rows c.args.page.now.height 0 c.args.ink stamps)) c.as_slice.ensures

pub draw_band-requires-clause-page : goal.draw_band-requires-clause-page
draw_band-requires-clause-page c =
    let p = c.args.page.now in
    let q = with_white_rows p 32 in
    let page = page_with_rows p 32 c.height-height.ensures.page (band_fits p.width p.height c.requires.sides) in
    let P : Image → Type 0 = λ page. IsPage page in
    subst P (sym (covered_copy (goal.at.draw_band-requires-clause-page c).After-cover_rows)) (changed_page q (covered_rows p.height 0 c.args.ink c.args.stamps.now) page)

pub returns : goal.returns
returns c =
    let p = c.args.page.now in
    let texts = λ (w h : ℕ). band_texts w h c.args.label.now c.args.designation.now in
    let done = covered_copy (goal.at.returns c).After-cover_rows in
    c.draw_band.ensures
    ∙ ap (λ page. inked page (texts page.width c.height-height.result)) done
    ∙ ap (λ h. inked (page_changed (with_white_rows p 32) (covered_rows p.height 0 c.args.ink c.args.stamps.now)) (texts p.width h)) c.height-height.ensures.value
    ∙ produced_made c.args.ink p c.args.stamps.now c.args.label.now c.args.designation.now c.height-height.ensures.page.grid
