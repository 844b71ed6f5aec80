use Rattle.std.proofs.Common.{[], ◌∷◌, take, ap, ◌∙◌, refl, sym, subst}
use Rattle.bp_rows.specs.Burned.{burned}
use Rattle.bp_rows.specs.Image.{Image, IsPage}
use Rattle.bp_burn.specs.Covered.{covered_rows}
use Rattle.bp_burn.specs.Ink.{page_changed}
use Rattle.bp_burn.proofs.ChangeLemmas.{changed_page}
use Rattle.bp_burn.proofs.CoverLemmas.{boxing, no_stamp, stamp_laid, stamp_lettered}
use Rattle.bp_burn.proofs.stamps.cover_rows.Goals as goal
use Rattle.bp_burn.proofs.stamps.cover_rows.Goals.{then-shows_letters, else-shows_letters}

pub loop-stamp-init : goal.loop-stamp-init
loop-stamp-init c = no_stamp c.args.page.now c.args.ink c.args.rows c.args.first c.width-width.ensures.page.grid

pub erase_letters-requires-clause-page : goal.erase_letters-requires-clause-page
erase_letters-requires-clause-page c =
    let p = c.args.page.now in
    let so_far = covered_rows c.args.rows c.args.first c.args.ink (take c.loop-stamp.stamp-index c.args.stamps.now) in
    let cut = c.part_in_rows.result in
    let P : Image → Type 0 = λ page. IsPage page in
    subst P (sym (c.blacken_box.ensures ∙ ap (λ page. burned page (cut ∷ [])) c.loop-stamp.invariant))
    (changed_page (page_changed p so_far) (boxing (cut ∷ [])) (changed_page p so_far c.width-width.ensures.page))

pub loop-stamp-preserved : goal.loop-stamp-preserved
loop-stamp-preserved c =
    let p = c.args.page.now in
    let rows = c.args.rows in
    let first = c.args.first in
    let ink = c.args.ink in
    let stamps = c.args.stamps.now in
    let i = c.loop-stamp.stamp-index in
    let cut = c.part_in_rows.result in
    let boxed = c.blacken_box.ensures ∙ ap (λ page. burned page (cut ∷ [])) c.loop-stamp.invariant in
    elim c.if-shows_letters.branch [
      | then-shows_letters w ↦
          w.page-is
          ∙ stamp_lettered p ink stamps i rows first _ _ cut c.loop-stamp-test.true refl
          (λ r col across. c.part_in_rows.ensures.pixels r col (rw c.width-width.ensures.value across)) (sym c.shows_letters.ensures ∙ w.if-shows_letters.true)
          c.blacken_box.new.self w.erase_letters.new.page boxed w.erase_letters.ensures
      | else-shows_letters w ↦
          w.page-is ∙ boxed
          ∙ stamp_laid p ink stamps i rows first _ _ cut c.loop-stamp-test.true refl
          (λ r col across. c.part_in_rows.ensures.pixels r col (rw c.width-width.ensures.value across)) (sym c.shows_letters.ensures ∙ w.if-shows_letters.false)
    ]
