use Rattle.std.proofs.Common.{◌≡◌, ◌++◌, List, Bool, ap, sym, ◌∙◌, subst}
use Rattle.std.specs.Result.{OnOk}
use Rattle.bp_rows.specs.Image.{Image, IsPage, white_image}
use Rattle.bp_rows.specs.declared.resolution.Unit.TheVariants.{Inch}
use Rattle.bp_t6.specs.SoFar.{HasAdded}
use Rattle.bp_burn.specs.Band.{slip_resolution}
use Rattle.bp_burn.specs.Drawn.{is_drawn}
use Rattle.bp_burn.specs.Ink.{inked}
use Rattle.bp_burn.specs.Strips.{slip_text_rows}
use Rattle.bp_burn.proofs.SheetLemmas.{slip_text_is, text_page}
use Rattle.bp_burn.proofs.slip_strips.add_slip_text.Goals as goal

pub draw_text-requires-clause-page : goal.draw_text-requires-clause-page
draw_text-requires-clause-page c =
    let P : Image → Type 0 = λ page. IsPage page in
    subst P (sym c.in_ok-rows.ensures) text_page

pub add_rows-requires : goal.add_rows-requires
add_rows-requires c =
    c.requires ∙ sym (ap (λ (p : Image). p.width) c.draw_text.ensures ∙ ap (λ (p : Image). p.width) c.in_ok-rows.ensures)

pub returns-clause-added : goal.returns-clause-added
returns-clause-added c =
    let paper = white_image 1700 21 slip_resolution slip_resolution Inch in
    let drawn : c.draw_text.new.page.rows ≡ slip_text_rows c.args.basis =
    ap (λ (p : Image). p.rows)
    (c.draw_text.ensures
    ∙ ap (λ (p : Image). inked p (is_drawn c.as_bytes-text.result.now 0 200 0)) c.in_ok-rows.ensures
    ∙ ap (λ bytes. inked paper (is_drawn bytes 0 200 0)) (c.as_bytes-text.ensures.value ∙ c.slip_text.ensures))
    ∙ slip_text_is c.args.basis in
    λ lines held.
    let P : List (List Bool) → Type 0 = λ rs. OnOk c.add_rows.result (HasAdded c.add_rows.new.writer (lines ++ rs)) in
    subst P drawn (c.add_rows.ensures.added lines held)
