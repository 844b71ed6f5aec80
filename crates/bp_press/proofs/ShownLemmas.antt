-- What is lent: words of which no box touches one, and boxes, one by one.
use Rattle.std.proofs.Common.{◌≡◌, ℕ, ◌==◌, ◌&&◌, ◌||◌, Bool, cond, filter, map, List, [], ◌∷◌, refl, sym, ap, ◌∙◌, inl, inr}
use Rattle.std.specs.List.{list_any}
use Rattle.std.proofs.lemmas.Bool.{cases_Bool}
use Rattle.bp_core.specs.Rectangle.{touches}
use Rattle.bp_core.specs.declared.rectangle.Rect.{Rect}
use Rattle.bp_text.specs.Kept.{is_touched}
use Rattle.bp_freeze.specs.Agree.{rects_on}
use Rattle.bp_press.specs.Shown.{covers}
use Rattle.bp_matter.specs.declared.rows.BoxRow.{BoxRow}

pub touched_on : (rect : Rect) (boxes : List BoxRow) (page : ℕ) → is_touched rect (rects_on boxes page) ≡ list_any (λ (box : BoxRow). covers box page rect) boxes
touched_on rect [] page = refl
touched_on rect (box ∷ boxes) page =
    let others = filter (λ (other : BoxRow). other.page.0 == page) boxes in
    let rest = list_any (λ (other : BoxRow). covers other page rect) boxes in
    elim (cases_Bool (box.page.0 == page)) [
      | inl on ↦
          ap (λ (t : Bool). is_touched rect (map (λ (b : BoxRow). b.rect) (cond t (box ∷ others) others))) on
          ∙ ap (λ (b : Bool). touches rect box.rect || b) (touched_on rect boxes page)
          ∙ sym (ap (λ (b : Bool). (b && touches rect box.rect) || rest) on)
      | inr off ↦
          ap (λ (t : Bool). is_touched rect (map (λ (b : BoxRow). b.rect) (cond t (box ∷ others) others))) off
          ∙ touched_on rect boxes page
          ∙ sym (ap (λ (b : Bool). (b && touches rect box.rect) || rest) off)
    ]
