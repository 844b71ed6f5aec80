use Rattle.std.proofs.Common.{◌≡◌, ℕ, Bool, List, take, subst, sym, ◌∙◌, arith}
use Rattle.bp_rows.specs.Changes.{Shows}
use Rattle.bp_rows.specs.Image.{row_of}
use Rattle.bp_t6.specs.SoFar.{HasAdded}
use Rattle.bp_demo.specs.Pages.{page_image}
use Rattle.bp_demo.proofs.LineLemmas.{all_rows, one_row_more, page_wide}
use Rattle.bp_demo.proofs.inked.inked_strip.Goals as goal

pub loop-row-init : goal.loop-row-init
loop-row-init c = (c.in_ok-writer.ensures.width, c.in_ok-writer.ensures.none)

pub add_places-requires : goal.add_places-requires
add_places-requires c =
    let line = row_of (page_image c.args.words.now) c.loop-row.row in
    let shows : Shows c.deref.result.now 850 line = subst (λ (places : List ℕ). Shows places 850 line) (sym c.deref.ensures.value) c.in_ok-put_places.ensures in
    (line, subst (λ (w : ℕ). Shows c.deref.result.now w line) (sym c.loop-row.invariant.0) shows)

pub loop-row-preserved : goal.loop-row-preserved
loop-row-preserved c =
    let words = c.args.words.now in
    let row = c.loop-row.row in
    let line = row_of (page_image words) row in
    let shows : Shows c.deref.result.now 850 line = subst (λ (places : List ℕ). Shows places 850 line) (sym c.deref.ensures.value) c.in_ok-put_places.ensures in
    let wide : Shows c.deref.result.now c.loop-row.writer.width line = subst (λ (w : ℕ). Shows c.deref.result.now w line) (sym c.loop-row.invariant.0) shows in
    let lines = take row (page_image words).rows in
    let P : List (List Bool) → Type 0 = λ all. HasAdded c.add_places.new.self all in (
      c.in_ok-add_places.ensures.width ∙ c.loop-row.invariant.0,
      subst P (sym (one_row_more words row (omega (arith, c.loop-row-test.true)))) (c.in_ok-add_places.ensures.added lines line c.loop-row.invariant.1 wide),
    )

pub returns : goal.returns
returns c =
    let words = c.args.words.now in
    let P : List (List Bool) → Type 0 = λ all. HasAdded c.loop-row.writer all in
    let last : c.loop-row.row ≡ 1100 = omega arith in
    c.finish.ensures.strip (page_image words) (page_wide words ∙ sym c.loop-row.invariant.0)
    (subst P (all_rows words c.loop-row.row last) c.loop-row.invariant.1)
