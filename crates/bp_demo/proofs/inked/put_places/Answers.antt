use Rattle.std.proofs.Common.{◌+◌, ◌∷◌, ◌++◌, [], ℕ, List, subst, sym, ap, ◌∙◌, arith}
use Rattle.bp_rows.specs.Changes.{Shows}
use Rattle.bp_rows.specs.Image.{row_of}
use Rattle.bp_demo.specs.Pages.{page_image}
use Rattle.bp_demo.proofs.LineLemmas.{white_row, word_row, word_right}
use Rattle.bp_demo.proofs.inked.put_places.Goals as goal

pub overflow_add-word : goal.overflow_add-word
overflow_add-word c = omega (arith, word_right c.args.words.now c.in-Some.word.now c.args.row c.requires.lines c.in-Some.ensures)

pub returns-in_ok-push-2 : goal.returns-in_ok-push-2
returns-in_ok-push-2 c =
    let word = c.in-Some.word.now in
    subst (λ (places : List ℕ). Shows places 850 (row_of (page_image c.args.words.now) c.args.row))
    (sym (c.in_ok-push-2.ensures.items ∙ ap (λ xs. xs ++ (word.rect.left + word.rect.width) ∷ []) (c.in_ok-push.ensures.items ∙ ap (λ xs. xs ++ word.rect.left ∷ []) c.clear.ensures.items)))
    (word_row c.args.words.now c.in-Some.word.now c.args.row c.requires.lines c.requires.row c.in-Some.ensures)

pub returns-in_default : goal.returns-in_default
returns-in_default c =
    subst (λ (places : List ℕ). Shows places 850 (row_of (page_image c.args.words.now) c.args.row))
    (sym c.clear.ensures.items) (white_row c.args.words.now c.args.row c.requires.lines c.requires.row c.in_default.ensures)
