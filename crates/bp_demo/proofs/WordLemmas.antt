-- The words of a page, one drawn after another.
use Rattle.std.proofs.Common.{◌≡◌, ℕ, ◌+◌, ◌*◌, suc, List, [], ◌∷◌, ◌++◌, map, refl, sym, ap, ◌∙◌, arith}
use Rattle.std.specs.List.{range_with_len}
use Rattle.std.proofs.lemmas.List.FromFn.{map-range_with_len_more}
use Rattle.bp_text.specs.declared.words.Word.{Word}
use Rattle.bp_demo.specs.Draws.{after_draws, next}
use Rattle.bp_demo.specs.Pages.{behind_page, words_drawn, word_from}

pub after_none : (x : ℕ) → x ≡ after_draws (3 * 0) x
unfolding after_draws
after_none x = refl

three_more : (n x : ℕ) → after_draws (suc (suc (suc n))) x ≡ next (next (next (after_draws n x)))
unfolding after_draws
three_more n x = refl

-- three draws for each word
pub after_word : (i x state state' : ℕ) → state ≡ after_draws (3 * i) x → state' ≡ next (next (next state)) → state' ≡ after_draws (3 * (i + 1)) x
after_word i x state state' is more =
    let count : suc (suc (suc (3 * i))) ≡ 3 * (i + 1) = omega arith in
    more ∙ ap (λ y. next (next (next y))) is ∙ sym (three_more (3 * i) x) ∙ ap (λ n. after_draws n x) count

pub words_more : (i x state : ℕ) (words : List Word) (word : Word) → words ≡ map (λ k. word_from (after_draws (3 * k) x) k) (range_with_len 0 i) → state ≡ after_draws (3 * i) x
    → word ≡ word_from state i → words ++ word ∷ [] ≡ map (λ k. word_from (after_draws (3 * k) x) k) (range_with_len 0 (i + 1))
words_more i x state words word so_far is one =
    ap (λ ws. ws ++ word ∷ []) so_far
    ∙ ap (λ w. map (λ k. word_from (after_draws (3 * k) x) k) (range_with_len 0 i) ++ w ∷ []) (one ∙ ap (λ y. word_from y i) is)
    ∙ sym (map-range_with_len_more (λ k. word_from (after_draws (3 * k) x) k) 0 i i (omega arith))

-- all forty
pub words_whole : (i x : ℕ) (words : List Word) → i ≡ 40 → words ≡ map (λ k. word_from (after_draws (3 * k) x) k) (range_with_len 0 i) → words ≡ words_drawn x
unfolding words_drawn
words_whole i x words all is = is ∙ ap (λ n. map (λ k. word_from (after_draws (3 * k) x) k) (range_with_len 0 n)) all

pub state_whole : (i x state : ℕ) → i ≡ 40 → state ≡ after_draws (3 * i) x → state ≡ behind_page x
state_whole i x state all is = is ∙ ap (λ n. after_draws (3 * n) x) all
