use Rattle.std.proofs.Common.{◌≡◌, ◌*◌, map}
use Rattle.std.specs.List.{range_with_len}
use Rattle.bp_demo.specs.Draws.{after_draws}
use Rattle.bp_demo.specs.Pages.{word_from}
use Rattle.bp_demo.proofs.pages.drawn_words.Given as goal

-- those so far
abbrev pub invariant-loop-i : goal.invariant-loop-i
invariant-loop-i l =
    (l.words.items ≡ map (λ i. word_from (after_draws (3 * i) l.initial.draws.state) i) (range_with_len 0 l.i))
    × (l.draws.state ≡ after_draws (3 * l.i) l.initial.draws.state)
