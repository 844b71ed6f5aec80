use Rattle.std.proofs.Common.{◌≡◌, ◌+◌}
use Rattle.bp_burn.specs.Drawn.{is_drawn}
use Rattle.bp_burn.specs.Ink.{inked}
use Rattle.bp_burn.proofs.InkLemmas.{before}
use Rattle.bp_burn.proofs.TextLemmas.{eighteenth}
use Rattle.bp_burn.proofs.drawing.draw_text.Given as goal

-- the first characters are drawn
abbrev pub invariant-loop-place : goal.invariant-loop-place
invariant-loop-place l =
    l.page ≡ inked l.initial.page (before (λ r c. eighteenth l.left (c + l.hidden)) (is_drawn l.text l.top l.left l.hidden) l.place)
