use Rattle.std.proofs.Common.{◌≡◌}
use Rattle.bp_burn.specs.Figures.{glyph_figure}
use Rattle.bp_burn.specs.Ink.{inked}
use Rattle.bp_burn.proofs.FigureLemmas.{third}
use Rattle.bp_burn.proofs.InkLemmas.{before}
use Rattle.bp_burn.proofs.drawing.draw_glyph.Given as goal

-- the first rows are drawn
abbrev pub invariant-loop-place : goal.invariant-loop-place
invariant-loop-place l =
    l.page ≡ inked l.initial.page (before (λ r c. third l.top r) (glyph_figure l.rows l.top l.at l.hidden) l.place)
