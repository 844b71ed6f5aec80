use Rattle.std.proofs.Common.{◌≡◌}
use Rattle.bp_burn.specs.Figures.{text_row}
use Rattle.bp_burn.specs.Ink.{erased}
use Rattle.bp_burn.proofs.InkLemmas.{before}
use Rattle.bp_burn.proofs.LetterLemmas.{from_left}
use Rattle.bp_burn.proofs.letters.erase_text_row.Given as goal

-- the first columns are erased
abbrev pub invariant-loop-u : goal.invariant-loop-u
invariant-loop-u l =
    l.page ≡ erased l.initial.page (before (λ r c. from_left l.left c) (text_row l.text l.v l.row l.left) l.u)
