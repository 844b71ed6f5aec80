use Rattle.std.proofs.Common.{◌≡◌}
use Rattle.bp_burn.specs.Covered.{letters_in}
use Rattle.bp_burn.specs.Ink.{erased}
use Rattle.bp_burn.proofs.InkLemmas.{before}
use Rattle.bp_burn.proofs.LetterLemmas.{from_top}
use Rattle.bp_burn.proofs.letters.erase_letters.Given as goal

-- the first rows are erased
abbrev pub invariant-loop-v : goal.invariant-loop-v
invariant-loop-v l =
    l.page ≡ erased l.initial.page (before (λ r c. from_top l.first l.top r) (letters_in l.rows l.first l.stamp) l.v)
