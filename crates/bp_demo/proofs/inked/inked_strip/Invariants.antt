use Rattle.std.proofs.Common.{◌≡◌, take}
use Rattle.bp_t6.specs.SoFar.{HasAdded}
use Rattle.bp_demo.specs.Pages.{page_image}
use Rattle.bp_demo.proofs.inked.inked_strip.Given as goal

-- the first rows of the page are added
abbrev pub invariant-loop-row : goal.invariant-loop-row
invariant-loop-row l = (l.writer.width ≡ 850) × HasAdded l.writer (take l.row (page_image l.fn.words).rows)
