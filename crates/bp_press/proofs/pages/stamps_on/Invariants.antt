use Rattle.std.proofs.Common.{◌≡◌, take}
use Rattle.bp_press.specs.Contents.{stamps_on}
use Rattle.bp_press.proofs.pages.stamps_on.Given as goal

-- of the boxes so far, those on the page, each with its ground
abbrev pub invariant-loop-row : goal.invariant-loop-row
invariant-loop-row l = l.stamps.items ≡ stamps_on (take l.row-index l.row-items) l.fn.page.0
