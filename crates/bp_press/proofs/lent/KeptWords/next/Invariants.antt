use Rattle.std.proofs.Common.{◌≡◌, length}
use Rattle.bp_text.specs.Kept.{kept_of}
use Rattle.bp_freeze.specs.Agree.{rects_on}
use Rattle.bp_press.proofs.lent.KeptWords.next.Given as goal

-- the words that are left have all that are shown; the boxes are the same
abbrev pub invariant-loop-word : goal.invariant-loop-word
invariant-loop-word l = record {
  same : l.self.boxes.now ≡ l.initial.self.boxes.now;
  on : l.self.page ≡ l.initial.self.page;
  shown : kept_of l.self.words.now (rects_on l.initial.self.boxes.now l.initial.self.page.0) ≡ kept_of l.initial.self.words.now (rects_on l.initial.self.boxes.now l.initial.self.page.0);
}

abbrev pub decreases-loop-word : goal.decreases-loop-word
decreases-loop-word l = length l.self.words.now
