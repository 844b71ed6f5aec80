use Rattle.std.proofs.Common.{◌≡◌, take}
use Rattle.bp_rules.proofs.copies.copy_words.Given as goal

-- those so far
abbrev pub invariant-loop-word : goal.invariant-loop-word
invariant-loop-word l = l.copies.items ≡ take l.word-index l.word-items
