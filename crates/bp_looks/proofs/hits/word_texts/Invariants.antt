use Rattle.std.proofs.Common.{◌≡◌, map, take}
use Rattle.bp_looks.specs.Hits.{lent_texts, word_text}
use Rattle.bp_looks.proofs.hits.word_texts.Given as goal

-- the texts of the words so far
abbrev pub invariant-loop-word : goal.invariant-loop-word
invariant-loop-word l = lent_texts l.texts.items ≡ map word_text (take l.word-index l.words)
