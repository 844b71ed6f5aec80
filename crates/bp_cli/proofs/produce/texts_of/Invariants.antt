use Rattle.std.proofs.Common.{◌≡◌, map, take}
use Rattle.std.specs.Str.{chars}
use Rattle.bp_cli.specs.Words.{words_lent}
use Rattle.bp_cli.proofs.produce.texts_of.Given as goal

-- those so far
abbrev pub invariant-loop-word : goal.invariant-loop-word
invariant-loop-word l = l.texts.items ≡ map chars (words_lent (take l.word-index l.words))
