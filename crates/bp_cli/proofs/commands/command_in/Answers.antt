use Rattle.std.proofs.Common.{ap, sym, ◌∙◌, ◌<◌, length}
use Rattle.bp_cli.specs.Words.{word_bytes, words_lent}
use Rattle.bp_cli.proofs.WordLemmas.{any_of_bytes, no_words, bad_words, good_words, some_words, first_word}
use Rattle.bp_cli.proofs.commands.command_in.Goals as goal
use Rattle.bp_cli.proofs.commands.command_in.Goals.{then-is_empty-via-then-is_empty, then-is_empty-via-else-is_empty+then-has_bad_word}

pub returns-then-is_empty : goal.returns-then-is_empty
returns-then-is_empty c = elim c.then-is_empty.branch [
  | then-is_empty-via-then-is_empty w ↦ no_words c.args.words.now (sym c.is_empty.ensures ∙ w.if-is_empty.true)
  | then-is_empty-via-else-is_empty+then-has_bad_word w ↦
      bad_words (word_bytes c.args.words.now) (sym (any_of_bytes c.args.words.now) ∙ sym w.has_bad_word.ensures ∙ w.if-has_bad_word.true)
]

pub operands_of-requires-clause-plain : goal.operands_of-requires-clause-plain
operands_of-requires-clause-plain c = sym (any_of_bytes c.args.words.now) ∙ sym c.if-has_bad_word.ensures

pub returns : goal.returns
returns c =
    let words = c.args.words.now in
    let some : 0 < length words = some_words words (sym c.is_empty.ensures ∙ c.if-is_empty.false) in
    good_words words (words_lent c.as_slice.result.now) c.as_str.result.now _ some
    (sym (any_of_bytes words) ∙ sym c.has_bad_word.ensures ∙ c.if-has_bad_word.false)
    (c.as_str.ensures.value ∙ first_word words c.index-words-0.result some c.index-words-0.is)
    (ap words_lent c.as_slice.ensures.value ∙ c.in_ok-operands.ensures) c.in_ok-command.ensures
