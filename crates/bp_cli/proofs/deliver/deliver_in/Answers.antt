use Rattle.std.proofs.Common.{◌∙◌, ◌<◌, arith, sym}
use Rattle.bp_cli.specs.Words.{word_bytes}
use Rattle.bp_cli.proofs.DeliverLemmas.{bad_line, if_some}
use Rattle.bp_cli.proofs.WordLemmas.{any_of_bytes}
use Rattle.bp_cli.proofs.deliver.deliver_in.Goals as goal

pub returns-then-has_bad_word-clause-is : goal.returns-then-has_bad_word-clause-is
returns-then-has_bad_word-clause-is c =
    bad_line c.args.doors (word_bytes c.args.words.now)
    (sym (any_of_bytes c.args.words.now) ∙ sym c.has_bad_word.ensures ∙ c.if-has_bad_word.true)

pub returns-clause-door : goal.returns-clause-door
returns-clause-door c = if_some c.deliver_named.result (0 < c.args.doors) (omega (arith, c.if-doors-eq0.false))
