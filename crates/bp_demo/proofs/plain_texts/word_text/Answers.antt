use Rattle.bp_demo.proofs.TextLemmas.{plain_is, word_ascii}
use Rattle.bp_demo.proofs.plain_texts.word_text.Goals as goal

pub returns : goal.returns
returns c = plain_is _ _ _ c.from_string.ensures c.in_ok-format.ensures.ok (word_ascii c.args.number c.ranges.number.fits)
