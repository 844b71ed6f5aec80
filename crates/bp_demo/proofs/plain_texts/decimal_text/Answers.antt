use Rattle.bp_demo.proofs.TextLemmas.{decimal_ascii, plain_is}
use Rattle.bp_demo.proofs.plain_texts.decimal_text.Goals as goal

pub returns : goal.returns
returns c = plain_is _ _ _ c.from_string.ensures c.in_ok-format.ensures.ok (decimal_ascii c.args.number c.ranges.number.fits)
