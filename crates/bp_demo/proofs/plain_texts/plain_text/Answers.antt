use Rattle.bp_demo.proofs.TextLemmas.{ascii_tested, plain_is}
use Rattle.bp_demo.proofs.plain_texts.plain_text.Goals as goal

pub returns : goal.returns
returns c = plain_is _ _ _ c.from_string.ensures c.in_ok-from_str.ensures.ok (ascii_tested c.args.text.now c.requires)
