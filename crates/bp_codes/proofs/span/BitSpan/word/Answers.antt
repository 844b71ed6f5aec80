use Rattle.std.proofs.Common.{◌∙◌}
use Rattle.bp_codes.proofs.BitListLemmas.{word_is, word_when_high}
use Rattle.bp_codes.proofs.span.BitSpan.word.Goals as goal

pub returns-in-High : goal.returns-in-High
returns-in-High c =
    c.whole_word.ensures ∙ word_when_high c.args.self.now.fill c.args.self.now.bytes.now c.args.first c.in-High.is

pub returns-in_default : goal.returns-in_default
returns-in_default c =
    let s = c.args.self.now in
    word_is s.fill s.bytes.now c.args.first c.byte.result c.byte-in_default.result c.byte-in_default-2.result c.byte-in_default-3.result c.byte.ensures c.byte-in_default.ensures c.byte-in_default-2.ensures c.byte-in_default-3.ensures
