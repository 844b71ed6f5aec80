use Rattle.std.proofs.Common.{◌+◌, arith, sym, ◌∙◌, get_or}
use Rattle.bp_codes.specs.declared.span.Fill.TheVariants.{High}
use Rattle.bp_codes.proofs.BitListLemmas.{number-high, word_is}
use Rattle.bp_codes.proofs.span.whole_word.Goals as goal

pub returns : goal.returns
returns c =
    let bytes = c.args.bytes.now in
    let at = c.args.first in
    word_is High bytes at c.from.result c.from-2.result c.from-3.result c.from-4.result
    (c.from.ensures ∙ sym (number-high (get_or bytes at 0) (omega (arith, c.type_inv.bytes at))))
    (c.from-2.ensures ∙ sym (number-high (get_or bytes (at + 1) 0) (omega (arith, c.type_inv.bytes (at + 1)))))
    (c.from-3.ensures ∙ sym (number-high (get_or bytes (at + 2) 0) (omega (arith, c.type_inv.bytes (at + 2)))))
    (c.from-4.ensures ∙ sym (number-high (get_or bytes (at + 3) 0) (omega (arith, c.type_inv.bytes (at + 3)))))
