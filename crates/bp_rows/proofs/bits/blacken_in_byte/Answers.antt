use Rattle.bp_rows.proofs.ByteLemmas.{mask_blackens}
use Rattle.bp_rows.proofs.bits.blacken_in_byte.Goals as goal

pub returns : goal.returns
returns c =
    mask_blackens c.args.bytes.now c.args.at c.args.from c.args.to c.byte_mask.result c.requires.within c.requires.order
    c.requires.end c.byte_mask.ensures
