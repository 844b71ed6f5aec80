use Rattle.std.proofs.Common.{◌∙◌, refl}
use Rattle.bp_outside.specs.Door.{hung}
use Rattle.bp_outside.proofs.MemoryDoorLemmas.{last_set}
use Rattle.bp_outside.proofs.memory.door.hang.Goals as goal

pub returns : goal.returns
returns c =
    last_set hung _ _ _ _ (c.len-count.ensures ∙ c.args.exchanges.now.ok.0)
    c.if-count-eq0.false c.index_mut.ensures.value refl
