use Rattle.std.proofs.Common.{◌∙◌}
use Rattle.bp_outside.proofs.MemoryDoorLemmas.{last_wrote}
use Rattle.bp_outside.proofs.memory.door.put_out.Goals as goal

pub returns : goal.returns
returns c =
    last_wrote _ _ _ _ _ _ c.extend_from_slice.ensures
    (c.len-count.ensures ∙ c.args.exchanges.now.ok.0) c.if-count-eq0.false
    c.index_mut-last.ensures.value
