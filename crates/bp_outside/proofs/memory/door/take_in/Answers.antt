use Rattle.std.proofs.Common.{◌∙◌}
use Rattle.bp_outside.specs.Door.{took}
use Rattle.bp_outside.proofs.MemoryDoorLemmas.{last_set}
use Rattle.bp_outside.proofs.memory.door.take_in.Goals as goal

pub returns : goal.returns
returns c =
    let x = c.index_mut-last.result.now in
    last_set (took c.args.bytes.now c.args.ended) _ _ _ _
    (c.len-count.ensures ∙ c.args.exchanges.now.ok.0) c.if-count-eq0.false
    c.index_mut-last.ensures.value
    (λ i. record x { read = c.in_ok-extend_from_slice.ensures i; ended = c.either-last.ensures i })
