use Rattle.std.proofs.Common.{◌∙◌}
use Rattle.bp_outside.proofs.MemoryLemmas.{last_grown}
use Rattle.bp_outside.proofs.memory.folder.add_bytes.Goals as goal

pub returns : goal.returns
returns c =
    last_grown _ _ _ _ _ _ c.extend_from_slice.ensures
    (c.len-count.ensures ∙ c.args.files.now.ok.0) c.if-count-eq0.false
    c.index_mut-last.ensures.value
