use Rattle.bp_web.proofs.ReplyExamples.{no_memory}
use Rattle.bp_doors.proofs.texts.no_memory.Goals as goal

pub returns : goal.returns
returns c = no_memory
