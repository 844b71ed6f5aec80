use Rattle.bp_t6.proofs.SoFarLemmas.{none_added}
use Rattle.bp_t6.proofs.strip_writer.StripWriter.start.Goals as goal

pub returns-clause-none : goal.returns-clause-none
returns-clause-none c = none_added _ c.new.ensures.out c.new.ensures.above
