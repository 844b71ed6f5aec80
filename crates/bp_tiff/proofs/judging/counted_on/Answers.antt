use Rattle.std.proofs.Common.{subst}
use Rattle.bp_core.specs.Answers.{IfRule}
use Rattle.bp_t6.specs.Strips.{SaysFault}
use Rattle.bp_tiff.proofs.JudgeLemmas.{counted_fault}
use Rattle.bp_tiff.proofs.judging.counted_on.Goals as goal

pub returns-in-Rule : goal.returns-in-Rule
returns-in-Rule c bits width rows says =
    counted_fault bits width rows c.args.first c.from.result c.in-Rule.rule c.from.ensures
    (subst (IfRule (SaysFault bits width rows 0)) c.in-Rule.is says)
