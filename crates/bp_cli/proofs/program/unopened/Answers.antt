use Rattle.std.proofs.Common.{subst}
use Rattle.bp_cli.specs.declared.stops.Stop.{Stop}
use Rattle.bp_cli.specs.Arguments.{EndsStopped}
use Rattle.bp_cli.proofs.program.unopened.Goals as goal

pub returns : goal.returns
returns g c = subst (λ (s : Stop). EndsStopped s c.stopped.result) c.stop_of.ensures c.stopped.ensures
