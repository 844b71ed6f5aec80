use Rattle.std.proofs.Common.{refl}
use Rattle.bp_cli.proofs.ArgumentLemmas.{ends_stopped}
use Rattle.bp_cli.proofs.program.stopped.Goals as goal

pub returns : goal.returns
returns g c = ends_stopped c.args.stop c.args.stop _ _ c.finish.result refl c.of-out.ensures c.finish.ensures
