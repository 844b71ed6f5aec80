use Rattle.std.proofs.Common.{Some, refl, sym, subst}
use Rattle.bp_cli.specs.declared.stops.Stop.{Stop}
use Rattle.bp_cli.specs.Arguments.{EndsStopped, EndsWithDoors}
use Rattle.bp_cli.proofs.program.with_doors.Goals as goal

pub returns-in-Err : goal.returns-in-Err
returns-in-Err g c =
    subst (λ doors. EndsWithDoors g.A.Store g.D.Door.shows c.args.answer c.args.connection doors (Some c.args.connection) c.stopped.result) (sym c.in-Err.is)
    (refl, subst (λ (s : Stop). EndsStopped s c.stopped.result) c.from.ensures c.stopped.ensures)
