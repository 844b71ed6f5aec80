use Rattle.bp_cli.specs.Serve.{hall}
use Rattle.bp_cli.proofs.ServeLemmas.{serve_runs}
use Rattle.bp_cli.proofs.run.tell.Goals as goal

pub returns : goal.returns
returns g c = λ asked given doors works.
    let served = c.args.served in
    serve_runs g.D.Door.shows asked (hall given doors (g.O.Out.shows c.args.out.now))
    (hall (g.K.Keeper.shows served.keeper) served.doors.items (g.O.Out.shows c.finish-status.new.out))
    served.history c.handed_on.result c.finish-status.result served.ending
    (works (g.O.Out.shows c.args.out.now) (g.O.Out.shows c.finish-status.new.out))
    c.finish-status.ensures c.handed_on.ensures c.rows_law.ensures
    (record {
      keeper = g.met.K.Keeper.unfailing served.keeper;
      out = g.met.O.Out.unfailing c.finish-status.new.out;
    })
