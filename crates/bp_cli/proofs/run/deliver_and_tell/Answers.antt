use Rattle.bp_cli.specs.Deliver.{deliver_seen, office}
use Rattle.bp_cli.proofs.DeliverRunLemmas.{deliver_runs}
use Rattle.bp_cli.proofs.RunningLemmas.{delivers_at, first_set}
use Rattle.bp_cli.proofs.run.deliver_and_tell.Goals as goal

pub returns-clause-delivers : goal.returns-clause-delivers
returns-clause-delivers g c =
    let given = c.args.doors.items in
    let work = c.deliver-delivered in
    let set = first_set given c.index_mut.result.now work.new.door c.requires c.index_mut.ensures.value in
    let before = office (g.S.Source.shows c.args.source.now) (g.K.Keeper.shows c.args.keeper) (g.D.Door.shows c.index_mut.result.now) (g.O.Out.shows c.args.out.now) in
    let after = office (g.S.Source.shows work.new.source) (g.K.Keeper.shows work.new.keeper) (g.D.Door.shows work.new.door) (g.O.Out.shows c.finish-status.new.out) in
    delivers_at g.D.Door.shows (deliver_seen c.args.asked.now) _ _ _ _ _ _ given _ c.index_mut.result.now work.new.door set.0 c.finish-status.result set.1.0 set.1.1
    (deliver_runs (deliver_seen c.args.asked.now) before after c.finish-status.result work.result
    (work.ensures.delivers (g.O.Out.shows c.args.out.now) (g.O.Out.shows c.finish-status.new.out))
    c.finish-status.ensures c.rows_law.ensures
    (record {
      source = g.met.S.Source.unfailing work.new.source;
      keeper = g.met.K.Keeper.unfailing work.new.keeper;
      out = g.met.O.Out.unfailing c.finish-status.new.out;
    }))
