use Rattle.std.proofs.Common.{refl}
use Rattle.bp_cli.proofs.ArgumentLemmas.{stopped_at_once, took_words}
use Rattle.bp_cli.proofs.run.run_arguments.Goals as goal

pub returns-in-Ok : goal.returns-in-Ok
returns-in-Ok g c = took_words g.D.Door.shows c.args.answer c.in-Ok.words c.as_slice.result.now c.run.result.keeper _ _ _ c.run.result.status c.in-Ok.ensures c.as_slice.ensures.value c.run.ensures.runs

pub returns-in-Err : goal.returns-in-Err
returns-in-Err g c =
    stopped_at_once g.D.Door.shows _ _ _ c.in-Err.stop c.finish-status.result c.args.answer c.in-Err.ensures
    (record { world = refl; leaves = record { doors_are = refl; none = refl }; printed = c.finish-status.ensures })
