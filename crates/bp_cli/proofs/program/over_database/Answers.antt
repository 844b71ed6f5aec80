use Rattle.std.proofs.Common.{refl, ap}
use Rattle.bp_keep_sql.specs.Keeper.{keeper_shown}
use Rattle.bp_cli.proofs.ArgumentLemmas.{runs_from, with_connection}
use Rattle.bp_cli.proofs.program.over_database.Goals as goal

pub returns : goal.returns
returns g c =
    with_connection _ _ c.run_arguments-ended.result.keeper c.connection_of.result c.connection_of.ensures c.run_arguments-ended.ensures
    (λ kept runs.
    runs_from g.A.Store g.D.Door.shows c.args.answer c.args.connection c.args.doors.items _ _ _ _ _ _ kept c.run_arguments-ended.result.status
    c.below-source.ensures.shows
    (ap (keeper_shown g.A.Store) c.over.ensures)
    c.below-folder.ensures.shows
    c.of-out.ensures
    refl
    runs)
