use Rattle.bp_cli.proofs.run.serve_and_tell.Goals as goal

pub returns : goal.returns
returns g c =
    c.tell.ensures c.args.asked (g.K.Keeper.shows c.args.keeper) c.args.doors.items
    c.serve-served.ensures
