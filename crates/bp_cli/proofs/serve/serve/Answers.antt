use Rattle.std.proofs.Common.{Err, None, sym, subst}
use Rattle.bp_cli.specs.Serve.{hall}
use Rattle.bp_cli.specs.ServeSteps.{ServesWith}
use Rattle.bp_cli.proofs.ServingLemmas.{matter_served, nobody_served}
use Rattle.bp_cli.proofs.serve.serve.Goals as goal

pub returns-in-Ok : goal.returns-in-Ok
returns-in-Ok g c = λ out out'.
    let shows = g.D.Door.shows in
    let before = hall (g.K.Keeper.shows c.args.keeper) c.args.doors.items out in
    let told = c.told.result in
    subst (λ k. ServesWith shows c.args.asked before told.ending told.history
    (hall (g.K.Keeper.shows k) told.doors.items out')) (sym c.told.ensures.keeper)
    (subst (λ ds. ServesWith shows c.args.asked before told.ending told.history
    (hall (g.K.Keeper.shows c.in-Ok.served.closed.keeper) ds.items out')) (sym c.told.ensures.doors)
    (matter_served shows c.args.asked _ _ _ _ _ _ out out' c.in-Ok.ensures.ok c.freezes_stand.ensures
    told.ending told.history c.told.ensures.said))

pub returns-in-Err : goal.returns-in-Err
returns-in-Err g c = λ out out'.
    let shows = g.D.Door.shows in
    let before = hall (g.K.Keeper.shows c.args.keeper) c.args.doors.items out in
    subst (λ ds. ServesWith shows c.args.asked before (Err c.from.result) None
    (hall (g.K.Keeper.shows c.in-Err.nobody.refused.keeper) ds.items out')) (sym c.in-Err.ensures.doors)
    (nobody_served shows c.args.asked _ _ _ out out' c.in-Err.nobody.refused.why c.from.result
    c.in-Err.ensures.err c.from.ensures)
