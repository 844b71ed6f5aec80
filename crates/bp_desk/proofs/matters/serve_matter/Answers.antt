use Rattle.std.proofs.Common.{subst}
use Rattle.bp_desk.specs.Matters.{ServesMatter}
use Rattle.bp_desk.proofs.matters.serve_matter.Goals as goal

pub returns-in-Ok-start-clause-ok : goal.returns-in-Ok-start-clause-ok
returns-in-Ok-start-clause-ok g c =
    let begun = c.in-Ok-start.ensures.ok in
    subst (λ n. ServesMatter g.D.Door.shows n c.args.connections (g.K.Keeper.shows c.args.keeper)
    c.args.doors.items c.serve_started.result.closed.history
    c.serve_started.result.closed.tables.matter
    (g.K.Keeper.shows c.serve_started.result.closed.keeper) c.serve_started.result.doors.items)
    begun.counted (c.serve_started.ensures _ begun.opens)
