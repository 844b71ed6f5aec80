use Rattle.bp_keep_sql.proofs.keeper.SqlKeeperKeeper.load.Goals as goal

pub returns-in-Ok-clause-asked : goal.returns-in-Ok-clause-asked
returns-in-Ok-clause-asked g c clean =
    rw (← c.self.view_is, c.from_vec.ensures) (c.in-Ok.ensures.loaded clean)

pub returns-in-Err-clause-asked : goal.returns-in-Err-clause-asked
returns-in-Err-clause-asked g c clean =
    rw (← c.self.view_is) (c.in-Err.error, c.refuse.ensures.told, c.in-Err.ensures.refused clean)

pub returns-in-Ok-clause-stopped : goal.returns-in-Ok-clause-stopped
returns-in-Ok-clause-stopped g c clean = rw (← c.self.view_is) (c.in-Ok.ensures.stopped clean)

pub returns-in-Err-clause-stopped : goal.returns-in-Err-clause-stopped
returns-in-Err-clause-stopped g c clean = rw (← c.self.view_is) (c.in-Err.ensures.stopped clean)
