use Rattle.std.proofs.Common.{refl, rules}
use Rattle.sqlite.specs.Held.{state}
use Rattle.bp_keep_sql.proofs.ToldLemmas.{still_told}
use Rattle.bp_keep_sql.proofs.keeper.SqlKeeperKeeper.commit.Goals as goal

pub returns-in-Ok-clause-commits : goal.returns-in-Ok-clause-commits
returns-in-Ok-clause-commits g c =
    rw (← c.self.view_is, ← c.as_slice.ensures) (record {
      rows = c.in-Ok.ensures.told;
      faults = refl;
      loads = refl;
      commits = search rules;
      sure = refl;
    })

pub returns-in-Err-clause-commits : goal.returns-in-Err-clause-commits
returns-in-Err-clause-commits g c =
    rw (← c.self.view_is) (record {
      rows = still_told (state g.S.Store c.self.inside.conn)
          (state g.S.Store c.commit_numbered.new.conn) c.in-Err.ensures.left;
      faults = c.refuse.ensures.counted;
      loads = refl;
      commits = search rules;
      sure = refl;
    })

pub returns-in-Err-clause-asked : goal.returns-in-Err-clause-asked
returns-in-Err-clause-asked g c clean =
    rw (← c.self.view_is, ← c.as_slice.ensures)
    (c.in-Err.error, c.refuse.ensures.told, c.in-Err.ensures.refused clean)

pub returns-in-Ok-clause-stopped : goal.returns-in-Ok-clause-stopped
returns-in-Ok-clause-stopped g c clean =
    rw (← c.self.view_is, ← c.as_slice.ensures) (c.in-Ok.ensures.stopped clean)

pub returns-in-Err-clause-stopped : goal.returns-in-Err-clause-stopped
returns-in-Err-clause-stopped g c clean =
    rw (← c.self.view_is, ← c.as_slice.ensures) (c.in-Err.ensures.stopped clean)
