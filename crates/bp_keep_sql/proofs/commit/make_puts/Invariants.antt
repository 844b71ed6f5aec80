use Rattle.std.proofs.Common.{◌≡◌, List, take, IsTrue}
use Rattle.sqlite.specs.State.{HasCleanDisk, KeepsCommit, Survives}
use Rattle.sqlite.specs.Held.{state}
use Rattle.bp_core.specs.declared.kept.Row.{Row}
use Rattle.bp_keep.specs.Puts.{put_all}
use Rattle.bp_keep_sql.specs.Keeps.{Keeps}
use Rattle.bp_keep_sql.specs.Asked.{PutsAll}
use Rattle.bp_keep_sql.proofs.commit.make_puts.Given as goal

abbrev pub invariant-loop-put : goal.invariant-loop-put
invariant-loop-put g l =
    let old = state g.S.Store l.initial.transaction.conn.now in
    let now = state g.S.Store l.transaction.conn.now in
    record {
      same : l.transaction.conn.ghost_name ≡ l.initial.transaction.conn.ghost_name;
      survives : Survives old now (λ _. ⊥);
      kept : HasCleanDisk now → KeepsCommit old now;
      inside : HasCleanDisk now → IsTrue old.in_transaction → IsTrue now.in_transaction;
      schema : HasCleanDisk now → now.now.schema ≡ old.now.schema;
      puts : HasCleanDisk now → IsTrue old.in_transaction → PutsAll g.S.Store (take l.put-index l.puts) l.initial.transaction.conn.now l.transaction.conn.now;
      rows : HasCleanDisk now → (rows : List Row) → Keeps old.now rows → Keeps now.now (put_all (take l.put-index l.puts) rows);
    }
