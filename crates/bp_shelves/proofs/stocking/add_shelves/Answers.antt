use Rattle.std.proofs.Common.{◌∙◌}
use Rattle.bp_shelves.proofs.ShelfLemmas.{rows_on-more, shelved-more}
use Rattle.bp_shelves.proofs.stocking.add_shelves.Goals as goal

pub loop-alloc-preserved : goal.loop-alloc-preserved
loop-alloc-preserved g c =
    let old = c.loop-alloc in
    record {
      rows = rw c.in_ok-push.ensures.items
          (rows_on-more old.shelves.items c.new.result c.new.ensures.items ∙ old.invariant.rows);
      shelved = rw c.in_ok-push.ensures.items
          (shelved-more g.T.Keyed.key_of g.T.Shelved.span 0 old.shelves.items c.new.result
          c.new.ensures.items old.invariant.shelved);
    }
