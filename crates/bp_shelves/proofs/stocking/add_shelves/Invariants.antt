use Rattle.std.proofs.Common.{◌≡◌, ◌-◌, vec_len}
use Rattle.std.specs.Prelude.{IsTrue}
use Rattle.bp_shelves.specs.Shelves.{are_shelved, rows_on}
use Rattle.bp_shelves.proofs.stocking.add_shelves.Given as goal

abbrev pub invariant-loop-alloc : goal.invariant-loop-alloc
invariant-loop-alloc g l = record {
  rows : rows_on l.shelves.items ≡ rows_on l.initial.shelves.items;
  shelved : IsTrue (are_shelved g.T.Keyed.key_of g.T.Shelved.span 0 l.shelves.items);
}

abbrev pub decreases-loop-alloc : goal.decreases-loop-alloc
decreases-loop-alloc g l = l.count - vec_len l.shelves
