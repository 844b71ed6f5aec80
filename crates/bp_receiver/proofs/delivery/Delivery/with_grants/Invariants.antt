use Rattle.std.proofs.Common.{◌≡◌, ◌+◌, [], length}
use Rattle.bp_receiver.specs.Granting.{grant_each}
use Rattle.bp_receiver.proofs.delivery.Delivery.with_grants.Given as goal

-- the grants that stand and those that are left come to what all come to
abbrev pub invariant-loop-grant : goal.invariant-loop-grant
invariant-loop-grant l = record {
  counted : l.number + length l.rest ≡ length l.fn.grants;
  matter : l.desk.matter ≡ l.fn.tables.matter;
  told : grant_each l.fn.tables.matter l.desk.grants (l.number + 1) l.rest ≡ grant_each l.fn.tables.matter [] 1 l.fn.grants;
}

abbrev pub decreases-loop-grant : goal.decreases-loop-grant
decreases-loop-grant l = length l.rest
