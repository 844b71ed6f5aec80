use Rattle.std.proofs.Common.{ltb, rules}
use Rattle.std.proofs.lemmas.Bool.{ltb-true, ltb-false}
use Rattle.std.proofs.lemmas.List.Sorted.{IsPartitionPoint-from_clause, IsPartitionedBy-ltb}
use Rattle.bp_core.proofs.SortedLemmas.{ascends-rises}
use Rattle.bp_core.proofs.sorted.place_of.Goals as goal

pub returns-clause-below : goal.returns-clause-below
returns-clause-below g c =
    let point = IsPartitionPoint-from_clause (λ row. ltb (g.T.Keyed.key_of row) c.args.key) c.args.rows.now c.partition_point.result c.partition_point.ensures.partitioned
    (IsPartitionedBy-ltb g.T.Keyed.key_of c.args.rows.now c.args.key (ascends-rises g.T.Keyed.key_of 0 c.args.rows.now c.requires)) (λ a r f h. search rules) in
    λ k d lo hi. ltb-true _ _ (point.0 k d lo hi)

pub returns-clause-above : goal.returns-clause-above
returns-clause-above g c =
    let point = IsPartitionPoint-from_clause (λ row. ltb (g.T.Keyed.key_of row) c.args.key) c.args.rows.now c.partition_point.result c.partition_point.ensures.partitioned
    (IsPartitionedBy-ltb g.T.Keyed.key_of c.args.rows.now c.args.key (ascends-rises g.T.Keyed.key_of 0 c.args.rows.now c.requires)) (λ a r f h. search rules) in
    λ k d lo hi. ltb-false _ _ (point.1 k d lo hi)
