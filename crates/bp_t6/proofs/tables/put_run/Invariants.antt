use Rattle.std.proofs.Common.{◌≡◌, ◌++◌, ◌+◌, replicate}
use Rattle.std.specs.List.{flat_map}
use Rattle.bp_t6.specs.Modes.{code}
use Rattle.bp_t6.proofs.tables.put_run.Given as goal

abbrev pub invariant-loop : goal.invariant-loop
invariant-loop l = l.out ≡ l.initial.out ++ flat_map (λ n. code l.codes (63 + n)) (replicate l.counter 40)
