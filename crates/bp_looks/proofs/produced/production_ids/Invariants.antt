use Rattle.std.proofs.Common.{◌≡◌, ◌<◌, ◌+◌, ℕ, length}
use Rattle.std.specs.Option.{option_or}
use Rattle.std.specs.Prelude.{vec_len}
use Rattle.bp_looks.specs.Produced.{id_among, id_at}
use Rattle.bp_looks.proofs.produced.production_ids.Given as goal

-- the ids that were put, and else those of the productions that are left
abbrev pub invariant-loop-first : goal.invariant-loop-first
invariant-loop-first l = record {
  many : vec_len l.ids ≡ l.count;
  tell : (k : ℕ) → k < l.count
      → option_or (id_at l.ids.items k) (id_among l.rest (l.from.0 + k))
      ≡ id_among l.tables.matter.productions (l.from.0 + k);
}

abbrev pub decreases-loop-first : goal.decreases-loop-first
decreases-loop-first l = length l.rest
