use Rattle.std.proofs.Common.{◌≡◌, ◌<◌, ◌+◌, ℕ, length}
use Rattle.std.specs.List.{list_any}
use Rattle.std.specs.Option.{option_or}
use Rattle.std.specs.Prelude.{vec_len}
use Rattle.bp_looks.specs.Produced.{id_at, id_if, item_is}
use Rattle.bp_looks.proofs.produced.put_ids.Given as goal

-- what was put, and what the items that are left put
abbrev pub invariant-loop-first : goal.invariant-loop-first
invariant-loop-first l = record {
  many : vec_len l.ids ≡ vec_len l.initial.ids;
  tell : (k : ℕ) → k < vec_len l.initial.ids
      → option_or (id_at l.ids.items k) (id_if (list_any (item_is (l.from.0 + k)) l.rest) l.id)
      ≡ option_or (id_at l.initial.ids.items k) (id_if (list_any (item_is (l.from.0 + k)) l.items) l.id);
}

abbrev pub decreases-loop-first : goal.decreases-loop-first
decreases-loop-first l = length l.rest
