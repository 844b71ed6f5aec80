use Rattle.std.proofs.Common.{◌≡◌, ◌≤◌, ◌+◌, ℕ, All, length, slice_index, vec_len}
use Rattle.bp_press.specs.Needs.{IsInFamily}
use Rattle.bp_press.proofs.FamilyLemmas.{last_or}
use Rattle.bp_press.proofs.families.last_numbers.Given as goal

-- the numbers so far, with the items that are left, give those of all items
abbrev pub invariant-loop-item : goal.invariant-loop-item
invariant-loop-item l = record {
  many : vec_len l.numbers ≡ l.documents + 1;
  within : All (IsInFamily l.documents) l.rest;
  tell : (p : ℕ) → p ≤ l.documents → last_or (slice_index l.numbers.items p) p l.rest ≡ last_or 0 p l.items;
}

abbrev pub decreases-loop-item : goal.decreases-loop-item
decreases-loop-item l = length l.rest
