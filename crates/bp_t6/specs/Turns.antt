-- A line under way in the reader: the places where its colour turned.
use Rattle.std.specs.Prelude.{ℕ, ◌+◌, ◌<◌, ◌≤◌, List, length, slice_index_or}

-- each is left of the next, and none is right of a place
pub record Turns (places : List ℕ) (at : ℕ) : Type 0 where
  pub strict : (k : ℕ) →
      k + 1 < length places → slice_index_or places k 0 < slice_index_or places (k + 1) 0
  pub until : (k : ℕ) → k < length places → slice_index_or places k 0 ≤ at
