-- Rows of documents, on a shelf for each document.
use Rattle.std.specs.Prelude.{ℕ, ◌+◌, ◌-◌, Bool, true, ◌&&◌, nat_lt, List, [], ◌∷◌, ◌++◌, map, slice_index_or, vec_len}
use Rattle.std.specs.Global.{Vec}
use Rattle.std.specs.List.{list_all}
use Rattle.std.specs.Vec.{vec_capacity}
use Rattle.bp_core.specs.Sorted.{ascends}

-- what contracts see of shelves: the rows of all of them, one shelf behind the other, and how many
-- rows each shelf takes without more memory
pub record ShelvesShown (T : Type 0) : Type 0 where
  pub rows : List T
  pub rooms : List ℕ

-- the rows of all shelves
abbrev pub rows_on : {T : Type 0} → List (Vec T) → List T
rows_on [] = []
rows_on (shelf ∷ shelves) = shelf.items ++ rows_on shelves

-- how many rows each shelf takes without more memory
abbrev pub rooms_on : {T : Type 0} → List (Vec T) → List ℕ
rooms_on shelves = map (λ shelf. vec_capacity shelf - vec_len shelf) shelves

-- the room of the shelf of a document; none where it has no shelf
abbrev pub room_of : List ℕ → ℕ → ℕ
room_of rooms doc = slice_index_or rooms doc 0

-- the keys of a shelf rise, from low on, and stay below high
abbrev pub shelf_fits : {T : Type 0} → (T → ℕ) → ℕ → ℕ → List T → Bool
shelf_fits key low high rows = ascends key low rows && list_all (λ row. nat_lt (key row) high) rows

-- each shelf has rows of its own keys, which are as many as `span`; those of the first begin at low
abbrev pub are_shelved : {T : Type 0} → (T → ℕ) → ℕ → ℕ → List (Vec T) → Bool
are_shelved key span low [] = true
are_shelved key span low (shelf ∷ shelves) =
    shelf_fits key low (low + span) shelf.items && are_shelved key span (low + span) shelves
