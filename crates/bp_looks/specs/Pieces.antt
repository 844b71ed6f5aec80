-- The texts that a field's value is cut into.
use Rattle.std.specs.Prelude.{ℕ, Bool, ◌==◌, List, filter, length, not}
use Rattle.std.specs.List.{slice_split}
use Rattle.bp_core.specs.Characters.{space}

-- a text that has a character
abbrev pub is_some_text : List ℕ → Bool
is_some_text text = not (length text == 0)

-- the texts of a value, cut at every space, without empty ones
abbrev pub pieces_of : List ℕ → List (List ℕ)
pieces_of value = filter is_some_text (slice_split (λ c. c == space) value)
