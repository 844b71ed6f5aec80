-- What stands between the separators of a line.
use Rattle.std.specs.Prelude.{ℕ, List, [], ◌==◌, Option, Some, None}
use Rattle.std.specs.List.{slice_split}

-- the fields in what is left of a line; none where nothing is
abbrev pub fields_in : ℕ → Option (List ℕ) → List (List ℕ)
fields_in separator None = []
fields_in separator (Some text) = slice_split (λ c. c == separator) text
