-- Rows that differ: each has a text, by which it is told apart from the others.
use Rattle.std.specs.List.{list_any}
use Rattle.std.specs.Prelude.{Bool, List, [], not, true, ℕ, ◌&&◌, ◌∷◌}
use Rattle.std.specs.Str.{bytes_eq}

-- no two rows have the same text
abbrev pub all_differ : {T : Type 0} → (T → List ℕ) → List T → Bool
all_differ text [] = true
all_differ text (row ∷ rows) =
    not (list_any (λ other. bytes_eq (text other) (text row)) rows) && all_differ text rows

-- no two texts are alike
abbrev pub texts_differ : List (List ℕ) → Bool
texts_differ texts = all_differ (λ text. text) texts
