-- Comma-separated values (RFC 4180, section 2). A line ends with a newline alone.
use Rattle.std.specs.Prelude.{ℕ, Bool, List, [], ◌∷◌, ◌++◌, map, ◌==◌, ◌||◌, if◌then◌else◌}
use Rattle.std.specs.List.{join_with_byte, list_any}
use Rattle.bp_core.specs.Characters.{comma, newline}

-- the quote of CSV
-- by RFC 4180, 2
abbrev pub quotation_mark : ℕ
quotation_mark = 34

-- each quote twice
-- by RFC 4180, 2
abbrev pub doubled : List ℕ → List ℕ
doubled [] = []
doubled (b ∷ bytes) =
    if b == quotation_mark then quotation_mark ∷ b ∷ doubled bytes else b ∷ doubled bytes

-- it has a comma or a quote
-- by RFC 4180, 2
abbrev pub is_special : List ℕ → Bool
is_special bytes = list_any (λ b. (b == comma) || (b == quotation_mark)) bytes

-- such a value stands between quotes
-- by RFC 4180, 2
abbrev pub csv_value : List ℕ → List ℕ
csv_value bytes =
    if is_special bytes then quotation_mark ∷ (doubled bytes ++ quotation_mark ∷ []) else bytes

-- the values of a line, with a comma between
-- by RFC 4180, 2
abbrev pub csv_line : List (List ℕ) → List ℕ
csv_line values = join_with_byte comma (map csv_value values) ++ newline ∷ []
