-- The table that a DAT file holds.
use Rattle.std.specs.Prelude.{ℕ, Bool, List, length, ◌==◌}
use Rattle.std.specs.List.{list_all}

-- column names, and rows of cells, each text as its characters
pub record Table : Type 0 where
  pub columns : List (List ℕ)
  pub rows : List (List (List ℕ))

-- each row is as long as the columns
abbrev pub is_even : Table → Bool
is_even table = list_all (λ row. length row == length table.columns) table.rows
