-- The tree of a keeper in memory: a slot at the key of each row, filled by the row, or empty.
use Rattle.std.specs.Prelude.{ℕ, ◌+◌, ◌==◌, Bool, true, ◌&&◌, nat_le, is_some, List, [], ◌∷◌, Option, Some, None}
use Rattle.std.specs.Ordering.{nat_cmp}
use Rattle.std.specs.Map.{lookup}
use Rattle.std.specs.BTreeMap.{is_at}
use Rattle.bp_core.specs.declared.kept.Row.{Row}
use Rattle.bp_core.specs.Sorted.{row_key}

-- a filled slot has the row of its key
abbrev pub fits_slot : ℕ → Option Row → Bool
fits_slot key None = true
fits_slot key (Some row) = row_key row == key

-- the keys of the slots rise, from low on, and each filled slot has the row of its key
abbrev pub in_order : ℕ → List (ℕ × Option Row) → Bool
in_order low [] = true
in_order low (slot ∷ slots) =
    nat_le low slot.0 && (fits_slot slot.0 slot.1 && in_order (slot.0 + 1) slots)

-- the row of a slot before these, if it is filled
abbrev pub row_before : Option Row → List Row → List Row
row_before None rows = rows
row_before (Some row) rows = row ∷ rows

-- the rows of the filled slots
abbrev pub held : List (ℕ × Option Row) → List Row
held [] = []
held (slot ∷ slots) = row_before slot.1 (held slots)

-- there is a slot at this key
abbrev pub has_slot : List (ℕ × Option Row) → ℕ → Bool
has_slot slots key = is_some (lookup (is_at (nat_cmp key)) slots)
