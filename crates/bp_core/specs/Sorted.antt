-- Lists of rows in ascending order of a key that is one number, no key twice.
use Rattle.std.specs.Prelude.{ℕ, ◌+◌, ◌*◌, Bool, true, ◌&&◌, not, nat_le, nat_lt, ◌==◌, List, [], ◌∷◌, if◌then◌else◌, Option}
use Rattle.std.specs.List.{filter, find}
use Rattle.bp_core.specs.declared.kept.Row.{Row}

-- a key of two numbers below 2^32 as one number: the first counts before the second
abbrev pub two_keys : ℕ → ℕ → ℕ
two_keys k1 k2 = k1 * 4294967296 + k2

-- the key of a kept row as one number: its kind, and within a kind its two numbers
abbrev pub row_key : Row → ℕ
row_key row = row.kind * 18446744073709551616 + two_keys row.k1 row.k2

-- the keys rise, from low on
abbrev pub ascends : {T : Type 0} → (T → ℕ) → ℕ → List T → Bool
ascends key low [] = true
ascends key low (row ∷ rows) = nat_le low (key row) && ascends key (key row + 1) rows

-- the row of a key
abbrev pub find_key : {T : Type 0} → (T → ℕ) → ℕ → List T → Option T
find_key key k rows = find (λ row. key row == k) rows

-- the key is at least the first number and below the second
abbrev pub is_between : {T : Type 0} → (T → ℕ) → ℕ → ℕ → T → Bool
is_between key low high row = nat_le low (key row) && nat_lt (key row) high

-- the list with this row, in place of a row of its key
abbrev pub put : {T : Type 0} → (T → ℕ) → T → List T → List T
put key row [] = row ∷ []
put key row (first ∷ rows) =
    if nat_lt (key row) (key first) then row ∷ (first ∷ rows)
    else (if key row == key first then row ∷ rows else first ∷ put key row rows)

-- the list without the row of a key
abbrev pub without : {T : Type 0} → (T → ℕ) → ℕ → List T → List T
without key k rows = filter (λ row. not (key row == k)) rows
