-- Rows of the table as kept rows. A line of the table is its rowid, kind, k1, k2 and body.
use Rattle.std.specs.Prelude.{ℕ, pos, Bool, true, false, nat_lt, ◌&&◌, List, [], ◌∷◌}
use Rattle.sqlite_value.specs.declared.value.Value.{Value}
use Rattle.sqlite_value.specs.declared.value.Value.TheVariants.{Int, Blob}
use Rattle.sqlite_value.specs.Order.{Row as Line, column, bytes}
use Rattle.sqlite_trees.specs.Objects.{number_in}
use Rattle.bp_core.specs.declared.kept.Row.{Row}
use Rattle.bp_core.specs.Sorted.{put, row_key}

-- the kept row whose kind, numbers and body stand at these places
abbrev pub kept_row_at : ℕ → ℕ → ℕ → ℕ → Line → Row
kept_row_at kind k1 k2 body line = record {
  kind = number_in (column line kind);
  k1 = number_in (column line k1);
  k2 = number_in (column line k2);
  body = bytes (column line body);
}

-- the kept row that a line of the table is
abbrev pub kept_row : Line → Row
kept_row = kept_row_at 1 2 3 4

-- the kept row that a line of the answer is
abbrev pub shown_row : Line → Row
shown_row = kept_row_at 0 1 2 3

-- the kept rows that the lines of the table are, in ascending order of key
abbrev pub kept_rows : List Line → List Row
kept_rows [] = []
kept_rows (line ∷ lines) = put row_key (kept_row line) (kept_rows lines)

-- a number from 0 up to, but without, the limit
abbrev pub is_number_below : ℕ → Value → Bool
is_number_below limit (Int (pos n)) = nat_lt n limit
is_number_below limit _ = false

-- bytes
abbrev pub is_body : Value → Bool
is_body (Blob b) = true
is_body _ = false

-- a line of the answer is a key with a body
abbrev pub is_row : Line → Bool
is_row line =
    is_number_below 256 (column line 0) && is_number_below 4294967296 (column line 1)
    && is_number_below 4294967296 (column line 2) && is_body (column line 3)
