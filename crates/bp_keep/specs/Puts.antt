-- Puts on rows. Rows in ascending order of key, none twice, are the finite map from key to body.
use Rattle.std.specs.Prelude.{ℕ, List, [], ◌∷◌, Option, Some, None}
use Rattle.bp_core.specs.declared.kept.Row.{Row}
use Rattle.bp_core.specs.declared.kept.Put.{Put}
use Rattle.bp_core.specs.Sorted.{put, without, row_key}

-- the row that the key of a put has with this body
abbrev pub row_with : Put → List ℕ → Row
row_with change body = record { kind = change.kind; k1 = change.k1; k2 = change.k2; body = body }

-- the key of a put as one number: that of its row
abbrev pub put_key : Put → ℕ
put_key change = row_key (row_with change [])

-- the row that a put leaves at its key, if it leaves one
abbrev pub row_left : Put → Option (List ℕ) → Option Row
row_left change None = None
row_left change (Some body) = Some (row_with change body)

-- the rows with this row at a key, or with none there
abbrev pub set_row : ℕ → Option Row → List Row → List Row
set_row key None rows = without row_key key rows
set_row key (Some row) rows = put row_key row rows

-- the rows after one put
abbrev pub put_one : Put → List Row → List Row
put_one change rows = set_row (put_key change) (row_left change change.body) rows

-- the rows after these puts in order
abbrev pub put_all : List Put → List Row → List Row
put_all [] rows = rows
put_all (change ∷ changes) rows = put_all changes (put_one change rows)
