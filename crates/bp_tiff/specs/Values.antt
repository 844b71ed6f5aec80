-- The values of a tag (TIFF 6.0, section 2, IFD Entry).
use Rattle.std.specs.Prelude.{ℕ, ◌+◌, ◌*◌, ◌≤◌, Bool, Option, Some, None, Result, Ok, Err, List, length, ◌==◌, ◌&&◌, ◌||◌, nat_le, if◌then◌else◌}
use Rattle.std.specs.Option.{ok_or}
use Rattle.std.specs.List.{list_any}
use Rattle.bp_core.specs.declared.rules.Rule.{Rule}
use Rattle.bp_rows.specs.declared.resolution.Res.{Res}
use Rattle.bp_tiff.specs.declared.directory.Directory.{Directory}
use Rattle.bp_tiff.specs.declared.directory.FoundEntry.{FoundEntry}
use Rattle.bp_tiff.specs.declared.tags.TheConstants as tags
use Rattle.bp_tiff.specs.declared.values.Values.{Values}
use Rattle.bp_tiff.specs.Directory.{entry_of_tag}
use Rattle.bp_tiff.specs.Numbers.{short_at, long_at}
use Rattle.bp_tiff.specs.Rules.{◌>>=◌, require, tiff_bounds, tiff_missing, tiff_type, tiff_meaning, tiff_strips}

-- ---- one value

-- section 2, Types: one of a number
abbrev pub is_one_number : ℕ → Bool
is_one_number kind = kind == tags.SHORT || kind == tags.LONG

-- the one value of an entry, which stands in the entry
-- by TIFF 6.0, section 2, IFD Entry
abbrev pub number_in_entry : List ℕ → Directory → ℕ → FoundEntry → Result ℕ Rule
number_in_entry bytes d tag e = do
  _ ← require (is_one_number e.kind && e.count == 1) (tiff_type tag)
  Ok (if e.kind == tags.LONG then long_at d.order bytes e.place else short_at d.order bytes e.place)

-- the value of a tag; where there is no entry of it, the one that is given for this
-- by TIFF 6.0, section 2, IFD Entry
unfoldable pub number_of_tag : List ℕ → Directory → ℕ → Option ℕ → Result ℕ Rule
number_of_tag bytes d tag missing = elim (entry_of_tag bytes d tag) [
  | None ↦ ok_or missing (tiff_missing tag)
  | Some e ↦ number_in_entry bytes d tag e
]

-- the same, one of some values
-- by TIFF 6.0, section 2, IFD Entry
unfoldable pub number_among : List ℕ → Directory → ℕ → Option ℕ → List ℕ → Result ℕ Rule
number_among bytes d tag missing allowed = do
  value ← number_of_tag bytes d tag missing
  _ ← require (list_any (λ v. v == value) allowed) (tiff_meaning tag)
  Ok value

-- ---- a value for each strip

-- the bytes of a SHORT or a LONG
-- by TIFF 6.0, section 2, IFD Entry
abbrev pub value_size : Bool → ℕ
value_size are_long = if are_long then 4 else 2

-- in the entry where they fit its four bytes, else where it says
-- by TIFF 6.0, section 2, IFD Entry
abbrev pub values_in : List ℕ → Directory → ℕ → ℕ → FoundEntry → Result Values Rule
values_in bytes d tag strips e = do
  _ ← require (is_one_number e.kind) (tiff_type tag)
  _ ← require (e.count == strips) tiff_strips
  let size = value_size (e.kind == tags.LONG) * e.count
  let start = if nat_le size 4 then e.place else long_at d.order bytes e.place
  _ ← require (nat_le (start + size) (length bytes)) (tiff_bounds tag)
  Ok (record { are_long = e.kind == tags.LONG; place = start })

-- the values of the strips of a tag, or the first rule
-- by TIFF 6.0, section 2, IFD Entry
unfoldable pub values_of_tag : List ℕ → Directory → ℕ → ℕ → Result Values Rule
values_of_tag bytes d tag strips = elim (entry_of_tag bytes d tag) [
  | None ↦ Err (tiff_missing tag)
  | Some e ↦ values_in bytes d tag strips e
]

-- so many of them stand in the file
-- by TIFF 6.0, section 2, IFD Entry
abbrev pub HasValues : List ℕ → Values → ℕ → Type 0
HasValues bytes v n = v.place + value_size v.are_long * n ≤ length bytes

-- value k of these, counted from 0
-- by TIFF 6.0, section 2, IFD Entry
abbrev pub nth_value : List ℕ → Directory → Values → ℕ → ℕ
nth_value bytes d v k =
    if v.are_long then long_at d.order bytes (v.place + 4 * k)
    else short_at d.order bytes (v.place + 2 * k)

-- ---- a resolution

-- the resolution where a file tells none
abbrev pub two_hundred : Res
two_hundred = record { num = 200; den = 1 }

-- section 2, RATIONAL: one of them
-- by TIFF 6.0, section 2, RATIONAL
abbrev pub resolution_in : List ℕ → Directory → ℕ → FoundEntry → Result Res Rule
resolution_in bytes d tag e = do
  _ ← require (e.kind == tags.RATIONAL && e.count == 1) (tiff_type tag)
  let start = long_at d.order bytes e.place
  _ ← require (nat_le (start + 8) (length bytes)) (tiff_bounds tag)
  Ok (record { num = long_at d.order bytes start; den = long_at d.order bytes (start + 4) })

-- or 200/1
-- by TIFF 6.0, section 2, RATIONAL
unfoldable pub resolution_of : List ℕ → Directory → ℕ → Result Res Rule
resolution_of bytes d tag = elim (entry_of_tag bytes d tag) [
  | None ↦ Ok two_hundred
  | Some e ↦ resolution_in bytes d tag e
]
