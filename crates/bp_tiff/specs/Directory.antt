-- The header and the directory of a file (TIFF 6.0, section 2).
use Rattle.std.specs.Prelude.{ℕ, zero, suc, true, false, ◌+◌, ◌*◌, ◌≤◌, Option, Some, None, Result, Ok, List, length, ◌==◌, nat_le, take, codes, if◌then◌else◌}
use Rattle.std.specs.Option.{ok_or}
use Rattle.std.specs.Str.{bytes_eq}
use Rattle.bp_core.specs.declared.rules.Rule.{Rule}
use Rattle.bp_tiff.specs.declared.numbers.ByteOrder.{ByteOrder}
use Rattle.bp_tiff.specs.declared.numbers.ByteOrder.TheVariants.{Little, Big}
use Rattle.bp_tiff.specs.declared.directory.Directory.{Directory}
use Rattle.bp_tiff.specs.declared.directory.FoundEntry.{FoundEntry}
use Rattle.bp_tiff.specs.declared.places.TheConstants.{HEADER_BYTES, MAGIC, ENTRY_BYTES}
use Rattle.bp_tiff.specs.Numbers.{short_at, long_at}
use Rattle.bp_tiff.specs.Rules.{◌>>=◌, require, tiff_head, tiff_bounds, many_pages}

-- section 2, Image File Header: a file begins with its byte order
-- by TIFF 6.0, section 2, Image File Header, Image File Directory
abbrev pub order_of : List ℕ → Option ByteOrder
order_of bytes =
    if bytes_eq (take 2 bytes) (codes "II") then Some Little
    else (if bytes_eq (take 2 bytes) (codes "MM") then Some Big
    else None)

-- then come 42 and the place of the directory; section 2, Image File Directory: a count, the
-- entries, and the place of the next directory, which is to be none
-- by TIFF 6.0, section 2, Image File Header, Image File Directory
unfoldable pub directory_in : List ℕ → ByteOrder → Result Directory Rule
directory_in bytes order = do
  _ ← require (short_at order bytes 2 == MAGIC) tiff_head
  let at = long_at order bytes 4
  _ ← require (nat_le (at + 2) (length bytes)) (tiff_bounds 0)
  let count = short_at order bytes at
  let end = at + 2 + ENTRY_BYTES * count
  _ ← require (nat_le (end + 4) (length bytes)) (tiff_bounds 0)
  _ ← require (long_at order bytes end == 0) many_pages
  Ok (record { order = order; first = at + 2; count = count })

-- the header and the directory that it names, or the first rule
-- by TIFF 6.0, section 2, Image File Header, Image File Directory
abbrev pub directory_of : List ℕ → Result Directory Rule
directory_of bytes = do
  _ ← require (nat_le HEADER_BYTES (length bytes)) tiff_head
  order ← ok_or (order_of bytes) tiff_head
  directory_in bytes order

-- it stands in the file
abbrev pub IsIn : List ℕ → Directory → Type 0
IsIn bytes d = d.first + ENTRY_BYTES * d.count + 4 ≤ length bytes

-- section 2, IFD Entry: its tag, the type and the count of its values, and four bytes that are the
-- values or say where they stand
-- by TIFF 6.0, section 2, IFD Entry
abbrev pub directory_entry : ByteOrder → List ℕ → ℕ → FoundEntry
directory_entry order bytes at = record {
  kind = short_at order bytes (at + 2);
  count = long_at order bytes (at + 4);
  place = at + 8;
}

-- the first entry of a tag counts
abbrev pub first_from : ByteOrder → List ℕ → ℕ → ℕ → ℕ → Option FoundEntry
first_from order bytes tag zero at = None
first_from order bytes tag (suc left) at = elim (short_at order bytes at == tag) [
  | true ↦ Some (directory_entry order bytes at)
  | false ↦ first_from order bytes tag left (at + ENTRY_BYTES)
]

-- the first entry of a tag, if there is one
-- by TIFF 6.0, section 2, IFD Entry
unfoldable pub entry_of_tag : List ℕ → Directory → ℕ → Option FoundEntry
entry_of_tag bytes d tag = first_from d.order bytes tag d.count d.first
