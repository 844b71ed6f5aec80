-- The pages of a valid matter.
use Rattle.std.specs.List.{list_all}
use Rattle.std.specs.Prelude.{Bool, IsTrue, List, None, Option, Some, [], drop, false, length, nat_le, suc, true, zero, ℕ, ◌&&◌, ◌||◌, ◌*◌, ◌+◌, ◌==◌, ◌∷◌}
use Rattle.bp_core.specs.Rectangle.{lies_inside}
use Rattle.bp_core.specs.Sorted.{ascends, find_key, two_keys}
use Rattle.bp_rows.specs.Image.{Image}
use Rattle.bp_rows.specs.Limits.{sides_are_imported}
use Rattle.bp_core.specs.declared.rectangle.Rect.{Rect}
use Rattle.bp_t6.specs.Written.{bits_strip}
use Rattle.bp_matter.specs.Written.{page_written}
use Rattle.bp_matter.specs.Matter.{page_key}
use Rattle.bp_matter.specs.declared.rows.DocRow.{DocRow}
use Rattle.bp_matter.specs.declared.rows.PageRow.{PageRow}
use Rattle.bp_matter.specs.declared.limits.TheConstants.{MAX_FREE_PIXELS, MAX_PAGES, MAX_PIXELS, MAX_STRIP_BYTES}

-- the next n rows have the keys from k on
abbrev pub has_rows : {T : Type 0} → (T → ℕ) → ℕ → ℕ → List T → Bool
has_rows key zero k rows = true
has_rows key (suc n) k [] = false
has_rows key (suc n) k (row ∷ rows) = (key row == k) && has_rows key n (k + 1) rows

-- one row for each page 1 to `pages` of each document, in order, and no other
abbrev pub are_paged : {T : Type 0} → (T → ℕ) → List DocRow → List T → Bool
are_paged key [] rows = length rows == 0
are_paged key (doc ∷ docs) rows =
    has_rows key doc.pages (two_keys doc.doc.0 1) rows && are_paged key docs (drop doc.pages rows)

-- the pixels of all pages
abbrev pub pixels_of : List PageRow → ℕ
pixels_of [] = 0
pixels_of (row ∷ rows) = row.image.width * row.image.height + pixels_of rows

-- how many bytes the strip of a page has
abbrev pub strip_size : Image → ℕ
strip_size p = length (bits_strip p)

-- the bytes of the strips of all pages
abbrev pub strip_bytes_of : List PageRow → ℕ
strip_bytes_of [] = 0
strip_bytes_of (row ∷ rows) = strip_size row.image + strip_bytes_of rows

-- so many pixels may have strips of so many bytes
abbrev pub strips_fit : ℕ → ℕ → Bool
strips_fit pixels bytes = nat_le pixels MAX_FREE_PIXELS || nat_le bytes MAX_STRIP_BYTES

-- the sides of a page that comes in
abbrev pub page_fits : PageRow → Bool
page_fits row = sides_are_imported row.image.width row.image.height

-- it lies in that page, and there is one
abbrev pub inside_page : Option PageRow → Rect → Bool
inside_page None rect = false
inside_page (Some row) rect = lies_inside rect row.image.width row.image.height

-- the page of a document
abbrev pub page_in : List PageRow → ℕ → ℕ → Option PageRow
page_in pages doc page = find_key page_key (two_keys doc page) pages

-- the pages of a matter with these documents
pub record PageFacts (docs : List DocRow) (pages : List PageRow) : Type 0 where
  pub ascend : IsTrue (ascends page_key 0 pages)
  pub paged : IsTrue (are_paged page_key docs pages)
  pub few : IsTrue (nat_le (length pages) MAX_PAGES)
  pub pixels_few : IsTrue (nat_le (pixels_of pages) MAX_PIXELS)
  pub strips_few : IsTrue (strips_fit (pixels_of pages) (strip_bytes_of pages))
  pub fit : IsTrue (list_all page_fits pages)
  pub written : IsTrue (list_all page_written pages)
