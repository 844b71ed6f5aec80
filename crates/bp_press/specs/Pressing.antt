-- The files of items, one by one, and what writing them needs.
use Rattle.std.specs.Prelude.{ℕ, ◌+◌, ◌-◌, ◌^◌, ◌≤◌, ◌<◌, IsTrue, List, [], ◌∷◌, length, map, Option, Some, None}
use Rattle.std.specs.List.{flat_map, range_with_len}
use Rattle.bp_core.specs.Characters.{solidus}
use Rattle.bp_core.specs.declared.review.Basis.{Basis}
use Rattle.bp_rows.specs.Limits.{sides_are_imported}
use Rattle.bp_bates.specs.Prefixes.{is_good_prefix}
use Rattle.bp_bates.specs.Spans.{largest_of}
use Rattle.bp_burn.specs.Drawn.{has_glyphs}
use Rattle.bp_tiff.specs.Tiff.{tiff_of}
use Rattle.bp_tiff.specs.declared.form.Form.TheVariants.{G4}
use Rattle.bp_outside.specs.Folder.{file}
use Rattle.bp_outside.specs.declared.files.FileRow.{FileRow}
use Rattle.bp_matter.specs.Matter.{Matter}
use Rattle.bp_matter.specs.declared.rows.Item.{Item}
use Rattle.bp_matter.specs.declared.rows.Production.{Production}
use Rattle.bp_matter.specs.declared.rows.Request.{Request}
use Rattle.bp_freeze.specs.Log.{label_in}
use Rattle.bp_freeze.specs.Seeing.{page_count}
use Rattle.bp_press.specs.Contents.{ground_of, page_image, label_count, part_of, produced_page, slip_sheet}
use Rattle.bp_press.specs.Files.{Placed, image_files, item_files, placed}
use Rattle.bp_press.specs.Paths.{image_path}

-- the file of an image of an item that isn't withheld, counted from 0
abbrev pub image_at : Production → Matter → Item → ℕ → ℕ → FileRow
image_at f m i place k =
    file (image_path solidus f.request (place + k) (i.span.first + k))
    (tiff_of G4 (produced_page f m i (k + 1)))

-- the files of its images but the first so many
abbrev pub images_after : Production → Matter → Item → ℕ → ℕ → List FileRow
images_after f m i place k =
    image_files f.request (place + k) (i.span.first + k)
    (map (produced_page f m i) (range_with_len (k + 1) (page_count m i.doc.0 - k)))

-- the file of a sheet of an item that is withheld, counted from 0
abbrev pub sheet_at : Request → Item → Basis → ℕ → ℕ → FileRow
sheet_at q i basis place k =
    file (image_path solidus q (place + k) (i.span.first + k))
    (tiff_of G4 (slip_sheet q i basis k))

-- the files of its sheets but the first so many
abbrev pub sheets_after : Request → Item → Basis → ℕ → ℕ → List FileRow
sheets_after q i basis place k =
    image_files q (place + k) (i.span.first + k)
    (map (slip_sheet q i basis) (range_with_len k (label_count i - k)))

-- an item at a place of the volume, with what a matter shows of it
abbrev pub placed_at : Production → Matter → Item → ℕ → Placed
placed_at f m i place =
    let part = part_of f m i in
    record { place = place; item = part.item; content = part.content }

-- so many labels from a number on are of the width, and drawn with the glyphs that there are
pub record AreLabels (q : Request) (first count : ℕ) : Type 0 where
  pub prefix : IsTrue (is_good_prefix q.prefix.text q.prefix.width)
  pub from : 1 ≤ first
  pub to : first + count ≤ largest_of q.prefix.width + 1
  pub drawn : (k : ℕ) → k < count → IsTrue (has_glyphs (label_in q.prefix (first + k)))

-- the pages of a document came in
abbrev pub AreScans : Matter → ℕ → Type 0
AreScans m doc =
    (page : ℕ) → 1 ≤ page → page ≤ page_count m doc
    → IsTrue (sides_are_imported (page_image m doc page).width (page_image m doc page).height)

-- how many images an item has
abbrev pub count_by : Matter → Item → Option Basis → ℕ
count_by m i None = page_count m i.doc.0
count_by m i (Some basis) = label_count i

-- its labels can be counted
pub record HasFewLabels (i : Item) : Type 0 where
  pub last : i.span.last + 1 < 2 ^ 64
  pub few : label_count i < 2 ^ 32

-- the sheets of an item can be counted, if it is withheld
abbrev pub AreSheetsFew : Item → Option Basis → Type 0
AreSheetsFew i None = Unit {0}
AreSheetsFew i (Some basis) = HasFewLabels i

-- what the files of an item need
pub record CanBePlaced (q : Request) (m : Matter) (i : Item) : Type 0 where
  pub doc : 1 ≤ i.doc.0
  pub there : i.doc.0 ≤ length m.docs
  pub labels : AreLabels q i.span.first (count_by m i (ground_of i.treatment))
  pub some : 1 ≤ count_by m i (ground_of i.treatment)
  pub sheets : AreSheetsFew i (ground_of i.treatment)
  pub designation : IsTrue (has_glyphs i.designation)
  pub scans : AreScans m i.doc.0

-- the files of the images of an item
abbrev pub images_in : Request → Placed → List FileRow
images_in q p = image_files q p.place p.item.span.first p.content.images

-- what the files of items need that follow one another from a place on
abbrev pub CanAllBePlaced : Production → Matter → ℕ → List Item → Type 0
CanAllBePlaced f m place [] = Unit {0}
CanAllBePlaced f m place (i ∷ items) =
    CanBePlaced f.request m i × ((place + 2 ^ 32 < 2 ^ 64)
    × CanAllBePlaced f m (place + length (part_of f m i).content.images) items)

-- the files of items that follow one another from a place on
abbrev pub files_from : Production → Matter → ℕ → List Item → List FileRow
files_from f m place items = flat_map (item_files f.request) (placed place (map (part_of f m) items))

-- how many images items have
abbrev pub image_total : Production → Matter → List Item → ℕ
image_total f m [] = 0
image_total f m (i ∷ items) = length (part_of f m i).content.images + image_total f m items
