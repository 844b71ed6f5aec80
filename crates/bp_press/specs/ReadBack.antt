-- What a reader of page files (TIFF 6.0) finds in the images of a volume.
use Rattle.std.specs.Prelude.{◌≡◌, ◌↔◌, ℕ, ◌+◌, ◌-◌, ◌≤◌, ◌<◌, List, ◌∷◌, ◌++◌, All, Option, Some, None}
use Rattle.bp_core.specs.Characters.{solidus}
use Rattle.bp_core.specs.declared.review.Basis.{Basis}
use Rattle.bp_rows.specs.Image.{Image}
use Rattle.bp_tiff.specs.Read.{TiffReads}
use Rattle.bp_outside.specs.Folder.{file}
use Rattle.bp_outside.specs.declared.files.FileRow.{FileRow}
use Rattle.bp_matter.specs.Matter.{Matter}
use Rattle.bp_matter.specs.declared.rows.Production.{Production}
use Rattle.bp_freeze.specs.Seeing.{page_count}
use Rattle.bp_press.specs.Contents.{ground_of, label_count, produced_page, slip_sheet}
use Rattle.bp_press.specs.Files.{Placed}
use Rattle.bp_press.specs.Paths.{image_path}
use Rattle.bp_press.specs.Volume.{placed_items, volume_of}

-- among the files is one of this path, which is read as this page and as no other
-- by TIFF 6.0
pub record HoldsPage (files : List FileRow) (path : List ℕ) (page : Image) : Type 0 where
  pub before : List FileRow
  pub bytes : List ℕ
  pub after : List FileRow
  pub there : files ≡ before ++ file path bytes ∷ after
  pub reads : (p : Image) → TiffReads bytes p ↔ (p ≡ page)

-- among the files are those of the images of an item: each sheet of one that is withheld on a
-- ground, or each page of one that isn't
-- by TIFF 6.0
abbrev pub HoldsImages : List FileRow → Production → Matter → Placed → Option Basis → Type 0
HoldsImages files f m p (Some basis) =
    (k : ℕ) → k < label_count p.item
    → HoldsPage files (image_path solidus f.request (p.place + k) (p.item.span.first + k))
    (slip_sheet f.request p.item basis k)
HoldsImages files f m p None =
    (page : ℕ) → 1 ≤ page → page ≤ page_count m p.item.doc.0
    → HoldsPage files
    (image_path solidus f.request (p.place + page - 1) (p.item.span.first + page - 1))
    (produced_page f m p.item page)

-- the images of an item are read back as what they were made of
-- by TIFF 6.0
abbrev pub HoldsItem : List FileRow → Production → Matter → Placed → Type 0
HoldsItem files f m p = HoldsImages files f m p (ground_of p.item.treatment)

-- the images of a volume are read as the pages and the sheets that they were made of
-- by TIFF 6.0
abbrev pub IsReadBack : Production → Matter → Type 0
IsReadBack f m = All (HoldsItem (volume_of f m) f m) (placed_items f m)
