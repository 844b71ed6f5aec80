-- The files of the items of a production: of each its images, and then its text.
use Rattle.std.specs.Prelude.{ℕ, ◌+◌, List, [], ◌∷◌, ◌++◌, length, encode_utf8_all}
use Rattle.bp_core.specs.Characters.{solidus}
use Rattle.bp_rows.specs.Image.{Image}
use Rattle.bp_tiff.specs.Tiff.{tiff_of}
use Rattle.bp_tiff.specs.declared.form.Form.TheVariants.{G4}
use Rattle.bp_outside.specs.Folder.{file}
use Rattle.bp_outside.specs.declared.files.FileRow.{FileRow}
use Rattle.bp_matter.specs.declared.rows.Item.{Item}
use Rattle.bp_matter.specs.declared.rows.Request.{Request}
use Rattle.bp_press.specs.Contents.{Content, ItemShown}
use Rattle.bp_press.specs.Paths.{image_path, text_path}

-- a part, and the place of its first image in the volume, where images are counted from 0
pub record Placed : Type 0 where
  pub place : ℕ
  pub item : Item
  pub content : Content

-- parts that follow one another from a place on
abbrev pub placed : ℕ → List ItemShown → List Placed
placed place [] = []
placed place (part ∷ parts) =
    record { place = place; item = part.item; content = part.content }
    ∷ placed (place + length part.content.images) parts

-- the files of images that follow one another from a place and a label number on
abbrev pub image_files : Request → ℕ → ℕ → List Image → List FileRow
image_files q place number [] = []
image_files q place number (image ∷ images) =
    file (image_path solidus q place number) (tiff_of G4 image)
    ∷ image_files q (place + 1) (number + 1) images

-- the file of the text of an item, in UTF-8
abbrev pub text_file : Request → Placed → FileRow
text_file q p =
    file (text_path solidus q p.place p.item.span.first) (encode_utf8_all p.content.text)

-- the files of an item: its images, then its text
abbrev pub item_files : Request → Placed → List FileRow
item_files q p = image_files q p.place p.item.span.first p.content.images ++ text_file q p ∷ []
