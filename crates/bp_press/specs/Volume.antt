-- The volume of a production: what was decided stands in the production, and of the matter come
-- pages, words and values alone.
use Rattle.std.specs.Prelude.{ℕ, List, [], ◌∷◌, ◌++◌, map, codes, Option}
use Rattle.std.specs.List.{find, flat_map}
use Rattle.std.specs.Str.{bytes_eq}
use Rattle.bp_outside.specs.Folder.{file}
use Rattle.bp_outside.specs.declared.files.FileRow.{FileRow}
use Rattle.bp_matter.specs.LookUps.{of_row}
use Rattle.bp_matter.specs.Matter.{Matter}
use Rattle.bp_matter.specs.declared.rows.Production.{Production}
use Rattle.bp_matter.specs.declared.rows.Request.{Request}
use Rattle.bp_freeze.specs.Log.{log_of}
use Rattle.bp_press.specs.Contents.{ItemShown, part_of}
use Rattle.bp_press.specs.Files.{Placed, item_files, placed}
use Rattle.bp_press.specs.LoadFiles.{dat_bytes, opt_bytes}
use Rattle.bp_press.specs.Manifest.{manifest_of}
use Rattle.bp_press.specs.Paths.{data_path, manifest_path}

-- DAT, OPT and log
abbrev pub dat_file : Production → List Placed → FileRow
dat_file f items = file (data_path f.request (codes ".DAT")) (dat_bytes f items)

-- the OPT file
abbrev pub opt_file : Production → List Placed → FileRow
opt_file f items = file (data_path f.request (codes ".OPT")) (opt_bytes f.request items)

-- the privilege log
abbrev pub log_file : Production → FileRow
log_file f = file (data_path f.request (codes "-LOG.CSV")) (log_of f)

-- the three files of data: DAT, OPT and log
abbrev pub data_files : Production → List Placed → List FileRow
data_files f items = dat_file f items ∷ opt_file f items ∷ log_file f ∷ []

-- the files of all items, and then those
abbrev pub files_before : Production → List Placed → List FileRow
files_before f items = flat_map (item_files f.request) items ++ data_files f items

-- files, and then their manifest
abbrev pub with_manifest : Request → List FileRow → List FileRow
with_manifest q files = files ++ file (manifest_path q) (manifest_of files) ∷ []

-- the files of a production whose items show this
unfoldable pub files_of : Production → List ItemShown → List FileRow
files_of f parts = with_manifest f.request (files_before f (placed 0 parts))

-- what a matter shows of the items of a production
abbrev pub items_shown : Production → Matter → List ItemShown
items_shown f m = map (part_of f m) f.items

-- the same, each part at its place in the volume
abbrev pub placed_items : Production → Matter → List Placed
placed_items f m = placed 0 (items_shown f m)

-- Volume: the files of a production, with what a matter shows of its items
unfoldable pub volume_of : Production → Matter → List FileRow
volume_of f m = files_of f (items_shown f m)

-- the bytes of the file of a path, if there is one
abbrev pub file_at : List ℕ → List FileRow → Option (List ℕ)
file_at path files = of_row (λ row. row.bytes) (find (λ row. bytes_eq row.path path) files)
