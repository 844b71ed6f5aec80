-- The files of a volume as they are given one after another, the manifest last.
use Rattle.std.specs.Prelude.{◌≡◌, ℕ, Bool, true, false, List, [], ◌∷◌, ◌++◌, drop, map, Option, Some, None}
use Rattle.bp_outside.specs.Folder.{file}
use Rattle.bp_outside.specs.declared.files.FileRow.{FileRow}
use Rattle.bp_matter.specs.Matter.{Matter}
use Rattle.bp_matter.specs.declared.rows.Production.{Production}
use Rattle.bp_press.specs.Manifest.{manifest_of}
use Rattle.bp_press.specs.Paths.{manifest_path}
use Rattle.bp_press.specs.VolumeFiles.{file_of_entry}
use Rattle.bp_press.specs.declared.batches.MadeFile.{MadeFile}
use Rattle.bp_press.specs.declared.volume_files.VolumeFile.{VolumeFile}

-- the files of a list from a place on
abbrev pub rows_ahead : Production → Matter → List VolumeFile → ℕ → List FileRow
rows_ahead f m list next = map (file_of_entry f m) (drop next list)

-- what is still to be given: those, and the manifest, which has lines so far and theirs; nothing more
-- when it was given
abbrev pub files_left : Production → Matter → List VolumeFile → ℕ → List ℕ → Bool → List FileRow
files_left f m list next lines true = []
files_left f m list next lines false =
    rows_ahead f m list next
    ++ file (manifest_path f.request) (lines ++ manifest_of (rows_ahead f m list next)) ∷ []

-- the first of the files was given, and the others are left; or there was none
abbrev pub TakesMade : List FileRow → Option MadeFile → List FileRow → Type 0
TakesMade before None after = (before ≡ []) × (after ≡ [])
TakesMade before (Some made) after = before ≡ made.row ∷ after
