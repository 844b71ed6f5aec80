-- What pressing a volume tells.
use Rattle.std.specs.Prelude.{ℕ, List, [], ◌∷◌, length}
use Rattle.sha2.specs.Sha256.{sha256}
use Rattle.bp_outside.specs.declared.files.FileRow.{FileRow}
use Rattle.bp_outside.specs.declared.refusals.FolderRefusal.{FolderRefusal}
use Rattle.bp_outside.specs.declared.refusals.FolderRefusal.TheVariants as folder
use Rattle.bp_press.specs.declared.pressing.Pressed.{Pressed}
use Rattle.bp_press.specs.declared.pressing.PressRefusal.{PressRefusal}
use Rattle.bp_press.specs.declared.pressing.PressRefusal.TheVariants.{FolderFault, OutOfMemory}

-- the bytes of the last of some files
abbrev pub last_bytes : List FileRow → List ℕ
last_bytes [] = []
last_bytes (row ∷ []) = row.bytes
last_bytes (row ∷ next ∷ rows) = last_bytes (next ∷ rows)

-- how many files a volume has, and the SHA-256 (FIPS 180-4) of the last one, its manifest
-- by FIPS 180-4
abbrev pub pressed_of : List FileRow → Pressed
pressed_of files = record { files = length files; manifest = sha256 (last_bytes files) }

-- what the folder refused
abbrev pub folder_refusal_of : PressRefusal → FolderRefusal
folder_refusal_of FolderFault = folder.Failed
folder_refusal_of OutOfMemory = folder.OutOfMemory
