-- Where files are written to.
use Rattle.std.specs.Prelude.{◌≡◌, ℕ, ◌<◌, ◌≤◌, Bool, true, false, List, [], ◌∷◌, ◌++◌, length, take, Option, Result, Ok, Err}
use Rattle.std.specs.Option.{option_map}
use Rattle.bp_outside.specs.Counts.{risen}
use Rattle.bp_outside.specs.declared.files.FileRow.{FileRow}
use Rattle.bp_outside.specs.declared.refusals.FolderRefusal.{FolderRefusal}
use Rattle.bp_outside.specs.declared.refusals.FolderRefusal.TheVariants.{Failed, OutOfMemory}

-- what is known of a folder: its files in order of creation, if they are told; whether the last of
-- them is under way; how often a call failed; and whether it is sure, one that can't fail
pub record FolderView : Type 0 where
  pub files : Option (List FileRow)
  pub under_way : Bool
  pub faults : ℕ
  pub sure : Bool

-- a file
abbrev pub file : List ℕ → List ℕ → FileRow
file path bytes = record { path = path; bytes = bytes }

-- the folder with one more file at its end, which is under way or not
abbrev pub with_file : FolderView → List ℕ → List ℕ → Bool → FolderView
with_file folder path bytes under_way =
    record folder {
      files = option_map (λ files. files ++ file path bytes ∷ []) folder.files;
      under_way = under_way;
    }

-- the files with these bytes added to the last of them
abbrev pub add_to_last : List ℕ → List FileRow → List FileRow
add_to_last bytes [] = []
add_to_last bytes (row ∷ []) = record row { bytes = row.bytes ++ bytes } ∷ []
add_to_last bytes (row ∷ next ∷ rows) = row ∷ add_to_last bytes (next ∷ rows)

-- the folder with these bytes added to its last file
abbrev pub with_bytes : FolderView → List ℕ → FolderView
with_bytes folder bytes = record folder { files = option_map (add_to_last bytes) folder.files }

-- the folder after a refusal: as it was, but for the count of faults
abbrev pub after_refusal : FolderView → FolderRefusal → FolderView
after_refusal folder Failed = record folder { faults = risen folder.faults }
after_refusal folder OutOfMemory = folder

-- the folder after a call that was to begin a file
abbrev pub after_create : FolderView → List ℕ → Result (Unit {0}) FolderRefusal → FolderView
after_create folder path (Ok _) = with_file folder path [] true
after_create folder path (Err refusal) = after_refusal folder refusal

-- the folder after a call that was to end the file under way
abbrev pub after_finish : FolderView → Result (Unit {0}) FolderRefusal → FolderView
after_finish folder (Ok _) = record folder { under_way = false }
after_finish folder (Err refusal) = after_refusal folder refusal

-- the first so many bytes of a piece were added: at most the piece, and at least one byte where it
-- has one
pub record AddsFirst (folder : FolderView) (piece : List ℕ) (count : ℕ) (after : FolderView)
    : Type 0 where
  pub within : count ≤ length piece
  pub some : 0 < length piece → 0 < count
  pub added : after ≡ with_bytes folder (take count piece)

-- some prefix of a piece was added
pub record AddsPrefix (folder : FolderView) (piece : List ℕ) (after : FolderView) : Type 0 where
  pub count : ℕ
  pub added : after ≡ with_bytes folder (take count piece)

-- what a call that was to add a piece to the file under way leaves
abbrev pub Appends : FolderView → List ℕ → Result ℕ FolderRefusal → FolderView → Type 0
Appends folder piece (Ok count) after = AddsFirst folder piece count after
Appends folder piece (Err refusal) after = AddsPrefix (after_refusal folder refusal) piece after

-- what a call that was to add a whole piece to the file under way leaves
abbrev pub AppendsAll : FolderView → List ℕ → Result (Unit {0}) FolderRefusal → FolderView → Type 0
AppendsAll folder piece (Ok _) after = after ≡ with_bytes folder piece
AppendsAll folder piece (Err refusal) after = AddsPrefix (after_refusal folder refusal) piece after

-- what is left where a whole file was to be put and was refused: nothing of it, or the file with
-- some prefix of its bytes, still under way
pub data PutsPart (folder : FolderView) (path bytes : List ℕ) (after : FolderView) : Type 0 where
  nothing : after ≡ folder → PutsPart folder path bytes after
  prefix : (count : ℕ)
      → after ≡ with_file folder path (take count bytes) true
      → PutsPart folder path bytes after

-- what a call that was to put a whole file leaves. With Ok no file is under way
abbrev pub PutsFile : FolderView → List ℕ → List ℕ
    → Result (Unit {0}) FolderRefusal → FolderView → Type 0
PutsFile folder path bytes (Ok _) after = after ≡ with_file folder path bytes false
PutsFile folder path bytes (Err refusal) after =
    PutsPart (after_refusal folder refusal) path bytes after
