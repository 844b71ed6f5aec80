-- What the steps of burn leave, one behind the other.
use Rattle.std.specs.Prelude.{ℕ, ◌≡◌, false, List, length, Option, Some, None, Result, Ok, Err}
use Rattle.std.specs.Prelude.{IfSome}
use Rattle.std.specs.FinMap as map
use Rattle.bp_core.specs.declared.rules.Rule.{Rule}
use Rattle.bp_outside.specs.Folder.{FolderView, PutsPart, with_file}
use Rattle.bp_outside.specs.Source.{FileMap, SourceView}
use Rattle.bp_rows.specs.Image.{Image}
use Rattle.bp_tiff.specs.Read.{TiffAnswers}
use Rattle.bp_cli.specs.declared.burn.BurnPaths.{BurnPaths as Paths}
use Rattle.bp_import.specs.Importing.{after_kind}
use Rattle.bp_cli.specs.declared.stops.Stop.{Stop}
use Rattle.bp_cli.specs.declared.stops.Stop.TheVariants as stops
use Rattle.bp_cli.specs.Burn.{BurnLine, BurnPaths, burn_paths, path_refused, counted_line}
use Rattle.bp_cli.specs.Burn.{PathAnswers}
use Rattle.bp_cli.specs.Endings.{Ending, failed_folder, failed_source}

-- the paths as contracts see them
abbrev pub paths_seen : Paths → BurnPaths
paths_seen paths = record { from = paths.from; to = paths.to }

-- the path that a word names, or the rule where it names none
abbrev pub NamesPath : Option (List ℕ) → Result (List ℕ) Stop → Type 0
NamesPath named (Ok path) = named ≡ Some path
NamesPath named (Err (stops.Broken rule)) = (named ≡ None) × (rule ≡ path_refused)
NamesPath named (Err stops.OutOfMemory) = Unit {0}
NamesPath named (Err stops.WordsRefused) = ⊥
NamesPath named (Err stops.SourceFault) = ⊥
NamesPath named (Err stops.FolderFault) = ⊥
NamesPath named (Err stops.KeeperFault) = ⊥

-- the paths of the line, or the rule where a word names none
abbrev pub NamesPaths : BurnLine → Result Paths Stop → Type 0
NamesPaths b (Ok paths) = burn_paths b ≡ Some (paths_seen paths)
NamesPaths b (Err (stops.Broken rule)) = (burn_paths b ≡ None) × (rule ≡ path_refused)
NamesPaths b (Err stops.OutOfMemory) = Unit {0}
NamesPaths b (Err stops.WordsRefused) = ⊥
NamesPaths b (Err stops.SourceFault) = ⊥
NamesPaths b (Err stops.FolderFault) = ⊥
NamesPaths b (Err stops.KeeperFault) = ⊥

-- what stands at a path, told or not, answers so
pub record AnswersAt (from : List ℕ) (told : Option FileMap) (answer : Result Image Rule)
    : Type 0 where
  pub found : Option (List ℕ)
  pub there : IfSome told (λ files. map.get files from ≡ found)
  pub answers : PathAnswers found answer

-- the page at a path was read; or the rule was met that reading it breaks
abbrev pub ReadsPageAt : List ℕ → SourceView → Result Image Stop → SourceView → Type 0
ReadsPageAt from source (Ok p) source' =
    AnswersAt from source.files (Ok p) × (source' ≡ source)
ReadsPageAt from source (Err (stops.Broken rule)) source' =
    AnswersAt from source.files (Err rule) × (source' ≡ after_kind source rule.kind)
ReadsPageAt from source (Err stops.SourceFault) source' = source' ≡ failed_source source
ReadsPageAt from source (Err stops.OutOfMemory) source' = source' ≡ source
ReadsPageAt from source (Err stops.WordsRefused) source' = ⊥
ReadsPageAt from source (Err stops.FolderFault) source' = ⊥
ReadsPageAt from source (Err stops.KeeperFault) source' = ⊥

-- a file breaks this rule, which raises no count
pub record BreaksRule (bytes : List ℕ) (rule : Rule) : Type 0 where
  pub answers : TiffAnswers bytes (Err rule)
  pub calm : (source : SourceView) → after_kind source rule.kind ≡ source

-- the page of the bytes, or the rule that they break
abbrev pub AnswersPage : List ℕ → Result Image Stop → Type 0
AnswersPage bytes (Ok p) = TiffAnswers bytes (Ok p)
AnswersPage bytes (Err (stops.Broken rule)) = BreaksRule bytes rule
AnswersPage bytes (Err stops.OutOfMemory) = Unit {0}
AnswersPage bytes (Err stops.WordsRefused) = ⊥
AnswersPage bytes (Err stops.SourceFault) = ⊥
AnswersPage bytes (Err stops.FolderFault) = ⊥
AnswersPage bytes (Err stops.KeeperFault) = ⊥

-- a file was put at a path and its line made, or a part of it was put, with the fault counted
abbrev pub PutsPage : List ℕ → List ℕ → FolderView → Ending → FolderView → Type 0
PutsPage to bytes folder (Ok line) after =
    (line ≡ counted_line (length bytes)) × (after ≡ with_file folder to bytes false)
PutsPage to bytes folder (Err stops.FolderFault) after =
    PutsPart (failed_folder folder) to bytes after
PutsPage to bytes folder (Err stops.OutOfMemory) after = PutsPart folder to bytes after
PutsPage to bytes folder (Err (stops.Broken rule)) after = ⊥
PutsPage to bytes folder (Err stops.WordsRefused) after = ⊥
PutsPage to bytes folder (Err stops.SourceFault) after = ⊥
PutsPage to bytes folder (Err stops.KeeperFault) after = ⊥
