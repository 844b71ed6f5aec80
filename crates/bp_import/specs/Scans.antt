-- The images of a batch, read line by line of its OPT file.
use Rattle.std.specs.Prelude.{ℕ, ◌≡◌, ◌+◌, ◌&&◌, Bool, List, [], ◌∷◌, ◌++◌, map, Result, Ok, Err, if◌then◌else◌}
use Rattle.std.specs.Option.{ok_or}
use Rattle.bp_core.specs.InTurn.{onto}
use Rattle.bp_core.specs.Paths.{path_in}
use Rattle.bp_core.specs.Rules.{page_limit_rule, rule_at_line}
use Rattle.bp_core.specs.declared.rules.Rule.{Rule}
use Rattle.bp_core.specs.declared.rules.RuleKind.TheVariants.{PathRefused}
use Rattle.bp_load.specs.declared.opt.OptLine.{OptLine}
use Rattle.bp_matter.specs.Written.{image_written}
use Rattle.bp_outside.specs.Source.{FileMap}
use Rattle.bp_rows.specs.Image.{Image}
use Rattle.bp_rows.specs.Limits.{sides_are_imported}
use Rattle.bp_tiff.specs.Read.{TiffAnswers}
use Rattle.bp_import.specs.Files.{below, batch_file_at}
use Rattle.bp_core.specs.RuleSteps.{◌>>=◌}
use Rattle.bp_import.specs.declared.files.TheConstants.{IMAGE}
use Rattle.bp_import.specs.Digest.{HasTaken, digest_of}
use Rattle.bp_import.specs.declared.digest.FilesDigest.{FilesDigest}
use Rattle.bp_import.specs.declared.refusals.ImportRefusal.{ImportRefusal}
use Rattle.bp_import.specs.declared.refusals.ImportRefusal.TheVariants as refusals
use Rattle.bp_import.specs.declared.scans.Images.{Images}
use Rattle.bp_import.specs.declared.scans.ScanFile.{ScanFile}

-- an image file and the page in it
pub record Scan : Type 0 where
  pub bytes : List ℕ
  pub page : Image

-- a rule that is broken at a line of the OPT file
abbrev pub at_line : ℕ → Rule → Rule
at_line n rule = record rule { line = n }

-- a scan of bytes and page
abbrev pub scan_with : List ℕ → Image → Scan
scan_with bytes page = record { bytes = bytes; page = page }

-- a scan as contracts see it
abbrev pub scan_seen : ScanFile → Scan
scan_seen scan = scan_with scan.bytes.items scan.page

-- the path that line n names, below the folder of the batch
abbrev pub path_of_line : List ℕ → ℕ → OptLine → Result (List ℕ) Rule
path_of_line name n line = do
  path ← ok_or (path_in line.path) (rule_at_line PathRefused n)
  Ok (below name path)

-- the file there
abbrev pub scanned_image_at : FileMap → List ℕ → ℕ → OptLine → Result (List ℕ) Rule
scanned_image_at files name n line = do
  path ← path_of_line name n line
  batch_file_at files path IMAGE n

-- the page of line n, whose sides are to be those of an import
abbrev pub scan_of : ℕ → List ℕ → Image → Result Scan Rule
scan_of n bytes page =
    if sides_are_imported page.width page.height
    then Ok (scan_with bytes page)
    else Err (at_line n (page_limit_rule page.width page.height))

-- what was read of its bytes, or the rule that they break
abbrev pub scan_read : ℕ → List ℕ → Result Image Rule → Result Scan Rule
scan_read n bytes (Ok page) = scan_of n bytes page
scan_read n bytes (Err rule) = Err (at_line n rule)

-- the bytes of line n come to this
pub record BytesAnswer (n : ℕ) (bytes : List ℕ) (answer : Result Scan Rule) : Type 0 where
  pub read : Result Image Rule
  pub reads : TiffAnswers bytes read
  pub gives : answer ≡ scan_read n bytes read

-- the file of line n comes to this
abbrev pub FileAnswers : ℕ → Result (List ℕ) Rule → Result Scan Rule → Type 0
FileAnswers n (Ok bytes) answer = BytesAnswer n bytes answer
FileAnswers n (Err rule) answer = answer ≡ Err rule

-- line n comes to this
abbrev pub LineAnswers : FileMap → List ℕ → ℕ → OptLine → Result Scan Rule → Type 0
LineAnswers files name n line answer = FileAnswers n (scanned_image_at files name n line) answer

-- one after the other: the first is refused, or its scan stands before what the others come to
pub data ScansInTurn (First : Result Scan Rule → Type 0) (Others : Result (List Scan) Rule → Type 0)
    (answer : Result (List Scan) Rule) : Type 0 where
  refused : (rule : Rule) → First (Err rule) → answer ≡ Err rule → ScansInTurn First Others answer
  scanned : (scan : Scan) (others : Result (List Scan) Rule)
      → First (Ok scan)
      → Others others
      → answer ≡ onto scan others
      → ScansInTurn First Others answer

-- the lines from line n on come to this
abbrev pub LinesAnswer : FileMap → List ℕ → ℕ → List OptLine → Result (List Scan) Rule → Type 0
LinesAnswer files name n [] answer = answer ≡ Ok []
LinesAnswer files name n (line ∷ lines) answer =
    ScansInTurn (LineAnswers files name n line) (LinesAnswer files name (n + 1) lines) answer

-- a page comes in: its sides are those of an import, and it has a writing
abbrev pub comes_in : Image → Bool
comes_in page = sides_are_imported page.width page.height && image_written page

-- the pages of all lines were read, and the digest of the files before them took theirs as well
pub record ReadsImages (files : FileMap) (name : List ℕ) (lines : List OptLine)
    (before : FilesDigest) (images : Images) : Type 0 where
  pub scans : List Scan
  pub read : LinesAnswer files name 1 lines (Ok scans)
  pub pages : images.pages ≡ map (λ scan. scan.page) scans
  pub digest : (taken : List (List ℕ)) → HasTaken before taken
      → images.digest ≡ digest_of (taken ++ map (λ scan. scan.bytes) scans)

-- what reading the images gave: all of them, or the first rule
abbrev pub GivesImages : FileMap → List ℕ → List OptLine → FilesDigest
    → Result Images ImportRefusal → Type 0
GivesImages files name lines before (Ok images) = ReadsImages files name lines before images
GivesImages files name lines before (Err (refusals.Rule rule)) =
    LinesAnswer files name 1 lines (Err rule)
GivesImages files name lines before (Err refusals.SourceFault) = Unit {0}
GivesImages files name lines before (Err refusals.OutOfMemory) = Unit {0}
