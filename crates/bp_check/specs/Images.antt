-- The images and texts that the load files name.
use Rattle.std.specs.Prelude.{ℕ, ◌+◌, ◌==◌, List, [], ◌∷◌, length, Result, Ok, Err, if◌then◌else◌}
use Rattle.std.specs.Option.{ok_or}
use Rattle.bp_core.specs.Paths.{path_in}
use Rattle.bp_core.specs.Rules.{rule_at_line, rule_with_line}
use Rattle.bp_core.specs.declared.rules.Rule.{Rule}
use Rattle.bp_core.specs.declared.rules.RuleKind.TheVariants.{PathRefused}
use Rattle.bp_load.specs.declared.opt.OptLine.{OptLine}
use Rattle.bp_rows.specs.Image.{Image}
use Rattle.bp_tiff.specs.Read.{TiffAnswers}
use Rattle.bp_core.specs.RuleSteps.{◌>>=◌}
use Rattle.bp_check.specs.Steps.{each, in_turn}
use Rattle.bp_check.specs.declared.files.TheConstants.{IMAGE, TEXT}
use Rattle.bp_check.specs.declared.records.Record.{Record}

-- what is read of a file: which of the files it is, the line that names it, and its path
abbrev pub Reading : Type 0
Reading = ℕ → ℕ → List ℕ → Result (List ℕ) Rule

-- what the bytes of an image come to
abbrev pub Judging : Type 0
Judging = List ℕ → Result Image Rule

-- it is the one page of a TIFF file, or the first rule that the file breaks
abbrev pub IsTiff : Judging → Type 0
IsTiff tiff = (bytes : List ℕ) → TiffAnswers bytes (tiff bytes)

-- there is a value, or the same rule at line n
abbrev pub ok_at_line : {V : Type 0} → ℕ → Result V Rule → Result (Unit {0}) Rule
ok_at_line n (Ok value) = Ok tt
ok_at_line n (Err rule) = Err (rule_with_line rule n)

-- the path that a text names at line n
abbrev pub path_at : ℕ → List ℕ → Result (List ℕ) Rule
path_at n text = ok_or (path_in text) (rule_at_line PathRefused n)

-- the image of line n is one page; its path
abbrev pub judged_image : Reading → Judging → ℕ → OptLine → Result (List ℕ) Rule
judged_image read tiff n line = do
  path ← path_at n line.path
  bytes ← read IMAGE n path
  _ ← ok_at_line n (tiff bytes)
  Ok path

-- the paths of all images
abbrev pub images_of : Reading → Judging → List OptLine → Result (List (List ℕ)) Rule
images_of read tiff lines = each (judged_image read tiff) 1 lines

-- the text of record n is there; its path
abbrev pub text_there : Reading → ℕ → List ℕ → Result (List ℕ) Rule
text_there read n text = do
  path ← path_at n text
  _ ← read TEXT n path
  Ok path

-- the paths of the texts of the records from record n on; a record may name none
abbrev pub texts_from : Reading → ℕ → List Record → Result (List (List ℕ)) Rule
texts_from read n [] = Ok []
texts_from read n (doc ∷ docs) =
    if length doc.text == 0
    then texts_from read (n + 1) docs
    else in_turn (text_there read n doc.text) (texts_from read (n + 1) docs)

-- the paths of all texts
abbrev pub texts_there : Reading → List Record → Result (List (List ℕ)) Rule
texts_there read docs = texts_from read 1 docs
