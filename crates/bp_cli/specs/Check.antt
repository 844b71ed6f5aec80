-- The command `check`: its line, and what it comes to.
use Rattle.std.specs.Prelude.{ℕ, ◌≡◌, ◌==◌, Option, Some, None, Result, Ok, Err, List, []}
use Rattle.std.specs.Prelude.{◌++◌, length, codes, IfSome, if◌then◌else◌}
use Rattle.std.specs.Fmt.{decimal}
use Rattle.std.specs.Option.{option_map}
use Rattle.std.specs.Str.{chars}
use Rattle.bp_core.specs.declared.rules.Rule.{Rule}
use Rattle.bp_outside.specs.Source.{FileMap}
use Rattle.bp_check.specs.Check.{Operands, check_of}
use Rattle.bp_check.specs.Images.{IsTiff, Judging}
use Rattle.bp_check.specs.declared.checked.Checked.{Checked}
use Rattle.bp_check.specs.declared.refusals.ImportRefusal.{ImportRefusal}
use Rattle.bp_check.specs.declared.refusals.ImportRefusal.TheVariants as refusals
use Rattle.bp_cli.specs.declared.check.Check.{Check}
use Rattle.bp_cli.specs.declared.check.CheckTexts.{CheckTexts}
use Rattle.bp_cli.specs.declared.stops.Stop.{Stop}
use Rattle.bp_cli.specs.declared.stops.Stop.TheVariants as stops
use Rattle.bp_cli.specs.Words.{word_of}
use Rattle.bp_cli.specs.Endings.{Outcome, done, refused, line_of}

-- ---- its line

-- the words of check as contracts see them
abbrev pub check_seen : Check → Operands
check_seen c = record {
  dat = chars c.dat.now;
  opt = chars c.opt.now;
  manifest = option_map (λ word. chars word.now) c.manifest;
}

-- the same as texts
abbrev pub texts_seen : CheckTexts → Operands
texts_seen texts = record { dat = texts.dat; opt = texts.opt; manifest = texts.manifest }

-- the DAT, the OPT and, where one is named, the manifest
abbrev pub check_with : List (List ℕ) → Option (List ℕ) → Operands
check_with operands manifest = record {
  dat = chars (word_of operands 0);
  opt = chars (word_of operands 1);
  manifest = manifest;
}

-- check DAT OPT, and check DAT OPT MANIFEST
abbrev pub check_named : List (List ℕ) → Option Operands
check_named operands =
    if length operands == 2 then Some (check_with operands None)
    else (if length operands == 3 then Some (check_with operands (Some (chars (word_of operands 2))))
    else None)

-- `checked documents N images N files N`
abbrev pub checked_line : Checked → List ℕ
checked_line checked =
    line_of (codes "checked documents " ++ decimal checked.documents ++ codes " images "
    ++ decimal checked.images ++ codes " files " ++ decimal checked.files)

-- ---- what it comes to

-- the numbers of the volume are told, and nothing changes; or the first rule that it breaks
abbrev pub check_gives : Result Checked Rule → Outcome
check_gives (Ok checked) = done (checked_line checked) [] None
check_gives (Err rule) = refused rule

-- the outcome is that of the check of the files that a source tells, images being read as the TIFF
-- standard says, which gives one answer for each file; where it tells none, any numbers or any rule
pub record CheckOutcome (asked : Operands) (told : Option FileMap) (outcome : Outcome) : Type 0 where
  pub tiff : Judging
  pub reads : IsTiff tiff
  pub answer : Result Checked Rule
  pub found : IfSome told (λ files. check_of files tiff asked ≡ answer)
  pub gives : check_gives answer ≡ outcome

-- ---- its stops

-- a refusal of a check ends the command
abbrev pub StopsForCheck : ImportRefusal → Stop → Type 0
StopsForCheck (refusals.Rule rule) stop = stop ≡ stops.Broken rule
StopsForCheck refusals.SourceFault stop = stop ≡ stops.SourceFault
StopsForCheck refusals.OutOfMemory stop = stop ≡ stops.OutOfMemory
