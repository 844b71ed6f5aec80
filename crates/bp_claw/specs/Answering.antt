-- What a call that replaces a production answers, and what it leaves of the folder.
use Rattle.std.specs.Prelude.{◌≡◌, List, Option, Some, None, Result, Ok, Err}
use Rattle.bp_core.specs.declared.rules.Rule.{Rule}
use Rattle.bp_outside.specs.Folder.{FolderView, after_refusal}
use Rattle.bp_outside.specs.declared.files.FileRow.{FileRow}
use Rattle.bp_outside.specs.declared.refusals.FolderRefusal.{FolderRefusal}
use Rattle.bp_outside.specs.declared.refusals.FolderRefusal.TheVariants as folder
use Rattle.bp_press.specs.Writing.{AddsPart}
use Rattle.bp_press.specs.declared.pressing.Pressed.{Pressed}
use Rattle.bp_claw.specs.declared.refusals.ClawRefusal.{ClawRefusal}
use Rattle.bp_claw.specs.declared.refusals.ClawRefusal.TheVariants as refusals

-- what a refusal of the folder means to the caller
abbrev pub claw_refusal_of : FolderRefusal → ClawRefusal
claw_refusal_of folder.Failed = refusals.FolderFault
claw_refusal_of folder.OutOfMemory = refusals.OutOfMemory

-- a rule is answered exactly where it is the first that is broken; no rule is broken where anything
-- else is answered, want of memory too
abbrev pub IsRuled : Result Pressed ClawRefusal → Option Rule → Type 0
IsRuled (Ok pressed) broken = broken ≡ None
IsRuled (Err (refusals.Rule rule)) broken = broken ≡ Some rule
IsRuled (Err refusals.FolderFault) broken = broken ≡ None
IsRuled (Err refusals.OutOfMemory) broken = broken ≡ None

-- a rule leaves the folder; after the other refusals the first of the files were added, of the next one
-- perhaps a part, and the count of faults rose where the folder failed
abbrev pub LeavesFolder : FolderView → List FileRow → ClawRefusal → FolderView → Type 0
LeavesFolder before files (refusals.Rule rule) after = after ≡ before
LeavesFolder before files refusals.FolderFault after =
    AddsPart (after_refusal before folder.Failed) files after
LeavesFolder before files refusals.OutOfMemory after =
    AddsPart (after_refusal before folder.OutOfMemory) files after
