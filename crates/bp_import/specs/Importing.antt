-- What a step of an import gives, and what it leaves in the source.
use Rattle.std.specs.Prelude.{◌≡◌, Result, Ok, Err}
use Rattle.bp_core.specs.declared.rules.Rule.{Rule}
use Rattle.bp_core.specs.declared.rules.RuleKind.{RuleKind}
use Rattle.bp_core.specs.declared.rules.RuleKind.TheVariants as kinds
use Rattle.bp_outside.specs.Counts.{risen}
use Rattle.bp_outside.specs.Source.{SourceView}
use Rattle.bp_import.specs.declared.refusals.ImportRefusal.{ImportRefusal}
use Rattle.bp_import.specs.declared.refusals.ImportRefusal.TheVariants as refusals

-- what a step gave, seen by view, is a defined answer, unless the source failed or memory ran out
abbrev pub Comes : {X V : Type 0}
    → (X → V) → (Result V Rule → Type 0) → Result X ImportRefusal → Type 0
Comes view Answer (Ok x) = Answer (Ok (view x))
Comes view Answer (Err (refusals.Rule rule)) = Answer (Err rule)
Comes view Answer (Err refusals.SourceFault) = Unit {0}
Comes view Answer (Err refusals.OutOfMemory) = Unit {0}

-- the source after a rule was met: the count rose that the rule comes from
abbrev pub after_kind : SourceView → RuleKind → SourceView
after_kind source kinds.FileAbsent = record source { absences = risen source.absences }
after_kind source kinds.FileTooLong = record source { overlong = risen source.overlong }
after_kind source _ = source

-- the source after a step: as it was, but for the count of the refusal's own cause
abbrev pub after_step : {X : Type 0} → SourceView → Result X ImportRefusal → SourceView
after_step source (Ok x) = source
after_step source (Err (refusals.Rule rule)) = after_kind source rule.kind
after_step source (Err refusals.SourceFault) = record source { faults = risen source.faults }
after_step source (Err refusals.OutOfMemory) = source

-- a refusal that no read gave: it leaves each source as it was
abbrev pub IsCalm : ImportRefusal → Type 0
IsCalm (refusals.Rule rule) = (source : SourceView) → after_kind source rule.kind ≡ source
IsCalm refusals.SourceFault = ⊥
IsCalm refusals.OutOfMemory = Unit {0}
