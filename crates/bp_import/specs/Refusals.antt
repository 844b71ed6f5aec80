-- Which refusal of an import each refusal of a call becomes.
use Rattle.std.specs.Prelude.{ℕ, ◌≡◌}
use Rattle.bp_core.specs.declared.refusals.Refusal.{Refusal}
use Rattle.bp_core.specs.declared.refusals.Refusal.TheVariants as calls
use Rattle.bp_core.specs.declared.rules.RuleKind.TheVariants.{FileAbsent, FileTooLong}
use Rattle.bp_outside.specs.declared.refusals.ReadRefusal.{ReadRefusal}
use Rattle.bp_outside.specs.declared.refusals.ReadRefusal.TheVariants as reads
use Rattle.bp_import.specs.Files.{file_rule}
use Rattle.bp_import.specs.Scans.{at_line}
use Rattle.bp_import.specs.declared.refusals.ImportRefusal.{ImportRefusal}
use Rattle.bp_import.specs.declared.refusals.ImportRefusal.TheVariants as refusals

-- a refusal of a call as one of an import
abbrev pub BecomesRefusal : Refusal → ImportRefusal → Type 0
BecomesRefusal (calls.Rule rule) refusal = refusal ≡ refusals.Rule rule
BecomesRefusal calls.OutOfMemory refusal = refusal ≡ refusals.OutOfMemory

-- the refusal of a read of one of the files, at a line of the OPT file
abbrev pub read_refused : ℕ → ℕ → ReadRefusal → ImportRefusal
read_refused which line reads.Absent = refusals.Rule (file_rule FileAbsent which line)
read_refused which line reads.TooLong = refusals.Rule (file_rule FileTooLong which line)
read_refused which line reads.Failed = refusals.SourceFault
read_refused which line reads.OutOfMemory = refusals.OutOfMemory

-- a refusal of a call at a line of the OPT file
abbrev pub scan_refused_at : ℕ → Refusal → ImportRefusal
scan_refused_at n (calls.Rule rule) = refusals.Rule (at_line n rule)
scan_refused_at n calls.OutOfMemory = refusals.OutOfMemory
