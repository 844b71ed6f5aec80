-- Which refusal of a check each refusal of a call becomes.
use Rattle.std.specs.Prelude.{ℕ, ◌≡◌}
use Rattle.bp_core.specs.declared.refusals.Refusal.{Refusal}
use Rattle.bp_core.specs.declared.refusals.Refusal.TheVariants as calls
use Rattle.bp_core.specs.declared.rules.RuleKind.TheVariants.{FileAbsent, FileTooLong}
use Rattle.bp_core.specs.Rules.{rule_with_line}
use Rattle.bp_outside.specs.declared.refusals.ReadRefusal.{ReadRefusal}
use Rattle.bp_outside.specs.declared.refusals.ReadRefusal.TheVariants as reads
use Rattle.bp_check.specs.Files.{file_rule}
use Rattle.bp_check.specs.declared.refusals.ImportRefusal.{ImportRefusal}
use Rattle.bp_check.specs.declared.refusals.ImportRefusal.TheVariants as refusals

-- a refusal of a call as one of a check
abbrev pub BecomesCheckRefusal : Refusal → ImportRefusal → Type 0
BecomesCheckRefusal (calls.Rule rule) refusal = refusal ≡ refusals.Rule rule
BecomesCheckRefusal calls.OutOfMemory refusal = refusal ≡ refusals.OutOfMemory

-- the refusal of a read of one of the files, at the line that names it
abbrev pub check_read_refused : ℕ → ℕ → ReadRefusal → ImportRefusal
check_read_refused which line reads.Absent = refusals.Rule (file_rule FileAbsent which line)
check_read_refused which line reads.TooLong = refusals.Rule (file_rule FileTooLong which line)
check_read_refused which line reads.Failed = refusals.SourceFault
check_read_refused which line reads.OutOfMemory = refusals.OutOfMemory

-- a refusal of a call at a line
abbrev pub refused_at : ℕ → Refusal → ImportRefusal
refused_at n (calls.Rule rule) = refusals.Rule (rule_with_line rule n)
refused_at n calls.OutOfMemory = refusals.OutOfMemory
