-- What is answered to a request for a file of a volume.
use Rattle.std.specs.Prelude.{List, Result, ℕ}
use Rattle.std.specs.Option.{ok_or}
use Rattle.bp_core.specs.Rules.{bare_rule}
use Rattle.bp_core.specs.declared.rules.Rule.{Rule}
use Rattle.bp_core.specs.declared.rules.RuleKind.TheVariants.{NoFile}
use Rattle.bp_outside.specs.declared.files.FileRow.{FileRow}
use Rattle.bp_press.specs.Volume.{file_at}

-- the bytes of the file of that path, or NoFile where there is none
abbrev pub file_answer : List ℕ → List FileRow → Result (List ℕ) Rule
file_answer path files = ok_or (file_at path files) (bare_rule NoFile)
