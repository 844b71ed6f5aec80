-- The one file that a word of a command line names.
use Rattle.std.specs.Prelude.{◌≡◌, ℕ, nat_lt, Option, Some, None, Result, Ok, Err, List, length, IfSome, if◌then◌else◌}
use Rattle.std.specs.FinMap as map
use Rattle.bp_core.specs.Paths.{path_in}
use Rattle.bp_core.specs.Rules.{bare_rule}
use Rattle.bp_core.specs.declared.rules.Rule.{Rule}
use Rattle.bp_core.specs.declared.rules.RuleKind.TheVariants.{FileAbsent, FileTooLong}
use Rattle.bp_outside.specs.Source.{FileMap}
use Rattle.bp_cli.specs.declared.burn.TheConstants.{FILE_LIMIT}
use Rattle.bp_cli.specs.Burn.{path_refused}

-- what is read where a file stands or doesn't
abbrev pub named_file_read : Option (List ℕ) → Result (List ℕ) Rule
named_file_read None = Err (bare_rule FileAbsent)
named_file_read (Some bytes) =
    if nat_lt FILE_LIMIT (length bytes) then Err (bare_rule FileTooLong) else Ok bytes

-- what is read at a path, over the files that are told; where they aren't, over some
pub record FileAt (path : List ℕ) (told : Option FileMap) (answer : Result (List ℕ) Rule)
    : Type 0 where
  pub found : Option (List ℕ)
  pub there : IfSome told (λ files. map.get files path ≡ found)
  pub read : named_file_read found ≡ answer

-- what is read at the path that a word names, if it names one
abbrev pub FileNamed : Option FileMap → Option (List ℕ) → Result (List ℕ) Rule → Type 0
FileNamed told None answer = answer ≡ Err path_refused
FileNamed told (Some path) answer = FileAt path told answer

-- the same of the word
abbrev pub NamedFileAnswers : Option FileMap → List ℕ → Result (List ℕ) Rule → Type 0
NamedFileAnswers told named answer = FileNamed told (path_in named) answer
