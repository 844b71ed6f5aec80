-- The command `import`: its line, and what it comes to.
use Rattle.std.specs.Prelude.{ℕ, ◌≡◌, ◌==◌, Option, Some, None, Result, Ok, Err, List}
use Rattle.std.specs.Prelude.{[], ◌++◌, length, codes, if◌then◌else◌, IfSome}
use Rattle.std.specs.Fmt.{decimal}
use Rattle.std.specs.Str.{chars}
use Rattle.bp_core.specs.declared.kept.Row.{Row}
use Rattle.bp_core.specs.declared.rules.Rule.{Rule}
use Rattle.bp_outside.specs.Source.{FileMap}
use Rattle.bp_matter.specs.Batches.{BatchShown}
use Rattle.bp_matter.specs.KeptRows.{rows_of}
use Rattle.bp_matter.specs.Matter.{Matter}
use Rattle.bp_import.specs.Batch.{BatchAnswers}
use Rattle.bp_rules.specs.Changes.{after}
use Rattle.bp_rules.specs.Importing.{import_of}
use Rattle.bp_rules.specs.Steps.{counted_of}
use Rattle.bp_rules.specs.declared.decide_imports.Imported.{Imported}
use Rattle.bp_rules.specs.declared.steps.Counted.{Counted}
use Rattle.bp_cli.specs.Kept.{CanBeLoaded, MatterAnswers}
use Rattle.bp_cli.specs.Words.{word_of}
use Rattle.bp_cli.specs.Endings.{Outcome, done, refused, line_of}

-- ---- its line

-- import BATCH: the one operand names the folder of the batch
abbrev pub batch_named : List (List ℕ) → Option (List ℕ)
batch_named operands = if length operands == 1 then Some (word_of operands 0) else None

-- `batch NAME documents N pages N`
abbrev pub imported_line : List ℕ → Counted → List ℕ
imported_line name counted =
    line_of (codes "batch " ++ name ++ codes " documents " ++ decimal counted.documents
    ++ codes " pages " ++ decimal counted.pages)

-- ---- what it comes to

-- the rows of the matter after the import stand, and its numbers are told; or a rule is met
abbrev pub step_gives : List ℕ → Matter → Result Imported Rule → Outcome
step_gives name m (Ok imported) =
    done (imported_line name (counted_of imported)) [] (Some (rows_of (after m imported.change)))
step_gives name m (Err rule) = refused rule

-- the rules of the rows come before those of the batch, and these before those of the import
abbrev pub import_gives : List ℕ → Result Matter Rule → Result BatchShown Rule → Outcome
import_gives name (Ok m) (Ok b) = step_gives name m (import_of m b)
import_gives name (Ok m) (Err rule) = refused rule
import_gives name (Err rule) batch = refused rule

-- the outcome over the files and the rows that are told, or over some where none are; rows come to
-- a valid matter or to a rule of loading, told or not
pub record ImportOutcome (name : List ℕ) (files : Option FileMap) (rows : Option (List Row))
    (outcome : Outcome) : Type 0 where
  pub tables : Result Matter Rule
  pub loaded : CanBeLoaded tables
  pub kept : IfSome rows (λ there. MatterAnswers there tables)
  pub batch : Result BatchShown Rule
  pub found : IfSome files (λ there. BatchAnswers there (chars name) batch)
  pub gives : import_gives name tables batch ≡ outcome
