-- What an import does to a matter.
use Rattle.std.specs.Prelude.{◌≡◌, ℕ, List, length, Option, Some, None, Result, Ok, Err, if◌then◌else◌}
use Rattle.std.specs.List.{find}
use Rattle.std.specs.Str.{bytes_eq}
use Rattle.bp_core.specs.Rules.{bare_rule}
use Rattle.bp_core.specs.declared.refusals.Refusal.{Refusal}
use Rattle.bp_core.specs.declared.refusals.Refusal.TheVariants as refusals
use Rattle.bp_core.specs.declared.rules.Rule.{Rule}
use Rattle.bp_core.specs.declared.rules.RuleKind.TheVariants.{BatchDiffers}
use Rattle.bp_matter.specs.Batches.{BatchShown, pages_in}
use Rattle.bp_matter.specs.Matter.{Matter}
use Rattle.bp_matter.specs.declared.rows.BatchRow.{BatchRow}
use Rattle.bp_rules.specs.Changes.{CanBeMade}
use Rattle.bp_rules.specs.ImportRows.{import_rows}
use Rattle.bp_rules.specs.Limits.{limit_passed}
use Rattle.bp_rules.specs.declared.changes.Edit.TheVariants.{Import, Nothing}
use Rattle.bp_rules.specs.declared.decide_imports.Imported.{Imported}

-- the batch of a name
abbrev pub batch_with : List ℕ → Matter → Option BatchRow
batch_with name m = find (λ row. bytes_eq row.name name) m.batches

-- a batch that was imported changes nothing, and its numbers are told again; under its name no
-- other batch is taken
abbrev pub repeated : BatchRow → BatchShown → Result Imported Rule
repeated row b =
    if bytes_eq row.digest b.digest
    then Ok (record { change = Nothing; documents = row.documents; pages = row.pages })
    else Err (bare_rule BatchDiffers)

-- a batch that comes new becomes rows
abbrev pub all_new : Matter → BatchShown → Imported
all_new m b =
    record {
      change = Import (import_rows m b);
      documents = length b.docs;
      pages = pages_in b.docs;
    }

-- it is taken where no limit is passed
abbrev pub unless_full : Matter → BatchShown → Option Rule → Result Imported Rule
unless_full m b (Some rule) = Err rule
unless_full m b None = Ok (all_new m b)

-- what an import comes to, by whether a batch of its name is there
abbrev pub import_by : Matter → BatchShown → Option BatchRow → Result Imported Rule
import_by m b (Some row) = repeated row b
import_by m b None = unless_full m b (limit_passed m b)

-- the change that the import of a batch makes, and its numbers; or the first rule that it breaks
unfoldable pub import_of : Matter → BatchShown → Result Imported Rule
import_of m b = import_by m b (batch_with b.name m)

-- an import was decided so
pub record DecidedOn (m : Matter) (b : BatchShown) (imported : Imported) : Type 0 where
  pub answer : import_of m b ≡ Ok imported
  pub made : CanBeMade m imported.change

-- what deciding an import gives
abbrev pub DecidesImport : Matter → BatchShown → Result Imported Refusal → Type 0
DecidesImport m b (Ok imported) = DecidedOn m b imported
DecidesImport m b (Err (refusals.Rule rule)) = import_of m b ≡ Err rule
DecidesImport m b (Err refusals.OutOfMemory) = Unit {0}
