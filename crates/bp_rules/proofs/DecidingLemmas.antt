-- What deciding an import gives, by whether its name is kept and a limit is passed.
use Rattle.std.proofs.Common.{◌≡◌, ℕ, Bool, true, false, cond, length, Some, None, refl, sym, ap, ◌∙◌, subst}
use Rattle.std.specs.Prelude.{Result, Ok, Err}
use Rattle.std.specs.Str.{bytes_eq}
use Rattle.bp_core.specs.Answers.{Answers}
use Rattle.bp_core.specs.Rules.{bare_rule}
use Rattle.bp_core.specs.declared.refusals.Refusal.{Refusal}
use Rattle.bp_core.specs.declared.refusals.Refusal.TheVariants as refusals
use Rattle.bp_core.specs.declared.rules.Rule.{Rule}
use Rattle.bp_core.specs.declared.rules.RuleKind.TheVariants.{BatchDiffers}
use Rattle.bp_matter.specs.Batches.{BatchShown, pages_in}
use Rattle.bp_matter.specs.Matter.{Matter}
use Rattle.bp_matter.specs.Valid.{IsValid}
use Rattle.bp_matter.specs.declared.rows.BatchRow.{BatchRow}
use Rattle.bp_rules.specs.Changes.{CanBeMade}
use Rattle.bp_rules.specs.ImportRows.{import_rows}
use Rattle.bp_rules.specs.Importing.{DecidedOn, DecidesImport, batch_with, import_by, import_of, repeated, unless_full}
use Rattle.bp_rules.specs.Limits.{limit_passed}
use Rattle.bp_rules.specs.declared.changes.Edit.{Edit}
use Rattle.bp_rules.specs.declared.changes.Edit.TheVariants.{Import, Nothing}
use Rattle.bp_rules.specs.declared.decide_imports.Imported.{Imported}

-- a change of nothing can be made
made_nothing : (m : Matter) (t : Bool) (told imported : Imported) (rule : Rule) → IsValid m → told.change ≡ Nothing → cond t (Ok told) (Err rule) ≡ Ok imported → CanBeMade m imported.change
made_nothing m true told imported rule v none h =
    let same : told ≡ imported = cc in
    let nothing : Nothing ≡ imported.change = sym none ∙ ap (λ (i : Imported). i.change) same in
    subst (λ e. CanBeMade m e) nothing (record { valid = v; rows = refl })
made_nothing m false told imported rule v none h = absurd cc

-- a batch whose name is kept
pub repeats : (m : Matter) (b : BatchShown) (row : BatchRow) (result : Result Imported Refusal) → IsValid m → batch_with b.name m ≡ Some row → Answers (λ (i : Imported). i) result (repeated row b) → DecidesImport m b result
unfolding import_of
repeats m b row (Ok imported) v found h =
    record {
      answer = ap (import_by m b) found ∙ h;
      made = made_nothing m (bytes_eq row.digest b.digest) (record { change = Nothing; documents = row.documents; pages = row.pages }) imported (bare_rule BatchDiffers) v refl h;
    }
repeats m b row (Err (refusals.Rule rule)) v found h = ap (import_by m b) found ∙ h
repeats m b row (Err refusals.OutOfMemory) v found h = tt

-- a batch that passes a limit
pub refuses : (m : Matter) (b : BatchShown) (rule : Rule) → batch_with b.name m ≡ None → limit_passed m b ≡ Some rule → import_of m b ≡ Err rule
unfolding import_of
refuses m b rule none full = ap (import_by m b) none ∙ ap (unless_full m b) full

-- a batch that comes in
pub takes : (m : Matter) (b : BatchShown) (edit : Edit) (documents pages : ℕ) → batch_with b.name m ≡ None → limit_passed m b ≡ None → CanBeMade m (Import (import_rows m b)) → edit ≡ Import (import_rows m b) → documents ≡ length b.docs → pages ≡ pages_in b.docs
    → DecidedOn m b (record { change = edit; documents = documents; pages = pages })
unfolding import_of
takes m b edit documents pages none within made e d p =
    let same : import_of m b ≡ Ok (record { change = Import (import_rows m b); documents = length b.docs; pages = pages_in b.docs }) = ap (import_by m b) none ∙ ap (unless_full m b) within in
    record {
      answer = rw (e, d, p) same;
      made = subst (λ x. CanBeMade m x) (sym e) made;
    }
