-- The steps of an import and of a call as answers of a run. One at which the keeper fails changes the
-- matter.
use Rattle.std.proofs.Common.{◌≡◌, ◌≢◌, Bool, true, false, List, [], ◌∷◌, ◌++◌, length, Option, Some, None, refl, sym, ap, subst, ◌∙◌, arith}
use Rattle.std.specs.Prelude.{ℕ, Result, Ok, Err, IsOkAnd, if◌then◌else◌}
use Rattle.std.specs.Str.{bytes_eq}
use Rattle.std.proofs.lemmas.Bool.{false≢true}
use Rattle.std.proofs.lemmas.List.{length-append}
use Rattle.bp_core.specs.Rules.{bare_rule}
use Rattle.bp_core.specs.declared.kept.Row.{Row}
use Rattle.bp_core.specs.declared.rules.Rule.{Rule}
use Rattle.bp_core.specs.declared.rules.RuleKind.TheVariants.{BatchDiffers}
use Rattle.bp_keep.specs.Keeper.{KeeperView}
use Rattle.bp_matter.specs.Batches.{BatchShown}
use Rattle.bp_matter.specs.Matter.{Matter}
use Rattle.bp_matter.specs.declared.calls.Call.{Call}
use Rattle.bp_matter.specs.declared.calls.Reply.{Reply}
use Rattle.bp_matter.specs.declared.rows.BatchRow.{BatchRow}
use Rattle.bp_rules.specs.Changes.{after, puts_of, with_rows}
use Rattle.bp_rules.specs.ImportRows.{import_rows}
use Rattle.bp_rules.specs.Importing.{batch_with, import_by, import_of, unless_full}
use Rattle.bp_rules.specs.Limits.{limit_passed}
use Rattle.bp_rules.specs.Running.{AnswersOne, Answered, OneAnswered, StopsAt, answered, counted_answer, breaks_rule, refused_by, reply_answer, to_call, to_import}
use Rattle.bp_rules.specs.Stepping.{Stepped, step_of}
use Rattle.bp_rules.specs.Steps.{KeepsRows, PutsMade, StepsCall, StepsImport, counted_of}
use Rattle.bp_rules.specs.declared.changes.Edit.TheVariants.{Nothing}
use Rattle.bp_rules.specs.declared.changes.ImportRows.{ImportRows}
use Rattle.bp_rules.specs.declared.decide_imports.Imported.{Imported}
use Rattle.bp_rules.specs.declared.histories.RunAnswer.{RunAnswer}
use Rattle.bp_rules.specs.declared.histories.RunAnswer.TheVariants as answers
use Rattle.bp_rules.specs.declared.histories.RunStep.{RunStep}
use Rattle.bp_rules.specs.declared.histories.RunStep.TheVariants as asks
use Rattle.bp_rules.specs.declared.steps.Counted.{Counted}
use Rattle.bp_rules.specs.declared.refusals.MatterRefusal.{MatterRefusal}
use Rattle.bp_rules.specs.declared.refusals.MatterRefusal.TheVariants.{KeeperFault, OutOfMemory}
use Rattle.bp_rules.specs.declared.refusals.MatterRefusal.TheVariants as stops

-- ---- where the keeper fails

-- rows that come make another matter of it
more-rows : (m : Matter) (rows : ImportRows) → with_rows m rows ≡ m → ⊥
more-rows m rows still =
    let more : length (m.batches ++ rows.batch ∷ []) ≡ length m.batches = ap (λ (n : Matter). length n.batches) still in
    omega (arith, more, length-append m.batches (rows.batch ∷ []))

-- a batch that was imported has no puts
no-puts : (row : BatchRow) (same : Bool) → IsOkAnd {T = Imported} {E = Rule} (if same then Ok (record { change = Nothing; documents = row.documents; pages = row.pages }) else Err (bare_rule BatchDiffers)) (λ imported. puts_of imported.change ≢ []) → ⊥
no-puts row true puts = puts refl
no-puts row false puts = puts

new-stops : (m : Matter) (b : BatchShown) (full : Option Rule) → IsOkAnd (unless_full m b full) (λ imported. puts_of imported.change ≢ []) → StopsAt m KeeperFault (to_import m (unless_full m b full))
new-stops m b (Some rule) puts = absurd puts
new-stops m b None puts = (refl, more-rows m (import_rows m b))

found-stops : (m : Matter) (b : BatchShown) (found : Option BatchRow) → IsOkAnd (import_by m b found) (λ imported. puts_of imported.change ≢ []) → StopsAt m KeeperFault (to_import m (import_by m b found))
found-stops m b (Some row) puts = absurd (no-puts row (bytes_eq row.digest b.digest) puts)
found-stops m b None puts = new-stops m b (limit_passed m b) puts

import-stops : (m : Matter) (b : BatchShown) → IsOkAnd (import_of m b) (λ imported. puts_of imported.change ≢ []) → StopsAt m KeeperFault (to_import m (import_of m b))
unfolding import_of
import-stops m b puts = found-stops m b (batch_with b.name m) puts

-- ---- answers

puts-none : (a : Option (List Row)) → PutsMade a Nothing a
puts-none None = tt
puts-none (Some a) = refl

abbrev answered_by : RunAnswer → Matter → Answered
answered_by answer m = record { answer = answer; matter = m }

-- a broken rule, which leaves all
rule-answered : (m : Matter) (asked : RunStep) (keeper : KeeperView) (rule : Rule) (m' : Matter) (keeper' : KeeperView) → answered m asked ≡ refused_by m rule → m' ≡ m → keeper' ≡ keeper
    → OneAnswered m asked keeper (answers.Refused rule) m' keeper'
rule-answered m asked keeper rule m' keeper' is still left =
    record {
      edit = Nothing;
      changed = (ap (λ (a : Answered). a.matter) is, λ _. refl);
      puts = subst (λ (k : KeeperView). PutsMade keeper.rows Nothing k.rows) (sym left) (puts-none keeper.rows);
      kept = λ h. subst (λ (k : KeeperView). KeepsRows k m') (sym left) (subst (λ (n : Matter). KeepsRows keeper n) (sym still) h);
      answered = is ∙ ap (answered_by (answers.Refused rule)) (sym still);
      faults = ap (λ (k : KeeperView). k.faults) left;
      sure = ap (λ (k : KeeperView). k.sure) left;
    }

pub import-answered : (m : Matter) (b : BatchShown) (keeper : KeeperView) (r : Result Counted MatterRefusal) (m' : Matter) (keeper' : KeeperView) → StepsImport m b keeper r m' keeper'
    → AnswersOne m (asks.Import b) keeper (counted_answer r) m' keeper'
import-answered m b keeper (Ok counted) m' keeper' step =
    let to : answered m (asks.Import b) ≡ to_import m (Ok step.imported) = ap (to_import m) step.answer in
    record {
      edit = step.imported.change;
      changed = (ap (λ (a : Answered). a.matter) to, λ broken. absurd (false≢true (subst (λ (a : Answered). breaks_rule a.answer ≡ true) to broken)));
      puts = step.made.puts;
      kept = step.made.kept;
      answered = to ∙ ap (answered_by (answers.Counted (counted_of step.imported))) (sym step.made.matter) ∙ ap (λ (c : Counted). answered_by (answers.Counted c) m') (sym step.numbers);
      faults = step.made.faults;
      sure = step.made.sure;
    }
import-answered m b keeper (Err (stops.Rule rule)) m' keeper' step = rule-answered m (asks.Import b) keeper rule m' keeper' (ap (to_import m) step.0) step.1 step.2
import-answered m b keeper (Err KeeperFault) m' keeper' step = (import-stops m b step.0, step.1)
import-answered m b keeper (Err OutOfMemory) m' keeper' step = (tt, step)

call-stops : (m : Matter) (stepped : Result Stepped Rule) → IsOkAnd stepped (λ s. s.matter ≢ m) → StopsAt m KeeperFault (to_call m stepped)
call-stops m (Ok s) other = (refl, other)
call-stops m (Err rule) other = absurd other

pub call-answered : (m : Matter) (key : List ℕ) (call : Call) (keeper : KeeperView) (r : Result Reply MatterRefusal) (m' : Matter) (keeper' : KeeperView) → StepsCall m key call keeper r m' keeper'
    → AnswersOne m (asks.Call key call) keeper (reply_answer r) m' keeper'
call-answered m key call keeper (Ok reply) m' keeper' step =
    let to : answered m (asks.Call key call) ≡ answered_by (answers.Replied reply) (after m step.edit) = ap (to_call m) step.answer in
    record {
      edit = step.edit;
      changed = (ap (λ (a : Answered). a.matter) to, λ broken. absurd (false≢true (subst (λ (a : Answered). breaks_rule a.answer ≡ true) to broken)));
      puts = step.made.puts;
      kept = step.made.kept;
      answered = to ∙ ap (answered_by (answers.Replied reply)) (sym step.made.matter);
      faults = step.made.faults;
      sure = step.made.sure;
    }
call-answered m key call keeper (Err (stops.Rule rule)) m' keeper' step = rule-answered m (asks.Call key call) keeper rule m' keeper' (ap (to_call m) step.0) step.1 step.2
call-answered m key call keeper (Err KeeperFault) m' keeper' step = (call-stops m (step_of m key call) step.0, step.1)
call-answered m key call keeper (Err OutOfMemory) m' keeper' step = (tt, step)
