-- Calls and imports in turn on a matter, with what is answered to each.
use Rattle.std.specs.Prelude.{◌≡◌, ◌≢◌, ℕ, Bool, false, true, IsTrue, not, List, [], ◌∷◌, ◌++◌, is_some, Option, Some, Result, Ok, Err, IfSome}
use Rattle.std.specs.Option.{option_map}
use Rattle.bp_core.specs.Counts.{risen}
use Rattle.bp_core.specs.declared.kept.Row.{Row}
use Rattle.bp_core.specs.declared.rules.Rule.{Rule}
use Rattle.bp_keep.specs.Keeper.{KeeperView}
use Rattle.bp_keep.specs.Puts.{put_all}
use Rattle.bp_matter.specs.Matter.{Matter, Shown}
use Rattle.bp_matter.specs.Valid.{IsValid}
use Rattle.bp_matter.specs.declared.calls.Reply.{Reply}
use Rattle.bp_rules.specs.Changes.{after, puts_of}
use Rattle.bp_rules.specs.Importing.{import_of}
use Rattle.bp_rules.specs.Loading.{LoadsTables}
use Rattle.bp_rules.specs.Stepping.{Stepped, step_of}
use Rattle.bp_rules.specs.Steps.{KeepsRows, PutsMade, Stays, counted_of}
use Rattle.bp_rules.specs.declared.changes.Edit.{Edit}
use Rattle.bp_rules.specs.declared.changes.Edit.TheVariants.{Nothing}
use Rattle.bp_rules.specs.declared.decide_imports.Imported.{Imported}
use Rattle.bp_rules.specs.declared.histories.RunAnswer.{RunAnswer}
use Rattle.bp_rules.specs.declared.histories.RunAnswer.TheVariants as answers
use Rattle.bp_rules.specs.declared.histories.RunStep.{RunStep}
use Rattle.bp_rules.specs.declared.histories.RunStep.TheVariants as asks
use Rattle.bp_rules.specs.declared.steps.Counted.{Counted}
use Rattle.bp_rules.specs.declared.refusals.MatterRefusal.{MatterRefusal}
use Rattle.bp_rules.specs.declared.refusals.MatterRefusal.TheVariants as stops

-- what is answered, and the matter after it
pub record Answered : Type 0 where
  pub answer : RunAnswer
  pub matter : Matter

-- a broken rule is the answer, and changes nothing
abbrev pub refused_by : Matter → Rule → Answered
refused_by m rule = record { answer = answers.Refused rule; matter = m }

-- to the step of a call
abbrev pub to_call : Matter → Result Stepped Rule → Answered
to_call m (Ok stepped) =
    record { answer = answers.Replied stepped.reply; matter = stepped.matter }
to_call m (Err rule) = refused_by m rule

-- and to an import
abbrev pub to_import : Matter → Result Imported Rule → Answered
to_import m (Ok imported) =
    record { answer = answers.Counted (counted_of imported); matter = after m imported.change }
to_import m (Err rule) = refused_by m rule

-- what is answered to one that is asked
abbrev pub answered : Matter → RunStep → Answered
answered m (asks.Call key call) = to_call m (step_of m key call)
answered m (asks.Import batch) = to_import m (import_of m batch)

-- the matter after all that is asked in turn
abbrev pub run_of : Matter → List RunStep → Matter
run_of m [] = m
run_of m (asked ∷ more) = run_of (answered m asked).matter more

-- and the answers, in order
abbrev pub answers_of : Matter → List RunStep → List RunAnswer
answers_of m [] = []
answers_of m (asked ∷ more) =
    (answered m asked).answer ∷ answers_of (answered m asked).matter more

-- a broken rule is answered
abbrev pub breaks_rule : RunAnswer → Bool
breaks_rule (answers.Refused rule) = true
breaks_rule _ = false

-- a change makes the matter after what was asked; a broken rule changes nothing
abbrev pub IsChange : Matter → Answered → Edit → Type 0
IsChange m next edit =
    (next.matter ≡ after m edit) × (IsTrue (breaks_rule next.answer) → edit ≡ Nothing)

-- the changes of all that was asked, in order
abbrev pub AreChanges : Matter → List RunStep → List Edit → Type 0
AreChanges m [] edits = edits ≡ []
AreChanges m (asked ∷ more) [] = ⊥
AreChanges m (asked ∷ more) (edit ∷ edits) =
    IsChange m (answered m asked) edit × AreChanges (answered m asked).matter more edits

-- rows with the puts of these changes in turn
abbrev pub put_changes : List Edit → List Row → List Row
put_changes [] rows = rows
put_changes (edit ∷ edits) rows = put_changes edits (put_all (puts_of edit) rows)

-- the rows that are told now were told before, and are those with the puts of these changes
abbrev pub ChangesPut : Option (List Row) → List Edit → Option (List Row) → Type 0
ChangesPut before edits now =
    IfSome now (λ rows. option_map (put_changes edits) before ≡ Some rows)

-- a matter, its keeper, and the answers that were given
pub record RunState : Type 0 where
  pub matter : Matter
  pub keeper : KeeperView
  pub answers : List RunAnswer

-- the same, of its three parts
abbrev pub run_state : Matter → KeeperView → List RunAnswer → RunState
run_state m keeper told = record { matter = m; keeper = keeper; answers = told }

-- all of this was asked in turn and answered, broken rules among the answers: the puts of each change
-- are made of whatever rows, so a keeper that kept the matter keeps the matter after it
pub record Ran (before : RunState) (asked : List RunStep) (count : ℕ)
    (now : RunState) : Type 0 where
  pub matter : now.matter ≡ run_of before.matter asked
  pub answers : now.answers ≡ before.answers ++ answers_of before.matter asked
  pub edits : List Edit
  pub changed : AreChanges before.matter asked edits
  pub puts : ChangesPut before.keeper.rows edits now.keeper.rows
  pub kept : KeepsRows before.keeper before.matter → KeepsRows now.keeper now.matter
  pub faults : now.keeper.faults ≡ count
  pub sure : now.keeper.sure ≡ before.keeper.sure

-- a run stops where the keeper fails at what breaks no rule and changes the matter, and at no
-- broken rule
abbrev pub StopsAt : Matter → MatterRefusal → Answered → Type 0
StopsAt m (stops.Rule rule) next = ⊥
StopsAt m stops.KeeperFault next = IsTrue (not (breaks_rule next.answer)) × (next.matter ≢ m)
StopsAt m stops.OutOfMemory next = Unit {0}

-- only a fault of the keeper raises its count
abbrev pub faults_stopped : ℕ → MatterRefusal → ℕ
faults_stopped faults stops.KeeperFault = risen faults
faults_stopped faults _ = faults

-- what was asked before was made and answered, and the next and those behind it weren't
pub record Stopped (before : RunState) (asked : List RunStep) (refusal : MatterRefusal)
    (now : RunState) : Type 0 where
  pub first : List RunStep
  pub next : RunStep
  pub others : List RunStep
  pub parts : asked ≡ first ++ next ∷ others
  pub ran : Ran before first (faults_stopped before.keeper.faults refusal) now
  pub reason : StopsAt now.matter refusal (answered now.matter next)

-- what a run gives: all made and answered in turn, or what was asked before the one that it
-- stopped at
abbrev pub Runs : RunState → List RunStep → Result (Unit {0}) MatterRefusal → RunState → Type 0
Runs before asked (Ok _) now = Ran before asked before.keeper.faults now
Runs before asked (Err refusal) now = Stopped before asked refusal now

-- ---- one of a run

-- a broken rule is an answer, and the run goes on
abbrev pub refusal_answer : MatterRefusal → Result RunAnswer MatterRefusal
refusal_answer (stops.Rule rule) = Ok (answers.Refused rule)
refusal_answer stops.KeeperFault = Err stops.KeeperFault
refusal_answer stops.OutOfMemory = Err stops.OutOfMemory

-- what a call gave, as an answer of the run
abbrev pub reply_answer : Result Reply MatterRefusal → Result RunAnswer MatterRefusal
reply_answer (Ok reply) = Ok (answers.Replied reply)
reply_answer (Err refusal) = refusal_answer refusal

-- what an import gave, as an answer of the run
abbrev pub counted_answer : Result Counted MatterRefusal → Result RunAnswer MatterRefusal
counted_answer (Ok counted) = Ok (answers.Counted counted)
counted_answer (Err refusal) = refusal_answer refusal

-- one that is asked was made, or broke a rule, with this answer
pub record OneAnswered (m : Matter) (asked : RunStep) (keeper : KeeperView) (answer : RunAnswer)
    (m' : Matter) (keeper' : KeeperView) : Type 0 where
  pub edit : Edit
  pub changed : IsChange m (answered m asked) edit
  pub puts : PutsMade keeper.rows edit keeper'.rows
  pub kept : KeepsRows keeper m → KeepsRows keeper' m'
  pub answered : answered m asked ≡ record { answer = answer; matter = m' }
  pub faults : keeper'.faults ≡ keeper.faults
  pub sure : keeper'.sure ≡ keeper.sure

-- what it gives: the answer; or a fault of the keeper or want of memory, which leave all
abbrev pub AnswersOne : Matter → RunStep → KeeperView → Result RunAnswer MatterRefusal → Matter
    → KeeperView → Type 0
AnswersOne m asked keeper (Ok answer) m' keeper' = OneAnswered m asked keeper answer m' keeper'
AnswersOne m asked keeper (Err refusal) m' keeper' =
    StopsAt m refusal (answered m asked)
    × Stays m keeper (faults_stopped keeper.faults refusal) m' keeper'

-- ---- loaded after a run

-- where the rows of a matter are told before and after they are loaded, what is loaded from them
-- after a run is the matter after it
abbrev pub RunLoads : Type 0
RunLoads = (before now : RunState) (asked : List RunStep) (loaded : KeeperView) (count : ℕ)
    (tables : Shown) → KeepsRows before.keeper before.matter → Ran before asked count now
    → IsValid now.matter
    → IsTrue (is_some now.keeper.rows)
    → IsTrue (is_some loaded.rows)
    → LoadsTables now.keeper (Ok tables) loaded
    → tables.matter ≡ run_of before.matter asked
