-- A history of calls: what each is answered, and what it makes of a matter.
use Rattle.std.specs.Prelude.{◌≢◌, ℕ, List, [], ◌∷◌, ◌++◌, ◌≡◌, Result, Ok, Err, IsOkAnd}
use Rattle.bp_core.specs.declared.rules.Rule.{Rule}
use Rattle.bp_matter.specs.Matter.{Matter}
use Rattle.bp_matter.specs.declared.calls.Call.{Call}
use Rattle.bp_matter.specs.declared.calls.Reply.{Reply}
use Rattle.bp_rules.specs.Stepping.{Stepped, step_of}
use Rattle.bp_book.specs.declared.history.Made.{Made}

-- the call of a seat with this key
abbrev pub made_by : ℕ → List ℕ → Call → Made
made_by seat key call = record { seat = seat; key = key; call = call }

-- what a step is answered
abbrev pub answer_by : Result Stepped Rule → Result Reply Rule
answer_by (Ok stepped) = Ok stepped.reply
answer_by (Err rule) = Err rule

-- the matter after a step: a broken rule leaves it
abbrev pub matter_by : Matter → Result Stepped Rule → Matter
matter_by m (Ok stepped) = stepped.matter
matter_by m (Err rule) = m

-- the step of a call on this matter
abbrev pub step_with : Matter → Made → Result Stepped Rule
step_with m made = step_of m made.key made.call

-- the answer to a call on this matter
abbrev pub answer_to : Matter → Made → Result Reply Rule
answer_to m made = answer_by (step_with m made)

-- the call breaks no rule on this matter, and changes it
abbrev pub AltersOn : Matter → List ℕ → Call → Type 0
AltersOn m key call = IsOkAnd (step_of m key call) (λ stepped. stepped.matter ≢ m)

-- the matter after a call
abbrev pub matter_with : Matter → Made → Matter
matter_with m made = matter_by m (step_with m made)

-- the matter after calls in turn; each is answered on the matter after those before it
abbrev pub run_calls : Matter → List Made → Matter
run_calls m [] = m
run_calls m (made ∷ more) = run_calls (matter_with m made) more

-- it does so behind some beginning of these calls
pub record AltersAmong (m : Matter) (made : List Made) (key : List ℕ) (call : Call) : Type 0 where
  pub before : List Made
  pub behind : List Made
  pub all : made ≡ before ++ behind
  pub alters : AltersOn (run_calls m before) key call
