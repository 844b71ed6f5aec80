-- A history of calls, the calls of one seat in it, and what is known of it where a door is served.
use Rattle.std.specs.Prelude.{◌≡◌, ℕ, ◌≤◌, ◌==◌, Bool, true, false, List, [], ◌∷◌, ◌++◌, length, Result, Ok, Err}
use Rattle.bp_core.specs.declared.rules.Rule.{Rule}
use Rattle.bp_matter.specs.Matter.{Matter}
use Rattle.bp_matter.specs.declared.calls.Reply.{Reply}
use Rattle.bp_web.specs.declared.replies.Answer.{Answer}
use Rattle.bp_web.specs.declared.replies.Answer.TheVariants as answers
use Rattle.bp_web.specs.declared.requests.Asked.{Asked}
use Rattle.bp_book.specs.Calls.{answer_to, matter_with, run_calls}
use Rattle.bp_book.specs.declared.history.Made.{Made}

-- a call as it was asked for
abbrev pub asked_by : Made → Asked
asked_by made = record { key = made.key; call = made.call }

-- what is sent for the answer to a call
abbrev pub sent_for : Result Reply Rule → Answer
sent_for (Ok reply) = answers.Reply reply
sent_for (Err rule) = answers.Rule rule

-- what was asked, and the answer at its place in the history
pub record Turn : Type 0 where
  pub asked : Asked
  pub answer : Answer

-- a call on the matter at its place
abbrev pub turn_of : Matter → Made → Turn
turn_of m made = record { asked = asked_by made; answer = sent_for (answer_to m made) }

-- in front, if it is so
abbrev pub turn_if : Bool → Turn → List Turn → List Turn
turn_if true turn turns = turn ∷ turns
turn_if false turn turns = turns

-- the calls of one seat in a history, in order, with the answers at their places
abbrev pub turns_of : ℕ → Matter → List Made → List Turn
turns_of seat m [] = []
turns_of seat m (made ∷ more) =
    turn_if (made.seat == seat) (turn_of m made) (turns_of seat (matter_with m made) more)

-- none of these calls is of this seat
abbrev pub AreOthers : ℕ → List Made → Type 0
AreOthers seat [] = Unit {0}
AreOthers seat (made ∷ more) = ((made.seat == seat) ≡ false) × AreOthers seat more

-- ---- what is known of it

-- The matter that it began with; the calls made since that who shows this has seen; how many may be
-- made; and how often the keeper failed at the calls of who shows this.
pub record HistoryView : Type 0 where
  pub opening : Matter
  pub calls : List Made
  pub room : ℕ
  pub faults : ℕ

-- the matter after it
abbrev pub matter_of : HistoryView → Matter
matter_of history = run_calls history.opening history.calls

-- no more calls can be made
abbrev pub is_full : HistoryView → Bool
is_full history = length history.calls == history.room

-- these calls came, and nothing else changed but that the keeper may have failed
pub record Grew (before : HistoryView) (made : List Made) (after : HistoryView) : Type 0 where
  pub opening : after.opening ≡ before.opening
  pub calls : after.calls ≡ before.calls ++ made
  pub room : after.room ≡ before.room
  pub faults : before.faults ≤ after.faults
