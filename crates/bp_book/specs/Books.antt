-- What the calls of a book do.
use Rattle.std.specs.Prelude.{Bool, true, false, if◌then◌else◌, ◌≡◌, ◌<◌, ℕ, List, [], ◌∷◌, ◌++◌, length, Result, Ok, Err, Some, IfSome, IsTrue, is_some}
use Rattle.bp_core.specs.Counts.{risen}
use Rattle.bp_core.specs.declared.rules.Rule.{Rule}
use Rattle.bp_keep.specs.Keeper.{KeeperView}
use Rattle.bp_matter.specs.Matter.{Shown}
use Rattle.bp_matter.specs.Valid.{IsValid}
use Rattle.bp_matter.specs.declared.calls.Reply.{Reply}
use Rattle.bp_rules.specs.Loading.{LoadsTables}
use Rattle.bp_rules.specs.Steps.{AtMostOnce}
use Rattle.bp_rules.specs.declared.refusals.MatterRefusal.{MatterRefusal}
use Rattle.bp_rules.specs.declared.refusals.MatterRefusal.TheVariants as stops
use Rattle.bp_book.specs.Calls.{AltersOn, answer_to}
use Rattle.bp_book.specs.Shown.{BookView, tables_of}
use Rattle.bp_book.specs.declared.history.Made.{Made}
use Rattle.bp_book.specs.declared.refusals.DeskRefusal.{DeskRefusal}
use Rattle.bp_book.specs.declared.refusals.DeskRefusal.TheVariants as refusals

-- a book over what was loaded of a keeper, a valid matter, with no call yet
pub record Opens (keeper : KeeperView) (room : ℕ) (book : BookView) : Type 0 where
  pub tables : Shown
  pub opening : tables.matter ≡ book.opening
  pub valid : IsValid book.opening
  pub loaded : LoadsTables keeper (Ok tables) book.keeper
  pub journal : book.journal ≡ []
  pub roomy : book.room ≡ room

-- a keeper wasn't asked to load, is as sure as it was, and tells rows only where it told them
-- before
pub record StaysWith (before after : KeeperView) : Type 0 where
  pub loads : after.loads ≡ before.loads
  pub sure : after.sure ≡ before.sure
  pub told : IfSome after.rows (λ _. IsTrue (is_some before.rows))

-- a call was answered, and stands at the end of the journal; the keeper was asked once at most
pub record Entered (before : BookView) (made : Made) (answer : Result Reply Rule) (after : BookView)
    : Type 0 where
  pub has_room : length before.journal < before.room
  pub answered : answer_to (tables_of before) made ≡ answer
  pub opening : after.opening ≡ before.opening
  pub journal : after.journal ≡ before.journal ++ made ∷ []
  pub faults : after.keeper.faults ≡ before.keeper.faults
  pub commits : AtMostOnce before.keeper.commits after.keeper.commits
  pub same_room : after.room ≡ before.room

-- no call was made: rows that are told now were told before, and the keeper's count is this one
pub record Unmade (before : BookView) (count : ℕ) (after : BookView) : Type 0 where
  pub has_room : length before.journal < before.room
  pub opening : after.opening ≡ before.opening
  pub journal : after.journal ≡ before.journal
  pub rows : IfSome after.keeper.rows (λ now. before.keeper.rows ≡ Some now)
  pub faults : after.keeper.faults ≡ count
  pub commits : AtMostOnce before.keeper.commits after.keeper.commits
  pub same_room : after.room ≡ before.room

-- the journal has as many calls as there is room for
pub record Full (before : BookView) (count : ℕ) (after : BookView) : Type 0 where
  pub counted : count ≡ length before.journal
  pub full : length before.journal ≡ before.room
  pub same : after ≡ before

-- the call breaks no rule, and changes the matter
abbrev pub Alters : BookView → Made → Type 0
Alters before made = AltersOn (tables_of before) made.key made.call

-- what a call gives: the answer at the end of the journal; or a fault of the keeper at a call that
-- alters the matter, a full journal, or want of memory, after which the call doesn't stand in it
abbrev pub BookCalls : BookView → Made → Result Reply DeskRefusal → BookView → Type 0
BookCalls before made (Ok reply) after = Entered before made (Ok reply) after
BookCalls before made (Err (refusals.Rule rule)) after = Entered before made (Err rule) after
BookCalls before made (Err refusals.KeeperFault) after =
    Alters before made × Unmade before (risen before.keeper.faults) after
BookCalls before made (Err (refusals.JournalFull count)) after = Full before count after
BookCalls before made (Err refusals.OutOfMemory) after = Unmade before before.keeper.faults after

-- whether a call stands in the history after an answer
abbrev pub is_made : Result Reply DeskRefusal → Bool
is_made (Ok reply) = true
is_made (Err (refusals.Rule rule)) = true
is_made (Err refusals.KeeperFault) = false
is_made (Err (refusals.JournalFull count)) = false
is_made (Err refusals.OutOfMemory) = false

-- the journal with the call, if it was made
abbrev pub entered_if : Bool → List Made → Made → List Made
entered_if made journal call = if made then journal ++ call ∷ [] else journal

-- the answer at the desk to what a step gave
abbrev pub answer_of_step : Result Reply MatterRefusal → Result Reply DeskRefusal
answer_of_step (Ok reply) = Ok reply
answer_of_step (Err (stops.Rule rule)) = Err (refusals.Rule rule)
answer_of_step (Err stops.KeeperFault) = Err refusals.KeeperFault
answer_of_step (Err stops.OutOfMemory) = Err refusals.OutOfMemory
