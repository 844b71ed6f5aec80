-- Serving a matter: a desk over the rows of a keeper, from its start to its end.
use Rattle.std.specs.Prelude.{◌≡◌, ℕ, ◌+◌, ◌≤◌, Err, List, [], ◌∷◌, ◌++◌, All, length, map, reverse, sum}
use Rattle.bp_keep.specs.Keeper.{KeeperView}
use Rattle.bp_matter.specs.Matter.{Matter}
use Rattle.bp_outside.specs.Door.{DoorView}
use Rattle.bp_rules.specs.Loading.{LoadsTables}
use Rattle.bp_rules.specs.Steps.{KeepsRows}
use Rattle.bp_rules.specs.declared.refusals.MatterRefusal.{MatterRefusal}
use Rattle.bp_rules.specs.declared.refusals.MatterRefusal.TheVariants as refusals
use Rattle.bp_book.specs.Books.{Opens, StaysWith}
use Rattle.bp_book.specs.Calls.{run_calls}
use Rattle.bp_book.specs.Shown.{BookView}
use Rattle.bp_book.specs.declared.history.Made.{Made}
use Rattle.bp_book.specs.declared.history.TheConstants.{MOST_CALLS}
use Rattle.bp_desk.specs.Run.{DoorServed}
use Rattle.bp_desk.specs.Serving.{Knocks, RoseBy}
use Rattle.bp_desk.specs.Seats.{SeatView}
use Rattle.bp_desk.specs.Doors.{ServesFor}
use Rattle.bp_desk.specs.Turns.{IsSeatCaller}
use Rattle.bp_desk.specs.declared.doors.PostOf.{PostOf}

-- ---- what it comes to

-- a door was served for a seat, by a history, and once found closed it isn't knocked at again
pub record IsServed {D : Type 0} (shows : D → DoorView) (connections : ℕ) (opening : Matter)
    (history : List Made) (seat failed : ℕ) (door door' : D) : Type 0 where
  pub served : DoorServed opening history MOST_CALLS seat connections failed (shows door)
      (shows door')
  pub knocks : Knocks shows connections door door'

-- The first doors were served, each for the seat of its place, from this one on: its exchanges use up
-- the calls of that seat in this history, and so many of them were answered that the keeper failed.
-- The doors behind them weren't touched.
abbrev pub AreServed : {D : Type 0} → (D → DoorView) → ℕ → Matter → List Made → ℕ → List ℕ → List D
    → List D → Type 0
AreServed shows connections opening history seat [] given handed = handed ≡ given
AreServed shows connections opening history seat (failed ∷ more) [] handed = ⊥
AreServed shows connections opening history seat (failed ∷ more) (door ∷ given) [] = ⊥
AreServed shows connections opening history seat (failed ∷ more) (door ∷ given) (door' ∷ handed) =
    IsServed shows connections opening history seat failed door door'
    × AreServed shows connections opening history (seat + 1) more given handed

-- A matter was served at so many doors, from the book that it was loaded into. The history has calls
-- of their seats alone, the tables are those after it, and the keeper failed at least as often as was
-- answered over all doors together.
pub record ServesMatter {D : Type 0} (shows : D → DoorView) (desks connections : ℕ)
    (before : KeeperView) (given : List D) (history : List Made) (matter : Matter)
    (after : KeeperView) (handed : List D) : Type 0 where
  pub book : BookView
  pub opens : Opens before MOST_CALLS book
  pub callers : All (IsSeatCaller desks) history
  pub fits : length history ≤ MOST_CALLS
  pub tables : matter ≡ run_calls book.opening history
  pub rows : KeepsRows after matter
  pub stays : StaysWith book.keeper after
  pub failed : List ℕ
  pub counted : length failed ≡ desks
  pub doors : AreServed shows connections book.opening history 1 failed given handed
  pub rose : RoseBy (sum failed) book.keeper.faults after.faults

-- nobody was served: memory ran out before the keeper was asked, or no tables were loaded
pub data ServesNone (before : KeeperView) (why : MatterRefusal) (after : KeeperView) : Type 0 where
  unasked : why ≡ refusals.OutOfMemory → after ≡ before → ServesNone before why after
  unloaded : LoadsTables before (Err why) after → ServesNone before why after

-- ---- posts

-- the seat of a post
abbrev pub post_seat : {D : Type 0} → PostOf BookView D → SeatView
post_seat post = post.seat

-- the door of a post
abbrev pub post_door : {D : Type 0} → PostOf BookView D → D
post_door post = post.door

-- Some of the seats and the first doors are paired by their places. The other seats stand in one row,
-- the last first, and the other doors in another.
pub record Pairing {D : Type 0} (seats : List SeatView) (given : List D)
    (posts : List (PostOf BookView D)) (rest : List SeatView) (behind : List D) : Type 0 where
  pub seated : seats ≡ map post_seat posts ++ reverse rest
  pub doors : given ≡ map post_door posts ++ reverse behind

-- all of the seats are
pub record ArePaired {D : Type 0} (seats : List SeatView) (given : List D)
    (posts : List (PostOf BookView D)) (behind : List D) : Type 0 where
  pub seated : seats ≡ map post_seat posts
  pub doors : given ≡ map post_door posts ++ reverse behind

-- the door of each post was served at its seat
abbrev pub ServeEach : {D : Type 0} → (D → DoorView) → ℕ → List (PostOf BookView D)
    → List (PostOf BookView D) → Type 0
ServeEach shows connections [] [] = Unit {0}
ServeEach shows connections [] (after ∷ others) = ⊥
ServeEach shows connections (before ∷ more) [] = ⊥
ServeEach shows connections (before ∷ more) (after ∷ others) =
    ServesFor shows connections before.seat before.door after.seat after.door
    × ServeEach shows connections more others

-- the doors of these posts were served, and seats and doors are back
pub record ServesPosts {D : Type 0} (shows : D → DoorView) (connections : ℕ)
    (before : List (PostOf BookView D)) (behind : List D) (seats : List SeatView) (handed : List D)
    : Type 0 where
  pub after : List (PostOf BookView D)
  pub each : ServeEach shows connections before after
  pub are : ArePaired seats handed after behind
