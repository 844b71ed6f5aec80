-- What contracts see of a desk and of its seats.
use Rattle.std.specs.Prelude.{◌≡◌, ℕ, ◌+◌, ◌-◌, ◌<◌, ◌≤◌, Bool, false, List, [], ◌∷◌, ◌++◌, length, Option, Some, None, Result, Ok, Err, if◌then◌else◌, ◌⊎◌, All, map}
use Rattle.std.specs.List.{range_with_len}
use Rattle.bp_core.specs.Counts.{risen}
use Rattle.bp_core.specs.declared.rules.Rule.{Rule}
use Rattle.bp_keep.specs.Keeper.{KeeperView}
use Rattle.bp_matter.specs.Matter.{Matter}
use Rattle.bp_matter.specs.declared.calls.Reply.{Reply}
use Rattle.atomic_table.specs.Seated.{TableId}
use Rattle.atomic_table.specs.Table.{Me}
use Rattle.bp_rules.specs.Steps.{KeepsRows}
use Rattle.bp_book.specs.Calls.{AltersOn, answer_to, run_calls}
use Rattle.bp_book.specs.History.{AreOthers}
use Rattle.bp_book.specs.Books.{Opens, StaysWith}
use Rattle.bp_book.specs.Shown.{BookView}
use Rattle.bp_book.specs.declared.history.Made.{Made}
use Rattle.bp_book.specs.declared.refusals.DeskRefusal.{DeskRefusal}
use Rattle.bp_book.specs.declared.refusals.DeskRefusal.TheVariants as refusals
use Rattle.bp_desk.specs.Calls.{Begins, calls_by}
use Rattle.bp_desk.specs.declared.desk.TheConstants.{MOST_SEATS}
use Rattle.bp_desk.specs.Turns.{IsSeatCaller, StaysAs, began_with, grown, raised_by, taking, times, total}
use Rattle.bp_desk.specs.declared.views.Opening.{Opening}
use Rattle.bp_desk.specs.declared.views.View.{View}

-- which desk it is of, and what is known there
pub record SeatView : Type 0 where
  pub desk : TableId
  pub view : View

-- which desk it is; the book as it was at the start, which has the tables that the desk began with, the
-- keeper's count of faults then and how many calls there may be; and how many seats there are
pub record DeskView (B : Type 0) : Type 0 where
  pub id : TableId
  pub book : B
  pub seats : ℕ

-- what holds of every desk
pub record IsDesk {B : Type 0} (id : TableId) (key : Opening B) (seats : ℕ) : Type 0 where
  pub words : id.words ≡ 3
  pub slots : id.slots ≡ 1
  pub seated : key.seats ≡ seats
  pub some_seat : 0 < seats
  pub few : seats ≤ MOST_SEATS

-- a desk as calls see it
abbrev pub Desked : Type 0
Desked = DeskView BookView

-- which desk a note is of, and what its giver had seen
pub record NoteView : Type 0 where
  pub desk : TableId
  pub seen : List Made

-- a seat of this desk
pub record IsSeatOf (desk : Desked) (seat : SeatView) : Type 0 where
  pub same : seat.desk ≡ desk.id
  pub opening : seat.view.opening ≡ desk.book.opening
  pub base : seat.view.base ≡ desk.book.keeper.faults
  pub room : seat.view.room ≡ desk.book.room

abbrev Sat : Type 0
Sat = Me (Option BookView) View

module _ {B : Type 0} where
  -- Between two calls a seat doesn't hold the turn. Its calls in what it has seen are its own, and it
  -- raised the keeper's count by no more than what that stands at
  pub record Rests (me : Me (Option B) View) (number : ℕ) : Type 0 where
    pub is : me.0.number ≡ number
    pub numbered : 0 < number
    pub own : calls_by me.0.number me.0.seen ≡ me.0.mine
    pub within : me.0.raised ≤ me.0.left
    pub free : me.0.holds ≡ false
    pub alone : me.0.met ≡ []
    pub none : me.1 ≡ []

  -- a note has no number, and has taken nothing in
  pub record IsNote (me : Me (Option B) View) : Type 0 where
    pub unnumbered : me.0.number ≡ 0
    pub unraised : me.0.raised ≡ 0
    pub free : me.0.holds ≡ false
    pub alone : me.0.met ≡ []
    pub none : me.1 ≡ []

-- the turn was taken, with this book
pub record Taken (v : View) (book : BookView) (me : Sat) : Type 0 where
  pub view : me.0 ≡ taking v book
  pub carries : me.1 ≡ (0, None) ∷ []
  pub seen : Begins v.seen book.journal
  pub own : calls_by v.number book.journal ≡ v.mine
  pub left : v.left ≤ book.keeper.faults
  pub opening : book.opening ≡ v.opening
  pub roomy : book.room ≡ v.room
  pub stays : StaysAs v.keeper book.keeper

-- the turn was taken, or nothing changed
abbrev pub Tried : Sat → Option BookView → Sat → Type 0
Tried m (Some book) m' = Taken m.0 book m'
Tried m None m' = m' ≡ m

-- the call is seen, if it was made
abbrev pub grown_if : Bool → View → Made → View
grown_if made v call = if made then grown v call else v

-- the book that is brought home has the journal that was seen, and its keeper's count is no lower
pub record Brings (v : View) (book : BookView) : Type 0 where
  pub journal : book.journal ≡ v.seen
  pub opening : book.opening ≡ v.opening
  pub roomy : book.room ≡ v.room
  pub count : v.left ≤ book.keeper.faults
  pub stays : StaysAs v.keeper book.keeper

-- what no call changes
pub record Remains (v w : View) : Type 0 where
  pub number : w.number ≡ v.number
  pub given : w.given ≡ v.given
  pub opening : w.opening ≡ v.opening
  pub base : w.base ≡ v.base
  pub room : w.room ≡ v.room
  pub keeper : w.keeper ≡ v.keeper

-- it is the seat that it was
pub record SameSeat (before after : SeatView) : Type 0 where
  pub desk : after.desk ≡ before.desk
  pub view : Remains before.view after.view

-- the turn raised the keeper's count from one number to another
pub record Raised (v w : View) : Type 0 where
  pub found : v.left ≤ w.found
  pub rose : w.found ≤ w.left
  pub sum : w.raised ≡ v.raised + (w.left - w.found)

-- a call was answered, and stands at the end of what is seen, behind calls of others that were made
-- since
pub record Called (v : View) (made : Made) (answer : Result Reply Rule) (w : View) : Type 0 where
  pub same : Remains v w
  pub between : List Made
  pub apart : AreOthers v.number between
  pub seen : w.seen ≡ (v.seen ++ between) ++ made ∷ []
  pub mine : w.mine ≡ v.mine ++ made ∷ []
  pub answered : answer_to (run_calls v.opening (v.seen ++ between)) made ≡ answer
  pub fits : length w.seen ≤ v.room
  pub turn : Raised v w
  pub quiet : w.left ≡ w.found

-- none was made; calls of others may have come
pub record Uncalled (v w : View) : Type 0 where
  pub same : Remains v w
  pub between : List Made
  pub apart : AreOthers v.number between
  pub seen : w.seen ≡ v.seen ++ between
  pub mine : w.mine ≡ v.mine
  pub turn : Raised v w

-- after these calls the call breaks no rule, and changes the matter
abbrev pub AltersAfter : Matter → List Made → Made → Type 0
AltersAfter opening seen made = AltersOn (run_calls opening seen) made.key made.call

-- what a call of a seat gives. The keeper failed at a call that changes the matter. A full journal has
-- as many calls as there is room for; after a fault of the keeper and want of memory there is room for
-- more
abbrev pub Calls : View → Made → Result Reply DeskRefusal → View → Type 0
Calls v made (Ok reply) w = Called v made (Ok reply) w
Calls v made (Err (refusals.Rule rule)) w = Called v made (Err rule) w
Calls v made (Err refusals.KeeperFault) w =
    Uncalled v w × (w.left ≡ risen w.found) × (length w.seen < v.room)
    × AltersAfter v.opening w.seen made
Calls v made (Err (refusals.JournalFull count)) w =
    Uncalled v w × (w.left ≡ w.found) × (length w.seen ≡ v.room) × (count ≡ v.room)
Calls v made (Err refusals.OutOfMemory) w =
    Uncalled v w × (w.left ≡ w.found) × (length w.seen < v.room)

-- ---- the start

-- a seat that has seen nothing, with its number, and how many numbers it has given
abbrev pub fresh : Desked → ℕ → ℕ → SeatView
fresh desk number given = record {
  desk = desk.id;
  view = record {
    number = number;
    given = given;
    opening = desk.book.opening;
    base = desk.book.keeper.faults;
    keeper = began_with desk.book.keeper;
    room = desk.book.room;
    seen = [];
    mine = [];
    found = desk.book.keeper.faults;
    left = desk.book.keeper.faults;
    raised = 0;
    holds = false;
    met = [];
  };
}

-- the seat of this number, which has given none
abbrev pub fresh_with : Desked → ℕ → SeatView
fresh_with desk number = fresh desk number 0

-- so many seats from 2 on
abbrev pub others : Desked → ℕ → List SeatView
others desk count = map (fresh_with desk) (range_with_len 2 count)

-- all seats of a desk, numbered from 1 in order
abbrev pub all_fresh : Desked → List SeatView
all_fresh desk = fresh desk 1 desk.seats ∷ others desk (desk.seats - 1)

-- a desk over a book with no call yet
pub record IsDeskOf (book : BookView) (count : ℕ) (desk : Desked) : Type 0 where
  pub book_is : desk.book ≡ book
  pub counted : desk.seats ≡ count

-- with all its seats
abbrev pub IsOver : BookView → ℕ → Desked → List SeatView → Type 0
IsOver book count desk seats = IsDeskOf book count desk × (seats ≡ all_fresh desk)

-- with its first place
abbrev pub IsMade : BookView → ℕ → Desked → TableId → Sat → Type 0
IsMade book count desk id me =
    IsDeskOf book count desk × (id ≡ desk.id) × (me ≡ ((fresh desk 1 1).view, []))

-- a desk over what was loaded of a keeper, with its seats
pub record Begun (keeper : KeeperView) (count limit : ℕ) (desk : Desked) (seats : List SeatView)
    : Type 0 where
  pub opens : Opens keeper limit desk.book
  pub counted : desk.seats ≡ count
  pub seats_are : seats ≡ all_fresh desk

-- ---- a note is taken in

-- what was seen begins with what the seat had seen and with what the note has, and is one of the two
pub record Met (v : View) (note : List Made) (w : View) : Type 0 where
  pub same : Remains v w
  pub mine : w.mine ≡ v.mine
  pub found : w.found ≡ v.found
  pub left : w.left ≡ v.left
  pub raised : w.raised ≡ v.raised
  pub seen : Begins v.seen w.seen
  pub told : Begins note w.seen
  pub one : (w.seen ≡ v.seen) ⊎ (w.seen ≡ note)

-- ---- the end

-- the number of a seat
abbrev pub seat_number : SeatView → ℕ
seat_number seat = seat.view.number

-- what a seat knows
abbrev pub seat_view : SeatView → View
seat_view seat = seat.view

-- all seats of this desk: each number from 1 on is the number of one
pub record AreSeats (desk : Desked) (seats : List SeatView) : Type 0 where
  pub of_desk : All (IsSeatOf desk) seats
  pub whole : (number : ℕ) → 0 < number → number ≤ desk.seats
      → 0 < times number (map seat_number seats)

-- what a seat knows of the whole history and of the keeper's last count
pub record SeatCloses (history : List Made) (faults : ℕ) (seat : SeatView) : Type 0 where
  pub seen : Begins seat.view.seen history
  pub mine : calls_by seat.view.number history ≡ seat.view.mine
  pub left : seat.view.left ≤ faults

-- the history, with the tables after it and the keeper that has their rows, which wasn't asked to load
-- since the start
pub record SeatsClose (desk : Desked) (seats : List SeatView) (history : List Made)
    (matter : Matter) (keeper : KeeperView) : Type 0 where
  pub each : All (SeatCloses history keeper.faults) seats
  pub callers : All (IsSeatCaller desk.seats) history
  pub fits : length history ≤ desk.book.room
  pub tables : matter ≡ run_calls desk.book.opening history
  pub rows : KeepsRows keeper matter
  pub stays : StaysWith desk.book.keeper keeper
  pub summed : desk.book.keeper.faults + total raised_by (map seat_view seats) ≤ keeper.faults
