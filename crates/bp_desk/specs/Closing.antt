-- What is known where all seats of a desk were taken in.
use Rattle.std.specs.Prelude.{◌≡◌, ℕ, ◌+◌, ◌≤◌, false, List, [], ◌∷◌, ◌++◌, length, All}
use Rattle.bp_book.specs.Books.{StaysWith}
use Rattle.bp_book.specs.Shown.{BookView}
use Rattle.bp_book.specs.declared.history.Made.{Made}
use Rattle.bp_desk.specs.Calls.{Begins, calls_by}
use Rattle.bp_desk.specs.Seats.{Desked, SeatView}
use Rattle.bp_desk.specs.Turns.{IsSeatCaller, both}
use Rattle.bp_desk.specs.declared.views.Peer.{Peer}
use Rattle.bp_desk.specs.declared.views.View.{View}

-- the view of the last seat, with the others taken in from the end on
abbrev pub joined : View → List SeatView → View
joined last [] = last
joined last (seat ∷ seats) = both (joined last seats) seat.view

-- all of it begins a log, and the calls of each number are its own
pub record PeerTold (log : List Made) (faults : ℕ) (p : Peer) : Type 0 where
  pub began : Begins p.seen log
  pub own : calls_by p.number log ≡ p.mine
  pub below : p.left ≤ faults

-- the same of a view, and of each that it met
pub record Told (log : List Made) (faults : ℕ) (v : View) : Type 0 where
  pub began : Begins v.seen log
  pub own : calls_by v.number log ≡ v.mine
  pub below : v.left ≤ faults
  pub peers : All (PeerTold log faults) v.met

-- all seats were taken in, none of which held the turn
pub record Gathered (seats : List SeatView) (v : View) : Type 0 where
  pub others : List SeatView
  pub last : SeatView
  pub parts : seats ≡ others ++ last ∷ []
  pub view : v ≡ joined last.view others
  pub free : v.holds ≡ false

-- some seats are left, and the others were taken in
pub record Gathering (seats rest : List SeatView) (v : View) : Type 0 where
  pub others : List SeatView
  pub last : SeatView
  pub parts : seats ≡ rest ++ (others ++ last ∷ [])
  pub view : v ≡ joined last.view others
  pub free : v.holds ≡ false

-- what a closed table's book is known to have
pub record Ended (desk : Desked) (v : View) (book : BookView) : Type 0 where
  pub told : Told book.journal book.keeper.faults v
  pub callers : All (IsSeatCaller desk.seats) book.journal
  pub fits : length book.journal ≤ desk.book.room
  pub opening : book.opening ≡ desk.book.opening
  pub stays : StaysWith desk.book.keeper book.keeper
  pub summed : desk.book.keeper.faults + v.raised ≤ book.keeper.faults
