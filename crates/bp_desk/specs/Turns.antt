-- The rule of the table that seats share, and what each kind of step on it tells.
--
-- The table has three words: TURN, 1 while a seat holds the turn; COUNT, the number of calls that were
-- made; and FAULTS, the keeper's count of faults. Its one slot has the book. What was done is one
-- history, the `log` of `Ruled`, of which each view tells a beginning. There are nine kinds of step:
--
--  1. a load of TURN (`settled`): what was met is known to begin what is seen. A compare_exchange that
--     is lost is one too, and tells nothing (`tried`)
--  2. a compare_exchange of TURN that is won (`tried`, `Won`): the seat holds the turn, has seen the
--     whole history, and has found the keeper's count
--  3. an exchange that takes the book out of the slot: no word changes, and no view
--  4. a fetch_add on COUNT (`counted`): one call is made, of the seat that holds the turn. This alone
--     makes the history longer
--  5. a swap on FAULTS (`told`): the keeper's count is told, which never falls
--  6. an exchange that puts the book back: no word changes, and no view
--  7. a store to TURN that leaves it (`released`), with the book at home
--  8. a seat is split: a new seat gets the next number (`dealer`, `dealt`), or a note is given
--     (`note_of`)
--  9. two seats are joined (`both`, `spent`): one takes the other in, and keeps what both had seen
use Rattle.std.specs.Prelude.{◌≡◌, ◌≢◌, ◌⊎◌, ◌==◌, ℕ, ◌+◌, ◌-◌, ◌<◌, ◌≤◌, ◌^◌, true, false, nat_le, List, [], ◌∷◌, ◌++◌, length, map, All, Option, Some, IfSome, IsTrue, if◌then◌else◌, is_some}
use mathlib.Core.Option.{some}
use mathlib.Core.Option as maybe
use lib.ListN.{get_elem?}
use Rattle.atomic_table.specs.Table.{State, Me, Step}
use Rattle.bp_keep.specs.Keeper.{KeeperView}
use Rattle.bp_matter.specs.Matter.{Matter}
use Rattle.bp_matter.specs.declared.calls.Call.TheVariants as calls
use Rattle.bp_book.specs.Books.{StaysWith}
use Rattle.bp_book.specs.Shown.{BookView}
use Rattle.bp_book.specs.declared.history.Made.{Made}
use Rattle.bp_desk.specs.Calls.{Begins, calls_by}
use Rattle.bp_desk.specs.declared.views.KeeperBegan.{KeeperBegan}
use Rattle.bp_desk.specs.declared.views.Opening.{Opening}
use Rattle.bp_desk.specs.declared.views.Peer.{Peer}
use Rattle.bp_desk.specs.declared.views.View.{View}

-- what f gives of each view, added up
abbrev pub total : (View → ℕ) → List View → ℕ
total f [] = 0
total f (v ∷ views) = f v + total f views

-- how much the keeper's count rose by in the turns of a view
abbrev pub raised_by : View → ℕ
raised_by v = v.raised

-- how often a number stands in a list
abbrev pub times : ℕ → List ℕ → ℕ
times k [] = 0
times k (n ∷ numbers) = (if n == k then 1 else 0) + times k numbers

-- the number of one that was taken in
abbrev pub peer_number : Peer → ℕ
peer_number p = p.number

-- how often a view has a number: as its own, and of those that it took in
abbrev pub times_held : ℕ → View → ℕ
times_held k v = times k (v.number ∷ map peer_number v.met)

-- what is known of a keeper with which a desk begins
abbrev pub began_with : KeeperView → KeeperBegan
began_with keeper =
    record { told = is_some keeper.rows; loads = keeper.loads; sure = keeper.sure }

-- since then the keeper wasn't asked to load, is as sure as it was, and tells rows only where it told
-- them then
pub record StaysAs (began : KeeperBegan) (keeper : KeeperView) : Type 0 where
  pub loads : keeper.loads ≡ began.loads
  pub sure : keeper.sure ≡ began.sure
  pub told : IfSome keeper.rows (λ _. IsTrue began.told)

-- one that was taken in had seen what its taker has, and the calls of its number are its own
pub record PeerFits (log : List Made) (faults given : ℕ) (seen : List Made) (p : Peer)
    : Type 0 where
  pub began : Begins p.seen seen
  pub own : calls_by p.number log ≡ p.mine
  pub below : p.left ≤ faults
  pub numbered : p.number ≤ given

-- What holds of each view. One with a number tells what the desk began with. Each tells a beginning of
-- the log, the calls of its number in the log, and a count of faults that the word is not below. The
-- seat that deals has number 1, and knows how many numbers are given.
pub record Fits (key : Opening BookView) (log : List Made) (faults given : ℕ) (v : View)
    : Type 0 where
  pub known : 0 < v.number
      → (v.opening ≡ key.book.value.opening) × (v.base ≡ key.book.value.keeper.faults)
      × (v.room ≡ key.book.value.room) × (v.keeper ≡ began_with key.book.value.keeper)
  pub began : Begins v.seen log
  pub own : calls_by v.number log ≡ v.mine
  pub below : v.left ≤ faults
  pub numbered : v.number ≤ given
  pub dealer : 0 < v.given → (v.given ≡ given) × (v.number ≡ 1)
  pub peers : All (PeerFits log faults given v.seen) v.met

-- The book is at home: it began with what the desk began with, its journal is the log, its keeper's
-- count is the word FAULTS, and nobody holds the turn. Its keeper wasn't asked to load since. Its type
-- says that its tables are those after the journal.
pub record IsHome (key : Opening BookView) (log : List Made) (faults : ℕ)
    (homes : List (maybe.Option (Option BookView))) (views : List View) : Type 0 where
  pub book : BookView
  pub there : homes ≡ some (Some book) ∷ []
  pub journal : book.journal ≡ log
  pub opening : book.opening ≡ key.book.value.opening
  pub roomy : book.room ≡ key.book.value.room
  pub count : book.keeper.faults ≡ faults
  pub stays : StaysWith key.book.value.keeper book.keeper
  pub free : (id : ℕ) (v : View) → get_elem? views id ≡ some v → v.holds ≡ false

-- The book is out: one seat alone holds the turn, one with a number. It has seen the whole log, and its
-- second number of faults is the word FAULTS.
pub record BookIsOut (log : List Made) (faults : ℕ) (views : List View) : Type 0 where
  pub holder : ℕ
  pub view : View
  pub there : get_elem? views holder ≡ some view
  pub holds : view.holds ≡ true
  pub numbered : 0 < view.number
  pub seen : view.seen ≡ log
  pub left : view.left ≡ faults
  pub others : (id : ℕ) (v : View) → get_elem? views id ≡ some v → v.holds ≡ true → id ≡ holder

-- the word TURN says which of the two it is
abbrev pub Stands : Opening BookView → ℕ → List Made → ℕ → List (maybe.Option (Option BookView))
    → List View → Type 0
Stands key turn log faults homes views =
    ((turn ≡ 0) × IsHome key log faults homes views) ⊎ ((turn ≡ 1) × BookIsOut log faults views)

-- a call was made at a seat whose number was given
abbrev pub IsSeatCaller : ℕ → Made → Type 0
IsSeatCaller given made = (0 < made.seat) × (made.seat ≤ given)

-- The rule. COUNT is the length of the one history, which fits its room and has calls of given numbers
-- alone. Each number is one seat's (`once`), and what the seats' turns raised the keeper's count by is,
-- in sum, no more than what it rose by since the desk began (`summed`).
pub record Ruled (key : Opening BookView) (s : State (Option BookView) View) : Type 0 where
  pub turn : ℕ
  pub faults : ℕ
  pub given : ℕ
  pub log : List Made
  pub words : s.words ≡ turn ∷ length log ∷ faults ∷ []
  pub roomy : key.book.value.room < 2 ^ 63
  pub seats : given ≤ key.seats
  pub fits : length log ≤ key.book.value.room
  pub callers : All (IsSeatCaller given) log
  pub each : (id : ℕ) (v : View) → get_elem? s.views id ≡ some v → Fits key log faults given v
  pub once : (k : ℕ) → 0 < k → total (times_held k) s.views ≤ 1
  pub summed : key.book.value.keeper.faults + total raised_by s.views ≤ faults
  pub stands : Stands key turn log faults s.homes s.views

-- ---- views

-- the first seat has number 1, and has seen nothing
abbrev pub first_view : Opening BookView → View
first_view key = record {
  number = 1;
  given = 1;
  opening = key.book.value.opening;
  base = key.book.value.keeper.faults;
  keeper = began_with key.book.value.keeper;
  room = key.book.value.room;
  seen = [];
  mine = [];
  found = key.book.value.keeper.faults;
  left = key.book.value.keeper.faults;
  raised = 0;
  holds = false;
  met = [];
}

-- a call to stand where none is picked
abbrev pub no_call : Made
no_call = record { seat = 0; key = []; call = calls.SeeDoc (record { 0 = 0 }) }

-- a matter to stand where none is known
abbrev pub no_matter : Matter
no_matter = record {
  staff = [];
  fields = [];
  docs = [];
  pages = [];
  calls = [];
  boxes = [];
  held = [];
  entries = [];
  prefixes = [];
  productions = [];
  batches = [];
  words = [];
}

-- what is left of a view that was taken in
abbrev pub spent : View
spent = record {
  number = 0;
  given = 0;
  opening = no_matter;
  base = 0;
  keeper = record { told = false; loads = 0; sure = false };
  room = 0;
  seen = [];
  mine = [];
  found = 0;
  left = 0;
  raised = 0;
  holds = false;
  met = [];
}

-- who deals counts one number more
abbrev pub dealer : View → View
dealer v = record v { given = v.given + 1 }

-- a new seat has the next number, and has seen as much
abbrev pub dealt : View → View
dealt v =
    record v { number = v.given + 1; given = 0; mine = []; raised = 0; holds = false; met = [] }

-- a note has seen as much, and has no number
abbrev pub note_of : View → View
note_of v = record v { number = 0; given = 0; mine = []; raised = 0; holds = false; met = [] }

-- the longer of two
abbrev pub longer : List Made → List Made → List Made
longer xs ys = if nat_le (length xs) (length ys) then ys else xs

-- what is kept of one that is taken in
abbrev pub peer_of : View → Peer
peer_of v = record { number = v.number; seen = v.seen; mine = v.mine; left = v.left }

-- and of its taker, as it was before
abbrev pub before : View → Peer
before v = record { number = 0; seen = v.seen; mine = []; left = v.left }

-- it has seen what one of the two had, and keeps both
abbrev pub both : View → View → View
both v w =
    record v {
      seen = longer v.seen w.seen;
      raised = v.raised + w.raised;
      met = v.met ++ (before v ∷ peer_of w ∷ w.met);
    }

-- ---- what each step tells

abbrev At : Type 0
At = Step (Option BookView)

abbrev Sat : Type 0
Sat = Me (Option BookView) View

-- it holds the turn, has seen the whole history, and found this count of faults
abbrev pub taking : View → BookView → View
taking v book =
    record v {
      seen = book.journal;
      found = book.keeper.faults;
      left = book.keeper.faults;
      holds = true;
    }

-- The turn was won: the seat carries the book, whose journal goes on from what the seat had seen and
-- has no call of its number but its own.
pub record Won (m m' : Sat) : Type 0 where
  pub book : BookView
  pub carries : m'.1 ≡ (0, Some book) ∷ []
  pub view : m'.0 ≡ taking m.0 book
  pub seen : Begins m.0.seen book.journal
  pub own : calls_by m.0.number book.journal ≡ m.0.mine
  pub left : m.0.left ≤ book.keeper.faults
  pub opening : book.opening ≡ m.0.opening
  pub roomy : book.room ≡ m.0.room
  pub stays : StaysAs m.0.keeper book.keeper

-- 1, 2: nothing changed where another holds the turn
abbrev pub tried : At → Sat → ℕ → Sat → Type 0
tried st m n m' = (n ≡ 0 → Won m m') × (n ≢ 0 → m' ≡ m)

-- the call is seen, and is the seat's own
abbrev pub grown : View → Made → View
grown v made = record v { seen = v.seen ++ made ∷ []; mine = v.mine ++ made ∷ [] }

-- 4
abbrev pub counted : Made → At → Sat → ℕ → Sat → Type 0
counted made st m n m' = m' ≡ (grown m.0 made, m.1)

-- the count is told: what the turn raised it by is the seat's own
abbrev pub with_count : View → ℕ → View
with_count v count = record v { left = count; raised = v.raised + (count - v.left) }

-- 5
abbrev pub told_number : At → Sat → ℕ → Sat → Type 0
told_number st m n m' = m' ≡ (with_count m.0 st.first, m.1)

-- the turn is left
abbrev pub freed : View → View
freed v = record v { holds = false }

-- 7: with the book
abbrev pub released : At → Sat → ℕ → Sat → Type 0
released st m n m' = m' ≡ (freed m.0, [])

-- what was met begins what is seen, which begins a history whose calls of this seat are its own
pub record Settled (m m' : Sat) : Type 0 where
  pub same : m' ≡ (record m.0 { met = [] }, m.1)
  pub peers : All (λ (p : Peer). Begins p.seen m.0.seen) m.0.met
  pub log : List Made
  pub seen : Begins m.0.seen log
  pub own : calls_by m.0.number log ≡ m.0.mine

-- 1
abbrev pub settled : At → Sat → ℕ → Sat → Type 0
settled st m n m' = Settled m m'
