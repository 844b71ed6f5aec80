-- A desk that is closed: its seats are taken in, one after the other, and what each knew holds of the
-- history.
use Rattle.std.proofs.Common.{◌≡◌, ◌⊎◌, ℕ, ◌+◌, ◌≤◌, ◌<◌, false, List, [], ◌∷◌, ◌++◌, map, length, Option, Some, None, append_assoc, inl, inr, refl, sym, ap, ◌∙◌, subst, arith}
use Rattle.std.specs.Prelude.{All}
use mathlib.Core.Option.{some, some-injective}
use lib.ListN.{get_elem?}
use lib.Dec.{leb}
use Rattle.std.proofs.lemmas.Bool.{cond_both}
use Rattle.std.proofs.lemmas.List.Elements.{All-cons, All-head, All-nil, All-tail, All-weaker}
use Rattle.atomic_table.specs.Table.{Final, Me, Seen, State}
use Rattle.bp_book.specs.Books.{StaysWith}
use Rattle.bp_book.specs.Calls.{run_calls}
use Rattle.bp_desk.specs.Calls.{Begins}
use Rattle.bp_desk.specs.Closing.{Ended, Gathered, Gathering, PeerTold, Told, joined}
use Rattle.bp_keep.specs.Keeper.{KeeperView}
use Rattle.bp_matter.specs.Matter.{Matter}
use Rattle.bp_rules.specs.Steps.{KeepsRows}
use Rattle.bp_book.specs.Shown.{BookView}
use Rattle.bp_book.specs.declared.history.Made.{Made}
use Rattle.bp_desk.specs.Seats.{AreSeats, SeatsClose, Desked, Met, Rests, SeatCloses, SeatView, seat_number, seat_view}
use Rattle.bp_desk.specs.Turns.{Fits, IsSeatCaller, IsHome, PeerFits, Ruled, Settled, before, both, times_held, longer, peer_of, raised_by, times, total}
use Rattle.bp_desk.specs.declared.views.Opening.{Opening}
use Rattle.bp_desk.specs.declared.views.Peer.{Peer}
use Rattle.bp_desk.specs.declared.views.View.{View}
use Rattle.bp_desk.proofs.DealLemmas.{closes, held-both}
use Rattle.bp_desk.proofs.FrontLemmas.{begins-trans, own_between}
use Rattle.bp_desk.proofs.TotalLemmas.{total_at}

module _ {X : Type 0} (P : X → Type 0) where
  all_front : (xs ys : List X) → All P (xs ++ ys) → All P xs
  all_front [] ys h = All-nil P
  all_front (x ∷ xs) ys h =
      All-cons P x xs (All-head P x (xs ++ ys) h) (all_front xs ys (All-tail P x (xs ++ ys) h))

  all_back : (xs ys : List X) → All P (xs ++ ys) → All P ys
  all_back [] ys h = h
  all_back (x ∷ xs) ys h = all_back xs ys (All-tail P x (xs ++ ys) h)

-- ---- a note was taken in

one_of : (xs ys : List Made) → (longer xs ys ≡ xs) ⊎ (longer xs ys ≡ ys)
one_of xs ys =
    cond_both (leb (length xs) (length ys)) ys xs (λ l. (l ≡ xs) ⊎ (l ≡ ys)) (λ _. inr refl)
    (λ _. inl refl)

pub met_both : (v w x : View)
    → w.raised ≡ 0
    → x ≡ record (both v w) { met = [] }
    → All (λ (p : Peer). Begins p.seen (both v w).seen) (both v w).met
    → Met v w.seen x
met_both v w x unraised is told =
    let P : Peer → Type 0 = λ p. Begins p.seen (both v w).seen in
    let back = all_back P v.met (before v ∷ peer_of w ∷ w.met) told in
    let mine : Begins v.seen (both v w).seen = All-head P (before v) (peer_of w ∷ w.met) back in
    let theirs : Begins w.seen (both v w).seen =
    All-head P (peer_of w) w.met (All-tail P (before v) (peer_of w ∷ w.met) back) in
    subst (Met v w.seen) (sym is) (record {
      same = record {
        number = refl;
        given = refl;
        opening = refl;
        base = refl;
        room = refl;
        keeper = refl;
      };
      mine = refl;
      found = refl;
      left = refl;
      raised = omega arith;
      seen = mine;
      told = theirs;
      one = one_of v.seen w.seen;
    })

abbrev Sat : Type 0
Sat = Me (Option BookView) View

-- a seat that took a note in
pub rests_met : (v w : View) (m m1 m2 : Sat) (number : ℕ)
    → m ≡ (v, [])
    → Rests m number
    → w.raised ≡ 0
    → m1 ≡ (both v w, [])
    → Settled m1 m2
    → Rests m2 number
rests_met v w m m1 m2 number at rests unraised came settled =
    let r : Rests (v, []) number = subst (λ (x : Sat). Rests x number) at rests in
    let s : Settled (both v w, []) m2 = subst (λ (x : Sat). Settled x m2) came settled in
    let P : Peer → Type 0 = λ p. Begins p.seen (both v w).seen in
    let mine : Begins v.seen (both v w).seen =
    All-head P (before v) (peer_of w ∷ w.met)
    (all_back P v.met (before v ∷ peer_of w ∷ w.met) s.peers) in
    subst (λ (x : Sat). Rests x number) (sym s.same) (record {
      is = r.is;
      numbered = r.numbered;
      own = own_between v.number v.seen (both v w).seen s.log v.mine r.own mine s.seen s.own;
      within = (let h = r.within in omega arith);
      free = r.free;
      alone = refl;
      none = refl;
    })

-- ---- seats that were taken in

told_fits : (key : Opening BookView) (log : List Made) (faults given : ℕ) (v : View)
    → Fits key log faults given v
    → Told log faults v
told_fits key log faults given v f = record {
  began = f.began;
  own = f.own;
  below = f.below;
  peers =
      All-weaker (PeerFits log faults given v.seen) (PeerTold log faults)
      (λ p g.
      record {
        began = begins-trans p.seen v.seen log g.began f.began;
        own = g.own;
        below = g.below;
      })
      v.met f.peers;
}

pub all_told : (log : List Made) (faults : ℕ) (last : SeatView) (seats : List SeatView)
    → Told log faults (joined last.view seats)
    → All (SeatCloses log faults) (seats ++ last ∷ [])
all_told log faults last [] t =
    All-cons (SeatCloses log faults) last []
    (record { seen = t.began; mine = t.own; left = t.below }) (All-nil (SeatCloses log faults))
all_told log faults last (seat ∷ seats) t =
    let P : Peer → Type 0 = PeerTold log faults in
    let v : View = joined last.view seats in
    let w : View = seat.view in
    let back = all_back P v.met (before v ∷ peer_of w ∷ w.met) t.peers in
    let own = All-head P (before v) (peer_of w ∷ w.met) back in
    let other = All-head P (peer_of w) w.met (All-tail P (before v) (peer_of w ∷ w.met) back) in
    All-cons (SeatCloses log faults) seat (seats ++ last ∷ [])
    (record { seen = other.began; mine = other.own; left = other.below })
    (all_told log faults last seats
    (record {
      began = own.began;
      own = t.own;
      below = t.below;
      peers = all_front P v.met (before v ∷ peer_of w ∷ w.met) t.peers;
    }))

pub joined_raised : (last : SeatView) (seats : List SeatView)
    → (joined last.view seats).raised ≡ total raised_by (map seat_view (seats ++ last ∷ []))
joined_raised last [] = omega arith
joined_raised last (seat ∷ seats) = let h = joined_raised last seats in omega arith

pub joined_held : (k : ℕ) (last : SeatView) (seats : List SeatView)
    → 0 < k
    → times k (map seat_number (seats ++ last ∷ [])) ≤ times_held k (joined last.view seats)
joined_held k last [] some_number = omega arith
joined_held k last (seat ∷ seats) some_number =
    let h = joined_held k last seats some_number in
    let b = held-both k (joined last.view seats) seat.view some_number in
    omega arith

pub joined_free : (last : SeatView) (seats : List SeatView)
    → (joined last.view seats).holds ≡ last.view.holds
joined_free last [] = refl
joined_free last (seat ∷ seats) = joined_free last seats

-- ---- the book that a closed table has

-- what is in the slot
pub record Home (key : Opening BookView) (v : View) (slots : List (Option BookView)) : Type 0 where
  pub book : BookView
  pub there : get_elem? slots 0 ≡ some (Some book)
  pub told : Told book.journal book.keeper.faults v
  pub callers : All (IsSeatCaller key.seats) book.journal
  pub fits : length book.journal ≤ key.book.value.room
  pub opening : book.opening ≡ key.book.value.opening
  pub stays : StaysWith key.book.value.keeper book.keeper
  pub summed : key.book.value.keeper.faults + v.raised ≤ book.keeper.faults

pub ends : (key : Opening BookView) (id : ℕ) (v : View) (words : List ℕ)
    (slots : List (Option BookView))
    → v.holds ≡ false
    → ((k : ℕ) → 0 < k → k ≤ key.seats → 0 < times_held k v)
    → Final (Seen (Ruled key) id v) words slots
    → Home key v slots
ends key id v words slots off all final =
    let s : State (Option BookView) View = final.0 in
    let r : Ruled key s = final.1.0 in
    let at : get_elem? s.views id ≡ some v = final.1.1 in
    let h : IsHome key r.log r.faults s.homes s.views = closes key s r id v at off all in
    let t : Told r.log r.faults v = told_fits key r.log r.faults r.given v (r.each id v at) in
    let up = r.seats in
    let high = total_at raised_by s.views id v at in
    let sum = r.summed in
    let count = h.count in record {
      book = h.book;
      there = final.4 0 (Some h.book) (ap (λ l. get_elem? l 0) h.there);
      told = subst (λ (x : List Made × ℕ). Told x.0 x.1 v) (λ i. (sym h.journal i, sym h.count i)) t;
      callers =
          subst (All (IsSeatCaller key.seats)) (sym h.journal)
          (All-weaker (IsSeatCaller r.given) (IsSeatCaller key.seats)
          (λ m c. (let b = c.1 in (c.0, omega arith))) r.log r.callers);
      fits = subst (λ (l : List Made). length l ≤ key.book.value.room) (sym h.journal) r.fits;
      opening = h.opening;
      stays = h.stays;
      summed = omega arith;
    }

pub slot_is : (key : Opening BookView) (v : View) (slots : List (Option BookView))
    (h : Home key v slots) (result : Option BookView)
    → get_elem? slots 0 ≡ some result
    → result ≡ Some h.book
slot_is key v slots h result e = some-injective result (Some h.book) (sym e ∙ h.there)

pub not_vacant : (key : Opening BookView) (v : View) (slots : List (Option BookView))
    → Home key v slots
    → (result : Option BookView)
    → get_elem? slots 0 ≡ some result
    → result ≡ None
    → ⊥
not_vacant key v slots h result e none = let is = slot_is key v slots h result e in cc

book_in : BookView → Option BookView → BookView
book_in other None = other
book_in other (Some book) = book

pub ended : (desk : Desked) (key : Opening BookView) (v : View) (slots : List (Option BookView))
    (h : Home key v slots) (result : Option BookView) (book : BookView)
    → get_elem? slots 0 ≡ some result
    → result ≡ Some book
    → key.book.value ≡ desk.book → key.seats ≡ desk.seats → Ended desk v book
unfolding book_in
ended desk key v slots h result book e is began seats =
    let room : key.book.value.room ≡ desk.book.room = ap (λ (b : BookView). b.room) began in
    let base : key.book.value.keeper.faults ≡ desk.book.keeper.faults =
    ap (λ (b : BookView). b.keeper.faults) began in
    let same : h.book ≡ book = ap (book_in book) (sym (slot_is key v slots h result e) ∙ is) in
    subst (Ended desk v) same (record {
      told = h.told;
      callers = subst (λ (n : ℕ). All (IsSeatCaller n) h.book.journal) seats h.callers;
      fits = (let f = h.fits in omega arith);
      opening = h.opening ∙ ap (λ (b : BookView). b.opening) began;
      stays = subst (λ (b : BookView). StaysWith b.keeper h.book.keeper) began h.stays;
      summed = (let u = h.summed in omega arith);
    })

-- ---- taking the seats in

pub gather_begins : (seats rest : List SeatView) (last : SeatView) (v : View)
    → seats ≡ rest ++ last ∷ []
    → v ≡ last.view
    → v.holds ≡ false
    → Gathering seats rest v
gather_begins seats rest last v parts is off = record {
  others = [];
  last = last;
  parts = parts;
  view = is;
  free = off;
}

pub gather_next : (seats rest left : List SeatView) (v w : View) (seat : SeatView)
    → Gathering seats rest v
    → rest ≡ left ++ seat ∷ []
    → w ≡ both v seat.view
    → Gathering seats left w
gather_next seats rest left v w seat g cut is = record {
  others = seat ∷ g.others;
  last = g.last;
  parts =
      g.parts
      ∙
      (ap (λ (l : List SeatView). l ++ (g.others ++ g.last ∷ [])) cut
      ∙ append_assoc left (seat ∷ []) (g.others ++ g.last ∷ []));
  view = is ∙ ap (λ (u : View). both u seat.view) g.view;
  free = ap (λ (u : View). u.holds) is ∙ g.free;
}

pub gather_ends : (seats rest : List SeatView) (v : View)
    → Gathering seats rest v
    → rest ≡ []
    → Gathered seats v
gather_ends seats rest v g none = record {
  others = g.others;
  last = g.last;
  parts = g.parts ∙ ap (λ (l : List SeatView). l ++ (g.others ++ g.last ∷ [])) none;
  view = g.view;
  free = g.free;
}

pub whole_gathered : (desk : Desked) (seats : List SeatView) (v : View)
    → AreSeats desk seats
    → Gathered seats v
    → (n : ℕ)
    → 0 < n
    → n ≤ desk.seats
    → 0 < times_held n v
whole_gathered desk seats v are g n some_number within =
    let there : 0 < times n (map seat_number (g.others ++ g.last ∷ [])) =
    subst (λ (l : List SeatView). 0 < times n (map seat_number l)) g.parts
    (are.whole n some_number within) in
    let more = joined_held n g.last g.others some_number in
    subst (λ (u : View). 0 < times_held n u) (sym g.view) (omega arith)

pub closed : (desk : Desked) (seats : List SeatView) (v : View) (book : BookView)
    (history : List Made) (matter : Matter) (keeper : KeeperView)
    → Gathered seats v
    → Ended desk v book
    → keeper ≡ book.keeper
    → history ≡ book.journal
    → matter ≡ run_calls book.opening book.journal
    → KeepsRows book.keeper matter
    → SeatsClose desk seats history matter keeper
closed desk seats v book history matter keeper g e kept told ran rows =
    let t : Told book.journal book.keeper.faults (joined g.last.view g.others) =
    subst (Told book.journal book.keeper.faults) g.view e.told in
    let sum : v.raised ≡ total raised_by (map seat_view (g.others ++ g.last ∷ [])) =
    ap (λ (u : View). u.raised) g.view ∙ joined_raised g.last g.others in
    let upto = e.summed in
    subst (λ (x : List Made × KeeperView). SeatsClose desk seats x.0 matter x.1)
    (λ i. (sym told i, sym kept i))
    (subst (λ (l : List SeatView). SeatsClose desk l book.journal matter book.keeper) (sym g.parts)
    (record {
      each = all_told book.journal book.keeper.faults g.last g.others t;
      callers = e.callers;
      fits = e.fits;
      tables = ran ∙ ap (λ (m : Matter). run_calls m book.journal) e.opening;
      rows = rows;
      stays = e.stays;
      summed = omega arith;
    }))

-- where each number is one's, there is a seat
pub some_seat : (desk : Desked) (seats : List SeatView)
    → AreSeats desk seats
    → 0 < desk.seats
    → seats ≡ []
    → ⊥
some_seat desk seats are some_number none =
    let there : 0 < times 1 (map seat_number []) =
    subst (λ (l : List SeatView). 0 < times 1 (map seat_number l)) none
    (are.whole 1 (omega arith) (omega arith)) in
    absurd (omega arith)
