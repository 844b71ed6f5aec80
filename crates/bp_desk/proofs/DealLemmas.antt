-- How a table of seats begins, how seats and notes are given and taken in, and how it ends.
use Rattle.std.proofs.Common.{◌≡◌, ◌≢◌, ℕ, zero, suc, ◌+◌, ◌^◌, ◌≤◌, ◌<◌, false, List, [], ◌∷◌, ◌++◌, map, length, set, Option, Some, inl, refl, sym, ap, ◌∙◌, subst, ⊎_elim, arith}
use Rattle.std.specs.Prelude.{All}
use mathlib.Core.Option.{some, some-injective, some-ne-none}
use mathlib.Core.List.{map-append}
use lib.ListN.{get_elem?}
use Rattle.std.proofs.lemmas.Bool.{cases_eq}
use Rattle.std.proofs.lemmas.List.Elements.{All-append, All-cons, All-nil, All-weaker}
use Rattle.atomic_table.specs.Table.{Allows, Joins, Me, Splits, Step, keeps, opening}
use Rattle.atomic_table.proofs.Lists.{at_set}
use Rattle.bp_book.specs.Books.{StaysWith}
use Rattle.bp_book.specs.Shown.{BookView}
use Rattle.bp_book.specs.declared.history.Made.{Made}
use Rattle.bp_desk.specs.Calls.{Begins, calls_by}
use Rattle.bp_desk.specs.Turns.{Fits, IsSeatCaller, IsHome, BookIsOut, PeerFits, Ruled, before, both, dealer, dealt, first_view, times_held, longer, note_of, peer_number, peer_of, raised_by, settled, spent, times, total}
use Rattle.bp_desk.specs.declared.views.Opening.{Opening}
use Rattle.bp_desk.specs.declared.views.Peer.{Peer}
use Rattle.bp_desk.specs.declared.views.View.{View}
use Rattle.bp_desk.proofs.FrontLemmas.{begins-longer_left, begins-longer_right, begins-nil, callers-more, calls_by-none, longer-begins}
use Rattle.bp_desk.proofs.MoveLemmas.{Goes}
use Rattle.bp_desk.proofs.StayLemmas.{St, each_push, each_set, off_on, peers_grow, stands_push, stands_set, steady}
use Rattle.bp_desk.proofs.TotalLemmas.{none_above, times-append, times_else, times_here, times_most, total_none, total_push, total_set, total_two}

abbrev Sat : Type 0
Sat = Me (Option BookView) View

-- ---- the table as it is made

pub begins : (key : Opening BookView) (book : BookView)
    → key.book.value.room < 2 ^ 63
    → 1 ≤ key.seats
    → book.journal ≡ []
    → book.opening ≡ key.book.value.opening
    → book.room ≡ key.book.value.room
    → book.keeper.faults ≡ key.book.value.keeper.faults
    → StaysWith key.book.value.keeper book.keeper
    → Ruled key (opening (0 ∷ 0 ∷ key.book.value.keeper.faults ∷ []) (Some book ∷ []) (first_view key))
begins key book roomy seats journal opens room faults stays = record {
  turn = 0;
  faults = key.book.value.keeper.faults;
  given = 1;
  log = [];
  words = refl;
  roomy = roomy;
  seats = seats;
  fits = omega arith;
  callers = All-nil (IsSeatCaller 1);
  each = only (Fits key [] key.book.value.keeper.faults 1) (record {
    known = λ _. (refl, refl, refl, refl);
    began = begins-nil [];
    own = refl;
    below = omega arith;
    numbered = omega arith;
    dealer = λ _. (refl, refl);
    peers = All-nil (PeerFits [] key.book.value.keeper.faults 1 []);
  });
  once = λ k some_number. (let t = times_most k 1 in omega arith);
  summed = omega arith;
  stands = inl (
    refl,
    record {
      book = book;
      there = refl;
      journal = journal;
      opening = opens;
      roomy = room;
      count = faults;
      stays = stays;
      free = only (λ (v : View). v.holds ≡ false) refl;
    },
  );
}
  where
    only : (P : View → Type 0)
        → P (first_view key)
        → (id : ℕ) (v : View)
        → get_elem? (first_view key ∷ []) id ≡ some v
        → P v
    only P p zero v e = subst P (some-injective (first_view key) v e) p
    only P p (suc id) v e = absurd (some-ne-none v (sym e))

-- ---- a seat is given the next number

more_given : (log : List Made) (faults given : ℕ) (seen : List Made) (met : List Peer)
    → All (PeerFits log faults given seen) met
    → All (PeerFits log faults (given + 1) seen) met
more_given log faults given seen met h =
    All-weaker (PeerFits log faults given seen) (PeerFits log faults (given + 1) seen)
    (λ p f.
    record {
      began = f.began;
      own = f.own;
      below = f.below;
      numbered = (let n = f.numbered in omega arith);
    })
    met h

peer_numbers : (log : List Made) (faults given : ℕ) (seen : List Made) (met : List Peer)
    → All (PeerFits log faults given seen) met
    → All (λ (p : Peer). p.number ≤ given) met
peer_numbers log faults given seen met h =
    All-weaker (PeerFits log faults given seen) (λ (p : Peer). p.number ≤ given) (λ p f. f.numbered)
    met h

pub deals : (key : Opening BookView) (id : ℕ) (v : View)
    → 0 < v.given
    → v.given < key.seats
    → v.holds ≡ false
    → Splits (Ruled key) id v (dealer v) (dealt v)
deals key id v some_given left off s r at =
    let f = r.each id v at in
    let d = f.dealer some_given in
    let given : v.given ≡ r.given = d.0 in
    let first : v.number ≡ 1 = d.1 in
    let P : View → Type 0 = Fits key r.log r.faults (r.given + 1) in
    let apart : (j : ℕ) (u : View) → j ≢ id → get_elem? s.views j ≡ some u → 0 < u.given → ⊥ =
    λ j u other e some_u. (
    let n : u.number ≡ 1 = ((r.each j u e).dealer some_u).1 in
    let a = times_here 1 u.number (map peer_number u.met) n in
    let b = times_here 1 v.number (map peer_number v.met) first in
    let two = total_two (times_held 1) s.views j id u v other e at in
    let one = r.once 1 (omega arith) in
    absurd (omega arith)) in
    let set_fits = each_set P s.views id (dealer v)
    (record {
      known = f.known;
      began = f.began;
      own = f.own;
      below = f.below;
      numbered = (let n = f.numbered in omega arith);
      dealer = λ _. (ap (λ (n : ℕ). n + 1) given, first);
      peers = more_given r.log r.faults r.given v.seen v.met f.peers;
    })
    (λ j u other e. (let g = r.each j u e in record {
      known = g.known;
      began = g.began;
      own = g.own;
      below = g.below;
      numbered = (let n = g.numbered in omega arith);
      dealer = λ some_u. absurd (apart j u other e some_u);
      peers = more_given r.log r.faults r.given u.seen u.met g.peers;
    })) in
    record {
      turn = r.turn;
      faults = r.faults;
      given = r.given + 1;
      log = r.log;
      words = r.words;
      roomy = r.roomy;
      seats = omega arith;
      fits = r.fits;
      callers = callers-more r.given r.log r.callers;
      each = each_push P (set s.views id (dealer v)) (dealt v)
          (record {
            known = λ _. f.known (omega arith);
            began = f.began;
            own =
                calls_by-none (v.given + 1) r.given r.log r.callers
                (λ k low high same. absurd (omega arith));
            below = f.below;
            numbered = omega arith;
            dealer = λ some_zero. absurd (omega arith);
            peers = All-nil (PeerFits r.log r.faults (r.given + 1) v.seen);
          })
          set_fits;
      once = λ k some_number. (
          let t : total (times_held k) (set s.views id (dealer v)) + times_held k v
          ≡ total (times_held k) s.views + times_held k v =
          total_set (times_held k) s.views id v (dealer v) at in
          let p : total (times_held k) (set s.views id (dealer v) ++ dealt v ∷ [])
          ≡ total (times_held k) (set s.views id (dealer v)) + times k ((v.given + 1) ∷ []) =
          total_push (times_held k) (set s.views id (dealer v)) (dealt v) in
          let one = r.once k some_number in
          let most = times_most k (v.given + 1) in
          ⊎_elim
          (λ (is : v.given + 1 ≡ k).
          let none : total (times_held k) s.views ≡ 0 = total_none (times_held k) s.views (λ j u e.
          (let g = r.each j u e in
          let low = g.numbered in
          let a : times_held k u ≡ times k (map peer_number u.met) =
          times_else k u.number (map peer_number u.met) (λ same. absurd (omega arith)) in
          let b =
          none_above k r.given u.met (omega arith)
          (peer_numbers r.log r.faults r.given u.seen u.met g.peers) in
          a ∙ b)) in
          omega arith)
          (λ (is_not : v.given + 1 ≡ k → ⊥).
          let n : times k ((v.given + 1) ∷ []) ≡ 0 = times_else k (v.given + 1) [] is_not in
          omega arith)
          (cases_eq (v.given + 1) k));
      summed =
          (let t : total raised_by (set s.views id (dealer v)) + v.raised
          ≡ total raised_by s.views + v.raised =
          total_set raised_by s.views id v (dealer v) at in
          let p : total raised_by (set s.views id (dealer v) ++ dealt v ∷ [])
          ≡ total raised_by (set s.views id (dealer v)) + 0 =
          total_push raised_by (set s.views id (dealer v)) (dealt v) in
          let o = r.summed in omega arith);
      stands =
          stands_push key r.turn r.log r.faults s.homes (set s.views id (dealer v)) (dealt v)
          (stands_set key r.turn r.log r.faults s.homes s.views id v (dealer v) r.stands at off
          off)
          refl;
    }

-- ---- a note is given

pub notes : (key : Opening BookView) (id : ℕ) (v : View)
    → v.holds ≡ false
    → Splits (Ruled key) id v v (note_of v)
notes key id v off s r at =
    let f = r.each id v at in
    let P : View → Type 0 = Fits key r.log r.faults r.given in record {
      turn = r.turn;
      faults = r.faults;
      given = r.given;
      log = r.log;
      words = r.words;
      roomy = r.roomy;
      seats = r.seats;
      fits = r.fits;
      callers = r.callers;
      each = each_push P (set s.views id v) (note_of v)
          (record {
            known = λ none. absurd (omega arith);
            began = f.began;
            own = calls_by-none 0 r.given r.log r.callers (λ k low high same. absurd (omega arith));
            below = f.below;
            numbered = omega arith;
            dealer = λ none. absurd (omega arith);
            peers = All-nil (PeerFits r.log r.faults r.given v.seen);
          })
          (each_set P s.views id v f (λ j u _ e. r.each j u e));
      once = λ k some_number. (
          let t : total (times_held k) (set s.views id v) + times_held k v ≡ total (times_held k) s.views + times_held k v =
          total_set (times_held k) s.views id v v at in
          let p : total (times_held k) (set s.views id v ++ note_of v ∷ [])
          ≡ total (times_held k) (set s.views id v) + times k (0 ∷ []) =
          total_push (times_held k) (set s.views id v) (note_of v) in
          let n : times k (0 ∷ []) ≡ 0 = times_else k 0 [] (λ same. absurd (omega arith)) in
          let o = r.once k some_number in omega arith);
      summed =
          (let t : total raised_by (set s.views id v) + v.raised
          ≡ total raised_by s.views + v.raised =
          total_set raised_by s.views id v v at in
          let p : total raised_by (set s.views id v ++ note_of v ∷ [])
          ≡ total raised_by (set s.views id v) + 0 =
          total_push raised_by (set s.views id v) (note_of v) in
          let o = r.summed in omega arith);
      stands =
          stands_push key r.turn r.log r.faults s.homes (set s.views id v) (note_of v)
          (stands_set key r.turn r.log r.faults s.homes s.views id v v r.stands at off off)
          refl;
    }

-- ---- a note or a seat is taken in

pub held-both : (k : ℕ) (v w : View) → 0 < k → times_held k (both v w) ≡ times_held k v + times_held k w
held-both k v w some_number =
    let own : times_held k (both v w)
    ≡ times k (v.number ∷ (map peer_number v.met ++ (0 ∷ w.number ∷ map peer_number w.met))) =
    ap (λ (ns : List ℕ). times k (v.number ∷ ns))
    (map-append peer_number v.met (before v ∷ peer_of w ∷ w.met)) in
    let cut : times k ((v.number ∷ map peer_number v.met) ++ (0 ∷ w.number ∷ map peer_number w.met))
    ≡ times_held k v + times k (0 ∷ w.number ∷ map peer_number w.met) =
    times-append k (v.number ∷ map peer_number v.met) (0 ∷ w.number ∷ map peer_number w.met) in
    let zero_off : times k (0 ∷ w.number ∷ map peer_number w.met) ≡ times_held k w =
    times_else k 0 (w.number ∷ map peer_number w.met) (λ same. absurd (omega arith)) in
    own ∙ (cut ∙ ap (λ (n : ℕ). times_held k v + n) zero_off)

pub meets : (key : Opening BookView) (id : ℕ) (v : View) (other : ℕ) (w : View)
    → v.holds ≡ false
    → w.holds ≡ false
    → Joins (Ruled key) id v other w (both v w) spent
meets key id v other w off off' s r at apart there =
    let views : List View = set s.views id (both v w) in
    let at' : get_elem? s.views other ≡ some w =
    ⊎_elim (λ (t : (other ≡ id) × (both v w ≡ w)). absurd (apart t.0))
    (λ (t : (other ≢ id) × (get_elem? s.views other ≡ some w)). t.1)
    (at_set s.views id other (both v w) w there) in
    let f = r.each id v at in
    let g = r.each other w at' in
    let P : View → Type 0 = Fits key r.log r.faults r.given in
    let l : List Made = longer v.seen w.seen in
    let began : Begins l r.log = longer-begins v.seen w.seen r.log f.began g.began in
    let left : Begins v.seen l = begins-longer_left v.seen w.seen r.log f.began g.began in
    let right : Begins w.seen l = begins-longer_right v.seen w.seen r.log f.began g.began in
    let Q : Peer → Type 0 = PeerFits r.log r.faults r.given l in
    let none : calls_by 0 r.log ≡ [] =
    calls_by-none 0 r.given r.log r.callers (λ k low high same. absurd (omega arith)) in
    let peers : All Q (v.met ++ (before v ∷ peer_of w ∷ w.met)) =
    All-append Q v.met (before v ∷ peer_of w ∷ w.met)
    (peers_grow r.log r.faults r.given v.seen l v.met left f.peers)
    (All-cons Q (before v) (peer_of w ∷ w.met)
    (record { began = left; own = none; below = f.below; numbered = omega arith })
    (All-cons Q (peer_of w) w.met
    (record { began = right; own = g.own; below = g.below; numbered = g.numbered })
    (peers_grow r.log r.faults r.given w.seen l w.met right g.peers))) in
    let fits : P (both v w) =
    record {
      known = f.known;
      began = began;
      own = f.own;
      below = f.below;
      numbered = f.numbered;
      dealer = f.dealer;
      peers = peers;
    } in
    let gone : P spent = record {
      known = λ nobody. absurd (omega arith);
      began = begins-nil r.log;
      own = none;
      below = omega arith;
      numbered = omega arith;
      dealer = λ nobody. absurd (omega arith);
      peers = All-nil (PeerFits r.log r.faults r.given []);
    } in
    record {
      turn = r.turn;
      faults = r.faults;
      given = r.given;
      log = r.log;
      words = r.words;
      roomy = r.roomy;
      seats = r.seats;
      fits = r.fits;
      callers = r.callers;
      each =
          each_set P views other spent gone
          (λ j u _ e. each_set P s.views id (both v w) fits (λ i x _ e'. r.each i x e') j u e);
      once = λ k some_number. (
          let t : total (times_held k) views + times_held k v ≡ total (times_held k) s.views + times_held k (both v w) =
          total_set (times_held k) s.views id v (both v w) at in
          let p : total (times_held k) (set views other spent) + times_held k w
          ≡ total (times_held k) views + times k (0 ∷ []) =
          total_set (times_held k) views other w spent there in
          let n : times k (0 ∷ []) ≡ 0 = times_else k 0 [] (λ same. absurd (omega arith)) in
          let b = held-both k v w some_number in
          let o = r.once k some_number in omega arith);
      summed =
          (let t : total raised_by views + v.raised
          ≡ total raised_by s.views + (v.raised + w.raised) =
          total_set raised_by s.views id v (both v w) at in
          let p : total raised_by (set views other spent) + w.raised ≡ total raised_by views + 0 =
          total_set raised_by views other w spent there in
          let o = r.summed in omega arith);
      stands =
          stands_set key r.turn r.log r.faults s.homes views other w spent
          (stands_set key r.turn r.log r.faults s.homes s.views id v (both v w) r.stands at off
          off)
          there off' refl;
    }

-- ---- what was met is known to begin what is seen

settles_goes : (key : Opening BookView) (id : ℕ) (me : Sat) (st : Step (Option BookView)) (s : St)
    (r : Ruled key s)
    → get_elem? s.views id ≡ some me.0
    → me.0.holds ≡ false
    → Goes key id me 0 (λ n. n) (settled st me) s.homes s.views
    (r.turn ∷ length r.log ∷ r.faults ∷ [])
settles_goes key id me st s r at off =
    let f = r.each id me.0 at in
    let v : View = me.0 in
    let w : View = record v { met = [] } in (
      w,
      keeps,
      tt,
      steady key s r id v w r.turn s.homes at
          (record {
            known = f.known;
            began = f.began;
            own = f.own;
            below = f.below;
            numbered = f.numbered;
            dealer = f.dealer;
            peers = All-nil (PeerFits r.log r.faults r.given v.seen);
          })
          (λ k. (let n : ℕ = times k (map peer_number v.met) in omega arith)) (omega arith)
          (stands_set key r.turn r.log r.faults s.homes s.views id v w r.stands at off off),
      record {
        same = refl;
        peers =
            All-weaker (PeerFits r.log r.faults r.given v.seen) (λ (p : Peer). Begins p.seen v.seen)
            (λ p g. g.began) v.met f.peers;
        log = r.log;
        seen = f.began;
        own = f.own;
      },
    )

pub settles : (key : Opening BookView) (slots id : ℕ) (me : Sat) (st : Step (Option BookView))
    → me.0.holds ≡ false
    → Allows (Ruled key) slots id me 0 (λ n. n) (settled st me)
settles key slots id me st off s r len at low =
    subst (Goes key id me 0 (λ n. n) (settled st me) s.homes s.views) (sym r.words)
    (settles_goes key id me st s r at off)

-- ---- the end

-- where one view has all numbers and doesn't hold the turn, the book is at home
pub closes : (key : Opening BookView) (s : St) (r : Ruled key s) (id : ℕ) (v : View)
    → get_elem? s.views id ≡ some v
    → v.holds ≡ false
    → ((k : ℕ) → 0 < k → k ≤ key.seats → 0 < times_held k v)
    → IsHome key r.log r.faults s.homes s.views
closes key s r id v at off all =
    ⊎_elim (λ (h : (r.turn ≡ 0) × IsHome key r.log r.faults s.homes s.views). h.1)
    (λ (h : (r.turn ≡ 1) × BookIsOut r.log r.faults s.views).
    let o = h.1 in
    let apart : o.holder ≢ id =
    λ same.
    off_on v.holds off
    (ap (λ (x : View). x.holds)
    (some-injective v o.view
    (sym at
    ∙ (ap (λ (i : ℕ). get_elem? s.views i) (sym same) ∙ o.there)))
    ∙ o.holds)
    in
    let n : ℕ = o.view.number in
    let within = (r.each o.holder o.view o.there).numbered in
    let bound = r.seats in
    let mine = times_here n o.view.number (map peer_number o.view.met) refl in
    let theirs = all n o.numbered (omega arith) in
    let two = total_two (times_held n) s.views o.holder id o.view v apart o.there at in
    let one = r.once n o.numbered in
    absurd (omega arith))
    r.stands
