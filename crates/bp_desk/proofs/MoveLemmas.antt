-- Each step of who takes the turn, makes a call and leaves the turn keeps the rule.
use Rattle.std.proofs.Common.{◌≡◌, ◌≢◌, ℕ, ◌+◌, ◌%◌, ◌^◌, ◌≤◌, ◌<◌, ◌==◌, true, false, List, [], ◌∷◌, ◌++◌, map, length, set, get_or, Option, Some, inl, inr, refl, sym, ap, ◌∙◌, subst, ⊎_elim, arith, length-append}
use Rattle.std.specs.Prelude.{All, slice_index, slice_set}
use mathlib.Core.Option.{some, some-injective, some-ne-none}
use mathlib.Core.Option as maybe
use lib.ListN.{get_elem?}
use prog.Atomic.{either}
use Rattle.std.proofs.Math.Nat.{mod-eq_of_lt}
use Rattle.std.proofs.lemmas.Bool.{cases_Bool}
use Rattle.std.proofs.lemmas.List.Elements.{All-nil, All-push, All-same, All-weaker}
use Rattle.atomic_table.specs.Table.{Act, Allows, Me, Step, Valid, carried_after, gives, homes_after, keeps, takes}
use Rattle.atomic_table.proofs.Lists.{at_set}
use Rattle.bp_book.specs.Books.{StaysWith}
use Rattle.bp_book.specs.Shown.{BookView}
use Rattle.bp_book.specs.declared.history.Made.{Made}
use Rattle.bp_desk.specs.Calls.{Begins, calls_by}
use Rattle.bp_desk.specs.Turns.{Fits, IsSeatCaller, IsHome, BookIsOut, PeerFits, Ruled, StaysAs, began_with, counted, freed, grown, times_held, peer_number, raised_by, released, taking, told_number, tried, with_count}
use Rattle.bp_keep.specs.Keeper.{KeeperView}
use Rattle.bp_desk.specs.declared.views.KeeperBegan.{KeeperBegan}
use Rattle.bp_desk.specs.declared.views.Opening.{Opening}
use Rattle.bp_desk.specs.declared.views.Peer.{Peer}
use Rattle.bp_desk.specs.declared.views.View.{View}
use Rattle.bp_desk.proofs.FrontLemmas.{begins-push, begins-same, calls_by-other, calls_by-own}
use Rattle.bp_desk.proofs.StayLemmas.{Holding, St, each_set, holding, off_on, one_home, peers_grow, set_at, stands_set, steady}
use Rattle.bp_desk.proofs.TotalLemmas.{not_met, not_own, times_here, total_set, total_two}

abbrev Sat : Type 0
Sat = Me (Option BookView) View

abbrev Homes : Type 0
Homes = List (maybe.Option (Option BookView))

abbrev At : Type 0
At = Step (Option BookView)

-- what `Allows` asks, of the table's parts
abbrev pub Goes : Opening BookView
    → ℕ
    → Sat
    → ℕ
    → (ℕ → ℕ)
    → (ℕ → Sat → Type 0)
    → Homes
    → List View
    → List ℕ
    → Type 0
Goes key id me i f then homes views words =
    (w : View) × (a : Act (Option BookView)) × Valid homes me.1 a
    × Ruled key
    (record {
      words = slice_set words i (f (slice_index words i));
      homes = homes_after homes me.1 a;
      views = slice_set views id w;
    })
    × then (slice_index words i) (w, carried_after me.1 a)

-- ---- the keeper since the desk began

stays_as : (before keeper : KeeperView) (began : KeeperBegan)
    → began ≡ began_with before
    → StaysWith before keeper
    → StaysAs began keeper
stays_as before keeper began is stays =
    subst (λ (b : KeeperBegan). StaysAs b keeper) (sym is)
    (record { loads = stays.loads; sure = stays.sure; told = stays.told })

stays_with : (before keeper : KeeperView) (began : KeeperBegan)
    → began ≡ began_with before
    → StaysAs began keeper
    → StaysWith before keeper
stays_with before keeper began is stays =
    let s : StaysAs (began_with before) keeper =
    subst (λ (b : KeeperBegan). StaysAs b keeper) is stays in
    record { loads = s.loads; sure = s.sure; told = s.told }

-- ---- the turn is taken

try_word : ℕ → ℕ
try_word n = either (n == 0) 1 n

module _ (key : Opening BookView) (id : ℕ) (me : Sat) (st : At) (s : St) (r : Ruled key s)
    (at : get_elem? s.views id ≡ some me.0) (off : me.0.holds ≡ false) where
  wins : 0 < me.0.number
      → me.1 ≡ []
      → IsHome key r.log r.faults s.homes s.views
      → Goes key id me 0 (λ n. either (n == 0) 1 n) (tried st me) s.homes s.views
      (0 ∷ length r.log ∷ r.faults ∷ [])
  wins num none h =
      let f = r.each id me.0 at in
      let w : View = taking me.0 h.book in
      let seen : Begins me.0.seen h.book.journal = subst (Begins me.0.seen) (sym h.journal) f.began in
      let fits : Fits key r.log r.faults r.given w = record {
        known = f.known;
        began = begins-same h.book.journal r.log h.journal;
        own = f.own;
        below = (let e = h.count in omega arith);
        numbered = f.numbered;
        dealer = f.dealer;
        peers = peers_grow r.log r.faults r.given me.0.seen h.book.journal me.0.met seen f.peers;
      } in
      let out : BookIsOut r.log r.faults (set s.views id w) = record {
        holder = id;
        view = w;
        there = set_at s.views id me.0 w at;
        holds = refl;
        numbered = num;
        seen = h.journal;
        left = h.count;
        others =
            λ j u e on.
            ⊎_elim (λ (t : (j ≡ id) × (w ≡ u)). t.0)
            (λ (t : (j ≢ id) × (get_elem? s.views j ≡ some u)).
            off_on u.holds (h.free j u t.1) on)
            (at_set s.views id j w u e);
      } in
      let known = f.known num in (
        w,
        takes 0 (Some h.book),
        ap (λ (l : Homes). get_elem? l 0) h.there,
        steady key s r id me.0 w 1 (slice_set s.homes 0 maybe.none) at fits
            (λ k. (let n : ℕ = times_held k me.0 in omega arith)) (omega arith) (inr (refl, out)),
        (
          (λ _. record {
            book = h.book;
            carries = ap (λ c. (0, Some h.book) ∷ c) none;
            view = refl;
            seen = seen;
            own = ap (λ (l : List Made). calls_by me.0.number l) h.journal ∙ f.own;
            left = (let e = h.count in let b = f.below in omega arith);
            opening = h.opening ∙ sym known.0;
            roomy = h.roomy ∙ sym known.2;
            stays = stays_as key.book.value.keeper h.book.keeper me.0.keeper known.3 h.stays;
          }),
          λ no. absurd (no refl),
        ),
      )

  loses : BookIsOut r.log r.faults s.views
      → Goes key id me 0 (λ n. either (n == 0) 1 n) (tried st me) s.homes s.views
      (1 ∷ length r.log ∷ r.faults ∷ [])
  loses o = (
    me.0,
    keeps,
    tt,
    steady key s r id me.0 me.0 1 s.homes at (r.each id me.0 at)
        (λ k. (let n : ℕ = times_held k me.0 in omega arith)) (omega arith)
        (stands_set key 1 r.log r.faults s.homes s.views id me.0 me.0 (inr (refl, o)) at off off),
    ((λ (e : 1 ≡ 0). absurd (omega arith)), λ _. refl),
  )

pub tries : (key : Opening BookView) (slots id : ℕ) (me : Sat) (st : At)
    → 0 < me.0.number
    → me.0.holds ≡ false
    → me.1 ≡ []
    → Allows (Ruled key) slots id me 0 (λ n. either (n == 0) 1 n) (tried st me)
tries key slots id me st num off none s r len at low =
    let G : List ℕ → Type 0 =
    Goes key id me 0 (λ n. either (n == 0) 1 n) (tried st me) s.homes s.views in
    subst G (sym r.words)
    (⊎_elim (λ (h : (r.turn ≡ 0) × IsHome key r.log r.faults s.homes s.views).
    subst (λ (t : ℕ). G (t ∷ length r.log ∷ r.faults ∷ [])) (sym h.0)
    (wins key id me st s r at off num none h.1))
    (λ (h : (r.turn ≡ 1) × BookIsOut r.log r.faults s.views).
    subst (λ (t : ℕ). G (t ∷ length r.log ∷ r.faults ∷ [])) (sym h.0)
    (loses key id me st s r at off h.1))
    r.stands)

-- ---- a call is counted

counted_word : (log : List Made) (made : Made) (room : ℕ)
    → length log < room
    → room < 2 ^ 63
    → (length log + 1) % 2 ^ 64 ≡ length (log ++ made ∷ [])
counted_word log made room lt most =
    mod-eq_of_lt (let p : 2 ^ 63 ≤ 2 ^ 64 = refl_le in omega arith)
    ∙ omega (arith, length-append log (made ∷ []))
  where
    refl_le : 2 ^ 63 ≤ 2 ^ 64
    refl_le = omega arith

module _ (key : Opening BookView) (id : ℕ) (me : Sat) (made : Made) (s : St) (r : Ruled key s)
    (at : get_elem? s.views id ≡ some me.0) (on : me.0.holds ≡ true) where
  abbrev log' : List Made
  log' = r.log ++ made ∷ []

  hold : Holding key r.turn r.log r.faults s.homes s.views id me.0
  hold = holding key r.turn r.log r.faults s.homes s.views id me.0 r.stands at on

  -- another's number isn't the caller's
  others_fit : made.seat ≡ me.0.number
      → (j : ℕ) (u : View)
      → j ≢ id
      → get_elem? s.views j ≡ some u
      → Fits key log' r.faults r.given u
  others_fit by j u apart e =
      let f = r.each j u e in
      let mine : 1 ≤ times_held made.seat me.0 =
      times_here made.seat me.0.number (map peer_number me.0.met) (sym by) in
      let two = total_two (times_held made.seat) s.views j id u me.0 apart e at in
      let one = r.once made.seat (let p = hold.numbered in omega arith) in
      let not : times_held made.seat u ≡ 0 = omega arith in record {
        known = f.known;
        began = begins-push u.seen r.log made f.began;
        own = calls_by-other u.number r.log made (λ same. not_own made.seat u not (sym same)) ∙ f.own;
        below = f.below;
        numbered = f.numbered;
        dealer = f.dealer;
        peers = λ k d lt. (let p = get_or u.met k d in let g = f.peers k d lt in record {
          began = g.began;
          own =
              calls_by-other p.number r.log made (λ same. not_met made.seat u not k d lt (sym same))
              ∙ g.own;
          below = g.below;
          numbered = g.numbered;
        });
      }

  counts_goes : (st : At)
      → made.seat ≡ me.0.number
      → me.0.met ≡ []
      → length me.0.seen < me.0.room
      → Goes key id me 1 (λ n. (n + 1) % 2 ^ 64) (λ n. counted made st me n) s.homes s.views
      (r.turn ∷ length r.log ∷ r.faults ∷ [])
  counts_goes st by alone lt =
      let f = r.each id me.0 at in
      let w : View = grown me.0 made in
      let more : me.0.seen ++ made ∷ [] ≡ log' = ap (λ (l : List Made). l ++ made ∷ []) hold.seen in
      let room : length r.log < key.book.value.room =
      (let k = (f.known hold.numbered).2 in
      let e = ap (λ (l : List Made). length l) hold.seen in omega arith)
      in
      let fits : Fits key log' r.faults r.given w = record {
        known = f.known;
        began = begins-same (me.0.seen ++ made ∷ []) log' more;
        own = calls_by-own me.0.number r.log made by ∙ ap (λ (l : List Made). l ++ made ∷ []) f.own;
        below = f.below;
        numbered = f.numbered;
        dealer = f.dealer;
        peers =
            All-same (PeerFits log' r.faults r.given w.seen) me.0.met [] alone
            (All-nil (PeerFits log' r.faults r.given w.seen));
      } in
      let out : BookIsOut log' r.faults (set s.views id w) = record {
        holder = id;
        view = w;
        there = set_at s.views id me.0 w at;
        holds = on;
        numbered = hold.numbered;
        seen = more;
        left = hold.left;
        others =
            λ j u e on'.
            ⊎_elim (λ (t : (j ≡ id) × (w ≡ u)). t.0)
            (λ (t : (j ≢ id) × (get_elem? s.views j ≡ some u)). hold.others j u t.1 on')
            (at_set s.views id j w u e);
      } in
      let word = counted_word r.log made key.book.value.room room r.roomy in (
        w,
        keeps,
        tt,
        record {
          turn = r.turn;
          faults = r.faults;
          given = r.given;
          log = log';
          words = ap (λ (n : ℕ). r.turn ∷ n ∷ r.faults ∷ []) word;
          roomy = r.roomy;
          seats = r.seats;
          fits = omega (arith, length-append r.log (made ∷ []));
          callers =
              All-push (IsSeatCaller r.given) r.log made r.callers
              (let p = hold.numbered in let n = f.numbered in (omega arith, omega arith));
          each = each_set (Fits key log' r.faults r.given) s.views id w fits (others_fit by);
          once =
              λ k some_number.
              (let t = total_set (times_held k) s.views id me.0 w at in
              let o = r.once k some_number in
              let same : times_held k w ≡ times_held k me.0 = refl in omega arith);
          summed = (let t = total_set raised_by s.views id me.0 w at in let o = r.summed in omega arith);
          stands = inr (hold.taken, out);
        },
        refl,
      )

pub counts : (key : Opening BookView) (slots id : ℕ) (me : Sat) (st : At) (made : Made)
    → me.0.holds ≡ true
    → made.seat ≡ me.0.number
    → me.0.met ≡ []
    → length me.0.seen < me.0.room
    → Allows (Ruled key) slots id me 1 (λ n. (n + 1) % 2 ^ 64) (counted made st me)
counts key slots id me st made on by alone lt s r len at low =
    subst (Goes key id me 1 (λ n. (n + 1) % 2 ^ 64) (counted made st me) s.homes s.views)
    (sym r.words) (counts_goes key id me made s r at on st by alone lt)

-- ---- the count of faults is told

module _ (key : Opening BookView) (id : ℕ) (me : Sat) (st : At) (s : St) (r : Ruled key s)
    (at : get_elem? s.views id ≡ some me.0) (on : me.0.holds ≡ true) where
  tells_goes : me.0.left ≤ st.first
      → Goes key id me 2 (λ _. st.first) (told_number st me) s.homes s.views
      (r.turn ∷ length r.log ∷ r.faults ∷ [])
  tells_goes up =
      let h : Holding key r.turn r.log r.faults s.homes s.views id me.0 =
      holding key r.turn r.log r.faults s.homes s.views id me.0 r.stands at on in
      let higher : r.faults ≤ st.first = (let e = h.left in omega arith) in
      let raise : (log : List Made) (seen : List Made) (met : List Peer)
      → All (PeerFits log r.faults r.given seen) met
      → All (PeerFits log st.first r.given seen) met =
      λ log seen met a.
      All-weaker (PeerFits log r.faults r.given seen) (PeerFits log st.first r.given seen)
      (λ p g.
      record {
        began = g.began;
        own = g.own;
        below = (let b = g.below in omega arith);
        numbered = g.numbered;
      })
      met a in
      let f = r.each id me.0 at in
      let w : View = with_count me.0 st.first in (
        w,
        keeps,
        tt,
        record {
          turn = r.turn;
          faults = st.first;
          given = r.given;
          log = r.log;
          words = refl;
          roomy = r.roomy;
          seats = r.seats;
          fits = r.fits;
          callers = r.callers;
          each = each_set (Fits key r.log st.first r.given) s.views id w
              (record {
                known = f.known;
                began = f.began;
                own = f.own;
                below = omega arith;
                numbered = f.numbered;
                dealer = f.dealer;
                peers = raise r.log me.0.seen me.0.met f.peers;
              })
              (λ j u _ e.
              (let g = r.each j u e in
              record {
                known = g.known;
                began = g.began;
                own = g.own;
                below = (let b = g.below in omega arith);
                numbered = g.numbered;
                dealer = g.dealer;
                peers = raise r.log u.seen u.met g.peers;
              }));
          once =
              λ k some_number.
              (let t = total_set (times_held k) s.views id me.0 w at in
              let o = r.once k some_number in
              let same : times_held k w ≡ times_held k me.0 = refl in omega arith);
          summed =
              (let t = total_set raised_by s.views id me.0 w at in
              let o = r.summed in let e = h.left in omega arith);
          stands = inr (
            h.taken,
            record {
              holder = id;
              view = w;
              there = set_at s.views id me.0 w at;
              holds = on;
              numbered = h.numbered;
              seen = h.seen;
              left = refl;
              others =
                  λ j u e on'.
                  ⊎_elim (λ (t : (j ≡ id) × (w ≡ u)). t.0)
                  (λ (t : (j ≢ id) × (get_elem? s.views j ≡ some u)). h.others j u t.1 on')
                  (at_set s.views id j w u e);
            },
          );
        },
        refl,
      )

pub tells : (key : Opening BookView) (slots id : ℕ) (me : Sat) (st : At)
    → me.0.holds ≡ true
    → me.0.left ≤ st.first
    → Allows (Ruled key) slots id me 2 (λ _. st.first) (told_number st me)
tells key slots id me st on up s r len at low =
    subst (Goes key id me 2 (λ _. st.first) (told_number st me) s.homes s.views) (sym r.words)
    (tells_goes key id me st s r at on up)

-- ---- the turn is left

-- the book that a seat carries home is the one after what it has seen
pub record Comes (v : View) (book : BookView) : Type 0 where
  pub journal : book.journal ≡ v.seen
  pub opening : book.opening ≡ v.opening
  pub roomy : book.room ≡ v.room
  pub count : book.keeper.faults ≡ v.left
  pub stays : StaysAs v.keeper book.keeper

leaves_goes : (key : Opening BookView) (id : ℕ) (v : View) (book : BookView) (st : At) (s : St)
    (r : Ruled key s)
    → length s.homes ≡ 1
    → get_elem? s.views id ≡ some v
    → v.holds ≡ true
    → Comes v book
    → Goes key id (v, (0, Some book) ∷ []) 0 (λ _. 0) (λ _. released st (v, (0, Some book) ∷ []) 0)
    s.homes s.views (r.turn ∷ length r.log ∷ r.faults ∷ [])
leaves_goes key id v book st s r len at on comes =
    let h : Holding key r.turn r.log r.faults s.homes s.views id v =
    holding key r.turn r.log r.faults s.homes s.views id v r.stands at on in
    let f = r.each id v at in
    let w : View = freed v in
    let known = f.known h.numbered in
    let homes : Homes = slice_set s.homes 0 (some (Some book)) in
    let home : IsHome key r.log r.faults homes (set s.views id w) = record {
      book = book;
      there = one_home s.homes (some (Some book)) len;
      journal = comes.journal ∙ h.seen;
      opening = comes.opening ∙ known.0;
      roomy = comes.roomy ∙ known.2;
      count = comes.count ∙ h.left;
      stays = stays_with key.book.value.keeper book.keeper v.keeper known.3 comes.stays;
      free =
          each_set (λ (u : View). u.holds ≡ false) s.views id w refl
          (λ j u apart e.
          ⊎_elim (λ (t : u.holds ≡ true). absurd (apart (h.others j u e t)))
          (λ (t : u.holds ≡ false). t) (cases_Bool u.holds));
    } in
    let fits : Fits key r.log r.faults r.given w =
    record {
      known = f.known;
      began = f.began;
      own = f.own;
      below = f.below;
      numbered = f.numbered;
      dealer = f.dealer;
      peers = f.peers;
    } in (
      w,
      gives,
      tt,
      steady key s r id v w 0 homes at fits (λ k. (let n : ℕ = times_held k v in omega arith))
          (omega arith) (inl (refl, home)),
      refl,
    )

pub leaves : (key : Opening BookView) (slots id : ℕ) (me : Sat) (st : At) (v : View)
    (book : BookView)
    → slots ≡ 1
    → me ≡ (v, (0, Some book) ∷ [])
    → v.holds ≡ true
    → Comes v book
    → Allows (Ruled key) slots id me 0 (λ _. 0) (λ _. released st me 0)
leaves key slots id me st v book one is on comes =
    subst (λ (m : Sat). Allows (Ruled key) slots id m 0 (λ _. 0) (λ _. released st m 0)) (sym is)
    (λ s r len at low. subst (Goes key id (v, (0, Some book) ∷ []) 0 (λ _. 0)
    (λ _. released st (v, (0, Some book) ∷ []) 0)
    s.homes s.views) (sym r.words)
    (leaves_goes key id v book st s r (len ∙ one) at on comes))
