-- Views after a change, and who holds the turn.
use Rattle.std.proofs.Common.{◌≡◌, ◌≢◌, ℕ, zero, suc, ◌≤◌, ◌<◌, Bool, true, false, true≢false, List, [], ◌∷◌, ◌++◌, length, set, Option, inl, inr, refl, sym, ap, ◌∙◌, subst, ⊎_elim, arith}
use Rattle.std.specs.Prelude.{All}
use mathlib.Core.Option.{some, some-injective, some-ne-none}
use mathlib.Core.Option as maybe
use lib.ListN.{get_elem?}
use Rattle.std.proofs.lemmas.List.Elements.{All-weaker}
use Rattle.atomic_table.specs.Table.{State}
use Rattle.atomic_table.proofs.Lists.{at_set, at_snoc, set_else, at_longer}
use Rattle.bp_book.specs.Shown.{BookView}
use Rattle.bp_book.specs.declared.history.Made.{Made}
use Rattle.bp_desk.specs.Calls.{Begins}
use Rattle.bp_desk.specs.Turns.{Fits, IsHome, BookIsOut, PeerFits, Ruled, Stands, times_held, raised_by}
use Rattle.bp_desk.specs.declared.views.Opening.{Opening}
use Rattle.bp_desk.specs.declared.views.Peer.{Peer}
use Rattle.bp_desk.specs.declared.views.View.{View}
use Rattle.bp_desk.proofs.FrontLemmas.{begins-trans}
use Rattle.bp_desk.proofs.TotalLemmas.{total_set}

pub each_set : (P : View → Type 0) (views : List View) (id : ℕ) (w : View)
    → P w
    → ((j : ℕ) (u : View) → j ≢ id → get_elem? views j ≡ some u → P u)
    → (j : ℕ) (u : View)
    → get_elem? (set views id w) j ≡ some u
    → P u
each_set P views id w mine others j u e =
    ⊎_elim (λ (t : (j ≡ id) × (w ≡ u)). subst P t.1 mine)
    (λ (t : (j ≢ id) × (get_elem? views j ≡ some u)). others j u t.0 t.1)
    (at_set views id j w u e)

pub each_push : (P : View → Type 0) (views : List View) (w : View)
    → P w
    → ((j : ℕ) (u : View) → get_elem? views j ≡ some u → P u)
    → (j : ℕ) (u : View)
    → get_elem? (views ++ w ∷ []) j ≡ some u
    → P u
each_push P views w mine others j u e =
    ⊎_elim (λ (t : get_elem? views j ≡ some u). others j u t) (λ (t : w ≡ u). subst P t mine)
    (at_snoc views w u j e)

pub set_at : (views : List View) (id : ℕ) (v w : View)
    → get_elem? views id ≡ some v
    → get_elem? (set views id w) id ≡ some w
set_at [] id v w e = absurd (some-ne-none v (sym e))
set_at (x ∷ xs) zero v w e = refl
set_at (x ∷ xs) (suc id) v w e = set_at xs id v w e

pub off_on : {A : Type 0} (b : Bool) → b ≡ false → b ≡ true → A
off_on b off on = absurd (true≢false (sym on ∙ off))

-- one home
pub one_home : {A : Type 0} (homes : List A) (y : A) → length homes ≡ 1 → set homes 0 y ≡ y ∷ []
one_home [] y e = absurd (omega arith)
one_home (x ∷ []) y e = refl
one_home (x ∷ z ∷ zs) y e = absurd (omega arith)

-- a peer fits where more was seen
pub peers_grow : (log : List Made) (faults given : ℕ) (seen seen' : List Made) (met : List Peer)
    → Begins seen seen'
    → All (PeerFits log faults given seen) met
    → All (PeerFits log faults given seen') met
peers_grow log faults given seen seen' met more h =
    All-weaker (PeerFits log faults given seen) (PeerFits log faults given seen')
    (λ p f.
    record {
      began = begins-trans p.seen seen seen' f.began more;
      own = f.own;
      below = f.below;
      numbered = f.numbered;
    })
    met h

module _ (key : Opening BookView) (turn : ℕ) (log : List Made) (faults : ℕ)
    (homes : List (maybe.Option (Option BookView))) (views : List View) where
  -- what who holds the turn knows
  pub record Holding (id : ℕ) (v : View) : Type 0 where
    pub taken : turn ≡ 1
    pub seen : v.seen ≡ log
    pub left : v.left ≡ faults
    pub numbered : 0 < v.number
    pub others : (j : ℕ) (u : View) → get_elem? views j ≡ some u → u.holds ≡ true → j ≡ id

  pub holding : (id : ℕ) (v : View)
      → Stands key turn log faults homes views
      → get_elem? views id ≡ some v
      → v.holds ≡ true
      → Holding id v
  holding id v stands at on =
      ⊎_elim
      (λ (h : (turn ≡ 0) × IsHome key log faults homes views).
      off_on v.holds (h.1.free id v at) on)
      (λ (h : (turn ≡ 1) × BookIsOut log faults views).
      let o = h.1 in
      let same : id ≡ o.holder = o.others id v at on in
      let is : o.view ≡ v =
      some-injective o.view v
      (sym o.there ∙ (ap (λ (i : ℕ). get_elem? views i) (sym same) ∙ at)) in
      record {
        taken = h.0;
        seen = ap (λ (x : View). x.seen) (sym is) ∙ o.seen;
        left = ap (λ (x : View). x.left) (sym is) ∙ o.left;
        numbered = subst (λ (x : View). 0 < x.number) is o.numbered;
        others = λ j u e on'. o.others j u e on' ∙ sym same;
      })
      stands

  -- the view of one that doesn't hold the turn changes, and it doesn't hold it then
  pub stands_set : (id : ℕ) (v w : View)
      → Stands key turn log faults homes views
      → get_elem? views id ≡ some v
      → v.holds ≡ false
      → w.holds ≡ false
      → Stands key turn log faults homes (set views id w)
  stands_set id v w stands at off off' =
      ⊎_elim (λ (h : (turn ≡ 0) × IsHome key log faults homes views). inl (
        h.0,
        record {
          book = h.1.book;
          there = h.1.there;
          journal = h.1.journal;
          opening = h.1.opening;
          roomy = h.1.roomy;
          count = h.1.count;
          stays = h.1.stays;
          free = each_set (λ (u : View). u.holds ≡ false) views id w off' (λ j u _ e. h.1.free j u e);
        },
      ))
      (λ (h : (turn ≡ 1) × BookIsOut log faults views).
      let o = h.1 in
      let apart : o.holder ≢ id =
      λ same.
      off_on v.holds off
      (ap (λ (x : View). x.holds)
      (some-injective v o.view
      (sym at
      ∙ (ap (λ (i : ℕ). get_elem? views i) (sym same) ∙ o.there)))
      ∙ o.holds)
      in
      inr (
        h.0,
        record {
          holder = o.holder;
          view = o.view;
          there = set_else views id o.holder w apart ∙ o.there;
          holds = o.holds;
          numbered = o.numbered;
          seen = o.seen;
          left = o.left;
          others =
              λ j u e on.
              ⊎_elim
              (λ (t : (j ≡ id) × (w ≡ u)).
              off_on w.holds off' (ap (λ (x : View). x.holds) t.1 ∙ on))
              (λ (t : (j ≢ id) × (get_elem? views j ≡ some u)). o.others j u t.1 on)
              (at_set views id j w u e);
        },
      ))
      stands

  -- and one comes that doesn't hold it
  pub stands_push : (w : View)
      → Stands key turn log faults homes views
      → w.holds ≡ false
      → Stands key turn log faults homes (views ++ w ∷ [])
  stands_push w stands off' =
      ⊎_elim (λ (h : (turn ≡ 0) × IsHome key log faults homes views). inl (
        h.0,
        record {
          book = h.1.book;
          there = h.1.there;
          journal = h.1.journal;
          opening = h.1.opening;
          roomy = h.1.roomy;
          count = h.1.count;
          stays = h.1.stays;
          free = each_push (λ (u : View). u.holds ≡ false) views w off' (λ j u e. h.1.free j u e);
        },
      ))
      (λ (h : (turn ≡ 1) × BookIsOut log faults views).
      let o = h.1 in inr (
        h.0,
        record {
          holder = o.holder;
          view = o.view;
          there = at_longer views (w ∷ []) o.holder o.view o.there;
          holds = o.holds;
          numbered = o.numbered;
          seen = o.seen;
          left = o.left;
          others =
              λ j u e on.
              ⊎_elim (λ (t : get_elem? views j ≡ some u). o.others j u t on)
              (λ (t : w ≡ u). off_on w.holds off' (ap (λ (x : View). x.holds) t ∙ on))
              (at_snoc views w u j e);
        },
      ))
      stands

abbrev pub St : Type 0
St = State (Option BookView) View

-- a step at which neither log nor count change, and a view changes to one that fits
pub steady : (key : Opening BookView) (s : St) (r : Ruled key s) (id : ℕ) (v w : View) (turn : ℕ)
    (homes : List (maybe.Option (Option BookView)))
    → get_elem? s.views id ≡ some v
    → Fits key r.log r.faults r.given w
    → ((k : ℕ) → times_held k w ≤ times_held k v)
    → w.raised ≤ v.raised
    → Stands key turn r.log r.faults homes (set s.views id w)
    → Ruled key
    (record {
      words = turn ∷ length r.log ∷ r.faults ∷ [];
      homes = homes;
      views = set s.views id w;
    })
steady key s r id v w turn homes at fits numbers raised stands = record {
  turn = turn;
  faults = r.faults;
  given = r.given;
  log = r.log;
  words = refl;
  roomy = r.roomy;
  seats = r.seats;
  fits = r.fits;
  callers = r.callers;
  each = each_set (Fits key r.log r.faults r.given) s.views id w fits (λ j u _ e. r.each j u e);
  once =
      λ k some_number.
      (let t = total_set (times_held k) s.views id v w at in
      let o = r.once k some_number in let n = numbers k in omega arith);
  summed = (let t = total_set raised_by s.views id v w at in let o = r.summed in omega arith);
  stands = stands;
}
