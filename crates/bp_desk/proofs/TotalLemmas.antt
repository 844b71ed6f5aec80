-- What is added up over views, where one view is changed or added.
use Rattle.std.proofs.Common.{◌≡◌, ◌≢◌, ℕ, zero, suc, ◌+◌, ◌≤◌, ◌<◌, eqb, Bool, List, [], ◌∷◌, ◌++◌, map, set, refl, sym, ap, arith, eq-eqb, ne_eqb}
use Rattle.std.specs.Prelude.{All, if◌then◌else◌}
use Rattle.std.proofs.lemmas.Bool.{cases_eq}
use mathlib.Core.Option.{some, some-injective, some-ne-none}
use mathlib.Core.Bool.{cond}
use mathlib.Core.Logic.{⊎_elim}
use Rattle.std.proofs.lemmas.List.Elements.{All-cons, All-head, All-nil, All-tail}
use lib.ListN.{get_elem?}
use Rattle.bp_desk.specs.Turns.{total, times, times_held, peer_number}
use Rattle.bp_desk.specs.declared.views.Peer.{Peer}
use Rattle.bp_desk.specs.declared.views.View.{View}

module _ (f : View → ℕ) where
  -- the one law of a total: what it becomes where one view is changed
  pub total_set : (views : List View) (id : ℕ) (v w : View)
      → get_elem? views id ≡ some v
      → total f (set views id w) + f v ≡ total f views + f w
  total_set [] id v w e = absurd (some-ne-none v (sym e))
  total_set (x ∷ xs) zero v w e = let same : f x ≡ f v = ap f (some-injective x v e) in omega arith
  total_set (x ∷ xs) (suc id) v w e = let h = total_set xs id v w e in omega arith

  -- and where one is added
  pub total_push : (views : List View) (w : View) → total f (views ++ w ∷ []) ≡ total f views + f w
  total_push [] w = omega arith
  total_push (x ∷ xs) w = let h = total_push xs w in omega arith

  pub total_at : (views : List View) (id : ℕ) (v : View)
      → get_elem? views id ≡ some v
      → f v ≤ total f views
  total_at [] id v e = absurd (some-ne-none v (sym e))
  total_at (x ∷ xs) zero v e = let same : f x ≡ f v = ap f (some-injective x v e) in omega arith
  total_at (x ∷ xs) (suc id) v e = let h = total_at xs id v e in omega arith

  -- two of them are within the total
  pub total_two : (views : List View) (i j : ℕ) (u w : View)
      → i ≢ j
      → get_elem? views i ≡ some u
      → get_elem? views j ≡ some w
      → f u + f w ≤ total f views
  total_two [] i j u w apart a b = absurd (some-ne-none u (sym a))
  total_two (x ∷ xs) zero zero u w apart a b = absurd (apart refl)
  total_two (x ∷ xs) zero (suc j) u w apart a b =
      let s : f x ≡ f u = ap f (some-injective x u a) in let h = total_at xs j w b in omega arith
  total_two (x ∷ xs) (suc i) zero u w apart a b =
      let s : f x ≡ f w = ap f (some-injective x w b) in let h = total_at xs i u a in omega arith
  total_two (x ∷ xs) (suc i) (suc j) u w apart a b =
      let h = total_two xs i j u w (λ e. apart (ap suc e)) a b in omega arith

  pub total_none : (views : List View)
      → ((id : ℕ) (v : View) → get_elem? views id ≡ some v → f v ≡ 0)
      → total f views ≡ 0
  total_none [] h = refl
  total_none (x ∷ xs) h =
      let a = h zero x refl in let b = total_none xs (λ id v e. h (suc id) v e) in omega arith

-- ---- how often a number stands

pub times-append : (k : ℕ) (xs ys : List ℕ) → times k (xs ++ ys) ≡ times k xs + times k ys
times-append k [] ys = omega arith
times-append k (x ∷ xs) ys = let h = times-append k xs ys in omega arith

one_if : (n k : ℕ) → n ≡ k → ◌≡◌ {A = ℕ} (if eqb n k then 1 else 0) 1
one_if n k e = ap (λ (b : Bool). cond {A = ℕ} b 1 0) (eq-eqb n k e)

none_if : (n k : ℕ) → n ≢ k → ◌≡◌ {A = ℕ} (if eqb n k then 1 else 0) 0
none_if n k e = ap (λ (b : Bool). cond {A = ℕ} b 1 0) (ne_eqb n k e)

pub times_here : (k n : ℕ) (numbers : List ℕ) → n ≡ k → 1 ≤ times k (n ∷ numbers)
times_here k n numbers e = let h = one_if n k e in omega arith

pub times_else : (k n : ℕ) (numbers : List ℕ) → n ≢ k → times k (n ∷ numbers) ≡ times k numbers
times_else k n numbers e = let h = none_if n k e in omega arith

pub times_most : (k n : ℕ) → times k (n ∷ []) ≤ 1
times_most k n =
    ⊎_elim (λ e. let h = one_if n k e in omega arith) (λ e. let h = none_if n k e in omega arith)
    (cases_eq n k)

pub times_tail : (k n : ℕ) (numbers : List ℕ) → times k numbers ≤ times k (n ∷ numbers)
times_tail k n numbers = omega arith

-- a number that stands nowhere in a list is no member of it
pub none_there : (k : ℕ) (peers : List Peer)
    → times k (map peer_number peers) ≡ 0
    → All (λ (p : Peer). p.number ≢ k) peers
none_there k [] e = All-nil (λ (p : Peer). p.number ≢ k)
none_there k (p ∷ peers) e =
    let t : times k (map peer_number peers) ≡ 0 = omega arith in
    All-cons (λ (q : Peer). q.number ≢ k) p peers
    (λ (same : p.number ≡ k).
    let h = times_here k p.number (map peer_number peers) same in absurd (omega arith))
    (none_there k peers t)

pub not_own : (k : ℕ) (v : View) → times_held k v ≡ 0 → v.number ≢ k
not_own k v e same = let h = times_here k v.number (map peer_number v.met) same in absurd (omega arith)

pub not_met : (k : ℕ) (v : View) → times_held k v ≡ 0 → All (λ (p : Peer). p.number ≢ k) v.met
not_met k v e = let h = times_tail k v.number (map peer_number v.met) in none_there k v.met (omega arith)

-- numbers up to a bound hold none above it
pub none_above : (k given : ℕ) (peers : List Peer)
    → given < k
    → All (λ (p : Peer). p.number ≤ given) peers
    → times k (map peer_number peers) ≡ 0
none_above k given [] lt h = refl
none_above k given (p ∷ peers) lt h =
    let P : Peer → Type 0 = λ q. q.number ≤ given in
    let r = none_above k given peers lt (All-tail P p peers h) in
    let e =
    times_else k p.number (map peer_number peers)
    (λ (same : p.number ≡ k). let b = All-head P p peers h in absurd (omega arith)) in
    omega arith
