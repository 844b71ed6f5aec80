-- Beginnings of a list of calls, and the calls of one seat.
use Rattle.std.proofs.Common.{◌≡◌, ◌≢◌, ℕ, ◌+◌, ◌≤◌, ◌<◌, Bool, true, false, List, [], ◌∷◌, ◌++◌, length, drop, get_or, refl, sym, ap, ◌∙◌, subst, arith, append_assoc, length-append, eq-eqb, ne_eqb}
use Rattle.std.specs.Prelude.{All}
use mathlib.Core.Bool.{cond}
use mathlib.Core.List.{append-nil}
use Rattle.std.proofs.lemmas.Bool.{leb-true, leb-false, cond_both}
use Rattle.std.proofs.lemmas.List.Elements.{All-weaker, All-head, All-tail, filter-append}
use lib.Dec.{leb}
use Rattle.bp_book.specs.History.{AreOthers}
use Rattle.bp_book.specs.declared.history.Made.{Made}
use Rattle.bp_desk.specs.Calls.{Begins, calls_by, is_by}
use Rattle.bp_desk.specs.Turns.{IsSeatCaller, longer}

pub begins-refl : (xs : List Made) → Begins xs xs
begins-refl xs = ([], sym (append-nil xs))

pub begins-nil : (xs : List Made) → Begins [] xs
begins-nil xs = (xs, refl)

pub begins-trans : (xs ys zs : List Made) → Begins xs ys → Begins ys zs → Begins xs zs
begins-trans xs ys zs a b = (a.0 ++ b.0, b.1 ∙ (ap (λ l. l ++ b.0) a.1 ∙ append_assoc xs a.0 b.0))

pub begins-push : (xs ys : List Made) (x : Made) → Begins xs ys → Begins xs (ys ++ x ∷ [])
begins-push xs ys x a = begins-trans xs ys (ys ++ x ∷ []) a (x ∷ [], refl)

pub begins-same : (xs ys : List Made) → xs ≡ ys → Begins xs ys
begins-same xs ys e = subst (Begins xs) e (begins-refl xs)

-- of two beginnings of one list the shorter begins the longer
fronts : (xs ys r s : List Made) → xs ++ r ≡ ys ++ s → length xs ≤ length ys → Begins xs ys
fronts [] ys r s e le = (ys, refl)
fronts (x ∷ xs) [] r s e le = absurd (omega arith)
fronts (x ∷ xs) (y ∷ ys) r s e le =
    let h = fronts xs ys r s (ap (drop 1) e) (omega arith) in
    let same : x ≡ y = ap (λ (l : List Made). get_or l 0 x) e in
    (h.0, λ i. sym same i ∷ h.1 i)

pub two_fronts : (xs ys log : List Made)
    → Begins xs log
    → Begins ys log
    → length xs ≤ length ys
    → Begins xs ys
two_fronts xs ys log a b le = fronts xs ys a.0 b.0 (sym a.1 ∙ b.1) le

module _ (xs ys log : List Made) (a : Begins xs log) (b : Begins ys log) where
  pub longer-begins : Begins (longer xs ys) log
  longer-begins = cond_both (leb (length xs) (length ys)) ys xs (λ l. Begins l log) (λ _. b) (λ _. a)

  pub begins-longer_left : Begins xs (longer xs ys)
  begins-longer_left =
      cond_both (leb (length xs) (length ys)) ys xs (λ l. Begins xs l)
      (λ e. two_fronts xs ys log a b (leb-true (length xs) (length ys) e)) (λ _. begins-refl xs)

  pub begins-longer_right : Begins ys (longer xs ys)
  begins-longer_right =
      cond_both (leb (length xs) (length ys)) ys xs (λ l. Begins ys l) (λ _. begins-refl ys)
      (λ e.
      two_fronts ys xs log b a
      (let h = leb-false (length xs) (length ys) e in omega arith))

-- ---- the calls of one seat

pub calls_by-own : (n : ℕ) (log : List Made) (made : Made)
    → made.seat ≡ n
    → calls_by n (log ++ made ∷ []) ≡ calls_by n log ++ made ∷ []
calls_by-own n log made e =
    filter-append (is_by n) log (made ∷ [])
    ∙ ap (λ (b : Bool). calls_by n log ++ cond b (made ∷ []) []) (eq-eqb made.seat n e)

pub calls_by-other : (n : ℕ) (log : List Made) (made : Made)
    → made.seat ≢ n
    → calls_by n (log ++ made ∷ []) ≡ calls_by n log
calls_by-other n log made e =
    filter-append (is_by n) log (made ∷ [])
    ∙
    (ap (λ (b : Bool). calls_by n log ++ cond b (made ∷ []) []) (ne_eqb made.seat n e)
    ∙ append-nil (calls_by n log))

pub calls_by-none : (n given : ℕ) (log : List Made)
    → All (IsSeatCaller given) log
    → ((k : ℕ) → 0 < k → k ≤ given → k ≢ n)
    → calls_by n log ≡ []
calls_by-none n given [] h off = refl
calls_by-none n given (x ∷ xs) h off =
    let first = All-head (IsSeatCaller given) x xs h in
    ap (λ (b : Bool). cond b (x ∷ calls_by n xs) (calls_by n xs))
    (ne_eqb x.seat n (off x.seat first.0 first.1))
    ∙ calls_by-none n given xs (All-tail (IsSeatCaller given) x xs h) off

pub callers-more : (given : ℕ) (log : List Made)
    → All (IsSeatCaller given) log
    → All (IsSeatCaller (given + 1)) log
callers-more given log h =
    All-weaker (IsSeatCaller given) (IsSeatCaller (given + 1)) (λ x c. (let b = c.1 in (c.0, omega arith)))
    log h

-- ---- where no call of the seat is

none_both : (b : Bool) (x : Made) (xs : List Made) → cond b (x ∷ xs) xs ≡ [] → (b ≡ false) × (xs ≡ [])
none_both true x xs none = let e = ap (λ (l : List Made). length l) none in absurd (omega arith)
none_both false x xs none = (refl, none)

none_by : (n : ℕ) (calls : List Made) → calls_by n calls ≡ [] → AreOthers n calls
none_by n [] none = tt
none_by n (x ∷ xs) none = let h = none_both (is_by n x) x (calls_by n xs) none in (h.0, none_by n xs h.1)

no_more : (xs ys zs : List Made) → xs ≡ zs → xs ++ ys ≡ zs → ys ≡ []
no_more xs [] zs a b = refl
no_more xs (y ∷ ys) zs a b =
    let n = ap (λ (l : List Made). length l) a in
    let m = ap (λ (l : List Made). length l) b in
    absurd (omega (arith, length-append xs (y ∷ ys)))

-- calls that came after what was seen are of others, where the seat's own stand in what was seen
pub others_between : (n : ℕ) (seen between mine : List Made)
    → calls_by n seen ≡ mine
    → calls_by n (seen ++ between) ≡ mine
    → AreOthers n between
others_between n seen between mine own all =
    none_by n between
    (no_more (calls_by n seen) (calls_by n between) mine own
    (sym (filter-append (is_by n) seen between) ∙ all))

others_none : (n : ℕ) (calls : List Made) → AreOthers n calls → calls_by n calls ≡ []
others_none n [] apart = refl
others_none n (x ∷ xs) apart =
    ap (λ (b : Bool). cond b (x ∷ calls_by n xs) (calls_by n xs)) apart.0 ∙ others_none n xs apart.1

-- what lies between a beginning that has them and the whole has them too
pub own_between : (n : ℕ) (xs ys zs mine : List Made)
    → calls_by n xs ≡ mine
    → Begins xs ys
    → Begins ys zs
    → calls_by n zs ≡ mine
    → calls_by n ys ≡ mine
own_between n xs ys zs mine own a b all =
    let cut : calls_by n ys ≡ calls_by n xs ++ calls_by n a.0 =
    ap (calls_by n) a.1 ∙ filter-append (is_by n) xs a.0 in
    let more : calls_by n zs ≡ calls_by n ys ++ calls_by n b.0 =
    ap (calls_by n) b.1 ∙ filter-append (is_by n) ys b.0 in
    let whole : calls_by n xs ++ (calls_by n a.0 ++ calls_by n b.0) ≡ mine =
    sym (append_assoc (calls_by n xs) (calls_by n a.0) (calls_by n b.0))
    ∙ (ap (λ (l : List Made). l ++ calls_by n b.0) (sym cut) ∙ (sym more ∙ all)) in
    let none : calls_by n a.0 ++ calls_by n b.0 ≡ [] =
    no_more (calls_by n xs) (calls_by n a.0 ++ calls_by n b.0) mine own whole in
    let none' : calls_by n a.0 ≡ [] = first_none (calls_by n a.0) (calls_by n b.0) none in
    cut ∙ (ap (λ (l : List Made). calls_by n xs ++ l) none' ∙ (append-nil (calls_by n xs) ∙ own))
  where
    first_none : (us vs : List Made) → us ++ vs ≡ [] → us ≡ []
    first_none [] vs e = refl
    first_none (u ∷ us) vs e = let m = ap (λ (l : List Made). length l) e in absurd (omega arith)
