-- Lemmas on runs: carry the places that show a row over to its runs, of which it has one list.
use Rattle.std.proofs.Common.{ℕ, zero, suc, ◌+◌, ◌-◌, ◌<◌, ◌≤◌, ◌≡◌, Bool, true, false, not, List, [], ◌∷◌, ◌++◌, length, get_or, drop, sum, replicate, refl, ap, sym, ◌∙◌, subst, arith, inl, inr, append_assoc, length-append}
use Rattle.std.proofs.lemmas.Bool.{cases_lt}
use Rattle.std.proofs.lemmas.List.{append-nil, length_push, get_or_append_left, get_or_at, drop_all, length-replicate}
use Rattle.std.proofs.lemmas.List.Sums.{sum_by-cons}
use Rattle.bp_rows.specs.Changes.{place_at, odd, Rises, Shows}
use Rattle.bp_rows.specs.Runs.{painted_runs, IsRuns}
use Rattle.bp_rows.proofs.ShownLemmas.{one_run}

pub length-painted : (c : Bool) (runs : List ℕ) → length (painted_runs c runs) ≡ sum runs
length-painted c [] = refl
length-painted c (n ∷ runs) = length-append (replicate n c) (painted_runs (not c) runs) ∙ omega (arith, length-replicate n c, length-painted (not c) runs, sum_by-cons (λ (x : ℕ). x) n runs)

abbrev pub turned : Bool → ℕ → Bool
turned c zero = c
turned c (suc k) = turned (not c) k

turned_not : (c : Bool) (k : ℕ) → turned (not c) k ≡ not (turned c k)
turned_not c zero = refl
turned_not c (suc k) = turned_not (not c) k

pub turned_odd : (k : ℕ) → turned false k ≡ odd k
turned_odd zero = refl
turned_odd (suc k) = turned_not false k ∙ ap not (turned_odd k)

pub painted_more : (c : Bool) (runs : List ℕ) (n : ℕ) → painted_runs c (runs ++ n ∷ []) ≡ painted_runs c runs ++ replicate n (turned c (length runs))
painted_more c [] n = append-nil (replicate n c)
painted_more c (m ∷ runs) n = ap (λ ps. replicate m c ++ ps) (painted_more (not c) runs n) ∙ sym (append_assoc (replicate m c) (painted_runs (not c) runs) (replicate n (turned (not c) (length runs))))

-- the runs up to a position, and what is left of the line
pub record RunsTo (places : List ℕ) (width : ℕ) (runs : List ℕ) (k last : ℕ) : Type 0 where
  pub count : length runs ≡ k
  pub within : last ≤ width
  pub last_is : (j : ℕ) → j + 1 ≡ k → place_at places width j ≡ last
  pub below : 0 < k → last < width
  pub first : k ≡ 0 → last ≡ 0
  pub paints : (line : List Bool) → Shows places width line → line ≡ painted_runs false runs ++ drop last line
  pub least : (i : ℕ) → 0 < i → i < length runs → 1 ≤ get_or runs i 0

pub no_runs : (places : List ℕ) (width : ℕ) (runs : List ℕ) → runs ≡ [] → RunsTo places width runs 0 0
no_runs places width runs none = record {
  count = ap length none;
  within = omega arith;
  last_is = λ j e. absurd (omega arith);
  below = λ h. absurd (omega arith);
  first = λ h. refl;
  paints = λ line shows. sym (ap (λ rs. painted_runs false rs ++ line) none);
  least = λ i h less. absurd (omega (arith, ap length none));
}

-- one run more, up to a place
stretch : (places : List ℕ) (width : ℕ) (line : List Bool) (runs : List ℕ) (k last to : ℕ) → Shows places width line → RunsTo places width runs k last → last ≤ to → to ≤ place_at places width k → line ≡ painted_runs false (runs ++ (to - last) ∷ []) ++ drop to line
stretch places width line runs k last to shows so more until =
    let n = to - last in
    let inside : to ≤ width = (let w = shows.rises.within k in omega arith) in
    let end : last + n ≡ to = omega arith in
    let piece : drop last line ≡ replicate n (odd k) ++ drop (last + n) line =
    one_run line last n (odd k) (omega (arith, shows.long)) (λ i since less. shows.colour k i (λ j e. omega (arith, so.last_is j e)) (omega arith)) in
    let colour : odd k ≡ turned false (length runs) = ap odd (sym so.count) ∙ sym (turned_odd (length runs)) in
    so.paints line shows ∙ ap (λ ps. painted_runs false runs ++ ps) (piece ∙ ap (λ c. replicate n c ++ drop (last + n) line) colour ∙ ap (λ m. replicate n (turned false (length runs)) ++ drop m line) end)
    ∙ sym (append_assoc (painted_runs false runs) (replicate n (turned false (length runs))) (drop to line))
    ∙ ap (λ ps. ps ++ drop to line) (sym (painted_more false runs n))

least_more : (runs : List ℕ) (n : ℕ) → ((i : ℕ) → 0 < i → i < length runs → 1 ≤ get_or runs i 0) → (0 < length runs → 1 ≤ n) → (i : ℕ) → 0 < i → i < length (runs ++ n ∷ []) → 1 ≤ get_or (runs ++ n ∷ []) i 0
least_more runs n least some i h less = elim (cases_lt i (length runs)) [
  | inl old ↦ omega (arith, get_or_append_left runs (n ∷ []) 0 i old, least i h old)
  | inr new ↦ (let at : length runs ≡ i = omega (arith, length_push runs n) in omega (arith, get_or_at runs n [] 0 i at, some (omega arith)))
]

-- a place is right of the one before it
pub after_last : (places : List ℕ) (width : ℕ) (runs : List ℕ) (k last : ℕ) → Rises places width → RunsTo places width runs k last → 0 < k → last < place_at places width k
after_last places width runs k last rises so some =
    let j = k - 1 in
    let back : k - 1 + 1 ≡ k = omega arith in
    let is = so.last_is (k - 1) back in
    omega (arith, is, so.below some, rises.rising (k - 1) (omega (arith, is, so.below some)), ap (place_at places width) back)

pub not_after : (places : List ℕ) (width : ℕ) (runs : List ℕ) (k last : ℕ) → Rises places width → RunsTo places width runs k last → last ≤ place_at places width k
not_after places width runs k last rises so = elim (cases_lt 0 k) [
  | inl some ↦ omega (arith, after_last places width runs k last rises so some)
  | inr none ↦ omega (arith, so.first (omega arith))
]

pub runs_more : (places : List ℕ) (width : ℕ) (runs new : List ℕ) (k last to : ℕ) → Rises places width → RunsTo places width runs k last → to ≡ place_at places width k → to < width → new ≡ runs ++ (to - last) ∷ [] → RunsTo places width new (k + 1) to
runs_more places width runs new k last to rises so is less put = subst (λ (rs : List ℕ). RunsTo places width rs (k + 1) to) (sym put) (record {
  count = length_push runs (to - last) ∙ omega (arith, so.count);
  within = omega arith;
  last_is = λ j e. (let same : j ≡ k = omega arith in ap (place_at places width) same ∙ sym is);
  below = λ h. less;
  first = λ h. absurd (omega arith);
  paints = λ line shows. stretch places width line runs k last to shows so (omega (arith, not_after places width runs k last rises so)) (omega arith);
  least = least_more runs (to - last) so.least (λ h. omega (arith, after_last places width runs k last rises so (omega (arith, so.count))));
})

pub runs_end : (places : List ℕ) (width : ℕ) (line : List Bool) (runs new : List ℕ) (k last : ℕ) → Shows places width line → RunsTo places width runs k last → width ≤ place_at places width k → new ≡ runs ++ (width - last) ∷ [] → IsRuns new line
runs_end places width line runs new k last shows so past put = subst (λ (rs : List ℕ). IsRuns rs line) (sym put) (record {
  paints = stretch places width line runs k last width shows so so.within past
      ∙ ap (λ ps. painted_runs false (runs ++ (width - last) ∷ []) ++ ps) (drop_all width line (omega (arith, shows.long)))
      ∙ append-nil (painted_runs false (runs ++ (width - last) ∷ []));
  some = omega (arith, length_push runs (width - last));
  least = least_more runs (width - last) so.least (λ h. omega (arith, so.below (omega (arith, so.count))));
})

-- ---- a row has one list of runs

abbrev AllSome : List ℕ → Type 0
AllSome [] = Unit {0}
AllSome (n ∷ runs) = (1 ≤ n) × AllSome runs

other_colour : (c : Bool) (xs ys : List Bool) → not c ∷ xs ≡ c ∷ ys → ⊥
other_colour true xs ys e = cc
other_colour false xs ys e = cc

-- what follows a run begins in the other colour
not_same : (c : Bool) (ms : List ℕ) (xs : List Bool) → AllSome ms → painted_runs (not c) ms ≡ c ∷ xs → ⊥
not_same c [] xs some e = cc
not_same c (zero ∷ ms) xs some e = omega (arith, some.0)
not_same c (suc m ∷ ms) xs some e = other_colour c (replicate m (not c) ++ painted_runs (not (not c)) ms) xs e

tail_same : (c : Bool) (xs ys : List Bool) → ◌≡◌ {A = List Bool} (c ∷ xs) (c ∷ ys) → xs ≡ ys
tail_same c xs ys e = cc

same_tails : (c : Bool) (m n : ℕ) (ms ns : List ℕ) → AllSome ms → AllSome ns → replicate m c ++ painted_runs (not c) ms ≡ replicate n c ++ painted_runs (not c) ns → (m ≡ n) × (painted_runs (not c) ms ≡ painted_runs (not c) ns)
same_tails c zero zero ms ns a b e = (refl, e)
same_tails c zero (suc n) ms ns a b e = absurd (not_same c ms (replicate n c ++ painted_runs (not c) ns) a e)
same_tails c (suc m) zero ms ns a b e = absurd (not_same c ns (replicate m c ++ painted_runs (not c) ms) b (sym e))
same_tails c (suc m) (suc n) ms ns a b e =
    let rest = same_tails c m n ms ns a b (tail_same c (replicate m c ++ painted_runs (not c) ms) (replicate n c ++ painted_runs (not c) ns) e) in
    (ap suc rest.0, rest.1)

some_painted : (c : Bool) (n : ℕ) (ns : List ℕ) → 1 ≤ n → ◌≡◌ {A = List Bool} [] (painted_runs c (n ∷ ns)) → ⊥
some_painted c zero ns h e = omega arith
some_painted c (suc n) ns h e = cc

one_list : (c : Bool) (ms ns : List ℕ) → AllSome ms → AllSome ns → painted_runs c ms ≡ painted_runs c ns → ms ≡ ns
one_list c [] [] a b e = refl
one_list c [] (n ∷ ns) a b e = absurd (some_painted c n ns b.0 e)
one_list c (m ∷ ms) [] a b e = absurd (some_painted c m ms a.0 (sym e))
one_list c (m ∷ ms) (n ∷ ns) a b e =
    let one = same_tails c m n ms ns a.1 b.1 e in
    ap (λ k. k ∷ ms) one.0 ∙ ap (λ ks. n ∷ ks) (one_list (not c) ms ns a.1 b.1 one.1)

all_some : (runs : List ℕ) → ((k : ℕ) → k < length runs → 1 ≤ get_or runs k 0) → AllSome runs
all_some [] least = tt
all_some (n ∷ runs) least = (least 0 (omega arith), all_some runs (λ k h. least (suc k) (omega arith)))

pub one_runs : (row : List Bool) (ms ns : List ℕ) → IsRuns ms row → IsRuns ns row → ms ≡ ns
one_runs row [] ns h k = absurd (omega (arith, h.some))
one_runs row (m ∷ ms) [] h k = absurd (omega (arith, k.some))
one_runs row (m ∷ ms) (n ∷ ns) h k =
    let a = all_some ms (λ i less. h.least (suc i) (omega arith) (omega arith)) in
    let b = all_some ns (λ i less. k.least (suc i) (omega arith) (omega arith)) in
    let one = same_tails false m n ms ns a b (sym h.paints ∙ k.paints) in
    ap (λ v. v ∷ ms) one.0 ∙ ap (λ vs. n ∷ vs) (one_list true ms ns a b one.1)

pub runs_total : (row : List Bool) (runs : List ℕ) → IsRuns runs row → sum runs ≡ length row
runs_total row runs are = sym (length-painted false runs) ∙ ap length (sym are.paints)
