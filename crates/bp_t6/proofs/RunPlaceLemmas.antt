-- Lemmas on runs as places: carry where each run but the first begins over to changing elements.
use Rattle.std.proofs.Common.{ℕ, zero, suc, ◌+◌, ◌<◌, ◌≤◌, ◌≡◌, Bool, true, false, not, List, [], ◌∷◌, ◌++◌, length, get_or, drop, sum, replicate, refl, ap, sym, ◌∙◌, arith, append_assoc, add-zero, zero-add}
use Rattle.std.proofs.lemmas.List.{append-nil, drop_more, drop_all}
use Rattle.std.proofs.lemmas.List.Sums.{sum_by-cons}
use Rattle.bp_rows.specs.Changes.{changes_from, changes_of}
use Rattle.bp_rows.specs.Runs.{painted_runs}

-- where runs begin, the first at a place
abbrev pub starts_of : ℕ → List ℕ → List ℕ
starts_of at [] = []
starts_of at (n ∷ runs) = at ∷ starts_of (at + n) runs

skip_same : (at n : ℕ) (b : Bool) (ps : List Bool) → changes_from at b (replicate n b ++ ps) ≡ changes_from (at + n) b ps
skip_same at zero b ps = ap (λ k. changes_from k b ps) (sym (add-zero at))
skip_same at (suc n) true ps = skip_same (at + 1) n true ps ∙ ap (λ k. changes_from k true ps) (omega arith)
skip_same at (suc n) false ps = skip_same (at + 1) n false ps ∙ ap (λ k. changes_from k false ps) (omega arith)

each_starts : (at : ℕ) (black : Bool) (runs : List ℕ) → ((k : ℕ) → k < length runs → 1 ≤ get_or runs k 0) → changes_from at (not black) (painted_runs black runs) ≡ starts_of at runs
each_starts at black [] some = refl
each_starts at black (zero ∷ runs) some = absurd (omega (arith, some 0 (omega arith)))
each_starts at true (suc n ∷ runs) some =
    ap (λ ps. at ∷ ps) (skip_same (at + 1) n true (painted_runs false runs) ∙ ap (λ k. changes_from k true (painted_runs false runs)) (omega arith)
    ∙ each_starts (at + suc n) false runs (λ k h. some (suc k) (omega arith)))
each_starts at false (suc n ∷ runs) some =
    ap (λ ps. at ∷ ps) (skip_same (at + 1) n false (painted_runs true runs) ∙ ap (λ k. changes_from k false (painted_runs true runs)) (omega arith)
    ∙ each_starts (at + suc n) true runs (λ k h. some (suc k) (omega arith)))

changes_of_runs : (first : ℕ) (rest : List ℕ) → ((k : ℕ) → k < length rest → 1 ≤ get_or rest k 0) → changes_of (painted_runs false (first ∷ rest)) ≡ starts_of first rest
changes_of_runs first rest some =
    skip_same 0 first false (painted_runs true rest) ∙ ap (λ k. changes_from k false (painted_runs true rest)) (zero-add first) ∙ each_starts first true rest some

-- the places so far, behind which those of the runs that are left come
pub record PlacesSo (first : ℕ) (rest places : List ℕ) (i at : ℕ) : Type 0 where
  pub so : places ++ starts_of at (drop i rest) ≡ starts_of first rest
  pub left : at + sum (drop i rest) ≡ first + sum rest

pub no_places : (first : ℕ) (rest places : List ℕ) → places ≡ [] → PlacesSo first rest places 0 first
no_places first rest places none = record { so = ap (λ ps. ps ++ starts_of first rest) none; left = refl }

sum_next : (rest : List ℕ) (i : ℕ) → i < length rest → sum (drop i rest) ≡ get_or rest i 0 + sum (drop (i + 1) rest)
sum_next rest i less = ap sum (drop_more rest i 0 less) ∙ sum_by-cons (λ (x : ℕ). x) (get_or rest i 0) (drop (i + 1) rest)

pub place_fits : (first : ℕ) (rest places : List ℕ) (i at : ℕ) → PlacesSo first rest places i at → i < length rest → at + get_or rest i 0 ≤ first + sum rest
place_fits first rest places i at so less = omega (arith, so.left, sum_next rest i less)

pub place_more : (first : ℕ) (rest places new : List ℕ) (i at : ℕ) → PlacesSo first rest places i at → i < length rest → new ≡ places ++ at ∷ [] → PlacesSo first rest new (i + 1) (at + get_or rest i 0)
place_more first rest places new i at so less put = record {
  so = ap (λ ps. ps ++ starts_of (at + get_or rest i 0) (drop (i + 1) rest)) put
      ∙ append_assoc places (at ∷ []) (starts_of (at + get_or rest i 0) (drop (i + 1) rest))
      ∙ ap (λ rs. places ++ starts_of at rs) (sym (drop_more rest i 0 less)) ∙ so.so;
  left = omega (arith, so.left, sum_next rest i less);
}

pub places_all : (first : ℕ) (rest runs places : List ℕ) (i at : ℕ) → PlacesSo first rest places i at → length rest ≤ i → runs ≡ first ∷ rest → ((k : ℕ) → 0 < k → k < length runs → 1 ≤ get_or runs k 0) → places ≡ changes_of (painted_runs false runs)
places_all first rest runs places i at so done are least =
    sym (append-nil places) ∙ ap (λ rs. places ++ starts_of at rs) (sym (drop_all i rest done)) ∙ so.so
    ∙ sym (changes_of_runs first rest (λ k h. omega (arith, least (suc k) (omega arith) (omega (arith, ap length are)), ap (λ rs. get_or rs (suc k) 0) are)))
    ∙ ap (λ rs. changes_of (painted_runs false rs)) (sym are)
