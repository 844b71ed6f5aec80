-- Both seats of a pair are all seats of its desk.
use Rattle.std.proofs.Common.{◌≡◌, ◌≢◌, ℕ, ◌<◌, ◌≤◌, List, [], ◌∷◌, sym, subst, arith, ⊎_elim}
use Rattle.std.proofs.lemmas.Bool.{cases_eq}
use Rattle.std.proofs.lemmas.List.Elements.{All-cons, All-nil}
use Rattle.bp_desk.specs.Seats.{AreSeats, Desked, IsSeatOf, SeatView}
use Rattle.bp_desk.specs.Turns.{times}
use Rattle.bp_desk.proofs.TotalLemmas.{times_here, times_tail}
use Rattle.bp_test_desk.specs.Pairs.{IsPair}

one_or_two : (k : ℕ) → 0 < k → k ≤ 2 → 0 < times k (1 ∷ 2 ∷ [])
one_or_two k low high =
    ⊎_elim
    (λ (here : 1 ≡ k). let h = times_here k 1 (2 ∷ []) here in omega (arith, h))
    (λ (off : 1 ≢ k).
    let more = times_here k 2 [] (omega (arith, low, high, off)) in
    let h = times_tail k 1 (2 ∷ []) in
    omega (arith, h, more))
    (cases_eq 1 k)

pub pair_seats : (desk : Desked) (one two : SeatView)
    → IsPair desk one two
    → AreSeats desk (one ∷ two ∷ [])
pair_seats desk one two pair =
    let P : SeatView → Type 0 = IsSeatOf desk in
    let numbers : one.view.number ∷ two.view.number ∷ [] ≡ 1 ∷ 2 ∷ [] =
    λ i. pair.numbered_one i ∷ pair.numbered_two i ∷ [] in
    record {
      of_desk = All-cons P one (two ∷ []) pair.first (All-cons P two [] pair.second (All-nil P));
      whole = λ number low high.
          subst (λ (ns : List ℕ). 0 < times number ns) (sym numbers)
          (one_or_two number low (omega (arith, high, pair.whole)));
    }
