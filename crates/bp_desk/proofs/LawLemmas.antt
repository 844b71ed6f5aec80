-- Carry runs, doors and faults to the laws of a closed desk.
use Rattle.std.proofs.Common.{◌≡◌, ◌≢◌, ◌+◌, ◌-◌, ◌<◌, ◌≤◌, ℕ, zero, suc, true, false, List, [], ◌∷◌, ◌++◌, map, sum, Result, Ok, Err, refl, sym, ap, ◌∙◌, subst, arith, ⊎_elim}
use Rattle.std.specs.Prelude.{All}
use Rattle.std.proofs.lemmas.Bool.{cases_Bool, cases_eq, cond_both, leb-true, leb-false}
use Rattle.std.proofs.lemmas.List.Sums.{sum_by_from}
use Rattle.std.proofs.lemmas.List.Elements.{All-cons, All-head, All-nil, All-tail}
use lib.Dec.{leb}
use Rattle.bp_core.specs.Counts.{risen}
use Rattle.bp_core.specs.declared.rules.Rule.{Rule}
use Rattle.bp_matter.specs.Matter.{Matter}
use Rattle.bp_rules.specs.Running.{run_of, to_call}
use Rattle.bp_rules.specs.Stepping.{Stepped, step_of}
use Rattle.bp_book.specs.Calls.{matter_by}
use Rattle.bp_book.specs.History.{AreOthers}
use Rattle.bp_book.specs.declared.history.Made.{Made}
use Rattle.bp_desk.proofs.RunLemmas.{seat_law}
use Rattle.bp_desk.specs.Run.{DoorServed}
use Rattle.bp_desk.specs.Serving.{RoseBy, raised}
use Rattle.bp_desk.specs.Calls.{calls_by}
use Rattle.bp_desk.specs.Laws.{DoorLaw, FaultsLaw, FaultsRose, RunLaw, SameSeats, SeatsLaw, start_faults, step_without_desk}
use Rattle.bp_desk.specs.Seats.{Desked, IsSeatOf, SeatCloses, SeatView, all_fresh, fresh, fresh_with, others, seat_number, seat_view}
use Rattle.bp_desk.specs.Doors.{history_at, most, own_faults}
use Rattle.bp_desk.specs.Turns.{raised_by, times, total}
use Rattle.bp_desk.proofs.SeatLemmas.{still_of}
use Rattle.bp_desk.proofs.TotalLemmas.{times_here, times_tail}
use Rattle.std.specs.List.{range_with_len}
use Rattle.bp_desk.specs.declared.views.View.{View}
use Rattle.bp_desk.proofs.FrontLemmas.{others_between}

-- ---- runs

same_matter : (m : Matter) (stepped : Result Stepped Rule)
    → matter_by m stepped ≡ (to_call m stepped).matter
same_matter m (Ok stepped) = refl
same_matter m (Err rule) = refl

pub run_law : RunLaw
run_law m [] = refl
run_law m (made ∷ calls) =
    run_law (matter_by m (step_of m made.key made.call)) calls
    ∙ ap (λ (n : Matter). run_of n (map step_without_desk calls)) (same_matter m (step_of m made.key made.call))

-- ---- doors

pub door_law : DoorLaw
door_law desk history count connections seat seat' door door' of nothing serves closes fits =
    let v : View = seat.view in
    let w : View = seat'.view in
    let rest = closes.seen.0 in
    let whole : history ≡ w.seen ++ rest = closes.seen.1 in
    let apart : AreOthers w.number rest =
    others_between w.number w.seen rest w.mine serves.own
    (ap (calls_by w.number) (sym whole) ∙ closes.mine) in
    let others : AreOthers v.number rest =
    subst (λ (n : ℕ). AreOthers n rest) serves.same.view.number apart in
    let served =
    seat_law v.number connections desk.book.room (history_at v) (history_at w) door door'
    history rest serves.served nothing of.room whole others fits in
    subst
    (λ (m : Matter).
    DoorServed m history desk.book.room v.number connections serves.served.serves.faults
    door door')
    of.opening served

-- ---- faults

-- below the greatest count each of them counts
raised_low : (k a r : ℕ) → raised k a ≤ r → r < most → a + k ≤ r
raised_low zero a r less low = omega (arith, less)
raised_low (suc k) a r less low = let h = raised_low k (risen a) r less low in omega (arith, h, low)

raised_top : (k a r : ℕ) → a ≤ r → most ≤ r → raised k a ≤ r
raised_top zero a r less top = less
raised_top (suc k) a r less top = raised_top k (risen a) r (omega (arith, top)) top

raised_most : (k a : ℕ) → raised k a ≤ a + k
raised_most zero a = omega arith
raised_most (suc k) a = let h = raised_most k (risen a) in omega (arith, h)

one_seat : (base count n : ℕ) (v : View)
    → base ≤ count
    → count < most
    → v.left ≤ count
    → v.raised ≤ count
    → RoseBy n (start_faults base) (own_faults v)
    → n ≤ v.raised
one_seat base count n v began low left small rose =
    let own : own_faults v ≡ v.raised =
    cond_both (leb most v.left) most v.raised (λ a. a ≡ v.raised)
    (λ e. let h = leb-true most v.left e in absurd (omega (arith, h, left, low)))
    (λ _. refl) in
    let start : start_faults base ≡ 0 =
    cond_both (leb most base) most 0 (λ a. a ≡ 0)
    (λ e. let h = leb-true most base e in absurd (omega (arith, h, began, low))) (λ _. refl)
    in
    let rose' : raised n 0 ≤ v.raised =
    subst (λ (a : ℕ). raised n 0 ≤ a) own
    (subst (λ (a : ℕ). raised n a ≤ own_faults v) start rose) in
    let h = raised_low n 0 v.raised rose' (omega (arith, small, low)) in omega (arith, h)

sum_seats : (base count : ℕ) (history : List Made) (seats : List SeatView) (counts : List ℕ)
    → base ≤ count
    → count < most
    → All (SeatCloses history count) seats
    → FaultsRose base seats counts
    → total raised_by (map seat_view seats) ≤ count
    → sum counts ≤ total raised_by (map seat_view seats)
sum_seats base count history [] [] began low each rose few = omega arith
sum_seats base count history [] (n ∷ counts) began low each rose few = absurd rose
sum_seats base count history (seat ∷ seats) [] began low each rose few = absurd rose
sum_seats base count history (seat ∷ seats) (n ∷ counts) began low each rose few =
    let P : SeatView → Type 0 = SeatCloses history count in
    let one =
    one_seat base count n seat.view began low (All-head P seat seats each).left
    (omega (arith, few)) rose.0 in
    let more =
    sum_seats base count history seats counts began low (All-tail P seat seats each) rose.1
    (omega (arith, few)) in
    let all : sum (n ∷ counts) ≡ 0 + n + sum counts = sum_by_from (λ x. x) (0 + n) counts in
    omega (arith, one, more, all)

pub faults_law : FaultsLaw
faults_law desk seats history matter keeper counts closes rose =
    let base : ℕ = desk.book.keeper.faults in
    let count : ℕ = keeper.faults in
    let summed : base + total raised_by (map seat_view seats) ≤ count = closes.summed in
    ⊎_elim
    (λ (e : leb most count ≡ true).
    raised_top (sum counts) base count (omega (arith, summed)) (leb-true most count e))
    (λ (e : leb most count ≡ false).
    let low = leb-false most count e in
    let few =
    sum_seats base count history seats counts (omega (arith, summed)) (omega (arith, low))
    closes.each rose (omega (arith, summed)) in
    let high = raised_most (sum counts) base in
    omega (arith, few, high, summed))
    (cases_Bool (leb most count))

-- ---- the seats of a desk

fresh_all : (desk : Desked) (numbers : List ℕ) → All (IsSeatOf desk) (map (fresh_with desk) numbers)
fresh_all desk [] = All-nil (IsSeatOf desk)
fresh_all desk (n ∷ numbers) =
    All-cons (IsSeatOf desk) (fresh_with desk n) (map (fresh_with desk) numbers)
    (record { same = refl; opening = refl; base = refl; room = refl }) (fresh_all desk numbers)

all_still : (desk : Desked) (before after : List SeatView)
    → All (IsSeatOf desk) before
    → SameSeats before after
    → All (IsSeatOf desk) after
all_still desk [] [] all same = All-nil (IsSeatOf desk)
all_still desk [] (b ∷ after) all same = absurd same
all_still desk (a ∷ before) [] all same = absurd same
all_still desk (a ∷ before) (b ∷ after) all same =
    let P : SeatView → Type 0 = IsSeatOf desk in
    All-cons P b after (still_of desk a b (All-head P a before all) same.0)
    (all_still desk before after (All-tail P a before all) same.1)

same_numbers : (before after : List SeatView)
    → SameSeats before after
    → map seat_number after ≡ map seat_number before
same_numbers [] [] same = refl
same_numbers [] (b ∷ after) same = absurd same
same_numbers (a ∷ before) [] same = absurd same
same_numbers (a ∷ before) (b ∷ after) same =
    λ i. same.0.view.number i ∷ same_numbers before after same.1 i

in_range : (desk : Desked) (k from count : ℕ)
    → from ≤ k
    → k < from + count
    → 0 < times k (map seat_number (map (fresh_with desk) (range_with_len from count)))
in_range desk k from zero low high = absurd (omega (arith, low, high))
in_range desk k from (suc count) low high =
    ⊎_elim
    (λ (here : from ≡ k).
    let h =
    times_here k from
    (map seat_number (map (fresh_with desk) (range_with_len (from + 1) count)))
    here in
    omega (arith, h))
    (λ (off : from ≢ k).
    let more = in_range desk k (from + 1) count (omega (arith, low, off)) (omega (arith, high)) in
    let h =
    times_tail k from
    (map seat_number (map (fresh_with desk) (range_with_len (from + 1) count))) in
    omega (arith, h, more))
    (cases_eq from k)

all_numbers : (desk : Desked) (k : ℕ)
    → 0 < k
    → k ≤ desk.seats
    → 0 < times k (map seat_number (all_fresh desk))
all_numbers desk k some_number within =
    ⊎_elim
    (λ (here : 1 ≡ k).
    let h = times_here k 1 (map seat_number (others desk (desk.seats - 1))) here in
    omega (arith, h))
    (λ (off : 1 ≢ k).
    let more =
    in_range desk k 2 (desk.seats - 1) (omega (arith, some_number, off))
    (omega (arith, within, some_number)) in
    let h = times_tail k 1 (map seat_number (others desk (desk.seats - 1))) in
    omega (arith, h, more))
    (cases_eq 1 k)

pub seats_law : SeatsLaw
seats_law desk seats some_seat same =
    let P : SeatView → Type 0 = IsSeatOf desk in
    record {
      of_desk = all_still desk (all_fresh desk) seats
          (All-cons P (fresh desk 1 desk.seats) (others desk (desk.seats - 1))
          (record { same = refl; opening = refl; base = refl; room = refl })
          (fresh_all desk (range_with_len 2 (desk.seats - 1)))) same;
      whole = λ number low high.
          subst (λ (ns : List ℕ). 0 < times number ns) (sym (same_numbers (all_fresh desk) seats same))
          (all_numbers desk number low high);
    }
