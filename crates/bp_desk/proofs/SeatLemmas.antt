-- Carry what a seat knows after a call to what serving a door asks of it.
use Rattle.std.proofs.Common.{◌≡◌, ◌≤◌, ℕ, [], ◌∷◌, length, Result, Ok, Err, refl, sym, ap, ◌∙◌, subst, arith, append_assoc}
use Rattle.std.proofs.lemmas.Bool.{cond_both, leb-true, leb-false}
use lib.Dec.{leb}
use Rattle.bp_core.specs.Counts.{risen}
use Rattle.bp_core.specs.declared.rules.Rule.{Rule}
use Rattle.bp_matter.specs.Matter.{Matter}
use Rattle.bp_matter.specs.declared.calls.Reply.{Reply}
use Rattle.bp_book.proofs.HistoryLemmas.{run_calls-append}
use Rattle.bp_book.specs.Calls.{AltersOn, answer_to, run_calls}
use Rattle.bp_book.specs.History.{AreOthers}
use Rattle.bp_book.specs.declared.history.Made.{Made}
use Rattle.bp_book.specs.declared.refusals.DeskRefusal.{DeskRefusal}
use Rattle.bp_book.specs.declared.refusals.DeskRefusal.TheVariants as refusals
use Rattle.bp_desk.specs.Exchanges.{AnswersCall, CallsAt, Refuses}
use Rattle.bp_desk.specs.Seats.{Called, Calls, IsSeatOf, Desked, Raised, SameSeat, SeatView, Uncalled}
use Rattle.bp_desk.specs.Doors.{history_at, most, own_faults}
use Rattle.bp_desk.specs.declared.views.View.{View}

-- ---- the same seat

pub same_not : (seat : SeatView) → SameSeat seat seat
same_not seat = record {
  desk = refl;
  view = record {
    number = refl;
    given = refl;
    opening = refl;
    base = refl;
    room = refl;
    keeper = refl;
  };
}

pub same_twice : (a b c : SeatView) → SameSeat a b → SameSeat b c → SameSeat a c
same_twice a b c one two = record {
  desk = two.desk ∙ one.desk;
  view = record {
    number = two.view.number ∙ one.view.number;
    given = two.view.given ∙ one.view.given;
    opening = two.view.opening ∙ one.view.opening;
    base = two.view.base ∙ one.view.base;
    room = two.view.room ∙ one.view.room;
    keeper = two.view.keeper ∙ one.view.keeper;
  };
}

pub still_of : (desk : Desked) (a b : SeatView) → IsSeatOf desk a → SameSeat a b → IsSeatOf desk b
still_of desk a b is same = record {
  same = same.desk ∙ is.same;
  opening = same.view.opening ∙ is.opening;
  base = same.view.base ∙ is.base;
  room = same.view.room ∙ is.room;
}

-- ---- faults of its own

module _ (v w : View) (within : v.raised ≤ v.left) (turn : Raised v w) where
  own_grows : own_faults v ≤ own_faults w
  own_grows =
      let found = turn.found in
      let rose = turn.rose in
      let sum = turn.sum in
      cond_both (leb most v.left) most v.raised (λ a. a ≤ own_faults w)
      (λ e. let top = leb-true most v.left e in
      cond_both (leb most w.left) most w.raised (λ b. most ≤ b) (λ _. omega arith)
      (λ f. let low = leb-false most w.left f in absurd (omega arith)))
      (λ e. let low = leb-false most v.left e in
      cond_both (leb most w.left) most w.raised (λ b. v.raised ≤ b) (λ _. omega arith)
      (λ _. omega arith))

  own_rises : w.left ≡ risen w.found → risen (own_faults v) ≤ own_faults w
  own_rises one =
      let found = turn.found in
      let rose = turn.rose in
      let sum = turn.sum in
      cond_both (leb most v.left) most v.raised (λ a. risen a ≤ own_faults w)
      (λ e. let top = leb-true most v.left e in
      cond_both (leb most w.left) most w.raised (λ b. risen most ≤ b) (λ _. omega arith)
      (λ f. let low = leb-false most w.left f in absurd (omega arith)))
      (λ e. let low = leb-false most v.left e in
      cond_both (leb most w.left) most w.raised (λ b. risen v.raised ≤ b) (λ _. omega arith)
      (λ f. let low' = leb-false most w.left f in omega arith))

-- ---- a call

module _ (v w : View) (made : Made) (by : made.seat ≡ v.number) (within : v.raised ≤ v.left) where
  answers_at : (answer : Result Reply Rule)
      → Called v made answer w
      → AnswersCall (history_at v) made answer (history_at w)
  answers_at answer c =
      record {
        others = c.between;
        apart = subst (λ (n : ℕ). AreOthers n c.between) (sym by) c.apart;
        given =
            ap (λ (m : Matter). answer_to m made)
            (sym (run_calls-append v.opening v.seen c.between))
            ∙ c.answered;
        grew = record {
          opening = c.same.opening;
          calls = c.seen ∙ append_assoc v.seen c.between (made ∷ []);
          room = c.same.room;
          faults = own_grows v w within c.turn;
        };
        within = (let f = c.fits in let r = c.same.room in omega arith);
      }

  refuses_at : Uncalled v w → length w.seen ≤ v.room → Refuses (history_at v) made.seat (history_at w)
  refuses_at c fits =
      record {
        others = c.between;
        apart = subst (λ (n : ℕ). AreOthers n c.between) (sym by) c.apart;
        grew = record {
          opening = c.same.opening;
          calls = c.seen;
          room = c.same.room;
          faults = own_grows v w within c.turn;
        };
        within = (let r = c.same.room in omega arith);
      }

  pub calls_at : (answer : Result Reply DeskRefusal)
      → Calls v made answer w
      → CallsAt (history_at v) made answer (history_at w)
  calls_at (Ok reply) c = answers_at (Ok reply) c
  calls_at (Err (refusals.Rule rule)) c = answers_at (Err rule) c
  calls_at (Err refusals.KeeperFault) c =
      let P : Matter → Type 0 = λ m. AltersOn (run_calls m w.seen) made.key made.call in (
        refuses_at c.0 (let f = c.2 in omega arith),
        own_rises v w within c.0.turn c.1,
        subst P (sym c.0.same.opening) c.3,
      )
  calls_at (Err (refusals.JournalFull count)) c = (
    refuses_at c.0 (let f = c.2 in omega arith),
    c.2
        ∙ sym c.0.same.room,
    c.3
        ∙ sym c.0.same.room,
  )
  calls_at (Err refusals.OutOfMemory) c = refuses_at c.0 (let f = c.2 in omega arith)
