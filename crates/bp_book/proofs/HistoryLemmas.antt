-- Carry runs and the calls of a seat over a history that goes on.
use Rattle.std.proofs.Common.{◌≡◌, ℕ, ◌+◌, ◌≤◌, ◌==◌, eq-eqb, Bool, true, false, List, [], ◌∷◌, ◌++◌, length, refl, sym, ap, ◌∙◌, append_assoc, arith, length-append}
use Rattle.std.proofs.lemmas.Bool.Decides.{Decides-eqb}
use Rattle.std.proofs.lemmas.List.{append-nil}
use Rattle.bp_matter.specs.Matter.{Matter}
use Rattle.bp_book.specs.Calls.{matter_with, run_calls}
use Rattle.bp_book.specs.History.{AreOthers, Grew, HistoryView, Turn, is_full, matter_of, turn_if, turn_of, turns_of}
use Rattle.bp_book.specs.declared.history.Made.{Made}

pub run_calls-append : (m : Matter) (xs ys : List Made)
    → run_calls m (xs ++ ys) ≡ run_calls (run_calls m xs) ys
run_calls-append m [] ys = refl
run_calls-append m (made ∷ xs) ys = run_calls-append (matter_with m made) xs ys

turn_if-append : (b : Bool) (turn : Turn) (all xs ys : List Turn)
    → all ≡ xs ++ ys
    → turn_if b turn all ≡ turn_if b turn xs ++ ys
turn_if-append true turn all xs ys is = ap (λ turns. turn ∷ turns) is
turn_if-append false turn all xs ys is = is

pub turns_of-append : (seat : ℕ) (m : Matter) (xs ys : List Made)
    → turns_of seat m (xs ++ ys) ≡ turns_of seat m xs ++ turns_of seat (run_calls m xs) ys
turns_of-append seat m [] ys = refl
turns_of-append seat m (made ∷ xs) ys =
    turn_if-append (made.seat == seat) (turn_of m made) _ _ _
    (turns_of-append seat (matter_with m made) xs ys)

-- one call of the seat
pub turns_of-one : (seat : ℕ) (m : Matter) (made : Made)
    → made.seat ≡ seat
    → turns_of seat m (made ∷ []) ≡ turn_of m made ∷ []
turns_of-one seat m made own =
    ap (λ b. turn_if b (turn_of m made) []) (eq-eqb made.seat seat own)

pub turns_of-others : (seat : ℕ) (m : Matter) (others : List Made)
    → AreOthers seat others
    → turns_of seat m others ≡ []
turns_of-others seat m [] apart = refl
turns_of-others seat m (made ∷ others) apart =
    ap (λ b. turn_if b (turn_of m made) (turns_of seat (matter_with m made) others)) apart.0
    ∙ turns_of-others seat (matter_with m made) others apart.1

-- one call of the seat, behind calls of others
pub turns_of-last : (seat : ℕ) (m : Matter) (others : List Made) (made : Made)
    → AreOthers seat others
    → made.seat ≡ seat
    → turns_of seat m (others ++ made ∷ []) ≡ turn_of (run_calls m others) made ∷ []
turns_of-last seat m others made apart own =
    turns_of-append seat m others (made ∷ [])
    ∙ ap (λ ts. ts ++ turns_of seat (run_calls m others) (made ∷ []))
    (turns_of-others seat m others apart)
    ∙ turns_of-one seat (run_calls m others) made own

-- ---- a history that grew

-- the matter after a history that grew
pub matter_after : (history history' : HistoryView) (made : List Made)
    → Grew history made history'
    → matter_of history' ≡ run_calls (matter_of history) made
matter_after history history' made grew =
    ap (λ m. run_calls m history'.calls) grew.opening ∙ ap (run_calls history.opening) grew.calls
    ∙ run_calls-append history.opening history.calls made

-- one that didn't grow is as full as it was
pub as_full : (history history' : HistoryView) (made : List Made)
    → Grew history made history'
    → made ≡ []
    → is_full history' ≡ is_full history
as_full history history' made grew none =
    let same : history'.calls ≡ history.calls =
    grew.calls ∙ ap (λ ms. history.calls ++ ms) none ∙ append-nil history.calls in
    ap (λ ms. length ms == history'.room) same ∙ ap (λ r. length history.calls == r) grew.room

pub grew_twice : (b c d : HistoryView) (xs ys : List Made)
    → Grew b xs c
    → Grew c ys d
    → Grew b (xs ++ ys) d
grew_twice b c d xs ys first then =
    record {
      opening = then.opening ∙ first.opening;
      calls = then.calls ∙ ap (λ ms. ms ++ ys) first.calls ∙ append_assoc b.calls xs ys;
      room = then.room ∙ first.room;
      faults = omega (arith, first.faults, then.faults);
    }

pub grew_not : (history : HistoryView) → Grew history [] history
grew_not history =
    record {
      opening = refl;
      calls = sym (append-nil history.calls);
      room = refl;
      faults = omega arith;
    }

pub is_at_room : (history : HistoryView)
    → is_full history ≡ true
    → length history.calls ≡ history.room
is_at_room history full = (Decides-eqb (length history.calls) history.room).0 full

-- where it was full, no call came
none_came : (before after : HistoryView) (made : List Made)
    → Grew before made after
    → length after.calls ≤ after.room
    → is_full before ≡ true
    → length made ≡ 0
none_came before after made grew within full =
    let at = is_at_room before full in
    let longer : length after.calls ≡ length before.calls + length made =
    ap length grew.calls ∙ length-append before.calls made in
    let room = grew.room in
    omega (arith, at, longer, within, room)

empty_list : (made : List Made) → length made ≡ 0 → made ≡ []
empty_list [] none = refl
empty_list (one ∷ made) none = absurd (omega (arith, none))

pub not_full : (before after : HistoryView) (others : List Made) (made : Made)
    → Grew before (others ++ made ∷ []) after
    → length after.calls ≤ after.room
    → is_full before ≡ true
    → ⊥
not_full before after others made grew within full =
    let none = none_came before after (others ++ made ∷ []) grew within full in
    omega (arith, none, length-append others (made ∷ []))

pub no_others : (before after : HistoryView) (others : List Made)
    → Grew before others after
    → length after.calls ≤ after.room
    → is_full before ≡ true
    → others ≡ []
no_others before after others grew within full =
    empty_list others (none_came before after others grew within full)
