-- Carry the exchanges of a door, one after the other, to serving it for a seat.
use Rattle.std.proofs.Common.{◌≡◌, ℕ, ◌+◌, Bool, true, false, List, [], ◌∷◌, ◌++◌, refl, sym, ap, subst, ◌∙◌, add-zero, append_assoc}
use Rattle.std.proofs.lemmas.List.{append-nil}
use Rattle.bp_core.specs.Counts.{Rose}
use Rattle.bp_outside.specs.Door.{DoorView}
use Rattle.bp_outside.specs.declared.exchange.Exchange.{Exchange}
use Rattle.bp_doors.specs.Serving.{InTurn, RoseBy, ServesDoor as ServesDoorBy}
use Rattle.bp_doors.specs.Serving.InTurn.{next, nobody as nobody_came}
use Rattle.bp_doors.proofs.CountLemmas.{none_rose, rose_twice}
use Rattle.bp_matter.specs.Matter.{Matter}
use Rattle.bp_matter.specs.declared.calls.Call.{Call}
use Rattle.bp_book.specs.Calls.{AltersAmong, AltersOn, run_calls}
use Rattle.bp_book.specs.History.{Grew, HistoryView, Turn, is_full, matter_of, turn_of, turns_of}
use Rattle.bp_book.specs.declared.history.Made.{Made}
use Rattle.bp_book.proofs.HistoryLemmas.{as_full, grew_not, grew_twice, matter_after, run_calls-append, turns_of-append, turns_of-last, turns_of-others}
use Rattle.bp_desk.specs.Exchanges.{AltersNow, Deals}
use Rattle.bp_desk.specs.Exchanges.Deals.{made_none, made_one}
use Rattle.bp_desk.specs.Served.{Served}
use Rattle.bp_desk.specs.Served.Served.{called, nobody, uncalled}
use Rattle.bp_desk.specs.Serving.{AltersSince, AreAnswered, DealsAt, ServesCalls, ServesCallDoor}
use Rattle.bp_desk.proofs.ServedLemmas.{fuller, served_append, served_complete}

-- ---- calls that alter what is kept

alters_longer : (m : Matter) (xs ys : List Made) (key : List ℕ) (call : Call)
    → AltersAmong m xs key call
    → AltersAmong m (xs ++ ys) key call
alters_longer m xs ys key call a =
    record {
      before = a.before;
      behind = a.behind ++ ys;
      all = ap (λ made. made ++ ys) a.all ∙ append_assoc a.before a.behind ys;
      alters = a.alters;
    }

alters_later : (m n : Matter) (xs ys : List Made) (key : List ℕ) (call : Call)
    → n ≡ run_calls m xs
    → AltersAmong n ys key call
    → AltersAmong m (xs ++ ys) key call
alters_later m n xs ys key call is a =
    let P : Matter → Type 0 = λ m. AltersOn m key call in
    record {
      before = xs ++ a.before;
      behind = a.behind;
      all = ap (λ made. xs ++ made) a.all ∙ sym (append_assoc xs a.before a.behind);
      alters = subst P (ap (λ k. run_calls k a.before) is ∙ sym (run_calls-append m xs a.before))
          a.alters;
    }

-- behind all of them
alters_last : (m n : Matter) (xs : List Made) (key : List ℕ) (call : Call)
    → n ≡ run_calls m xs
    → AltersOn n key call
    → AltersAmong m xs key call
alters_last m n xs key call is alters =
    let P : Matter → Type 0 = λ m. AltersOn m key call in
    record { before = xs; behind = []; all = sym (append-nil xs); alters = subst P is alters }

-- ---- exchanges in turn

-- what exchanges came to for a seat, whatever the door
record Went (seat : ℕ) (before : HistoryView) (exchanges : List Exchange) (after : HistoryView)
    : Type 0 where
  made : List Made
  faults : ℕ
  grew : Grew before made after
  last : is_full before ≡ true → made ≡ []
  served : Served (AltersSince before made) (is_full after) after.room
      (turns_of seat (matter_of before) made) faults exchanges
  rose : RoseBy faults before.faults after.faults

went_nowhere : (seat : ℕ) (history : HistoryView) → Went seat history [] history
went_nowhere seat history =
    record {
      made = [];
      faults = 0;
      grew = grew_not history;
      last = λ _. refl;
      served = nobody;
      rose = (grew_not history).faults;
    }

went_on : (seat : ℕ) (b c d : HistoryView) (xs ys : List Exchange)
    → Went seat b xs c
    → Went seat c ys d
    → Went seat b (xs ++ ys) d
went_on seat b c d xs ys first then =
    let turns = turns_of-append seat (matter_of b) first.made then.made in
    let between = matter_after b c first.made first.grew in
    let up : is_full c ≡ true → is_full d ≡ true =
    λ full. as_full c d then.made then.grew (then.last full) ∙ full in
    let none : is_full c ≡ true → turns_of seat (matter_of c) then.made ≡ [] =
    λ full. ap (turns_of seat (matter_of c)) (then.last full) in
    let R : ℕ → Type 0 = λ r. Served (AltersSince b first.made) (is_full c) r
    (turns_of seat (matter_of b) first.made) first.faults xs in
    let both = served_append (AltersSince b first.made) (AltersSince c then.made)
    (AltersSince b (first.made ++ then.made)) (is_full c) (is_full d) d.room (turns_of seat (matter_of b) first.made)
    (turns_of seat (matter_of c) then.made) first.faults then.faults xs
    ys (λ q. alters_longer (matter_of b) first.made then.made q.key q.call)
    (λ q. alters_later (matter_of b) (matter_of c) first.made then.made q.key q.call between)
    up none (subst R (sym then.grew.room) first.served) then.served in
    let all : turns_of seat (matter_of b) first.made ++ turns_of seat (matter_of c) then.made
    ≡ turns_of seat (matter_of b) (first.made ++ then.made) =
    ap (λ m. turns_of seat (matter_of b) first.made ++ turns_of seat m then.made) between
    ∙ sym turns in
    let P : List Turn → Type 0 = λ ts. Served (AltersSince b (first.made ++ then.made)) (is_full d)
    d.room ts (first.faults + then.faults) (xs ++ ys) in
    record {
      made = first.made ++ then.made;
      faults = first.faults + then.faults;
      grew = grew_twice b c d first.made then.made first.grew then.grew;
      last = λ full.
          let one = first.last full in
          let two = then.last (as_full b c first.made first.grew one ∙ full) in
          ap (λ ms. ms ++ then.made) one ∙ two;
      served = subst P all both;
      rose = rose_twice b.faults c.faults d.faults first.faults then.faults first.rose then.rose;
    }

went_one : (seat : ℕ) (history history' : HistoryView) (x : Exchange)
    → x.hung_up ≡ true
    → Deals seat history x history'
    → Went seat history (x ∷ []) history'
went_one seat history history' x h (made_one others made text apart own space t s grew) =
    let P : List Turn → Type 0 = λ ts. Served (AltersSince history (others ++ made ∷ []))
    (is_full history') history'.room ts 0 (x ∷ []) in
    record {
      made = others ++ made ∷ [];
      faults = 0;
      grew = grew;
      last = λ full. absurd (space full);
      served = subst P (sym (turns_of-last seat (matter_of history) others made apart own))
          (called (turn_of (run_calls (matter_of history) others) made) [] 0 x [] text h t s nobody);
      rose = grew.faults;
    }
went_one seat history history' x h (made_none others faults text apart last t s grew rose) =
    let P : ℕ → Type 0 = λ n. RoseBy n history.faults history'.faults in
    let Q : List Turn → Type 0 = λ ts.
    Served (AltersSince history others) (is_full history') history'.room ts (faults + 0) (x ∷ []) in
    let since = fuller (AltersNow history') (AltersSince history others) (is_full history')
    (is_full history') history'.room [] x text faults
    (λ q. alters_last (matter_of history) (matter_of history') others q.key q.call
    (matter_after history history' others grew)) (λ is. is) t in
    record {
      made = others;
      faults = faults + 0;
      grew = grew;
      last = last;
      served = subst Q (sym (turns_of-others seat (matter_of history) others apart))
          (uncalled [] faults 0 x [] text h since s nobody);
      rose = subst P (sym (add-zero faults)) rose;
    }

went_in_turn : {W : Type 0} (seat : ℕ) (knows : W → HistoryView) (v w : W) (xs : List Exchange)
    (count : ℕ)
    → InTurn (λ a x told b. Deals seat (knows a) x (knows b)) v xs count w
    → Went seat (knows v) xs (knows w)
went_in_turn seat knows v w xs count (nobody_came u) = went_nowhere seat (knows u)
went_in_turn seat knows v w xs count (next a b c x told others left h deals rest) =
    went_on seat (knows a) (knows b) (knows c) (x ∷ []) others
    (went_one seat (knows a) (knows b) x h deals)
    (went_in_turn seat knows b c others left rest)

-- the same by what is known alone
known_in_turn : {W : Type 0} (seat : ℕ) (knows : W → HistoryView) (v w : W) (xs : List Exchange)
    (count : ℕ)
    → InTurn (λ a x told b. Deals seat (knows a) x (knows b)) v xs count w
    → InTurn (DealsAt seat) (knows v) xs count (knows w)
known_in_turn seat knows v w xs count (nobody_came u) = nobody_came (knows u)
known_in_turn seat knows v w xs count (next a b c x told others left h deals rest) =
    next (knows a) (knows b) (knows c) x told others left h deals
    (known_in_turn seat knows b c others left rest)

-- ---- a door served

serves_complete : (seat tried : ℕ) (b c : HistoryView) (u v : DoorView)
    (serves : ServesCalls seat tried b u c v)
    → is_full c ≡ false
    → (Rose b.faults c.faults → ⊥)
    → AreAnswered (turns_of seat (matter_of b) serves.made) serves.exchanges
serves_complete seat tried b c u v serves unfull not =
    served_complete (AltersSince b serves.made) (is_full c) c.room (turns_of seat (matter_of b) serves.made) serves.faults
    serves.exchanges unfull (none_rose serves.faults b.faults c.faults serves.rose not) serves.served

pub serves_door : {W : Type 0} (seat connections count : ℕ) (knows : W → HistoryView) (a b : W)
    (u v : DoorView)
    → ServesDoorBy (λ a x told b. Deals seat (knows a) x (knows b)) connections a u count b v
    → ServesCallDoor seat connections (knows a) u (knows b) v
serves_door seat connections count knows a b u v is =
    let went : Went seat (knows a) is.serves.exchanges (knows b) =
    went_in_turn seat knows a b is.serves.exchanges count is.serves.turns in
    let serves : ServesCalls seat is.tried (knows a) u (knows b) v = record {
      exchanges = is.serves.exchanges;
      made = went.made;
      faults = went.faults;
      told = is.serves.told;
      accepts = is.serves.accepts;
      grew = went.grew;
      last = went.last;
      served = went.served;
      rose = went.rose;
      counted = count;
      dealt = known_in_turn seat knows a b is.serves.exchanges count is.serves.turns;
    } in
    record {
      tried = is.tried;
      serves = serves;
      returned = is.returned;
      complete = serves_complete seat is.tried (knows a) (knows b) u v serves;
    }
