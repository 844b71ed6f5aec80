-- What a seat knows when it has the turn, and after it.
use Rattle.std.proofs.Common.{◌≡◌, ◌<◌, ◌≤◌, ℕ, Bool, true, false, List, [], ◌∷◌, ◌++◌, length, Option, Some, None, Result, Ok, Err, refl, sym, ap, ◌∙◌, subst, arith, length-append}
use Rattle.std.specs.Prelude.{IfSome, IsTrue, is_some}
use Rattle.std.proofs.lemmas.Bool.{false≢true}
use Rattle.bp_core.specs.declared.kept.Row.{Row}
use Rattle.bp_core.specs.declared.rules.Rule.{Rule}
use Rattle.bp_keep.specs.Keeper.{KeeperView}
use Rattle.bp_matter.specs.Matter.{Matter}
use Rattle.bp_matter.specs.declared.calls.Reply.{Reply}
use Rattle.atomic_table.specs.Table.{Me, rest}
use Rattle.bp_book.specs.Books.{BookCalls, Entered, StaysWith, Unmade, is_made}
use Rattle.bp_book.specs.Calls.{answer_to, run_calls}
use Rattle.bp_book.specs.History.{AreOthers}
use Rattle.bp_book.specs.Shown.{BookView}
use Rattle.bp_book.specs.declared.history.Made.{Made}
use Rattle.bp_book.specs.declared.refusals.DeskRefusal.{DeskRefusal}
use Rattle.bp_book.specs.declared.refusals.DeskRefusal.TheVariants as refusals
use Rattle.bp_desk.specs.Calls.{Begins, calls_by}
use Rattle.bp_desk.specs.Seats.{AltersAfter, Brings, Called, Calls, Raised, Remains, Rests, Tried, Uncalled, grown_if}
use Rattle.bp_desk.proofs.FrontLemmas.{calls_by-own, others_between}
use Rattle.bp_desk.specs.Turns.{StaysAs, Won, freed, taking, with_count}
use Rattle.bp_desk.specs.declared.views.KeeperBegan.{KeeperBegan}
use Rattle.bp_desk.specs.declared.views.View.{View}

abbrev Sat : Type 0
Sat = Me (Option BookView) View

abbrev value_of : Option BookView → List (ℕ × Option BookView) → Option BookView
value_of other [] = other
value_of other (x ∷ xs) = x.1

-- what the seat carries was exchanged for nothing
pub took : (m m1 m2 : Sat) (result : Option BookView)
    → Won m m1
    → m1.1 ≡ (0, result) ∷ rest m1.1
    → m2 ≡ (m1.0, (0, None) ∷ rest m1.1)
    → Tried m result m2
took m m1 m2 result won had now =
    let is : Some won.book ≡ result = ap (value_of None) (sym won.carries ∙ had) in
    subst (λ (r : Option BookView). Tried m r m2) is (record {
      view = ap (λ (x : Sat). x.0) now ∙ won.view;
      carries =
          ap (λ (x : Sat). x.1) now
          ∙ ap (λ (cs : List (ℕ × Option BookView)). (0, None) ∷ rest cs) won.carries;
      seen = won.seen;
      own = won.own;
      left = won.left;
      opening = won.opening;
      roomy = won.roomy;
      stays = won.stays;
    })

-- a keeper that stayed before stays
told_on : (told : Bool) (rows rows' : Option (List Row))
    → IfSome rows (λ _. IsTrue told)
    → IfSome rows' (λ _. IsTrue (is_some rows))
    → IfSome rows' (λ _. IsTrue told)
told_on told rows None before now = tt
told_on told None (Some rows') before now = absurd (false≢true now)
told_on told (Some rows) (Some rows') before now = before

stays_on : (began : KeeperBegan) (keeper keeper' : KeeperView)
    → StaysAs began keeper
    → StaysWith keeper keeper'
    → StaysAs began keeper'
stays_on began keeper keeper' before now = record {
  loads = now.loads ∙ before.loads;
  sure = now.sure ∙ before.sure;
  told = told_on began.told keeper.rows keeper'.rows before.told now.told;
}

-- ---- after a call

module _ (v : View) (made : Made) (book book' : BookView) (mine : calls_by v.number v.seen ≡ v.mine)
    (by : made.seat ≡ v.number) (seen : Begins v.seen book.journal)
    (own : calls_by v.number book.journal ≡ v.mine) (low : v.left ≤ book.keeper.faults)
    (opening : book.opening ≡ v.opening) (roomy : book.room ≡ v.room) where
  -- the view after the turn
  abbrev ends : Bool → View
  ends call = freed (with_count (grown_if call (taking v book) made) book'.keeper.faults)

  made_brings : (answer : Result Reply Rule)
      → StaysAs v.keeper book'.keeper
      → Entered book made answer book'
      → Brings (grown_if true (taking v book) made) book'
  made_brings answer kept e = record {
    journal = e.journal;
    opening = e.opening ∙ opening;
    roomy = e.same_room ∙ roomy;
    count = (let f = e.faults in omega arith);
    stays = kept;
  }

  stays_brings : (count : ℕ)
      → book.keeper.faults ≤ book'.keeper.faults
      → StaysAs v.keeper book'.keeper
      → Unmade book count book'
      → Brings (grown_if false (taking v book) made) book'
  stays_brings count up kept u = record {
    journal = u.journal;
    opening = u.opening ∙ opening;
    roomy = u.same_room ∙ roomy;
    count = up;
    stays = kept;
  }

  pub brings : (answer : Result Reply DeskRefusal)
      → book.keeper.faults ≤ book'.keeper.faults
      → StaysAs v.keeper book'.keeper
      → BookCalls book made answer book'
      → Brings (grown_if (is_made answer) (taking v book) made) book'
  brings (Ok reply) up kept e = made_brings (Ok reply) kept e
  brings (Err (refusals.Rule rule)) up kept e = made_brings (Err rule) kept e
  brings (Err refusals.KeeperFault) up kept e = stays_brings _ up kept e.1
  brings (Err (refusals.JournalFull count)) up kept e = record {
    journal = ap (λ (b : BookView). b.journal) e.same;
    opening = ap (λ (b : BookView). b.opening) e.same ∙ opening;
    roomy = ap (λ (b : BookView). b.room) e.same ∙ roomy;
    count = up;
    stays = kept;
  }
  brings (Err refusals.OutOfMemory) up kept e = stays_brings _ up kept e

  pub has_room : (answer : Result Reply DeskRefusal)
      → BookCalls book made answer book'
      → is_made answer ≡ true
      → length book.journal < v.room
  has_room (Ok reply) e is = (let r = e.has_room in omega arith)
  has_room (Err (refusals.Rule rule)) e is = (let r = e.has_room in omega arith)
  has_room (Err refusals.KeeperFault) e is = (let r = e.1.has_room in omega arith)
  has_room (Err (refusals.JournalFull count)) e is = absurd (false≢true is)
  has_room (Err refusals.OutOfMemory) e is = (let r = e.has_room in omega arith)

  pub same : (call : Bool) → Remains v (ends call)
  same true = record {
    number = refl;
    given = refl;
    opening = refl;
    base = refl;
    room = refl;
    keeper = refl;
  }
  same false = record {
    number = refl;
    given = refl;
    opening = refl;
    base = refl;
    room = refl;
    keeper = refl;
  }

  turn : (call : Bool) → book.keeper.faults ≤ book'.keeper.faults → Raised v (ends call)
  turn true up = record { found = low; rose = up; sum = refl }
  turn false up = record { found = low; rose = up; sum = refl }

  between_apart : AreOthers v.number seen.0
  between_apart =
      others_between v.number v.seen seen.0 v.mine mine (ap (calls_by v.number) (sym seen.1) ∙ own)

  entered_calls : (answer : Result Reply Rule)
      → book.keeper.faults ≤ book'.keeper.faults
      → Entered book made answer book'
      → Called v made answer (ends true)
  entered_calls answer up e = record {
    same = same true;
    between = seen.0;
    apart = between_apart;
    seen = ap (λ (l : List Made). l ++ made ∷ []) seen.1;
    mine = refl;
    answered =
        ap (λ (m : Matter). answer_to m made)
        (ap (λ (m : Matter). run_calls m (v.seen ++ seen.0)) (sym opening)
        ∙ ap (λ (l : List Made). run_calls book.opening l) (sym seen.1))
        ∙ e.answered;
    fits = (let r = e.has_room in omega (arith, length-append book.journal (made ∷ [])));
    turn = turn true up;
    quiet = e.faults;
  }

  stays_calls : book.keeper.faults ≤ book'.keeper.faults → Uncalled v (ends false)
  stays_calls up = record {
    same = same false;
    between = seen.0;
    apart = between_apart;
    seen = seen.1;
    mine = refl;
    turn = turn false up;
  }

  pub calls : (answer : Result Reply DeskRefusal)
      → book.keeper.faults ≤ book'.keeper.faults
      → BookCalls book made answer book'
      → Calls v made answer (ends (is_made answer))
  calls (Ok reply) up e = entered_calls (Ok reply) up e
  calls (Err (refusals.Rule rule)) up e = entered_calls (Err rule) up e
  calls (Err refusals.KeeperFault) up e = (
    stays_calls up,
    e.1.faults,
    (let r = e.1.has_room in omega arith),
    subst (λ (m : Matter). AltersAfter m book.journal made) opening e.0,
  )
  calls (Err (refusals.JournalFull count)) up e = (
    stays_calls up,
    ap (λ (b : BookView). b.keeper.faults) e.same,
    e.full
        ∙ roomy,
    e.counted
        ∙ (e.full ∙ roomy),
  )
  calls (Err refusals.OutOfMemory) up e = (stays_calls up, e.faults, (let r = e.has_room in omega arith))

  pub calls_as : (answer : Result Reply DeskRefusal) (w : View)
      → book.keeper.faults ≤ book'.keeper.faults
      → BookCalls book made answer book'
      → w ≡ ends (is_made answer)
      → Calls v made answer w
  calls_as answer w up e is = subst (Calls v made answer) (sym is) (calls answer up e)

  pub same_as : (call : Bool) (w : View) → w ≡ ends call → Remains v w
  same_as call w is = subst (Remains v) (sym is) (same call)

  -- ---- the seat after it

  own_after : (answer : Result Reply DeskRefusal)
      → BookCalls book made answer book'
      → calls_by v.number (ends (is_made answer)).seen ≡ (ends (is_made answer)).mine
  own_after (Ok reply) e =
      calls_by-own v.number book.journal made by ∙ ap (λ (l : List Made). l ++ made ∷ []) own
  own_after (Err (refusals.Rule rule)) e =
      calls_by-own v.number book.journal made by ∙ ap (λ (l : List Made). l ++ made ∷ []) own
  own_after (Err refusals.KeeperFault) e = own
  own_after (Err (refusals.JournalFull count)) e = own
  own_after (Err refusals.OutOfMemory) e = own

  within_after : (call : Bool)
      → v.raised ≤ v.left
      → book.keeper.faults ≤ book'.keeper.faults
      → (ends call).raised ≤ (ends call).left
  within_after true within up = omega arith
  within_after false within up = omega arith

  numbered_after : (call : Bool) → (ends call).number ≡ v.number
  numbered_after true = refl
  numbered_after false = refl

  alone_after : (call : Bool) → (ends call).met ≡ v.met
  alone_after true = refl
  alone_after false = refl

  free_after : (call : Bool) → (ends call).holds ≡ false
  free_after true = refl
  free_after false = refl

  pub rests_after : (answer : Result Reply DeskRefusal) (me : Sat) (number : ℕ)
      → v.number ≡ number
      → 0 < number
      → v.raised ≤ v.left
      → v.met ≡ []
      → book.keeper.faults ≤ book'.keeper.faults
      → BookCalls book made answer book'
      → me ≡ (ends (is_made answer), [])
      → Rests me number
  rests_after answer me number is some_number within alone up e now =
      subst (λ (m : Sat). Rests m number) (sym now) (record {
        is = numbered_after (is_made answer) ∙ is;
        numbered = some_number;
        own =
            subst
            (λ (n : ℕ). calls_by n (ends (is_made answer)).seen ≡ (ends (is_made answer)).mine)
            (sym (numbered_after (is_made answer))) (own_after answer e);
        within = within_after (is_made answer) within up;
        free = free_after (is_made answer);
        alone = alone_after (is_made answer) ∙ alone;
        none = refl;
      })

  -- ---- the same as the calls of a turn tell it

  pub has_room_as : (answer : Result Reply DeskRefusal) (w : View)
      → BookCalls book made answer book'
      → w ≡ taking v book
      → is_made answer ≡ true
      → length w.seen < w.room
  has_room_as answer w e is call =
      subst (λ (u : View). length u.seen < u.room) (sym is) (has_room answer e call)

  pub brings_as : (answer : Result Reply DeskRefusal) (m1 m2 : Sat)
      → book.keeper.faults ≤ book'.keeper.faults
      → StaysAs v.keeper book.keeper
      → StaysWith book.keeper book'.keeper
      → BookCalls book made answer book'
      → m1.0 ≡ taking v book
      → m2 ≡ (grown_if (is_made answer) m1.0 made, m1.1)
      → Brings m2.0 book'
  brings_as answer m1 m2 up stays kept e is now =
      subst (λ (m : Sat). Brings m.0 book') (sym now)
      (subst (λ (u : View). Brings (grown_if (is_made answer) u made) book') (sym is)
      (brings answer up (stays_on v.keeper book.keeper book'.keeper stays kept) e))
