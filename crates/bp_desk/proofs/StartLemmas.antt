-- The seats that are dealt when a desk starts.
use Rattle.std.proofs.Common.{◌≡◌, ℕ, ◌+◌, ◌-◌, ◌<◌, ◌≤◌, List, [], ◌∷◌, ◌++◌, Option, Some, refl, sym, ap, ◌∙◌, subst, arith, None, Ok, Err}
use Rattle.std.specs.Prelude.{IfSome, IsTrue, is_some}
use Rattle.bp_core.specs.declared.kept.Row.{Row}
use Rattle.bp_keep.specs.Keeper.{KeeperView}
use Rattle.bp_matter.specs.Matter.{Shown}
use Rattle.bp_rules.specs.Loading.{LoadedFrom, LoadsTables}
use Rattle.bp_rules.specs.declared.refusals.MatterRefusal.TheVariants as loads
use Rattle.bp_book.specs.Books.{Opens, StaysWith}
use Rattle.std.proofs.lemmas.List.FromFn.{map-range_with_len_more}
use Rattle.atomic_table.specs.Table.{Me, Splits, opening}
use Rattle.bp_book.specs.declared.history.TheConstants.{MOST_CALLS}
use Rattle.bp_book.specs.Shown.{BookView}
use Rattle.bp_desk.specs.Seats.{Desked, Rests, SeatView, fresh, fresh_with, others}
use Rattle.bp_desk.proofs.DealLemmas.{begins}
use Rattle.bp_desk.specs.Turns.{Ruled, dealer, dealt, first_view}
use Rattle.bp_desk.specs.declared.views.Opening.{Opening}
use Rattle.bp_desk.specs.declared.views.View.{View}

pub dealt_next : (key : Opening BookView) (id : ℕ) (me : Me (Option BookView) View) (v : View)
    → me ≡ (v, [])
    → Splits (Ruled key) id v (dealer v) (dealt v)
    → Splits (Ruled key) id me.0 (dealer me.0) (dealt me.0)
dealt_next key id me v is h =
    subst (λ (m : Me (Option BookView) View). Splits (Ruled key) id m.0 (dealer m.0) (dealt m.0))
    (sym is) h

pub others_more : (desk : Desked) (count : ℕ) (row : List SeatView) (seat : SeatView)
    → 1 ≤ count
    → row ≡ others desk (count - 1)
    → seat ≡ fresh_with desk (count + 1)
    → row ++ seat ∷ [] ≡ others desk (count + 1 - 1)
others_more desk count row seat some_count is next =
    let n : count - 1 + 1 ≡ count + 1 - 1 = omega arith in
    (λ j. is j ++ next j ∷ [])
    ∙
    (sym
    (map-range_with_len_more (fresh_with desk) 2 (count - 1) (count + 1)
    (omega arith))
    ∙ ap (others desk) n)

pub begins_at : (key : Opening BookView) (book : BookView) (slots : List (Option BookView))
    → slots ≡ Some book ∷ []
    → Ruled key
    (opening (0 ∷ 0 ∷ key.book.value.keeper.faults ∷ []) (Some book ∷ []) (first_view key))
    → Ruled key (opening (0 ∷ 0 ∷ key.book.value.keeper.faults ∷ []) slots (first_view key))
begins_at key book slots is h =
    subst
    (λ (xs : List (Option BookView)).
    Ruled key (opening (0 ∷ 0 ∷ key.book.value.keeper.faults ∷ []) xs (first_view key)))
    (sym is) h

-- a keeper that was asked nothing stays
told_not : (rows : Option (List Row)) → IfSome rows (λ _. IsTrue (is_some rows))
told_not None = tt
told_not (Some rows) = refl

stays_not : (keeper : KeeperView) → StaysWith keeper keeper
stays_not keeper = record { loads = refl; sure = refl; told = told_not keeper.rows }

-- a table over a book with no call
pub begins_made : (key : Opening BookView) (book : BookView) (base : ℕ)
    (slots : List (Option BookView))
    → slots ≡ Some book ∷ []
    → key.book.value ≡ book
    → base ≡ book.keeper.faults
    → book.room ≤ MOST_CALLS
    → 1 ≤ key.seats
    → book.journal ≡ []
    → Ruled key (opening (0 ∷ 0 ∷ base ∷ []) slots (first_view key))
begins_made key book base slots is same count room seats journal =
    let faults : key.book.value.keeper.faults ≡ book.keeper.faults =
    ap (λ (b : BookView). b.keeper.faults) same in
    let roomy : key.book.value.room ≡ book.room = ap (λ (b : BookView). b.room) same in
    let opens : key.book.value.opening ≡ book.opening = ap (λ (b : BookView). b.opening) same in
    subst (λ (n : ℕ). Ruled key (opening (0 ∷ 0 ∷ n ∷ []) slots (first_view key))) (faults ∙ sym count)
    (begins_at key book slots is
    (begins key book (omega (arith, room, roomy)) seats journal (sym opens) (sym roomy) (sym faults)
    (subst (λ (k : KeeperView). StaysWith key.book.value.keeper k)
    (ap (λ (b : BookView). b.keeper) same) (stays_not key.book.value.keeper))))

-- for want of memory after loading nothing is loaded
told_unloaded : (rows : Option (List Row)) (tables : Shown)
    → IfSome rows (λ now. LoadedFrom now (Ok tables))
    → IfSome rows (λ now. LoadedFrom now (Err loads.OutOfMemory))
told_unloaded None tables told = tt
told_unloaded (Some []) tables told = tt
told_unloaded (Some (row ∷ rows)) tables told = tt

pub not_started : (before back : KeeperView) (limit : ℕ) (book : BookView)
    → Opens before limit book
    → back ≡ book.keeper
    → LoadsTables before (Err loads.OutOfMemory) back
not_started before back limit book opens is =
    let l = opens.loaded in
    subst (λ (k : KeeperView). LoadsTables before (Err loads.OutOfMemory) k) (sym is) (record {
      told_after = told_unloaded book.keeper.rows opens.tables l.told_after;
      rule = tt;
      same = l.same;
      faults = l.faults;
      loads = l.loads;
      commits = l.commits;
      sure = l.sure;
    })

-- a seat that was dealt rests
pub rests_fresh : (desk : Desked) (me : Me (Option BookView) View) (number given : ℕ)
    → 0 < number
    → me ≡ ((fresh desk number given).view, [])
    → Rests me number
rests_fresh desk me number given some_number is =
    subst (λ (m : Me (Option BookView) View). Rests m number) (sym is) (record {
      is = refl;
      numbered = some_number;
      own = refl;
      within = omega arith;
      free = refl;
      alone = refl;
      none = refl;
    })
