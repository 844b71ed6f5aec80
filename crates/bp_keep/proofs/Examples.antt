-- Worked examples of the definitions in specs/, each run by the check.
use Rattle.std.proofs.Common.{◌≡◌, ℕ, true, false, List, [], ◌∷◌, Option, Some, None, refl}
use Rattle.std.specs.Prelude.{Ok, Err}
use Rattle.bp_core.specs.declared.kept.Row.{Row}
use Rattle.bp_core.specs.declared.kept.Put.{Put}
use Rattle.bp_keep.specs.declared.refusals.KeepRefusal.TheVariants.{Failed, OutOfMemory}
use Rattle.bp_keep.specs.Keeper.{faults_after, rows_after}
use Rattle.bp_keep.specs.Puts.{put_key, put_one, put_all}
use Rattle.bp_keep.specs.Slots.{held, has_slot, in_order}

abbrev kept : ℕ → ℕ → ℕ → List ℕ → Row
kept kind k1 k2 body = record { kind = kind; k1 = k1; k2 = k2; body = body }

abbrev sets : ℕ → ℕ → ℕ → List ℕ → Put
sets kind k1 k2 body = record { kind = kind; k1 = k1; k2 = k2; body = Some body }

abbrev removes : ℕ → ℕ → ℕ → Put
removes kind k1 k2 = record { kind = kind; k1 = k1; k2 = k2; body = None }

-- a staff row, and the rows of pages 1 and 3 of document 2
abbrev staff : Row
staff = kept 1 1 0 (1 ∷ 2 ∷ [])

abbrev page_1 : Row
page_1 = kept 4 2 1 (7 ∷ [])

abbrev page_3 : Row
page_3 = kept 4 2 3 (9 ∷ [])

abbrev rows : List Row
rows = staff ∷ page_1 ∷ page_3 ∷ []

-- 4 times 2^64, 2 times 2^32, and 3
the_key : put_key (removes 4 2 3) ≡ 73786976303428141059
the_key = refl

a_row_between : put_one (sets 4 2 2 (8 ∷ [])) rows
    ≡ staff ∷ page_1 ∷ kept 4 2 2 (8 ∷ []) ∷ page_3 ∷ []
a_row_between = refl

-- the kind counts before the first number, and that before the second
a_row_of_a_lower_kind : put_one (sets 3 9 9 []) rows ≡ staff ∷ kept 3 9 9 [] ∷ page_1 ∷ page_3 ∷ []
a_row_of_a_lower_kind = refl

a_row_of_a_later_document : put_one (sets 4 3 0 []) rows
    ≡ staff ∷ page_1 ∷ page_3 ∷ kept 4 3 0 [] ∷ []
a_row_of_a_later_document = refl

another_body : put_one (sets 4 2 1 []) rows ≡ staff ∷ kept 4 2 1 [] ∷ page_3 ∷ []
another_body = refl

one_less : put_one (removes 4 2 1) rows ≡ staff ∷ page_3 ∷ []
one_less = refl

none_to_remove : put_one (removes 4 2 2) rows ≡ rows
none_to_remove = refl

-- of two puts at one key the later stands
later_wins : put_all (sets 1 1 0 (5 ∷ []) ∷ sets 1 1 0 (6 ∷ []) ∷ []) rows
    ≡ kept 1 1 0 (6 ∷ []) ∷ page_1 ∷ page_3 ∷ []
later_wins = refl

removed_and_set_again : put_all (removes 4 2 3 ∷ sets 4 2 3 (9 ∷ []) ∷ []) rows ≡ rows
removed_and_set_again = refl

set_and_removed : put_all (sets 4 2 3 [] ∷ removes 4 2 3 ∷ []) rows ≡ staff ∷ page_1 ∷ []
set_and_removed = refl

no_put : put_all [] rows ≡ rows
no_put = refl

a_fault : faults_after {T = Unit {0}} 4 (Err Failed) ≡ 5
a_fault = refl

no_fault_for_want_of_memory : faults_after {T = Unit {0}} 4 (Err OutOfMemory) ≡ 4
no_fault_for_want_of_memory = refl

no_fault : faults_after {T = Unit {0}} 4 (Ok tt) ≡ 4
no_fault = refl

all_made : rows_after (removes 4 2 3 ∷ removes 1 1 0 ∷ []) (Some rows) (Ok tt) ≡ Some (page_1 ∷ [])
all_made = refl

none_made : rows_after (removes 4 2 3 ∷ removes 1 1 0 ∷ []) (Some rows) (Err Failed) ≡ Some rows
none_made = refl

untold_stays_untold : rows_after (removes 4 2 3 ∷ []) None (Ok tt) ≡ None
untold_stays_untold = refl

-- a tree of three slots, of which the second is empty
abbrev slots : List (ℕ × Option Row)
slots =
    (18446744078004518912, Some staff) ∷ (73786976303428141057, None)
    ∷ (73786976303428141059, Some page_3) ∷ []

filled_slots : held slots ≡ staff ∷ page_3 ∷ []
filled_slots = refl

an_empty_slot : has_slot slots 73786976303428141057 ≡ true
an_empty_slot = refl

no_slot : has_slot slots 73786976303428141058 ≡ false
no_slot = refl

keys_rise : in_order 0 slots ≡ true
keys_rise = refl

a_row_at_another_key : in_order 0 ((7, Some staff) ∷ []) ≡ false
a_row_at_another_key = refl
