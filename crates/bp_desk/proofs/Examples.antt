-- Worked examples: what the definitions give for a few calls of two seats.
use Rattle.std.proofs.Common.{◌≡◌, ℕ, List, [], ◌∷◌, Some, None, false, ap, arith, get_or, refl}
use Rattle.std.proofs.lemmas.Bool.{false≢true}
use Rattle.bp_keep.specs.Keeper.{KeeperView}
use Rattle.bp_matter.specs.declared.calls.Call.TheVariants as calls
use Rattle.bp_rules.specs.Stepping.{step_of}
use Rattle.bp_book.specs.Calls.{made_by}
use Rattle.bp_book.specs.declared.history.Made.{Made}
use Rattle.bp_desk.specs.Calls.{Begins, calls_by}
use Rattle.bp_desk.specs.Laws.{start_faults}
use Rattle.bp_desk.specs.Seats.{AltersAfter}
use Rattle.bp_desk.specs.Doors.{most, own_faults}
use Rattle.bp_desk.specs.Turns.{StaysAs, began_with, both, dealer, dealt, grown, times_held, longer, no_matter, note_of, raised_by, spent, total, with_count}
use Rattle.bp_desk.specs.declared.desk.TheConstants.{MOST_SEATS}
use Rattle.bp_desk.specs.declared.views.View.{View}

abbrev key : List ℕ
key = 1 ∷ []

-- seat 1 asks for document 5, seat 2 for 7, and then for 5
abbrev one : Made
one = made_by 1 key (calls.SeeDoc (record { 0 = 5 }))

abbrev two : Made
two = made_by 2 key (calls.SeeDoc (record { 0 = 7 }))

abbrev look : Made
look = made_by 2 key (calls.SeeDoc (record { 0 = 5 }))

-- the most seats of a desk
most_seats : MOST_SEATS ≡ 16
most_seats = refl

-- ---- histories

-- the calls of seat 2, in order
of_two : calls_by 2 (one ∷ two ∷ look ∷ []) ≡ two ∷ look ∷ []
of_two = refl

-- a note has none
of_note : calls_by 0 (one ∷ two ∷ look ∷ []) ≡ []
of_note = refl

begins : Begins (one ∷ []) (one ∷ two ∷ [])
begins = (two ∷ [], refl)

-- what skips the call of another seat begins no history that has it
skips : Begins (two ∷ []) (one ∷ two ∷ []) → ⊥
skips (rest, same) =
    let seats = ap (λ (l : List Made). (get_or l 0 one).seat) same in omega (arith, seats)

the_longer : longer (one ∷ []) (one ∷ two ∷ []) ≡ one ∷ two ∷ []
the_longer = refl

the_first : longer (one ∷ []) [] ≡ one ∷ []
the_first = refl

-- ---- views

-- seat 1 of a desk that has given two numbers, after its call, at which the keeper failed once
abbrev first : View
first =
    record spent {
      number = 1;
      given = 2;
      seen = one ∷ [];
      mine = one ∷ [];
      found = 3;
      left = 4;
      raised = 1;
    }

abbrev second : View
second = record spent { number = 2; left = 3 }

-- a new seat has the next number, and has seen as much
dealt_third : (dealt first).number ≡ 3
dealt_third = refl

dealt_seen : (dealt first).seen ≡ one ∷ []
dealt_seen = refl

dealt_mine : (dealt first).mine ≡ []
dealt_mine = refl

dealer_counts : (dealer first).given ≡ 3
dealer_counts = refl

-- a note has no number, no calls of its own, and has raised nothing
note_number : (note_of first).number ≡ 0
note_number = refl

note_mine : (note_of first).mine ≡ []
note_mine = refl

note_raised : (note_of first).raised ≡ 0
note_raised = refl

-- seat 2 meets the note: it has seen the call, and its own calls stay
met_seen : (both second (note_of first)).seen ≡ one ∷ []
met_seen = refl

met_mine : (both second (note_of first)).mine ≡ []
met_mine = refl

-- seat 1 takes seat 2 in: it has both numbers, once each
joined_two : times_held 2 (both first second) ≡ 1
joined_two = refl

joined_one : times_held 1 (both first second) ≡ 1
joined_one = refl

-- a number that two seats have counts twice
alike : total (times_held 1) (first ∷ first ∷ []) ≡ 2
alike = refl

-- the sum of third numbers of all views stays
sum_before : total raised_by (first ∷ second ∷ []) ≡ 1
sum_before = refl

sum_after : total raised_by (both first second ∷ spent ∷ []) ≡ 1
sum_after = refl

-- a call is seen and is the seat's own
call_seen : (grown first look).seen ≡ one ∷ look ∷ []
call_seen = refl

call_mine : (grown first look).mine ≡ one ∷ look ∷ []
call_mine = refl

-- the count goes from 4 to 6: the seat's turns raised it by 3 in all
count_told : (with_count first 6).raised ≡ 3
count_told = refl

-- ---- the keeper

-- a keeper that was asked to load once when the desk began, and told no rows
abbrev keeper : KeeperView
keeper = record { rows = None; faults = 3; loads = 1; commits = 0; sure = false }

began_untold : (began_with keeper).told ≡ false
began_untold = refl

-- it stays where it commits and fails
stays : StaysAs (began_with keeper) (record keeper { faults = 4; commits = 2 })
stays = record { loads = refl; sure = refl; told = tt }

-- and not where it is asked to load again
asked_again : StaysAs (began_with keeper) (record keeper { loads = 2 }) → ⊥
asked_again stays = let same = stays.loads in omega (arith, same)

-- nor where it tells rows
told_later : StaysAs (began_with keeper) (record keeper { rows = Some [] }) → ⊥
told_later stays = false≢true stays.told

-- a call of an unknown key breaks a rule, so the keeper doesn't fail at it
alters_not : AltersAfter no_matter [] one → ⊥
unfolding step_of
alters_not alters = alters

-- ---- faults

-- those of the seat's own, whatever the count is
own : own_faults first ≡ 1
own = refl

-- a count that stands still tells no bound
no_bound : own_faults (record first { left = most }) ≡ most
no_bound = refl

at_start : start_faults 3 ≡ 0
at_start = refl
