-- Which documents of a range are produced, and the items that they become (FRCP 34: what is
-- requested and responsive is produced; FRCP 26(b)(5)(A): what is withheld as privileged is claimed
-- and described, and takes one number, for its slip sheet).
use Rattle.std.specs.Prelude.{ℕ, ◌+◌, ◌-◌, Bool, true, false, List, [], ◌∷◌, ◌==◌, ◌&&◌, ◌||◌, not, Option, Some, None}
use Rattle.std.specs.List.{filter, list_any}
use Rattle.bp_core.specs.declared.review.Treatment.{Treatment}
use Rattle.bp_core.specs.declared.review.Treatment.TheVariants.{Produce}
use Rattle.bp_matter.specs.declared.rows.CallRow.{CallRow}
use Rattle.bp_matter.specs.declared.rows.Item.{Item}
use Rattle.bp_matter.specs.declared.rows.State.{State}
use Rattle.bp_matter.specs.declared.rows.State.TheVariants.{Confirmed}
use Rattle.bp_freeze.specs.Seeing.{Seen, treatment_of}

-- called Produce
-- by FRCP 34, 26(b)(5)(A)
abbrev pub is_produce : Treatment → Bool
is_produce Produce = true
is_produce _ = false

-- confirmed by a second person
-- by FRCP 34, 26(b)(5)(A)
abbrev pub is_confirmed : State → Bool
is_confirmed (Confirmed _ _) = true
is_confirmed _ = false

-- a document is settled where it is called Produce, or is confirmed
-- by FRCP 34, 26(b)(5)(A)
abbrev pub is_settled : Option CallRow → Bool
is_settled None = false
is_settled (Some row) = is_produce row.treatment || is_confirmed row.state

-- it is called responsive
-- by FRCP 34, 26(b)(5)(A)
abbrev pub is_responsive : Option CallRow → Bool
is_responsive None = false
is_responsive (Some row) = row.responsive

-- no production has its family, and it isn't settled
-- by FRCP 34, 26(b)(5)(A)
abbrev pub is_unsettled : Seen → Bool
is_unsettled s = not s.produced && not (is_settled s.call)

-- some document of this family is responsive
-- by FRCP 34, 26(b)(5)(A)
abbrev pub has_responsive : List Seen → ℕ → Bool
has_responsive docs parent =
    list_any (λ other. (other.parent == parent) && is_responsive other.call) docs

-- its family has a responsive member, and no production has it
-- by FRCP 34, 26(b)(5)(A)
abbrev pub is_selected : List Seen → Seen → Bool
is_selected docs s = has_responsive docs s.parent && not s.produced

-- the documents of the range that are produced: whole families, in ascending order
-- by FRCP 34, 26(b)(5)(A)
abbrev pub selected : List Seen → List Seen
selected docs = filter (is_selected docs) docs

-- how many numbers they take
-- by FRCP 34, 26(b)(5)(A)
abbrev pub all_numbers : List Seen → ℕ
all_numbers [] = 0
all_numbers (s ∷ docs) = s.numbers + all_numbers docs

-- the designation of a call
-- by FRCP 34, 26(b)(5)(A)
abbrev pub designation_of : Option CallRow → List ℕ
designation_of None = []
designation_of (Some row) = row.designation

-- a document as it stands, under the numbers from this one on
-- by FRCP 34, 26(b)(5)(A)
abbrev pub item_of : ℕ → Seen → Item
item_of next s = record {
  doc = record { 0 = s.doc };
  parent = record { 0 = s.parent };
  treatment = treatment_of s.call;
  boxes = s.boxes;
  held = s.held;
  entry = s.entry;
  designation = designation_of s.call;
  span = record { first = next; last = next + s.numbers - 1 };
}

-- the documents as items, whose spans follow one another
-- by FRCP 34, 26(b)(5)(A)
abbrev pub items_from : ℕ → List Seen → List Item
items_from next [] = []
items_from next (s ∷ docs) = item_of next s ∷ items_from (next + s.numbers) docs

-- the first number of the first item
-- by FRCP 34, 26(b)(5)(A)
abbrev pub first_of_items : List Item → ℕ
first_of_items [] = 0
first_of_items (item ∷ items) = item.span.first

-- the last number of the last item
-- by FRCP 34, 26(b)(5)(A)
abbrev pub last_of_items : List Item → ℕ
last_of_items [] = 0
last_of_items (item ∷ []) = item.span.last
last_of_items (item ∷ next ∷ items) = last_of_items (next ∷ items)
