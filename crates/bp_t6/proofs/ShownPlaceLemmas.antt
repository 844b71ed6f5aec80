-- Lemmas on places that show a row: carry them over to the changing elements of the row.
use Rattle.std.proofs.Common.{ℕ, zero, suc, ◌+◌, ◌-◌, ◌<◌, ◌≤◌, ◌≡◌, Bool, true, false, not, List, length, get_or, take, refl, ap, sym, ◌∙◌, subst, arith, inl, inr, length-take}
use Rattle.std.proofs.lemmas.Bool.{cases_lt}
use Rattle.std.proofs.lemmas.List.{ext_get_or, get_or-take, get_or_default, get_or_past}
use Rattle.bp_rows.specs.Changes.{changes_of, odd, place_at, Rises, Shows}
use Rattle.bp_rows.proofs.ShownLemmas.{changes_below, shows_row}

other_colour : (b : Bool) → b ≡ not b → ⊥
other_colour true same = cc
other_colour false same = cc

-- places that show one row

-- where they are the same up to one, neither's next is left of the other's
not_left : (places others : List ℕ) (width k : ℕ) (row : List Bool) → Shows places width row → Shows others width row
    → ((j : ℕ) → j + 1 ≡ k → place_at places width j ≡ place_at others width j) → place_at places width k < place_at others width k → ⊥
not_left places others width k row shows other before less =
    let at = place_at places width k in
    let inside : at < width = omega (arith, less, other.rises.within k) in
    let next : k + 1 ≡ suc k = omega arith in
    other_colour (odd k) (sym (other.colour k at (λ j e. omega (arith, before j e, until j e)) less)
    ∙ shows.colour (k + 1) at (λ j e. last j e) (shows.rises.rising k inside) ∙ ap odd next)
  where
    until : (j : ℕ) → j + 1 ≡ k → place_at places width j ≤ place_at places width k
    until j e = elim (cases_lt (place_at places width j) width) [
      | inl left ↦ omega (arith, shows.rises.rising j left, ap (λ n. place_at places width n) e)
      | inr past ↦ (let all : place_at places width j ≡ width = omega (arith, past, shows.rises.within j) in omega (arith, all, shows.rises.end j all, ap (λ n. place_at places width n) e))
    ]

    last : (j : ℕ) → j + 1 ≡ k + 1 → place_at places width j ≤ place_at places width k
    last j e = (let same : j ≡ k = omega arith in omega (arith, ap (λ n. place_at places width n) same))

same_place : (places others : List ℕ) (width : ℕ) (row : List Bool) → Shows places width row → Shows others width row
    → (k : ℕ) → place_at places width k ≡ place_at others width k
same_place places others width row shows other k = step k (before k)
  where
    step : (k : ℕ) → ((j : ℕ) → j + 1 ≡ k → place_at places width j ≡ place_at others width j) → place_at places width k ≡ place_at others width k
    step k front = elim (cases_lt (place_at places width k) (place_at others width k)) [
      | inl less ↦ absurd (not_left places others width k row shows other front less)
      | inr most ↦ elim (cases_lt (place_at others width k) (place_at places width k)) [
        | inl more ↦ absurd (not_left others places width k row other shows (λ j e. sym (front j e)) more)
        | inr least ↦ omega arith
      ]
    ]

    before : (k : ℕ) → (j : ℕ) → j + 1 ≡ k → place_at places width j ≡ place_at others width j
    before zero j e = absurd (omega arith)
    before (suc k) j e = (let same : k ≡ j = omega arith in subst (λ n. place_at places width n ≡ place_at others width n) same (step k (before k)))

-- ---- without those at the width

-- from so many on no place is left of the width
pub record Ends (places : List ℕ) (width count : ℕ) : Type 0 where
  pub few : count ≤ length places
  pub ended : (k : ℕ) → count ≤ k → place_at places width k ≡ width

pub ends_all : (places : List ℕ) (width : ℕ) → Ends places width (length places)
ends_all places width = record { few = omega arith; ended = λ k past. get_or_past places k width past }

pub ends_less : (places : List ℕ) (width count less : ℕ) → Rises places width → Ends places width count → less + 1 ≡ count → width ≤ get_or places less 0
    → Ends places width less
ends_less places width count less rises ends one past = record {
  few = omega (arith, ends.few);
  ended = λ k since.
      elim (cases_lt k count) [
        | inl last ↦ (let same : less ≡ k = omega arith in
            let own : place_at places width less ≡ get_or places less 0 = get_or_default places less width 0 (omega (arith, ends.few)) in
            omega (arith, ap (λ n. place_at places width n) same, own, past, rises.within less))
        | inr later ↦ ends.ended k later
      ];
}

stays : (places : List ℕ) (width k more : ℕ) → Rises places width → place_at places width k ≡ width → place_at places width (k + more) ≡ width
stays places width k zero rises is = ap (λ n. place_at places width n) (omega arith) ∙ is
stays places width k (suc more) rises is =
    ap (λ n. place_at places width n) (omega arith) ∙ rises.end (k + more) (stays places width k more rises is)

-- where the last of some places is left of the width, all of them are
pub left_all : (places : List ℕ) (width count : ℕ) → Rises places width → count ≤ length places → ((j : ℕ) → j + 1 ≡ count → get_or places j 0 < width) → (k : ℕ) → k < count → place_at places width k < width
left_all places width count rises few left k less = elim (cases_lt (place_at places width k) width) [
  | inl is_left ↦ is_left
  | inr past ↦ (
      let all : place_at places width k ≡ width = omega (arith, past, rises.within k) in
      let end = count - 1 in
      let last : k + (end - k) ≡ end = omega arith in
      let one : end + 1 ≡ count = omega arith in
      let there : place_at places width end ≡ get_or places end 0 = get_or_default places end width 0 (omega (arith, few)) in
      absurd (omega (arith, stays places width k (end - k) rises all, ap (λ n. place_at places width n) last, there, left end one)))
]

-- those left of the width are the changing elements
pub left_are_changes : (places changes : List ℕ) (width count : ℕ) (row : List Bool) → Shows places width row → Ends places width count
    → ((j : ℕ) → j + 1 ≡ count → get_or places j 0 < width) → changes ≡ take count places → changes ≡ changes_of row
left_are_changes places changes width count row shows ends left is =
    is ∙ ext_get_or width (take count places) (changes_of row) long same
  where
    fronts : length (take count places) ≡ count
    fronts = omega (arith, length-take count places, ends.few)

    below : (k : ℕ) → k < count → place_at places width k < width
    below = left_all places width count shows.rises ends.few left

    place_is : (k : ℕ) → place_at places width k ≡ place_at (changes_of row) width k
    place_is = same_place places (changes_of row) width row shows (shows_row row (changes_of row) width shows.long refl)

    inside : (k : ℕ) → k < length (changes_of row) → place_at (changes_of row) width k < width
    inside k less = omega (arith, get_or_default (changes_of row) k width 0 less, changes_below row k less, shows.long)

    long : length (take count places) ≡ length (changes_of row)
    long = elim (cases_lt count (length (changes_of row))) [
      | inl less ↦ absurd (omega (arith, inside count less, place_is count, ends.ended count (omega arith)))
      | inr most ↦ elim (cases_lt (length (changes_of row)) count) [
        | inl more ↦ absurd (omega (arith, below (length (changes_of row)) more, place_is (length (changes_of row)), get_or_past (changes_of row) (length (changes_of row)) width (omega arith)))
        | inr least ↦ omega (arith, fronts)
      ]
    ]

    same : (k : ℕ) → k < length (take count places) → get_or (take count places) k width ≡ get_or (changes_of row) k width
    same k less = get_or-take count places k width (omega (arith, fronts)) ∙ place_is k
