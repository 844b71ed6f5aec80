-- Lemmas on places that show a row: carry its changing elements over to the colours of its pixels.
use Rattle.std.proofs.Common.{ℕ, zero, suc, ◌+◌, ◌<◌, ◌≤◌, ◌≡◌, Bool, true, false, not, List, [], ◌∷◌, ◌++◌, length, get_or, drop, replicate, refl, ap, sym, ◌∙◌, subst, arith, inl, inr, add-zero}
use Rattle.std.proofs.lemmas.Bool.{cases_Bool, cases_lt, cond-true, cond-false}
use Rattle.std.proofs.lemmas.List.{get_or_past, get_or_default, drop_more, length-replicate}
use Rattle.bp_rows.specs.Changes.{differs, changes_from, changes_of, place_at, odd, Rises, Shows}

pub same_pixel : (x y : Bool) → differs x y ≡ false → y ≡ x
same_pixel true true e = refl
same_pixel false false e = refl
same_pixel true false e = cc
same_pixel false true e = cc

pub other_pixel : (x y : Bool) → differs x y ≡ true → y ≡ not x
other_pixel true true e = cc
other_pixel false false e = cc
other_pixel true false e = refl
other_pixel false true e = refl

-- pixels of one colour
pub one_run : (line : List Bool) (from n : ℕ) (c : Bool) → from + n ≤ length line → ((i : ℕ) → from ≤ i → i < from + n → get_or line i false ≡ c) → drop from line ≡ replicate n c ++ drop (from + n) line
one_run line from zero c within all = ap (λ k. drop k line) (sym (add-zero from))
one_run line from (suc n) c within all =
    let first : get_or line from false ≡ c = all from (omega arith) (omega arith) in
    drop_more line from false (omega arith)
    ∙ ap (λ p. p ∷ drop (from + 1) line) first
    ∙ ap (λ ps. c ∷ ps) (one_run line (from + 1) n c (omega arith) (λ i since until. all i (omega arith) (omega arith)))
    ∙ ap (λ k. c ∷ (replicate n c ++ drop k line)) (omega arith)

-- the colour after so many changes
abbrev turned : ℕ → Bool → Bool
turned zero before = before
turned (suc k) before = not (turned k before)

turned_not : (k : ℕ) (b : Bool) → turned k (not b) ≡ not (turned k b)
turned_not zero b = refl
turned_not (suc k) b = ap not (turned_not k b)

pub turned_odd : (k : ℕ) → turned k false ≡ odd k
turned_odd zero = refl
turned_odd (suc k) = ap not (turned_odd k)

-- what the changes of a line after a pixel are
record AreChanges (at : ℕ) (before : Bool) (line : List Bool) (places : List ℕ) : Type 0 where
  since : (k : ℕ) → k < length places → at ≤ get_or places k 0
  until : (k : ℕ) → k < length places → get_or places k 0 < at + length line
  rising : (k : ℕ) → k + 1 < length places → get_or places k 0 < get_or places (suc k) 0
  colour : (k i : ℕ) → k ≤ length places → ((j : ℕ) → j + 1 ≡ k → get_or places j 0 ≤ at + i) → i < length line → (k < length places → at + i < get_or places k 0) → get_or line i false ≡ turned k before

with_change : (at : ℕ) (before pixel : Bool) (line : List Bool) (places : List ℕ) → pixel ≡ not before → AreChanges (at + 1) pixel line places → AreChanges at before (pixel ∷ line) (at ∷ places)
with_change at before pixel line places turn rest = record {
  since = since;
  until = until;
  rising = rising;
  colour = colour;
}
  where
    since : (k : ℕ) → k < length (at ∷ places) → at ≤ get_or (at ∷ places) k 0
    since zero h = omega arith
    since (suc k) h = omega (arith, rest.since k (omega arith))

    until : (k : ℕ) → k < length (at ∷ places) → get_or (at ∷ places) k 0 < at + length (pixel ∷ line)
    until zero h = omega arith
    until (suc k) h = omega (arith, rest.until k (omega arith))

    rising : (k : ℕ) → k + 1 < length (at ∷ places) → get_or (at ∷ places) k 0 < get_or (at ∷ places) (suc k) 0
    rising zero h = omega (arith, rest.since 0 (omega arith))
    rising (suc k) h = rest.rising k (omega arith)

    colour : (k i : ℕ) → k ≤ length (at ∷ places) → ((j : ℕ) → j + 1 ≡ k → get_or (at ∷ places) j 0 ≤ at + i) → i < length (pixel ∷ line) → (k < length (at ∷ places) → at + i < get_or (at ∷ places) k 0) → get_or (pixel ∷ line) i false ≡ turned k before
    colour zero i few low within high = absurd (omega (arith, high (omega arith)))
    colour (suc zero) zero few low within high = turn
    colour (suc (suc k)) zero few low within high = absurd (omega (arith, low (suc k) (omega arith), rest.since k (omega arith)))
    colour (suc k) (suc i) few low within high =
        rest.colour k i (omega arith) (λ j e. let h = low (suc j) (omega arith) in omega arith) (omega arith) (λ h. let g = high (omega arith) in omega arith)
        ∙ ap (turned k) turn ∙ turned_not k before

without_change : (at : ℕ) (before pixel : Bool) (line : List Bool) (places : List ℕ) → pixel ≡ before → AreChanges (at + 1) pixel line places → AreChanges at before (pixel ∷ line) places
without_change at before pixel line places same rest = record {
  since = λ k h. omega (arith, rest.since k h);
  until = λ k h. omega (arith, rest.until k h);
  rising = rest.rising;
  colour = colour;
}
  where
    colour : (k i : ℕ) → k ≤ length places → ((j : ℕ) → j + 1 ≡ k → get_or places j 0 ≤ at + i) → i < length (pixel ∷ line) → (k < length places → at + i < get_or places k 0) → get_or (pixel ∷ line) i false ≡ turned k before
    colour zero zero few low within high = same
    colour (suc k) zero few low within high = absurd (omega (arith, low k (omega arith), rest.since k (omega arith)))
    colour k (suc i) few low within high =
        rest.colour k i few (λ j e. let h = low j e in omega arith) (omega arith) (λ h. let g = high h in omega arith) ∙ ap (turned k) same

are_changes : (at : ℕ) (before : Bool) (line : List Bool) → AreChanges at before line (changes_from at before line)
are_changes at before [] = record {
  since = λ k h. absurd (omega arith);
  until = λ k h. absurd (omega arith);
  rising = λ k h. absurd (omega arith);
  colour = λ k i few low within high. absurd (omega arith);
}
are_changes at before (pixel ∷ line) =
    let rest = are_changes (at + 1) pixel line in
    let P : List ℕ → Type 0 = AreChanges at before (pixel ∷ line) in
    elim (cases_Bool (differs before pixel)) [
      | inl is ↦ subst P (sym (cond-true (differs before pixel) (at ∷ changes_from (at + 1) pixel line) (changes_from (at + 1) pixel line) is))
          (with_change at before pixel line (changes_from (at + 1) pixel line) (other_pixel before pixel is) rest)
      | inr is ↦ subst P (sym (cond-false (differs before pixel) (at ∷ changes_from (at + 1) pixel line) (changes_from (at + 1) pixel line) is))
          (without_change at before pixel line (changes_from (at + 1) pixel line) (same_pixel before pixel is) rest)
    ]

-- ---- as places with the width past the end

module _ (line : List Bool) where
  abbrev cs : List ℕ
  cs = changes_of line

  abbrev w : ℕ
  w = length line

  inside : (k : ℕ) → k < length cs → place_at cs w k ≡ get_or cs k 0
  inside k h = get_or_default cs k w 0 h

  beyond : (k : ℕ) → length cs ≤ k → place_at cs w k ≡ w
  beyond k h = get_or_past cs k w h

  place_within : (k : ℕ) → place_at cs w k ≤ w
  place_within k = elim (cases_lt k (length cs)) [
    | inl less ↦ omega (arith, inside k less, (are_changes 0 false line).until k less)
    | inr past ↦ omega (arith, beyond k past)
  ]

  place_rising : (k : ℕ) → place_at cs w k < w → place_at cs w k < place_at cs w (k + 1)
  place_rising k h = elim (cases_lt k (length cs)) [
    | inl less ↦ elim (cases_lt (k + 1) (length cs)) [
      | inl more ↦ (let e : k + 1 ≡ suc k = omega arith in omega (arith, inside k less, inside (k + 1) more, (are_changes 0 false line).rising k more, ap (λ n. get_or cs n 0) e))
      | inr last ↦ omega (arith, beyond (k + 1) last)
    ]
    | inr past ↦ absurd (omega (arith, beyond k past))
  ]

  place_end : (k : ℕ) → place_at cs w k ≡ w → place_at cs w (k + 1) ≡ w
  place_end k h = elim (cases_lt k (length cs)) [
    | inl less ↦ absurd (omega (arith, inside k less, (are_changes 0 false line).until k less))
    | inr past ↦ beyond (k + 1) (omega arith)
  ]

  place_colour : (k i : ℕ) → ((j : ℕ) → j + 1 ≡ k → place_at cs w j ≤ i) → i < place_at cs w k → get_or line i false ≡ odd k
  place_colour k i low high =
      let few : k ≤ length cs = count k low high in
      (are_changes 0 false line).colour k i few
      (λ j e. (let h = low j e in omega (arith, inside j (omega arith))))
      (omega (arith, place_within k))
      (λ h. omega (arith, inside k h))
      ∙ turned_odd k
    where
      count : (k : ℕ) → ((j : ℕ) → j + 1 ≡ k → place_at cs w j ≤ i) → i < place_at cs w k → k ≤ length cs
      count zero low high = omega arith
      count (suc k) low high = elim (cases_lt k (length cs)) [
        | inl less ↦ omega arith
        | inr past ↦ absurd (omega (arith, low k (omega arith), beyond k past, place_within (suc k)))
      ]

  pub shows_changes : Shows cs w line
  shows_changes = record {
    long = refl;
    rises = record { within = place_within; rising = place_rising; end = place_end };
    colour = place_colour;
  }

-- the changing elements are left of the end
pub changes_below : (row : List Bool) (k : ℕ) → k < length (changes_of row) → get_or (changes_of row) k 0 < length row
changes_below row k h = omega (arith, (are_changes 0 false row).until k h)

-- ---- a white row

pub all_white : (at k : ℕ) → changes_from at false (replicate k false) ≡ []
all_white at zero = refl
all_white at (suc k) = all_white (at + 1) k

pub shows_white : (width : ℕ) → Shows [] width (replicate width false)
shows_white width =
    subst (λ (ps : List ℕ). Shows ps width (replicate width false)) (all_white 0 width)
    (subst (λ (n : ℕ). Shows (changes_of (replicate width false)) n (replicate width false)) (length-replicate width false) (shows_changes (replicate width false)))

-- the changing elements of a row show it
pub shows_row : (row : List Bool) (places : List ℕ) (width : ℕ) → length row ≡ width → places ≡ changes_of row → Shows places width row
shows_row row places width long is =
    subst (λ (ps : List ℕ). Shows ps width row) (sym is) (subst (λ (n : ℕ). Shows (changes_of row) n row) long (shows_changes row))

-- ---- positions

pub odd_one : (n : ℕ) → odd (n + 1) ≡ not (odd n)
odd_one n = let e : n + 1 ≡ suc n = omega arith in ap odd e

pub twice : (b : Bool) → not (not b) ≡ b
twice true = refl
twice false = refl

pub odd_two : (n : ℕ) → odd (n + 2) ≡ odd n
odd_two n = let e : n + 2 ≡ suc (suc n) = omega arith in ap odd e ∙ twice (odd n)

pub up : (places : List ℕ) (width k : ℕ) → Rises places width → place_at places width k ≤ place_at places width (k + 1)
up places width k rises =
    elim (cases_lt (place_at places width k) width) [
      | inl less ↦ omega (arith, rises.rising k less)
      | inr more ↦ (let at : place_at places width k ≡ width = omega (arith, rises.within k) in omega (arith, rises.end k at))
    ]
