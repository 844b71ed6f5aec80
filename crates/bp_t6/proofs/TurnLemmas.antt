-- Lemmas on a line under way: carry a turn over to the pixels that its places show.
use Rattle.std.proofs.Common.{ℕ, zero, suc, ◌+◌, ◌-◌, ◌<◌, ◌≤◌, ◌≡◌, Bool, true, false, not, List, [], ◌∷◌, ◌++◌, length, get_or, replicate, refl, ap, sym, ◌∙◌, arith, inl, inr, length-append}
use Rattle.std.proofs.lemmas.Bool.{cases_lt, cases_order}
use Rattle.std.proofs.lemmas.List.{length-replicate, get_or_append_left, get_or-append_right, get_or-replicate, get_or_past, get_or_default, get_or_at, length_push}
use Rattle.bp_rows.specs.Changes.{place_at, odd, Shows}
use Rattle.bp_t6.specs.Turns.{Turns}

place_more : (places : List ℕ) (width k : ℕ) → get_or (places ++ width ∷ []) k width ≡ get_or places k width
place_more [] width zero = refl
place_more [] width (suc k) = refl
place_more (p ∷ places) width zero = refl
place_more (p ∷ places) width (suc k) = place_more places width k

moved : (places others : List ℕ) (width : ℕ) (line : List Bool) → ((k : ℕ) → place_at others width k ≡ place_at places width k) → Shows places width line → Shows others width line
moved places others width line same shows = record {
  long = shows.long;
  rises = record {
    within = λ k. omega (arith, same k, shows.rises.within k);
    rising = λ k h. (let g : place_at places width k < width = omega (arith, same k) in omega (arith, same k, same (k + 1), shows.rises.rising k g));
    end = λ k h. (let g : place_at places width k ≡ width = omega (arith, same k) in omega (arith, same (k + 1), shows.rises.end k g));
  };
  colour = λ k i low high. shows.colour k i (λ j e. (let h = low j e in omega (arith, same j))) (omega (arith, same k));
}

-- more pixels of the colour after the last turn
module _ (ts : List ℕ) (n m : ℕ) (px : List Bool) (c : Bool) (turns : Turns ts n) (shows : Shows ts n px) (colour : odd (length ts) ≡ c) where
  inside : (w k : ℕ) → k < length ts → place_at ts w k ≡ get_or ts k 0
  inside w k h = get_or_default ts k w 0 h

  beyond : (w k : ℕ) → length ts ≤ k → place_at ts w k ≡ w
  beyond w k h = get_or_past ts k w h

  more_within : (k : ℕ) → place_at ts (n + m) k ≤ n + m
  more_within k = elim (cases_lt k (length ts)) [ inl less ↦ omega (arith, inside (n + m) k less, turns.until k less) | inr past ↦ omega (arith, beyond (n + m) k past) ]

  more_rising : (k : ℕ) → place_at ts (n + m) k < n + m → place_at ts (n + m) k < place_at ts (n + m) (k + 1)
  more_rising k h = elim (cases_lt k (length ts)) [
    | inl less ↦ elim (cases_lt (k + 1) (length ts)) [
      | inl more ↦ omega (arith, inside (n + m) k less, inside (n + m) (k + 1) more, turns.strict k more)
      | inr last ↦ omega (arith, beyond (n + m) (k + 1) last)
    ]
    | inr past ↦ absurd (omega (arith, beyond (n + m) k past))
  ]

  more_end : (k : ℕ) → place_at ts (n + m) k ≡ n + m → place_at ts (n + m) (k + 1) ≡ n + m
  more_end k h = elim (cases_lt (k + 1) (length ts)) [
    | inl more ↦ absurd (omega (arith, inside (n + m) k (omega arith), turns.strict k more, turns.until (k + 1) more))
    | inr last ↦ beyond (n + m) (k + 1) last
  ]

  more_colour : (k i : ℕ) → ((j : ℕ) → j + 1 ≡ k → place_at ts (n + m) j ≤ i) → i < place_at ts (n + m) k → get_or (px ++ replicate m c) i false ≡ odd k
  more_colour k i low high = elim (cases_lt i n) [
    | inl old ↦
        get_or_append_left px (replicate m c) false i (omega (arith, shows.long))
        ∙ shows.colour k i (λ j e. below j (low j e) old) (above k high old)
    | inr new ↦
        let count : k ≡ length ts = all k low high new in
        get_or-append_right px (replicate m c) n i false shows.long new
        ∙ get_or-replicate m (i - n) c false (omega (arith, more_within k)) ∙ sym colour ∙ ap odd (sym count)
  ]
    where
      below : (j : ℕ) → place_at ts (n + m) j ≤ i → i < n → place_at ts n j ≤ i
      below j h old = elim (cases_lt j (length ts)) [ inl less ↦ omega (arith, inside (n + m) j less, inside n j less) | inr past ↦ absurd (omega (arith, beyond (n + m) j past)) ]

      above : (k : ℕ) → i < place_at ts (n + m) k → i < n → i < place_at ts n k
      above k h old = elim (cases_lt k (length ts)) [ inl less ↦ omega (arith, inside (n + m) k less, inside n k less) | inr past ↦ omega (arith, beyond n k past) ]

      all : (k : ℕ) → ((j : ℕ) → j + 1 ≡ k → place_at ts (n + m) j ≤ i) → i < place_at ts (n + m) k → n ≤ i → k ≡ length ts
      all k low high new = elim (cases_order k (length ts)) [
        | inl same ↦ same
        | inr other ↦ elim other [
          | inl less ↦ absurd (omega (arith, inside (n + m) k less, turns.until k less))
          | inr more ↦ absurd (omega (arith, low (k - 1) (omega arith), beyond (n + m) (k - 1) (omega arith), more_within k))
        ]
      ]

  pub shows_more : Shows ts (n + m) (px ++ replicate m c)
  shows_more = record {
    long = length-append px (replicate m c) ∙ omega (arith, shows.long, length-replicate m c);
    rises = record { within = more_within; rising = more_rising; end = more_end };
    colour = more_colour;
  }

  pub turns_more : Turns ts (n + m)
  turns_more = record { strict = turns.strict; until = λ k h. omega (arith, turns.until k h) }

-- a turn more, or one taken back
pub turn_shows : (ts : List ℕ) (n : ℕ) (px : List Bool) → Shows ts n px → Shows (ts ++ n ∷ []) n px
turn_shows ts n px shows = moved ts (ts ++ n ∷ []) n px (place_more ts n) shows

pub back_shows : (ts : List ℕ) (n : ℕ) (px : List Bool) → Shows (ts ++ n ∷ []) n px → Shows ts n px
back_shows ts n px shows = moved (ts ++ n ∷ []) ts n px (λ k. sym (place_more ts n k)) shows

odd_push : (ts : List ℕ) (n : ℕ) → odd (length (ts ++ n ∷ [])) ≡ not (odd (length ts))
odd_push ts n = let e : length (ts ++ n ∷ []) ≡ suc (length ts) = length_push ts n ∙ omega arith in ap odd e

pub turn_colour : (old new : List ℕ) (n : ℕ) → new ≡ old ++ n ∷ [] → odd (length new) ≡ not (odd (length old))
turn_colour old new n e = ap (λ ts. odd (length ts)) e ∙ odd_push old n

twice : (b : Bool) → b ≡ not (not b)
twice true = refl
twice false = refl

pub back_colour : (old new : List ℕ) (n : ℕ) → old ≡ new ++ n ∷ [] → odd (length new) ≡ not (odd (length old))
back_colour old new n e = twice (odd (length new)) ∙ ap not (sym (odd_push new n)) ∙ ap (λ ts. not (odd (length ts))) (sym e)

pub turn_turns : (ts : List ℕ) (n : ℕ) → Turns ts n → ((k : ℕ) → k + 1 ≡ length ts → get_or ts k 0 < n) → Turns (ts ++ n ∷ []) n
turn_turns ts n turns last = record { strict = strict; until = until }
  where
    strict : (k : ℕ) → k + 1 < length (ts ++ n ∷ []) → get_or (ts ++ n ∷ []) k 0 < get_or (ts ++ n ∷ []) (k + 1) 0
    strict k h = elim (cases_lt (k + 1) (length ts)) [
      | inl less ↦ omega (arith, get_or_append_left ts (n ∷ []) 0 k (omega arith), get_or_append_left ts (n ∷ []) 0 (k + 1) less, turns.strict k less)
      | inr more ↦
          let at : length ts ≡ k + 1 = omega (arith, length_push ts n) in
          omega (arith, get_or_append_left ts (n ∷ []) 0 k (omega arith), get_or_at ts n [] 0 (k + 1) at, last k (sym at))
    ]

    until : (k : ℕ) → k < length (ts ++ n ∷ []) → get_or (ts ++ n ∷ []) k 0 ≤ n
    until k h = elim (cases_lt k (length ts)) [
      | inl less ↦ omega (arith, get_or_append_left ts (n ∷ []) 0 k less, turns.until k less)
      | inr more ↦ (let at : length ts ≡ k = omega (arith, length_push ts n) in omega (arith, get_or_at ts n [] 0 k at))
    ]

pub back_turns : (ts : List ℕ) (n : ℕ) → Turns (ts ++ n ∷ []) n → Turns ts n
back_turns ts n turns = record {
  strict = λ k h. omega (arith, get_or_append_left ts (n ∷ []) 0 k (omega arith), get_or_append_left ts (n ∷ []) 0 (k + 1) h, turns.strict k (omega (arith, length_push ts n)));
  until = λ k h. omega (arith, get_or_append_left ts (n ∷ []) 0 k h, turns.until k (omega (arith, length_push ts n)));
}

-- each turn is no less than its position, so they are few
turn_least : (ts : List ℕ) (n : ℕ) → Turns ts n → (k : ℕ) → k < length ts → k ≤ get_or ts k 0
turn_least ts n turns zero h = omega arith
turn_least ts n turns (suc k) h =
    let next : k + 1 ≡ suc k = omega arith in
    omega (arith, turns.strict k (omega arith), turn_least ts n turns k (omega arith), ap (λ j. get_or ts j 0) next)

pub turns_few : (ts : List ℕ) (n : ℕ) → Turns ts n → length ts ≤ n + 1
turns_few ts n turns = elim (cases_lt 0 (length ts)) [
  | inl some ↦ omega (arith, turn_least ts n turns (length ts - 1) (omega arith), turns.until (length ts - 1) (omega arith))
  | inr none ↦ omega arith
]
