-- a1, a2, b1 and b2 in lists of places.
use Rattle.std.proofs.Common.{ℕ, zero, suc, ◌+◌, ◌*◌, ◌-◌, ◌<◌, ◌≤◌, ◌≡◌, Bool, true, false, not, nat_lt, List, length, refl, ap, sym, ◌∙◌, subst, arith, inl, inr, ◌⊎◌}
use Rattle.std.proofs.lemmas.Bool.{cases_lt, lt-ltb, le-ltb}
use Rattle.std.proofs.lemmas.List.{get_or_past}
use Rattle.std.specs.Int.{from_bool}
use Rattle.bp_rows.specs.Changes.{differs, place_at, odd, Rises, Shows}
use Rattle.bp_rows.proofs.ShownLemmas.{odd_one, odd_two, twice, up}
use Rattle.bp_t6.specs.Places.{Place, leaves, least, a1, b1}
use Rattle.bp_t6.specs.Coding.{IsNext, IsNextFrom, SteppedTo}
use Rattle.bp_t6.proofs.LeastLemmas.{prev, pix, is_least, least-end, hit}

pub same_differs : (x y : Bool) → x ≡ y → differs x y ≡ false
same_differs true true e = refl
same_differs false false e = refl
same_differs true false e = cc
same_differs false true e = cc

pub not_differs : (c x y : Bool) → x ≡ c → y ≡ not c → differs x y ≡ true
not_differs true true false e f = refl
not_differs false false true e f = refl
not_differs true true true e f = cc
not_differs true false y e f = cc
not_differs false true y e f = cc
not_differs false false false e f = cc

not_leaves : (c x y : Bool) → x ≡ c → y ≡ not c → leaves c x y ≡ true
not_leaves true true false e f = refl
not_leaves false false true e f = refl
not_leaves true true true e f = cc
not_leaves true false y e f = cc
not_leaves false true y e f = cc
not_leaves false false false e f = cc

stays : (c x y : Bool) → y ≡ c → leaves c x y ≡ false
stays true true true e = refl
stays true false true e = refl
stays false true false e = refl
stays false false false e = refl
stays true x false e = cc
stays false x true e = cc

other : (c x y : Bool) → x ≡ not c → leaves c x y ≡ false
other true false y e = refl
other false true y e = refl
other true true y e = cc
other false false y e = cc

module _ (places : List ℕ) (width : ℕ) (line : List Bool) (shows : Shows places width line) where
  -- the pixel before a place in a stretch
  before : (k i : ℕ) → ((j : ℕ) → j + 1 ≡ k → place_at places width j < i) → i ≤ place_at places width k → prev line i ≡ odd k
  before zero zero since until = refl
  before (suc k) zero since until = absurd (omega (arith, since k (omega arith)))
  before k (suc i) since until = shows.colour k i (λ j e. let h = since j e in omega arith) (omega arith)

  prior : (j k : ℕ) → j + 1 ≡ k → place_at places width k < width → place_at places width j < place_at places width k
  prior j k e less =
      let same : place_at places width (j + 1) ≡ place_at places width k = ap (place_at places width) e in
      elim (cases_lt (place_at places width j) width) [
        | inl low ↦ omega (arith, shows.rises.rising j low)
        | inr high ↦ (let at : place_at places width j ≡ width = omega (arith, shows.rises.within j) in absurd (omega (arith, shows.rises.end j at)))
      ]

  -- the next change
  pub next_is : (k right : ℕ) → IsNext places width k right → least differs right line ≡ place_at places width k
  next_is k right next =
      is_least differs right line (place_at places width k) (omega (arith, shows.rises.within k, shows.long))
      (λ i since until. same_differs (prev line i) (pix line i)
      (before k i (λ j e. let h = next.behind j e in omega arith) (omega arith) ∙ sym (shows.colour k i (λ j e. let h = next.behind j e in omega arith) until)))
      (λ less. let up = shows.rises.rising k (omega (arith, shows.long)) in (
        next.ahead,
        not_differs (odd k) (prev line (place_at places width k)) (pix line (place_at places width k))
            (before k (place_at places width k) (λ j e. let h = next.behind j e in omega (arith, next.ahead)) (omega arith))
            (shows.colour (k + 1) (place_at places width k) (λ j e. let same : j ≡ k = omega arith in omega (arith, ap (place_at places width) same)) up ∙ odd_one k),
      ))

  -- the next one to the other colour
  pub next_from_is : (k right : ℕ) (black : Bool) → IsNextFrom places width k right black → least (leaves black) right line ≡ place_at places width k
  next_from_is k right black next =
      is_least (leaves black) right line (place_at places width k) (omega (arith, shows.rises.within k, shows.long))
      (λ i since until. none k i next since until)
      (λ less. let up = shows.rises.rising k (omega (arith, shows.long)) in (
        next.ahead,
        not_leaves black (prev line (place_at places width k)) (pix line (place_at places width k))
            (before k (place_at places width k) (λ j e. prior j k e (omega (arith, shows.long))) (omega arith) ∙ next.colour)
            (shows.colour (k + 1) (place_at places width k) (λ j e. let same : j ≡ k = omega arith in omega (arith, ap (place_at places width) same)) up ∙ odd_one k ∙ ap not next.colour),
      ))
    where
      none : (k i : ℕ) → IsNextFrom places width k right black → right ≤ i → i < place_at places width k → leaves black (prev line i) (pix line i) ≡ false
      none zero i next since until = stays black (prev line i) (pix line i) (shows.colour zero i (λ j e. absurd (omega arith)) until ∙ next.colour)
      none (suc k) i next since until =
          elim (cases_lt i (place_at places width k)) [
            | inl low ↦
                other black (prev line i) (pix line i)
                (before k i (λ j e. let h = next.behind j (omega arith) in omega arith) (omega arith) ∙ sym (twice (odd k)) ∙ ap not next.colour)
            | inr high ↦
                stays black (prev line i) (pix line i)
                (shows.colour (suc k) i (λ j e. let same : j ≡ k = omega arith in omega (arith, ap (place_at places width) same)) until ∙ next.colour)
          ]

-- ---- the four places

pub a1_is : (places : List ℕ) (width : ℕ) (line : List Bool) (place : Place) (k : ℕ) → Shows places width line → IsNext places width k place.right → a1 line place ≡ place_at places width k
a1_is places width line place k shows next = next_is places width line shows k place.right next

-- past the last change stands none
past_all : (places : List ℕ) (width : ℕ) (line : List Bool) (right : ℕ) → Shows places width line → width < right → least differs right line ≡ width
past_all places width line right shows past =
    elim (cases_lt (least differs right line) (length line)) [
      | inl less ↦ (let h = hit differs right line less in absurd (omega (arith, h.0, shows.long)))
      | inr more ↦ omega (arith, least-end differs right line, shows.long)
    ]

pub after_is : (places : List ℕ) (width : ℕ) (line : List Bool) (k x : ℕ) → Shows places width line → x ≡ place_at places width k → least differs (x + 1) line ≡ place_at places width (k + 1)
after_is places width line k x shows is =
    elim (cases_lt (place_at places width k) width) [
      | inl less ↦
          let up = shows.rises.rising k less in
          next_is places width line shows (k + 1) (x + 1) (record {
            behind = λ j e. let same : j ≡ k = omega arith in omega (arith, ap (place_at places width) same);
            ahead = omega arith;
          })
      | inr more ↦
          let at : place_at places width k ≡ width = omega (arith, shows.rises.within k) in
          past_all places width line (x + 1) shows (omega arith) ∙ sym (shows.rises.end k at)
    ]

pub b1_is : (places : List ℕ) (width : ℕ) (line : List Bool) (place : Place) (k : ℕ) → Shows places width line → IsNextFrom places width k place.right place.black → b1 line place ≡ place_at places width k
b1_is places width line place k shows next = next_from_is places width line shows k place.right place.black next

-- ---- positions

pub next_small : (places : List ℕ) (width k right : ℕ) → IsNext places width k right → right ≤ width → k ≤ length places
next_small places width zero right next on = omega arith
next_small places width (suc k) right next on =
    elim (cases_lt k (length places)) [
      | inl less ↦ omega arith
      | inr past ↦ absurd (omega (arith, next.behind k (omega arith), get_or_past places k width past))
    ]

pub from_small : (places : List ℕ) (width k right : ℕ) (black : Bool) → IsNextFrom places width k right black → right ≤ width → k ≤ length places + 1
from_small places width zero right black next on = omega arith
from_small places width (suc zero) right black next on = omega arith
from_small places width (suc (suc k)) right black next on =
    elim (cases_lt k (length places)) [
      | inl less ↦ omega arith
      | inr past ↦ absurd (omega (arith, next.behind k (omega arith), get_or_past places k width past))
    ]

-- the next change is not left of the one before
-- the positions after each mode
pub next-pass : (places : List ℕ) (width k right to : ℕ) → IsNext places width k right → right ≤ to → to ≤ place_at places width k → IsNext places width k to
next-pass places width k right to next more until = record { behind = λ j e. let h = next.behind j e in omega arith; ahead = until }

pub next_one : (places : List ℕ) (width k : ℕ) → Rises places width → place_at places width k + 1 ≤ width → IsNext places width (k + 1) (place_at places width k + 1)
next_one places width k rises on = record {
  behind = λ j e. let same : j ≡ k = omega arith in omega (arith, ap (place_at places width) same);
  ahead = omega (arith, rises.rising k (omega arith));
}

pub next_two : (places : List ℕ) (width k : ℕ) → Rises places width → place_at places width (k + 1) + 1 ≤ width → IsNext places width (k + 2) (place_at places width (k + 1) + 1)
next_two places width k rises on =
    let same : k + 1 + 1 ≡ k + 2 = omega arith in
    subst (λ (n : ℕ). IsNext places width n (place_at places width (k + 1) + 1)) same (next_one places width (k + 1) rises on)

-- those of b1, after the steps of two
pub from_same : (places : List ℕ) (width k at right to : ℕ) (black : Bool) → IsNextFrom places width k right black → right ≤ to → to ≤ width → SteppedTo places width k at to → IsNextFrom places width at to black
from_same places width k at right to black next more on step = record {
  colour = step.colour ∙ next.colour;
  behind = step.behind (λ j e. let h = next.behind j e in omega arith);
  ahead = step.ahead on;
}

back_odd : (k back : ℕ) → (0 < k → back ≡ k - 1) → (k ≡ 0 → back ≡ 1) → odd back ≡ not (odd k)
back_odd zero back h i = ap odd (i refl)
back_odd (suc k) back h i = let e : back ≡ k = omega (arith, h (omega arith)) in ap odd e ∙ sym (twice (odd k))

pub from_back : (places : List ℕ) (width k back at right to : ℕ) (black : Bool) → Rises places width → IsNextFrom places width k right black → (0 < k → back ≡ k - 1) → (k ≡ 0 → back ≡ 1) → right ≤ to → to ≤ width → SteppedTo places width back at to → IsNextFrom places width at to (not black)
from_back places width k back at right to black rises next some none more on step = record {
  colour = step.colour ∙ back_odd k back some none ∙ ap not next.colour;
  behind = step.behind (λ j e. before j e (cases_lt 0 k));
  ahead = step.ahead on;
}
  where
    before : (j : ℕ) → j + 2 ≡ back → (0 < k) ⊎ (k ≤ 0) → place_at places width j < to
    before j e (inl h) =
        let two : j + 1 + 2 ≡ k = omega (arith, some h) in
        omega (arith, next.behind (j + 1) two, up places width j rises)
    before j e (inr h) = let zero : k ≡ 0 = omega arith in absurd (omega (arith, none zero))

-- some steps of two keep the colour
pub odd_steps : (start steps : ℕ) → odd (start + 2 * steps) ≡ odd start
odd_steps start zero = let e : start + 2 * zero ≡ start = omega arith in ap odd e
odd_steps start (suc steps) =
    let e : start + 2 * suc steps ≡ start + 2 * steps + 2 = omega arith in
    ap odd e ∙ odd_two (start + 2 * steps) ∙ odd_steps start steps

-- one step where the first place is left of another, and one more where the second is
pub two_steps : (places : List ℕ) (width start right one two : ℕ) → Rises places width → one ≡ from_bool (nat_lt (place_at places width start) right) → two ≡ from_bool (nat_lt (place_at places width (start + 2)) right)
    → ((j : ℕ) → j + 2 ≡ start → place_at places width j < right) → (j : ℕ) → j + 2 ≡ start + 2 * (one + two) → place_at places width j < right
two_steps places width start right one two rises is_one is_two behind j e =
    let x = place_at places width start in let y = place_at places width (start + 2) in
    let rise : x ≤ y = (let mid : start + 1 + 1 ≡ start + 2 = omega arith in omega (arith, up places width start rises, up places width (start + 1) rises, ap (place_at places width) mid)) in
    elim (cases_lt x right) [
      | inl less ↦
          let a : one ≡ 1 = is_one ∙ ap from_bool (lt-ltb x right less) in
          elim (cases_lt y right) [
            | inl more ↦
                let b : two ≡ 1 = is_two ∙ ap from_bool (lt-ltb y right more) in
                let same : j ≡ start + 2 = omega arith in omega (arith, ap (place_at places width) same)
            | inr past ↦
                let b : two ≡ 0 = is_two ∙ ap from_bool (le-ltb y right past) in
                let same : j ≡ start = omega arith in omega (arith, ap (place_at places width) same)
          ]
      | inr past ↦
          let a : one ≡ 0 = is_one ∙ ap from_bool (le-ltb x right past) in
          let b : two ≡ 0 = is_two ∙ ap from_bool (le-ltb y right (omega arith)) in
          behind j (omega arith)
    ]
