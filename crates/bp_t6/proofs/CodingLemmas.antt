-- One mode more of a line.
use Rattle.std.proofs.Common.{ℕ, zero, suc, ◌+◌, ◌-◌, ◌<◌, ◌≤◌, ◌≡◌, Bool, true, false, not, ◌&&◌, List, [], ◌∷◌, ◌++◌, length, get_or, nat_le, nat_lt, if◌then◌else◌, refl, ap, sym, ◌∙◌, subst, arith, inl, inr, ◌⊎◌, append_assoc}
use Rattle.std.proofs.lemmas.Bool.{cases_Bool, cases_lt, cond-true, cond-false, and_from, le-leb, lt-leb, lt-ltb, le-ltb, leb-true, and_parts, and_left, and_right}
use Rattle.bp_codes.specs.CodeLists.{mode_codes}
use Rattle.bp_rows.specs.Changes.{differs, place_at, Shows}
use Rattle.bp_t6.specs.Places.{Place, leaves, a1, a2, b1, b2}
use Rattle.bp_t6.specs.Modes.{Mode, Pass, Horizontal, Vertical, code, run_codes, run_bits, run_bits_in, vertical_rows, mode_bits, from, place_after, codes_of, pixels_of_run}
use Rattle.bp_t6.specs.Written.{written_run, chosen, chosen_modes}
use Rattle.bp_t6.specs.Coding.{rest_code, IsNext, IsNextFrom}
use Rattle.bp_t6.proofs.LeastLemmas.{least-since, least-end, hit}
use Rattle.bp_t6.proofs.ChosenLemmas.{run_of_pixels}
use Rattle.bp_t6.proofs.PlaceLemmas.{a1_is, b1_is, after_is}

-- ---- the mode is chosen

module _ (above line : List Bool) (place : Place) where
  abbrev pub near : Bool
  near = nat_le (a1 line place) (b1 above place + 3) && nat_le (b1 above place) (a1 line place + 3)

  abbrev V : Mode
  V = Vertical (a1 line place + 3 - b1 above place)

  abbrev H : Mode
  H = Horizontal (written_run (a1 line place - from place)) (written_run (a2 line place - a1 line place))

  pub chosen-pass : b2 above place < a1 line place → chosen above line place ≡ Pass
  chosen-pass h = cond-true (nat_lt (b2 above place) (a1 line place)) Pass (if near then V else H) (lt-ltb (b2 above place) (a1 line place) h)

  pub chosen-vertical : a1 line place ≤ b2 above place → a1 line place ≤ b1 above place + 3 → b1 above place ≤ a1 line place + 3 → chosen above line place ≡ V
  chosen-vertical h i j =
      cond-false (nat_lt (b2 above place) (a1 line place)) Pass (if near then V else H) (le-ltb (b2 above place) (a1 line place) h)
      ∙ cond-true near V H (and_from (nat_le (a1 line place) (b1 above place + 3)) (nat_le (b1 above place) (a1 line place + 3)) (le-leb (a1 line place) (b1 above place + 3) i) (le-leb (b1 above place) (a1 line place + 3) j))

  pub chosen-horizontal : a1 line place ≤ b2 above place → near ≡ false → chosen above line place ≡ H
  chosen-horizontal h far =
      cond-false (nat_lt (b2 above place) (a1 line place)) Pass (if near then V else H) (le-ltb (b2 above place) (a1 line place) h) ∙ cond-false near V H far

  -- it moves a0
  pub chosen_moves : length above ≡ length line → place.right ≤ length line → place.right < (place_after above place (chosen above line place)).right
  chosen_moves long within =
      let x = a1 line place in let y = b1 above place in let z = b2 above place in let u = a2 line place in
      let low : place.right ≤ x = least-since differs place.right line within in
      let end = least-end differs place.right line in
      let P : Mode → Type 0 = λ m. place.right < (place_after above place m).right in
      elim (cases_lt z x) [
        | inl pass ↦ subst P (sym (chosen-pass pass)) (let since = hit differs (y + 1) above (omega arith) in let first = least-since (leaves place.black) place.right above (omega arith) in omega (arith, since.0))
        | inr far ↦ elim (cases_Bool near) [
          | inl is ↦ let both = and_parts (nat_le x (y + 3)) (nat_le y (x + 3)) is in
              let i = leb-true x (y + 3) both.0 in let j = leb-true y (x + 3) both.1 in
              subst P (sym (chosen-vertical far i j)) (omega arith)
          | inr is ↦ subst P (sym (chosen-horizontal far is)) (
              let one = run_of_pixels (x - from place) in let two = run_of_pixels (u - x) in omega arith)
        ]
      ]

-- ---- the number of modes that are allowed does not matter

pub on_more : (most : ℕ) (above line : List Bool) (place : Place) → place.right ≤ length line → chosen_modes (suc most) above line place ≡ chosen above line place ∷ chosen_modes most above line (place_after above place (chosen above line place))
on_more most above line place h =
    let more = chosen above line place ∷ chosen_modes most above line (place_after above place (chosen above line place)) in
    let pick : Bool → List Mode = λ b. elim b [ true ↦ more | false ↦ [] ] in
    ap pick (le-leb place.right (length line) h)

pub at_end : (most : ℕ) (above line : List Bool) (place : Place) → length line < place.right → chosen_modes most above line place ≡ []
at_end zero above line place h = refl
at_end (suc most) above line place h =
    let more = chosen above line place ∷ chosen_modes most above line (place_after above place (chosen above line place)) in
    let pick : Bool → List Mode = λ b. elim b [ true ↦ more | false ↦ [] ] in
    ap pick (lt-leb place.right (length line) h)

enough : (m n : ℕ) (above line : List Bool) (place : Place) → length above ≡ length line → length line + 1 ≤ m + place.right → length line + 1 ≤ n + place.right → chosen_modes m above line place ≡ chosen_modes n above line place
enough zero n above line place long h k = sym (at_end n above line place (omega arith))
enough (suc m) zero above line place long h k = at_end (suc m) above line place (omega arith)
enough (suc m) (suc n) above line place long h k =
    elim (cases_lt (length line) place.right) [
      | inl done ↦ at_end (suc m) above line place done ∙ sym (at_end (suc n) above line place done)
      | inr on ↦
          let moved = chosen_moves above line place long on in
          on_more m above line place on
          ∙ ap (λ ms. chosen above line place ∷ ms) (enough m n above line (place_after above place (chosen above line place)) long (omega arith) (omega arith))
          ∙ sym (on_more n above line place on)
    ]

pub rest-end : (above line : List Bool) (place : Place) → length line < place.right → rest_code above line place ≡ []
rest-end above line place h = ap (codes_of above place) (at_end (length line + 1) above line place h)

pub rest_more : (above line : List Bool) (place : Place) (mode : Mode) → length above ≡ length line → place.right ≤ length line → chosen above line place ≡ mode → rest_code above line place ≡ mode_bits place.black mode ++ rest_code above line (place_after above place mode)
rest_more above line place mode long on is =
    let next = place_after above place (chosen above line place) in
    let moved = chosen_moves above line place long on in
    let count : length line + 1 ≡ suc (length line) = omega arith in
    ap (λ n. codes_of above place (chosen_modes n above line place)) count
    ∙ ap (codes_of above place) (on_more (length line) above line place on)
    ∙ ap (λ ms. mode_bits place.black (chosen above line place) ++ codes_of above next ms) (enough (length line) (length line + 1) above line next long (omega arith) (omega arith))
    ∙ ap (λ m. mode_bits place.black m ++ rest_code above line (place_after above place m)) is

-- put is what was still to be written
pub put_more : (above line : List Bool) (place next : Place) (mode : Mode) (old new : List Bool) → length above ≡ length line → place.right ≤ length line → chosen above line place ≡ mode → place_after above place mode ≡ next → new ≡ old ++ mode_bits place.black mode → old ++ rest_code above line place ≡ new ++ rest_code above line next
put_more above line place next mode old new long on is there put =
    ap (λ bs. old ++ bs) (rest_more above line place mode long on is)
    ∙ sym (append_assoc old (mode_bits place.black mode) (rest_code above line (place_after above place mode)))
    ∙ ap (λ bs. bs ++ rest_code above line (place_after above place mode)) (sym put)
    ∙ ap (λ p. new ++ rest_code above line p) there

-- ---- in lists of places

abbrev pub at_place : ℕ → Bool → Place
at_place right black = record { right = right; black = black }

module _ (line above : List ℕ) (width : ℕ) (right : ℕ) (black : Bool) (c r : ℕ) (on : right ≤ width) (next : IsNext line width c right) (next_from : IsNextFrom above width r right black) (row over : List Bool) (shows : Shows line width row) (shows_over : Shows above width over) where
  abbrev x : ℕ
  x = place_at line width c

  abbrev y : ℕ
  y = place_at above width r

  abbrev z : ℕ
  z = place_at above width (r + 1)

  abbrev u : ℕ
  u = place_at line width (c + 1)

  abbrev here : Place
  here = at_place right black

  x_is : a1 row here ≡ x
  x_is = a1_is line width row here c shows next

  y_is : b1 over here ≡ y
  y_is = b1_is above width over here r shows_over next_from

  z_is : b2 over here ≡ z
  z_is = after_is above width over r (b1 over here) shows_over y_is

  u_is : a2 row here ≡ u
  u_is = after_is line width row c (a1 row here) shows x_is

  wide : length over ≡ length row
  wide = shows_over.long ∙ sym shows.long

  pub pass_put : (old new : List Bool) → z < x → new ≡ old ++ code mode_codes 0 → old ++ rest_code over row here ≡ new ++ rest_code over row (at_place (z + 1) black)
  pass_put old new h put =
      let less : b2 over here < a1 row here = omega (arith, x_is, z_is) in
      put_more over row here (at_place (z + 1) black) Pass old new wide (omega (arith, shows.long)) (chosen-pass over row here less) (ap (λ n. at_place (n + 1) black) z_is) put

  pub vertical_put : (old new : List Bool) (v : ℕ) → x ≤ z → x ≤ y + 3 → y ≤ x + 3 → v ≡ get_or vertical_rows (x + 3 - y) 0 → new ≡ old ++ code mode_codes v → old ++ rest_code over row here ≡ new ++ rest_code over row (at_place (x + 1) (not black))
  vertical_put old new v h i j row_is put =
      let n : a1 row here + 3 - b1 over here ≡ x + 3 - y = ap (λ a. a + 3 - b1 over here) x_is ∙ ap (λ b. x + 3 - b) y_is in
      let to : b1 over here + 1 + (x + 3 - y) - 3 ≡ x + 1 = omega (arith, y_is) in
      put_more over row here (at_place (x + 1) (not black)) (Vertical (x + 3 - y)) old new wide (omega (arith, shows.long))
      (chosen-vertical over row here (omega (arith, x_is, z_is)) (omega (arith, x_is, y_is)) (omega (arith, x_is, y_is)) ∙ ap Vertical n)
      (ap (λ m. at_place m (not black)) to)
      (put ∙ ap (λ k. old ++ code mode_codes k) row_is)

  pub horizontal_put : (old first second new : List Bool) → x ≤ z → ((y + 3 < x) ⊎ (x + 3 < y)) → first ≡ old ++ code mode_codes 1 → second ≡ first ++ run_bits_in (run_codes black) (written_run (x - (right - 1))) → new ≡ second ++ run_bits_in (run_codes (not black)) (written_run (u - x)) → old ++ rest_code over row here ≡ new ++ rest_code over row (at_place (u + 1) black)
  horizontal_put old first second new h apart one two three =
      let A = written_run (x - (right - 1)) in let B = written_run (u - x) in
      let far : near over row here ≡ false = elim apart [
        | inl more ↦ far_left more
        | inr less ↦ far_right less
      ] in
      let is : chosen over row here ≡ Horizontal A B = chosen-horizontal over row here (omega (arith, x_is, z_is)) far
      ∙ ap (λ a. Horizontal (written_run (a - (right - 1))) (written_run (a2 row here - a))) x_is ∙ ap (λ b. Horizontal A (written_run (b - x))) u_is in
      let low : right ≤ x = next.ahead in
      let up : x ≤ u = up_to in
      let p = run_of_pixels (x - (right - 1)) in let q = run_of_pixels (u - x) in
      let to : (right - 1) + (pixels_of_run A + pixels_of_run B) + 1 ≡ u + 1 = omega arith in
      put_more over row here (at_place (u + 1) black) (Horizontal A B) old new wide (omega (arith, shows.long)) is (ap (λ m. at_place m black) to)
      (three ∙ ap (λ bs. bs ++ run_bits (not black) B) (two ∙ ap (λ bs. bs ++ run_bits black A) one)
      ∙ append_assoc (old ++ code mode_codes 1) (run_bits black A) (run_bits (not black) B)
      ∙ append_assoc old (code mode_codes 1) (run_bits black A ++ run_bits (not black) B))
    where
      far_left : y + 3 < x → near over row here ≡ false
      far_left more = and_left (nat_le (a1 row here) (b1 over here + 3)) (nat_le (b1 over here) (a1 row here + 3)) (lt-leb (a1 row here) (b1 over here + 3) (omega (arith, x_is, y_is)))

      far_right : x + 3 < y → near over row here ≡ false
      far_right less = and_right (nat_le (a1 row here) (b1 over here + 3)) (nat_le (b1 over here) (a1 row here + 3)) (lt-leb (b1 over here) (a1 row here + 3) (omega (arith, x_is, y_is)))

      up_to : x ≤ u
      up_to = elim (cases_lt x width) [ inl less ↦ (let k = shows.rises.rising c less in omega arith) | inr more ↦ (let at : x ≡ width = omega (arith, shows.rises.within c) in omega (arith, shows.rises.end c at)) ]
