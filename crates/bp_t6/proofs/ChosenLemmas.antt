-- The modes that the coder chooses paint the line.
use Rattle.std.proofs.Common.{ℕ, zero, suc, ◌+◌, ◌-◌, ◌*◌, ◌/◌, ◌%◌, ◌<◌, ◌≤◌, ◌≡◌, Bool, true, false, not, ◌&&◌, List, [], ◌∷◌, ◌++◌, length, drop, replicate, nat_le, nat_lt, sum, if◌then◌else◌, refl, ap, sym, ◌∙◌, subst, arith, inl, inr, add-one, append_assoc}
use Rattle.std.proofs.lemmas.Bool.{cases_Bool, cond-true, cond-false, and_parts, leb-true, leb-false, ltb-true, ltb-false, cases_order}
use Rattle.std.proofs.lemmas.List.Sums.{sum_by-cons}
use Rattle.std.proofs.lemmas.List.{drop_all}
use Rattle.bp_rows.specs.Changes.{differs}
use Rattle.bp_rows.proofs.ShownLemmas.{other_pixel, one_run}
use Rattle.bp_t6.specs.Places.{Place, leaves, a1, a2, b1, b2}
use Rattle.bp_t6.specs.Modes.{pixels_of_run, Mode, Pass, Horizontal, Vertical, AreMakeUps, HasCodes, from, place_after, painted, end_of_modes, pixels, Moves, AllMove}
use Rattle.bp_t6.specs.Written.{written_run, chosen, chosen_modes}
use Rattle.bp_t6.proofs.LeastLemmas.{prev, pix, least-end, none_before, hit, least-since, colour_stays}

-- ---- runs

all_top : (k : ℕ) → AreMakeUps (replicate k 40)
all_top zero = tt
all_top (suc k) = ((omega arith, omega arith), all_top k)

all_more : (xs ys : List ℕ) → AreMakeUps xs → AreMakeUps ys → AreMakeUps (xs ++ ys)
all_more [] ys h k = k
all_more (x ∷ xs) ys h k = (h.0, all_more xs ys h.1 k)

sum_top : (k : ℕ) (ys : List ℕ) → sum (replicate k 40 ++ ys) ≡ 40 * k + sum ys
sum_top zero ys = omega arith
sum_top (suc k) ys =
    let e : sum (replicate (suc k) 40 ++ ys) ≡ 40 + sum (replicate k 40 ++ ys) = sum_by-cons (λ (x : ℕ). x) 40 (replicate k 40 ++ ys) in
    omega (arith, sum_top k ys)

abbrev last_make_up : ℕ → List ℕ
last_make_up n = if nat_lt (n % 2560) 64 then [] else n % 2560 / 64 ∷ []

last_all : (n : ℕ) → AreMakeUps (last_make_up n)
last_all n = elim (cases_Bool (nat_lt (n % 2560) 64)) [
  | inl few ↦ subst AreMakeUps (sym (cond-true (nat_lt (n % 2560) 64) [] (n % 2560 / 64 ∷ []) few)) tt
  | inr many ↦ let more = ltb-false (n % 2560) 64 many in
      subst AreMakeUps (sym (cond-false (nat_lt (n % 2560) 64) [] (n % 2560 / 64 ∷ []) many)) ((omega arith, omega arith), tt)
]

last_sum : (n : ℕ) → 64 * sum (last_make_up n) + n % 64 ≡ n % 2560
last_sum n = elim (cases_Bool (nat_lt (n % 2560) 64)) [
  | inl few ↦ let less = ltb-true (n % 2560) 64 few in
      ap (λ xs. 64 * sum xs + n % 64) (cond-true (nat_lt (n % 2560) 64) [] (n % 2560 / 64 ∷ []) few) ∙ omega arith
  | inr many ↦ ap (λ xs. 64 * sum xs + n % 64) (cond-false (nat_lt (n % 2560) 64) [] (n % 2560 / 64 ∷ []) many) ∙ omega arith
]

pub run_of_codes : (n : ℕ) → HasCodes (written_run n)
run_of_codes n = record { make_ups = all_more (replicate (n / 2560) 40) (last_make_up n) (all_top (n / 2560)) (last_all n); rest = omega arith }

pub run_of_pixels : (n : ℕ) → pixels_of_run (written_run n) ≡ n
run_of_pixels n = omega (arith, sum_top (n / 2560) (last_make_up n), last_sum n)

-- ---- one mode

-- a mode from a place: it moves, paints what stands there, and the colour is that of the new a0
pub record Right_step (above line : List Bool) (place : Place) (mode : Mode) : Type 0 where
  pub moves : Moves above place mode
  pub paints : drop (from place) line ≡ painted place (place_after above place mode) mode ++ drop (from (place_after above place mode)) line
  pub colour : (place_after above place mode).right ≤ length line → prev line (place_after above place mode).right ≡ (place_after above place mode).black

module _ (above line : List Bool) (place : Place) (long : length above ≡ length line) (within : place.right ≤ length line) (before : prev line place.right ≡ place.black) where
  -- pixels from a0 up to a1 have a0's colour
  run_pixel : (i : ℕ) → from place ≤ i → i < a1 line place → pix line i ≡ place.black
  run_pixel i since until = elim (cases_order (suc i) place.right) [
    | inl same ↦ ap (prev line) same ∙ before
    | inr other ↦ elim other [
      | inl less ↦ absurd (omega arith)
      | inr more ↦
          ap (pix line) (omega arith)
          ∙ colour_stays line place.right (i - place.right) place.black before (λ k low high. none_before differs place.right line k low (omega arith))
    ]
  ]

  to_run : (to : ℕ) → place.right ≤ to + 1 → to ≤ a1 line place → drop (from place) line ≡ replicate (to - from place) place.black ++ drop to line
  to_run to low high =
      let last = least-end differs place.right line in
      let split : from place + (to - from place) ≡ to = omega arith in
      one_run line (from place) (to - from place) place.black (omega arith) (λ i since until. run_pixel i since (omega arith))
      ∙ ap (λ k. replicate (to - from place) place.black ++ drop k line) split

  -- the colour changes at a1
  at_a1 : a1 line place < length line → pix line (a1 line place) ≡ not place.black
  at_a1 less =
      let h = hit differs place.right line less in
      let x = a1 line place in
      let prior : prev line x ≡ place.black = elim (cases_order x place.right) [
        | inl same ↦ ap (prev line) same ∙ before
        | inr other ↦ elim other [
          | inl low ↦ absurd (omega (arith, h.0))
          | inr more ↦
              let down : x ≡ suc (x - 1) = omega arith in
              ap (prev line) down ∙ run_pixel (x - 1) (omega arith) (omega arith)
        ]
      ] in
      other_pixel (prev line x) (pix line x) h.1 ∙ ap not prior

  pass_step : b2 above place < a1 line place → Right_step above line place Pass
  pass_step less =
      let x = a1 line place in let y = b1 above place in let z = b2 above place in
      let end = least-end differs place.right line in
      let since : y + 1 ≤ z = (hit differs (y + 1) above (omega arith)).0 in
      let low : place.right ≤ y = least-since (leaves place.black) place.right above (omega arith) in
      record {
        moves = record { coded = tt; onward = omega arith; within = omega arith };
        paints = to_run z (omega arith) (omega arith) ∙ ap (λ k. replicate (k - from place) place.black ++ drop k line) (omega arith);
        colour = λ h. ap (prev line) (add-one z) ∙ run_pixel z (omega arith) less;
      }

  vertical_step : a1 line place ≤ b1 above place + 3 → b1 above place ≤ a1 line place + 3 → Right_step above line place (Vertical (a1 line place + 3 - b1 above place))
  vertical_step right left =
      let x = a1 line place in let y = b1 above place in
      let end = least-end differs place.right line in
      let low : place.right ≤ x = least-since differs place.right line within in
      let there : y + 1 + (x + 3 - y) - 3 ≡ x + 1 = omega arith in
      let back : y + 1 + (x + 3 - y) - 3 - 1 ≡ x = omega arith in
      record {
        moves = record { coded = omega arith; onward = omega arith; within = omega arith };
        paints = to_run x (omega arith) (omega arith) ∙ ap (λ k. replicate (k - from place) place.black ++ drop k line) (sym back);
        colour = λ h. ap (prev line) (there ∙ add-one x) ∙ at_a1 (omega arith);
      }

  abbrev first_run : ℕ
  first_run = a1 line place - from place

  abbrev second_run : ℕ
  second_run = a2 line place - a1 line place

  second_pixel : (i : ℕ) → a1 line place ≤ i → i < a2 line place → pix line i ≡ not place.black
  second_pixel i since until =
      let x = a1 line place in
      let end = least-end differs (x + 1) line in
      let turned : prev line (suc x) ≡ not place.black = at_a1 (omega arith) in
      elim (cases_order i x) [
        | inl same ↦ ap (pix line) same ∙ at_a1 (omega arith)
        | inr other ↦ elim other [
          | inl less ↦ absurd (omega arith)
          | inr more ↦
              ap (pix line) (omega arith)
              ∙ colour_stays line (suc x) (i - suc x) (not place.black) turned (λ k low high. none_before differs (x + 1) line k (omega arith) (omega arith))
        ]
      ]

  at_a2 : a2 line place < length line → pix line (a2 line place) ≡ place.black
  at_a2 less =
      let x = a1 line place in let z = a2 line place in
      let h = hit differs (x + 1) line less in
      let down : z ≡ suc (z - 1) = omega (arith, h.0) in
      let prior : prev line z ≡ not place.black = ap (prev line) down ∙ second_pixel (z - 1) (omega (arith, h.0)) (omega (arith, h.0)) in
      other_pixel (prev line z) (pix line z) h.1 ∙ ap not prior ∙ twice place.black
    where
      twice : (b : Bool) → not (not b) ≡ b
      twice true = refl
      twice false = refl

  horizontal_step : Right_step above line place (Horizontal (written_run first_run) (written_run second_run))
  horizontal_step =
      let x = a1 line place in let z = a2 line place in
      let low : place.right ≤ x = least-since differs place.right line within in
      let end = least-end differs place.right line in
      let far = least-end differs (x + 1) line in
      let between : x ≤ z = elim (cases_order z (length line)) [
        | inl last ↦ omega arith
        | inr other ↦ elim other [ inl less ↦ (let h = hit differs (x + 1) line less in omega (arith, h.0)) | inr past ↦ absurd (omega arith) ]
      ] in
      let one = run_of_pixels first_run in let two = run_of_pixels second_run in
      let there : from place + (pixels_of_run (written_run first_run) + pixels_of_run (written_run second_run)) + 1 ≡ z + 1 = omega arith in
      let back : from place + (pixels_of_run (written_run first_run) + pixels_of_run (written_run second_run)) + 1 - 1 ≡ z = omega arith in
      let rest : drop x line ≡ replicate second_run (not place.black) ++ drop z line =
      one_run line x second_run (not place.black) (omega arith) (λ i since until. second_pixel i since (omega arith))
      ∙ ap (λ k. replicate second_run (not place.black) ++ drop k line) (omega arith) in
      record {
        moves = record { coded = (run_of_codes first_run, run_of_codes second_run); onward = omega arith; within = omega arith };
        paints = to_run x (omega arith) (omega arith) ∙ ap (λ ps. replicate first_run place.black ++ ps) rest
            ∙ sym (append_assoc (replicate first_run place.black) (replicate second_run (not place.black)) (drop z line))
            ∙ ap (λ k. (replicate k place.black ++ replicate second_run (not place.black)) ++ drop z line) (sym one)
            ∙ ap (λ k. (replicate (pixels_of_run (written_run first_run)) place.black ++ replicate k (not place.black)) ++ drop z line) (sym two)
            ∙ ap (λ k. (replicate (pixels_of_run (written_run first_run)) place.black ++ replicate (pixels_of_run (written_run second_run)) (not place.black)) ++ drop k line) (sym back);
        colour = λ h. ap (prev line) (there ∙ add-one z) ∙ at_a2 (omega arith);
      }

-- ---- the modes of a line

chosen_step : (above line : List Bool) (place : Place) → length above ≡ length line → place.right ≤ length line → prev line place.right ≡ place.black → Right_step above line place (chosen above line place)
chosen_step above line place long within before =
    let x = a1 line place in let y = b1 above place in let z = b2 above place in
    let V = Vertical (x + 3 - y) in let H = Horizontal (written_run (x - from place)) (written_run (a2 line place - x)) in
    let near = nat_le x (y + 3) && nat_le y (x + 3) in
    let P : Mode → Type 0 = Right_step above line place in
    elim (cases_Bool (nat_lt z x)) [
      | inl pass ↦ subst P (sym (cond-true (nat_lt z x) Pass (if near then V else H) pass)) (pass_step above line place long within before (ltb-true z x pass))
      | inr far ↦ subst P (sym (cond-false (nat_lt z x) Pass (if near then V else H) far))
          (elim (cases_Bool near) [
            | inl is ↦ let both = and_parts (nat_le x (y + 3)) (nat_le y (x + 3)) is in
                subst P (sym (cond-true near V H is)) (vertical_step above line place long within before (leb-true x (y + 3) both.0) (leb-true y (x + 3) both.1))
            | inr is ↦ subst P (sym (cond-false near V H is)) (horizontal_step above line place long within before)
          ])
    ]

-- modes from a place paint the rest of the line
pub record Paint_rest (above line : List Bool) (place : Place) (modes : List Mode) : Type 0 where
  pub move : AllMove above place modes
  pub end : (end_of_modes above place modes).right ≡ length above + 1
  pub paint : drop (from place) line ≡ pixels above place modes

pub chosen_modes_paint : (most : ℕ) (above line : List Bool) (place : Place) → length above ≡ length line → length line + 1 ≤ most + place.right → place.right ≤ length line + 1 → (place.right ≤ length line → prev line place.right ≡ place.black) → Paint_rest above line place (chosen_modes most above line place)
chosen_modes_paint zero above line place long enough within before = record {
  move = tt;
  end = omega arith;
  paint = drop_all (from place) line (omega arith);
}
chosen_modes_paint (suc most) above line place long enough within before =
    let next = place_after above place (chosen above line place) in
    let more = chosen above line place ∷ chosen_modes most above line next in
    let pick : Bool → List Mode = λ b. elim b [ true ↦ more | false ↦ [] ] in
    elim (cases_Bool (nat_le place.right (length line))) [
      | inl on ↦
          let low = leb-true place.right (length line) on in
          let step = chosen_step above line place long low (before low) in
          let ih = chosen_modes_paint most above line next long (omega (arith, step.moves.onward)) (omega (arith, step.moves.within)) step.colour in
          subst (Paint_rest above line place) (sym (ap pick on)) (record {
            move = (step.moves, ih.move);
            end = ih.end;
            paint = step.paints ∙ ap (λ ps. painted place next (chosen above line place) ++ ps) ih.paint;
          })
      | inr done ↦
          let high = leb-false place.right (length line) done in
          subst (Paint_rest above line place) (sym (ap pick done)) (record {
            move = tt;
            end = omega arith;
            paint = drop_all (from place) line (omega arith);
          })
    ]
