-- Lemmas on canonical modes: carry them over to the modes that the coder chooses for the line that they paint.
use Rattle.std.proofs.Common.{ℕ, zero, suc, ◌+◌, ◌-◌, ◌<◌, ◌≤◌, ◌≡◌, Bool, true, false, not, ◌&&◌, List, [], ◌∷◌, ◌++◌, length, get_or, drop, replicate, nat_le, refl, ap, sym, ◌∙◌, subst, arith, inl, inr, add-one, append_assoc}
use Rattle.std.proofs.lemmas.Bool.{cases_lt, cases_order, both_ways, and_left, and_right, lt-leb}
use Rattle.std.proofs.lemmas.List.{length-append, length-replicate, get_or_append_left, get_or-append_right, get_or-replicate, get_or-drop, drop_at, drop-drop}
use Rattle.bp_rows.specs.Changes.{differs, Shows}
use Rattle.bp_t6.specs.declared.reading.Under.{Under}
use Rattle.bp_t6.specs.Places.{Place, start, least, a1, a2, b1, b2}
use Rattle.bp_t6.specs.Modes.{Run, Mode, Pass, Horizontal, Vertical, pixels_of_run, from, place_after, painted, codes_of, end_of_modes, pixels, Moves, AllMove}
use Rattle.bp_t6.specs.Written.{written_run, chosen, chosen_modes, row_code}
use Rattle.bp_t6.specs.Canonical.{AreCanonicalRuns, IsCanonical, AreCanonical, RowIsCoded}
use Rattle.bp_t6.specs.Reading.{place_under, ModesRead}
use Rattle.bp_t6.proofs.LeastLemmas.{prev, pix, is_least, hit, least-end}
use Rattle.bp_t6.proofs.PlaceLemmas.{same_differs, not_differs}
use Rattle.bp_t6.proofs.ChosenLemmas.{Paint_rest}
use Rattle.bp_t6.proofs.CodingLemmas.{near, chosen-pass, chosen-vertical, chosen-horizontal, on_more, at_end}

prev_is : (line : List Bool) (i : ℕ) → 0 < i → prev line i ≡ pix line (i - 1)
prev_is line zero some = absurd (omega arith)
prev_is line (suc i) some = ap (pix line) (omega arith)

twice : (b : Bool) → b ≡ not (not b)
twice true = refl
twice false = refl

-- ---- where the colour changes

module _ (line : List Bool) (place : Place) (before : prev line place.right ≡ place.black) where
  -- the pixel before a place, where those since a0 have a0's colour
  prior : (x i : ℕ) → ((j : ℕ) → from place ≤ j → j < x → pix line j ≡ place.black) → place.right ≤ i → i ≤ x → prev line i ≡ place.black
  prior x i same since until = elim (cases_order i place.right) [
    | inl here ↦ ap (prev line) here ∙ before
    | inr other ↦ elim other [
      | inl less ↦ absurd (omega arith)
      | inr more ↦ prev_is line i (omega arith) ∙ same (i - 1) (omega arith) (omega arith)
    ]
  ]

  a1_at : (x : ℕ) → place.right ≤ x → x ≤ length line → ((j : ℕ) → from place ≤ j → j < x → pix line j ≡ place.black) → (x < length line → pix line x ≡ not place.black) → a1 line place ≡ x
  a1_at x low high same turned =
      is_least differs place.right line x high
      (λ i since until. same_differs (prev line i) (pix line i) (prior x i same since (omega arith) ∙ sym (same i (omega arith) until)))
      (λ less. (low, not_differs place.black (prev line x) (pix line x) (prior x x same low (omega arith)) (turned less)))

  -- where all pixels up to one have a0's colour, a1 is right of it
  a1_past : (z : ℕ) → z < length line → ((j : ℕ) → from place ≤ j → j < z + 1 → pix line j ≡ place.black) → z < a1 line place
  a1_past z within same = elim (cases_lt z (a1 line place)) [
    | inl more ↦ more
    | inr less ↦
        let x = a1 line place in
        let h = hit differs place.right line (omega arith) in
        let low : place.right ≤ x = h.0 in
        let none : differs (prev line x) (pix line x) ≡ false = same_differs (prev line x) (pix line x) (prior (z + 1) x same low (omega arith) ∙ sym (same x (omega arith) (omega arith))) in
        absurd (both_ways (differs (prev line x) (pix line x)) none h.1)
  ]

  a2_at : (x y : ℕ) → a1 line place ≡ x → y ≤ length line → (y < length line → x < y) → ((j : ℕ) → x ≤ j → j < y → pix line j ≡ not place.black) → (y < length line → pix line y ≡ place.black) → a2 line place ≡ y
  a2_at x y is high more same turned =
      ap (λ n. least_from (n + 1)) is
      ∙ is_least differs (x + 1) line y high
      (λ i since until. same_differs (prev line i) (pix line i) (prev_is line i (omega arith) ∙ same (i - 1) (omega arith) (omega arith) ∙ sym (same i (omega arith) until)))
      (λ less. (let m = more less in omega arith, (let m = more less in not_differs (not place.black) (prev line y) (pix line y) (prev_is line y (omega arith) ∙ same (y - 1) (omega arith) (omega arith)) (turned less ∙ twice place.black))))
    where
      least_from : ℕ → ℕ
      least_from n = least differs n line

-- ---- what modes paint

first_of : (n : ℕ) (c : Bool) (rest : List Bool) → 0 < n → get_or (replicate n c ++ rest) 0 false ≡ c
first_of zero c rest some = absurd (omega arith)
first_of (suc n) c rest some = refl

run_at : (n i : ℕ) (c : Bool) (rest : List Bool) → i < n → get_or (replicate n c ++ rest) i false ≡ c
run_at n i c rest h = get_or_append_left (replicate n c) rest false i (omega (arith, length-replicate n c)) ∙ get_or-replicate n i c false h

pixel_of : (line px : List Bool) (at i : ℕ) → drop at line ≡ px → at ≤ i → pix line i ≡ get_or px (i - at) false
pixel_of line px at i is since =
    let there : at + (i - at) ≡ i = omega arith in
    ap (pix line) (sym there) ∙ sym (get_or-drop at line (i - at) false) ∙ ap (λ ps. get_or ps (i - at) false) is

-- a0 at the start is white
abbrev IsPlace : Place → Type 0
IsPlace place = place.right ≡ 0 → place.black ≡ false

module _ (above line : List Bool) (long : length above ≡ length line) where
  -- the first pixel that modes paint has the colour of a0
  first_pixel : (modes : List Mode) (place : Place) → Paint_rest above line place modes → AreCanonical above place modes → 0 < place.right → place.right ≤ length line → get_or (pixels above place modes) 0 false ≡ place.black
  first_pixel [] place rest fine some on = absurd (omega (arith, rest.end, long))
  first_pixel (Pass ∷ modes) place rest fine some on =
      let next = place_after above place Pass in first_of (from next - from place) place.black (pixels above next modes) (omega (arith, rest.move.0.onward))
  first_pixel (Vertical n ∷ modes) place rest fine some on =
      let next = place_after above place (Vertical n) in first_of (from next - from place) place.black (pixels above next modes) (omega (arith, rest.move.0.onward))
  first_pixel (Horizontal p q ∷ modes) place rest fine some on =
      let next = place_after above place (Horizontal p q) in
      ap (λ ps. get_or ps 0 false) (append_assoc (replicate (pixels_of_run p) place.black) (replicate (pixels_of_run q) (not place.black)) (pixels above next modes))
      ∙ first_of (pixels_of_run p) place.black (replicate (pixels_of_run q) (not place.black) ++ pixels above next modes) (fine.0.begins some)

  colour_before : (modes : List Mode) (place : Place) → Paint_rest above line place modes → AreCanonical above place modes → IsPlace place → place.right ≤ length line → prev line place.right ≡ place.black
  colour_before modes place rest fine white on = elim (cases_lt 0 place.right) [
    | inl some ↦
        let none : place.right - 1 - from place ≡ 0 = omega arith in
        prev_is line place.right some ∙ pixel_of line (pixels above place modes) (from place) (place.right - 1) rest.paint (omega arith)
        ∙ ap (λ i. get_or (pixels above place modes) i false) none ∙ first_pixel modes place rest fine some on
    | inr none ↦ (let zero : place.right ≡ 0 = omega arith in ap (prev line) zero ∙ sym (white zero))
  ]

  -- what is left after the first mode
  painted_long : (place : Place) (mode : Mode) → Moves above place mode → length (painted place (place_after above place mode) mode) ≡ from (place_after above place mode) - from place
  painted_long place Pass moves = length-replicate (from (place_after above place Pass) - from place) place.black
  painted_long place (Vertical n) moves = length-replicate (from (place_after above place (Vertical n)) - from place) place.black
  painted_long place (Horizontal p q) moves =
      length-append (replicate (pixels_of_run p) place.black) (replicate (pixels_of_run q) (not place.black))
      ∙ omega (arith, length-replicate (pixels_of_run p) place.black, length-replicate (pixels_of_run q) (not place.black))

  rest_after : (mode : Mode) (modes : List Mode) (place : Place) → Paint_rest above line place (mode ∷ modes) → Paint_rest above line (place_after above place mode) modes
  rest_after mode modes place rest =
      let next = place_after above place mode in
      let step = from next - from place in
      let moves = rest.move.0 in
      let there : from place + step ≡ from next = omega (arith, moves.onward) in
      record {
        move = rest.move.1;
        end = rest.end;
        paint = ap (λ k. drop k line) (sym there) ∙ sym (drop-drop step (from place) line) ∙ ap (drop step) rest.paint
            ∙ drop_at (painted place next mode) (pixels above next modes) step (painted_long place mode moves);
      }

  -- ---- one mode

  module _ (place : Place) (modes : List Mode) (white : IsPlace place) where
    -- the colour from the new a0 on
    turned : (mode : Mode) → Paint_rest above line place (mode ∷ modes) → AreCanonical above place (mode ∷ modes) → (place_after above place mode).right ≤ length line → prev line (place_after above place mode).right ≡ (place_after above place mode).black
    turned mode rest fine on = colour_before modes (place_after above place mode) (rest_after mode modes place rest) fine.1 (λ e. absurd (omega (arith, rest.move.0.onward))) on

    run_pixels : (n to : ℕ) (more : List Bool) → drop (from place) line ≡ replicate n place.black ++ more → n ≡ to - from place → (j : ℕ) → from place ≤ j → j < to → pix line j ≡ place.black
    run_pixels n to more is count j since until =
        pixel_of line (replicate n place.black ++ more) (from place) j is since ∙ run_at n (j - from place) place.black more (omega arith)

    pass_chosen : Paint_rest above line place (Pass ∷ modes) → AreCanonical above place (Pass ∷ modes) → prev line place.right ≡ place.black → chosen above line place ≡ Pass
    pass_chosen rest fine before =
        let z = b2 above place in let next = place_after above place Pass in
        let inside : z < length line = omega (arith, fine.0, long) in
        let last : pix line z ≡ place.black = ap (prev line) (sym (add-one z)) ∙ turned Pass rest fine (omega arith) in
        chosen-pass above line place (a1_past line place before z inside (λ j since until. elim (cases_order j z) [
          | inl here ↦ ap (pix line) here ∙ last
          | inr other ↦ elim other [
            | inl less ↦ run_pixels (from next - from place) z (pixels above next modes) rest.paint (omega arith) j since less
            | inr more ↦ absurd (omega arith)
          ]
        ]))

    vertical_chosen : (n : ℕ) → Paint_rest above line place (Vertical n ∷ modes) → AreCanonical above place (Vertical n ∷ modes) → prev line place.right ≡ place.black → chosen above line place ≡ Vertical n
    vertical_chosen n rest fine before =
        let next = place_after above place (Vertical n) in let x = from next in let y = b1 above place in
        let moves = rest.move.0 in
        let right : next.right ≡ x + 1 = omega (arith, moves.onward) in
        let is : a1 line place ≡ x = a1_at line place before x (omega (arith, moves.onward)) (omega (arith, moves.within, long))
        (run_pixels (x - from place) x (pixels above next modes) rest.paint refl)
        (λ less. ap (prev line) (sym (right ∙ add-one x)) ∙ turned (Vertical n) rest fine (omega arith)) in
        let shift : a1 line place + 3 - y ≡ n = omega (arith, is, moves.onward) in
        chosen-vertical above line place (omega (arith, is, fine.0, moves.onward)) (omega (arith, is, moves.coded, moves.onward)) (omega (arith, is, moves.onward)) ∙ ap Vertical shift

    horizontal_chosen : (p q : Run) → Paint_rest above line place (Horizontal p q ∷ modes) → AreCanonical above place (Horizontal p q ∷ modes) → prev line place.right ≡ place.black → chosen above line place ≡ Horizontal p q
    horizontal_chosen p q rest fine before =
        let mode = Horizontal p q in let next = place_after above place mode in
        let moves = rest.move.0 in let runs = fine.0 in
        let m = pixels_of_run p in let n = pixels_of_run q in
        let x = from place + m in let y = x + n in
        let low : place.right ≤ x = elim (cases_lt 0 place.right) [ inl some ↦ omega (arith, runs.begins some) | inr none ↦ omega arith ] in
        let black = place.black in
        let more = replicate n (not black) ++ pixels above next modes in
        let paint : drop (from place) line ≡ replicate m black ++ more = rest.paint ∙ append_assoc (replicate m black) (replicate n (not black)) (pixels above next modes) in
        let second : (j : ℕ) → x ≤ j → j < y → pix line j ≡ not black = λ j since until.
        pixel_of line (replicate m black ++ more) (from place) j paint (omega arith)
        ∙ get_or-append_right (replicate m black) more m (j - from place) false (length-replicate m black) (omega arith)
        ∙ run_at n (j - from place - m) (not black) (pixels above next modes) (omega arith) in
        let one : a1 line place ≡ x = a1_at line place before x low (omega (arith, moves.within, long))
        (run_pixels m x more paint (omega arith))
        (λ less. second x (omega arith) (let some = runs.goes_on (omega (arith, long)) in omega arith)) in
        let two : a2 line place ≡ y = a2_at line place before x y one (omega (arith, moves.within, long))
        (λ less. let some = runs.goes_on (omega (arith, long)) in omega arith) second
        (λ less. ap (prev line) (let right : suc y ≡ next.right = omega arith in right) ∙ turned mode rest fine (omega arith)) in
        let first_is : a1 line place - from place ≡ m = omega (arith, one) in
        let second_is : a2 line place - a1 line place ≡ n = omega (arith, one, two) in
        chosen-horizontal above line place (omega (arith, one, runs.no_pass)) (apart one)
        ∙ ap (λ k. Horizontal (written_run k) (written_run (a2 line place - a1 line place))) first_is
        ∙ ap (λ k. Horizontal (written_run m) (written_run k)) second_is
        ∙ ap (λ r. Horizontal r (written_run n)) (sym runs.first_coded)
        ∙ ap (λ r. Horizontal p r) (sym runs.second_coded)
      where
        apart : a1 line place ≡ from place + pixels_of_run p → near above line place ≡ false
        apart is = elim fine.0.far [
          | inl more ↦ and_left (nat_le (a1 line place) (b1 above place + 3)) (nat_le (b1 above place) (a1 line place + 3)) (lt-leb (a1 line place) (b1 above place + 3) (omega (arith, is)))
          | inr less ↦ and_right (nat_le (a1 line place) (b1 above place + 3)) (nat_le (b1 above place) (a1 line place + 3)) (lt-leb (b1 above place) (a1 line place + 3) (omega (arith, is)))
        ]

    mode_chosen : (mode : Mode) → Paint_rest above line place (mode ∷ modes) → AreCanonical above place (mode ∷ modes) → prev line place.right ≡ place.black → chosen above line place ≡ mode
    mode_chosen Pass rest fine before = pass_chosen rest fine before
    mode_chosen (Vertical n) rest fine before = vertical_chosen n rest fine before
    mode_chosen (Horizontal p q) rest fine before = horizontal_chosen p q rest fine before

  -- ---- the modes of a line

  pub modes_chosen : (modes : List Mode) (place : Place) (most : ℕ) → Paint_rest above line place modes → AreCanonical above place modes → IsPlace place → length line + 1 ≤ most + place.right → chosen_modes most above line place ≡ modes
  modes_chosen [] place most rest fine white enough = at_end most above line place (omega (arith, rest.end, long))
  modes_chosen (mode ∷ modes) place zero rest fine white enough = absurd (omega (arith, rest.move.0.onward, rest.move.0.within, long))
  modes_chosen (mode ∷ modes) place (suc most) rest fine white enough =
      let next = place_after above place mode in
      let moves = rest.move.0 in
      let on : place.right ≤ length line = omega (arith, moves.onward, moves.within, long) in
      let is = mode_chosen place modes white mode rest fine (colour_before (mode ∷ modes) place rest fine white on) in
      on_more most above line place on
      ∙ ap (λ m. m ∷ chosen_modes most above line (place_after above place m)) is
      ∙ ap (λ ms. mode ∷ ms) (modes_chosen modes next most (rest_after mode modes place rest) fine.1 (λ e. absurd (omega (arith, moves.onward))) (omega (arith, moves.onward)))

-- ---- a row

-- canonical modes up to the end of a row are its code
pub canonical_end : (over bits : List Bool) (first width : ℕ) (above line : List ℕ) (u : Under) → Shows above width over → ModesRead over bits first line u → u.canonical ≡ true → u.right ≡ width + 1 → RowIsCoded over bits first u.at width line
canonical_end over bits first width above line u shows_over so fine last =
    let all : u.right - 1 ≡ width = omega arith in
    let row = pixels over start so.modes in
    let shows = subst (λ (n : ℕ). Shows line n row) all so.shows in
    let rest : Paint_rest over row start so.modes = record {
      move = so.move;
      end = ap (λ (q : Place). q.right) so.there ∙ last ∙ omega (arith, shows_over.long);
      paint = refl;
    } in
    record {
      row = row;
      code = so.reads ∙ ap (λ ms. codes_of over start ms ++ drop u.at bits)
          (sym (modes_chosen over row (shows_over.long ∙ sym shows.long) so.modes start (length row + 1) rest (so.chosen fine) (λ e. refl) (omega arith)));
      shows = shows;
    }
