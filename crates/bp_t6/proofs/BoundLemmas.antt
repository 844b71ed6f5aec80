-- How long codes are.
use Rattle.std.proofs.Common.{ℕ, zero, suc, ◌+◌, ◌-◌, ◌*◌, ◌^◌, ◌<◌, ◌≤◌, mul-le-mul, ◌≡◌, Bool, true, false, not, List, [], ◌∷◌, ◌++◌, length, get_or, sum, nat_le, refl, ap, sym, ◌∙◌, subst, arith, length-append}
use Rattle.std.specs.List.{flat_map}
use Rattle.std.proofs.lemmas.Bool.{and_parts, leb-true}
use Rattle.std.proofs.lemmas.List.{length-replicate}
use Rattle.std.proofs.lemmas.List.Sums.{sum_by-cons}
use Rattle.bp_codes.specs.CodeLists.{mode_codes}
use Rattle.bp_rows.specs.Image.{Image, IsPage}
use Rattle.bp_rows.proofs.PackedLemmas.{length-packed_row}
use Rattle.bp_rows.proofs.PageLemmas.{sides_bound}
use Rattle.bp_t6.specs.Places.{Place, start}
use Rattle.bp_t6.specs.Modes.{Run, pixels_of_run, Mode, Pass, Horizontal, Vertical, AreMakeUps, HasCodes, code, run_codes, run_bits, mode_bits, vertical_rows, place_after, codes_of, end_of_modes, Moves, AllMove}
use Rattle.bp_t6.specs.Written.{chosen_modes, row_code, lines_code, white_line, strip_bits, bits_strip}
use Rattle.bp_t6.specs.Gathered.{AreShort}
use Rattle.bp_t6.proofs.CodeLemmas.{run_codes_short, mode_codes_short}
use Rattle.bp_t6.proofs.ChosenLemmas.{chosen_modes_paint}
use Rattle.bp_t6.proofs.RunCodeLemmas.{make_up}
use Rattle.bp_t6.proofs.LawLemmas.{AreWide}

short_at : (codes : List (List Bool)) (i : ℕ) → AreShort codes ≡ true → length (code codes i) ≤ 13
short_at [] i h = omega arith
short_at (c ∷ codes) zero h = leb-true (length c) 13 (and_parts (nat_le (length c) 13) (AreShort codes) h).0
short_at (c ∷ codes) (suc i) h = short_at codes i (and_parts (nat_le (length c) 13) (AreShort codes) h).1

make_ups_bound : (codes : List (List Bool)) (ns : List ℕ) → AreShort codes ≡ true → AreMakeUps ns → length (flat_map (make_up codes) ns) ≤ 64 * sum ns
make_ups_bound codes [] short are = omega arith
make_ups_bound codes (n ∷ ns) short are =
    let total = sum_by-cons (λ (x : ℕ). x) n ns in
    omega (arith, length-append (make_up codes n) (flat_map (make_up codes) ns), short_at codes (63 + n) short, make_ups_bound codes ns short are.1, are.0.0)

run_bound : (black : Bool) (run : Run) → HasCodes run → length (run_bits black run) ≤ pixels_of_run run + 13
run_bound black run has =
    omega (arith, length-append (flat_map (make_up (run_codes black)) run.make_ups) (code (run_codes black) run.rest), make_ups_bound (run_codes black) run.make_ups (run_codes_short black) has.make_ups, short_at (run_codes black) run.rest (run_codes_short black))

mode_bound : (above : List Bool) (place : Place) (mode : Mode) → Moves above place mode → length (mode_bits place.black mode) ≤ 64 * ((place_after above place mode).right - place.right)
mode_bound above place Pass moves = omega (arith, short_at mode_codes 0 mode_codes_short, moves.onward)
mode_bound above place (Vertical n) moves = omega (arith, short_at mode_codes (get_or vertical_rows n 0) mode_codes_short, moves.onward)
mode_bound above place (Horizontal first second) moves =
    let one = length-append (code mode_codes 1) (run_bits place.black first ++ run_bits (not place.black) second) in
    let two = length-append (run_bits place.black first) (run_bits (not place.black) second) in
    omega (arith, one, two, short_at mode_codes 1 mode_codes_short, run_bound place.black first moves.coded.0, run_bound (not place.black) second moves.coded.1, moves.onward)

end_right : (above : List Bool) (place : Place) (modes : List Mode) → AllMove above place modes → place.right ≤ (end_of_modes above place modes).right
end_right above place [] move = omega arith
end_right above place (mode ∷ modes) move = omega (arith, move.0.onward, end_right above (place_after above place mode) modes move.1)

pub codes_bound : (above : List Bool) (place : Place) (modes : List Mode) → AllMove above place modes → length (codes_of above place modes) ≤ 64 * ((end_of_modes above place modes).right - place.right)
codes_bound above place [] move = omega arith
codes_bound above place (mode ∷ modes) move =
    let next = place_after above place mode in
    omega (arith, length-append (mode_bits place.black mode) (codes_of above next modes), mode_bound above place mode move.0, codes_bound above next modes move.1, move.0.onward, end_right above next modes move.1)

pub row_bound : (above line : List Bool) → length above ≡ length line → length (row_code above line) ≤ 64 * (length line + 1)
row_bound above line long =
    let all = chosen_modes_paint (length line + 1) above line start long (omega arith) (omega arith) (λ h. refl) in
    omega (arith, codes_bound above start (chosen_modes (length line + 1) above line start) all.move, all.end)

lines_bound : (width : ℕ) (above : List Bool) (lines : List (List Bool)) → length above ≡ width → AreWide width lines → length (lines_code above lines) ≤ 64 * ((width + 1) * length lines) + 24
lines_bound width above [] long wide = omega arith
lines_bound width above (line ∷ lines) long wide =
    let here : length line ≡ width = wide 0 (omega arith) in
    let row = row_bound above line (long ∙ sym here) in
    let rest = lines_bound width line lines here (λ i h. wide (suc i) (omega arith)) in
    omega (arith, length-append (row_code above line) (lines_code line lines))

pub strip_bound : (p : Image) → IsPage p → length (bits_strip p) ≤ 8 * (p.width + 1) * p.height + 4
strip_bound p page =
    let bits = lines_bound p.width (white_line p.width) p.rows (length-replicate p.width false) (λ i h. page.grid.across i (subst (λ (n : ℕ). i < n) page.grid.down h)) in
    let count : (p.width + 1) * length p.rows ≡ (p.width + 1) * p.height = ap (λ n. (p.width + 1) * n) page.grid.down in
    omega (arith, length-packed_row (strip_bits p))

-- a strip's length fits 32 bits
pub strip_fits : (p : Image) → IsPage p → length (bits_strip p) < 2 ^ 32
strip_fits p page =
    let sides = sides_bound p.width p.height page.sides in
    let wide : p.width + 1 ≤ 20001 = omega (arith, sides.0) in
    let product : (p.width + 1) * p.height ≤ 20001 * 20032 = mul-le-mul wide sides.1 in
    omega (arith, strip_bound p page, product)
