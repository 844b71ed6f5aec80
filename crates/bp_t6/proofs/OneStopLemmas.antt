-- Lemmas on faults: carry two faults of the same bits over to one.
use Rattle.std.proofs.Common.{ℕ, ◌+◌, ◌-◌, ◌*◌, ◌<◌, ◌≤◌, ◌≡◌, Bool, not, List, [], ◌∷◌, ◌++◌, length, sum, Option, Some, Ok, Err, refl, ap, sym, ◌∙◌, subst, arith, inl, inr, ◌⊎◌, append_assoc, length-append}
use Rattle.std.specs.List.{flat_map}
use Rattle.std.proofs.lemmas.List.Sums.{sum_by-cons}
use Rattle.bp_core.specs.declared.rules.RuleKind.{RuleKind}
use Rattle.bp_core.specs.declared.rules.RuleKind.TheVariants.{T6BadPlace}
use Rattle.bp_codes.specs.declared.code.NoCode.{NoCode}
use Rattle.bp_codes.specs.Laws.{ReadsBack, IsPrefixFree}
use Rattle.bp_codes.specs.NextCode.{next_row}
use Rattle.bp_codes.specs.CodeLists.{mode_codes}
use Rattle.bp_t6.specs.Places.{Place, start}
use Rattle.bp_t6.specs.Read.{RowReads}
use Rattle.bp_t6.specs.Modes.{Run, pixels_of_run, AreMakeUps, HasCodes, code, run_codes, run_bits, Mode, Pass, Horizontal, Vertical, IsMode, mode_bits, from, place_after, AllMove, codes_of, end_of_modes}
use Rattle.bp_t6.specs.Faults.{RunFault, ModeFault, RowFault, LinesFault, stops, here, later, row_pixels, missing_code, due_codes, mode_fault}
use Rattle.bp_t6.proofs.RunCodeLemmas.{make_up}
use Rattle.bp_t6.proofs.LookLemmas.{many_pixels}
use Rattle.bp_t6.proofs.OneReadingLemmas.{same_rest, one_run, one_mode, one_row, run_rows, row_of, bits_after, mode_front, row_within, vertical_row}
use Rattle.bp_t6.proofs.OneFaultLemmas.{Backs, looked_back, two_ways, one_way, due_code, due_long, no_fault_of, free_of, horizontal_only, flat, both, no_run_fault, no_mode_fault, no_row_fault}

-- ---- a run

-- no code of a run stands here, or one that passes the room
abbrev Halt : List (List Bool) → ℕ → ℕ → List Bool → RuleKind → Type 0
Halt codes room total rest kind =
    ((why : NoCode) × (next_row codes rest ≡ Err why) × (kind ≡ missing_code why))
    ⊎ ((row : ℕ) × (next_row codes rest ≡ Ok row) × (room < total + row_pixels row) × (kind ≡ T6BadPlace))

same_why : (codes : List (List Bool)) (r : List Bool) (v w : NoCode) → next_row codes r ≡ Err v → next_row codes r ≡ Err w → v ≡ w
same_why codes r v w e f = let g = sym e ∙ f in cc

not_both : (codes : List (List Bool)) (r : List Bool) (v : NoCode) (row : ℕ) → next_row codes r ≡ Err v → next_row codes r ≡ Ok row → ⊥
not_both codes r v row e f = let g = sym e ∙ f in cc

one_halt : (codes : List (List Bool)) (room t u : ℕ) (r : List Bool) (k l : RuleKind) → Halt codes room t r k → Halt codes room u r l → k ≡ l
one_halt codes room t u r k l (inl x) (inl y) = x.2 ∙ ap missing_code (same_why codes r x.0 y.0 x.1 y.1) ∙ sym y.2
one_halt codes room t u r k l (inl x) (inr y) = absurd (not_both codes r x.0 y.0 x.1 y.1)
one_halt codes room t u r k l (inr x) (inl y) = absurd (not_both codes r y.0 x.0 y.1 x.1)
one_halt codes room t u r k l (inr x) (inr y) = x.3 ∙ sym y.3

module _ (codes : List (List Bool)) (back : ReadsBack codes) (free : IsPrefixFree codes) (rows : length codes ≡ 104) where
  halt_not_more : (room total : ℕ) (r y : List Bool) (kind : RuleKind) (m : ℕ) → 1 ≤ m → m ≤ 40 → total + 64 * m ≤ room → r ≡ make_up codes m ++ y → Halt codes room total r kind → ⊥
  halt_not_more room total r y kind m low high fits same (inl x) = two_ways codes r (make_up codes m ++ y) (63 + m) x.0 x.1 same (looked_back codes (63 + m) y back (omega arith))
  halt_not_more room total r y kind m low high fits same (inr x) =
      let is = one_way codes r (make_up codes m ++ y) x.0 (63 + m) x.1 same (looked_back codes (63 + m) y back (omega arith)) in
      omega (arith, ap row_pixels is, many_pixels (63 + m) (omega arith), x.2)

  halts : (acc room t u : ℕ) (ns ms : List ℕ) (r x : List Bool) (k l : RuleKind) → AreMakeUps ns → AreMakeUps ms → t ≡ acc + 64 * sum ns → u ≡ acc + 64 * sum ms → t ≤ room → u ≤ room
      → Halt codes room t r k → Halt codes room u x l → flat codes back free rows ns ++ r ≡ flat codes back free rows ms ++ x → (k ≡ l) × (length (flat codes back free rows ns) ≡ length (flat codes back free rows ms))
  halts acc room t u [] [] r x k l an am is_t is_u ft fu h g same = (one_halt codes room t u x k l (subst (λ (bs : List Bool). Halt codes room t bs k) same h) g, refl)
  halts acc room t u [] (m ∷ ms) r x k l an am is_t is_u ft fu h g same =
      let s = sum_by-cons (λ (v : ℕ). v) m ms in
      absurd (halt_not_more room t r (flat codes back free rows ms ++ x) k m am.0.0 am.0.1 (omega arith) (same ∙ append_assoc (make_up codes m) (flat codes back free rows ms) x) h)
  halts acc room t u (n ∷ ns) [] r x k l an am is_t is_u ft fu h g same =
      let s = sum_by-cons (λ (v : ℕ). v) n ns in
      absurd (halt_not_more room u x (flat codes back free rows ns ++ r) l n an.0.0 an.0.1 (omega arith) (sym same ∙ append_assoc (make_up codes n) (flat codes back free rows ns) r) g)
  halts acc room t u (n ∷ ns) (m ∷ ms) r x k l an am is_t is_u ft fu h g same =
      let one = both codes back free rows n m ns ms r x an.0.0 an.0.1 am.0.0 am.0.1 same in
      let s = sum_by-cons (λ (v : ℕ). v) m ms in let q = sum_by-cons (λ (v : ℕ). v) n ns in
      let rest = halts (acc + 64 * n) room t u ns ms r x k l an.1 am.1 (omega arith) (omega (arith, one.0)) ft fu h g one.1 in (
        rest.0,
        length-append (make_up codes n) (flat codes back free rows ns) ∙ ap (λ v. length (make_up codes v) + length (flat codes back free rows ns)) one.0 ∙ ap (λ v. length (make_up codes m) + v) rest.1
            ∙ sym (length-append (make_up codes m) (flat codes back free rows ms)),
      )

record HaltsAt (black : Bool) (room : ℕ) (bits : List Bool) (kind : RuleKind) (at : ℕ) : Type 0 where
  ns : List ℕ
  rest : List Bool
  are : AreMakeUps ns
  fits : 64 * sum ns ≤ room
  bits_are : bits ≡ flat_map (make_up (run_codes black)) ns ++ rest
  at_is : at ≡ length (flat_map (make_up (run_codes black)) ns)
  halt : Halt (run_codes black) room (64 * sum ns) rest kind

halts_at : {black : Bool} {room : ℕ} {bits : List Bool} {kind : RuleKind} {at : ℕ} → RunFault black room bits kind at → HaltsAt black room bits kind at
halts_at (RunFault.missing ns r why are within e) = record { ns = ns; rest = r; are = are; fits = within; bits_are = refl; at_is = refl; halt = inl (why, e, refl) }
halts_at (RunFault.passes ns r row are within e past) = record { ns = ns; rest = r; are = are; fits = within; bits_are = refl; at_is = refl; halt = inr (row, e, past, refl) }

pub one_run_fault : {black : Bool} {room : ℕ} {bits other : List Bool} {k l : RuleKind} {a b : ℕ} → Backs → RunFault black room bits k a → RunFault black room other l b → bits ≡ other → (k ≡ l) × (a ≡ b)
one_run_fault {black} {room} {bits} {other} {k} {l} backs first second same =
    let x = halts_at first in let y = halts_at second in
    let one = halts (run_codes black) (backs.runs black) (free_of backs.free black) (run_rows black) 0 room (64 * sum x.ns) (64 * sum y.ns) x.ns y.ns x.rest y.rest k l x.are y.are (omega arith) (omega arith) x.fits y.fits x.halt y.halt (sym x.bits_are ∙ same ∙ y.bits_are) in
    (one.0, x.at_is ∙ one.1 ∙ sym y.at_is)

-- ---- a mode

-- the runs of a horizontal mode are within the width
abbrev InRoom : List Bool → Place → Mode → Type 0
InRoom above place Pass = Unit {0}
InRoom above place (Horizontal p q) = from place + (pixels_of_run p + pixels_of_run q) ≤ length above
InRoom above place (Vertical n) = Unit {0}

in_room : (above : List Bool) (place : Place) (mode : Mode) → place.right ≤ length above → (place_after above place mode).right ≤ place.right → InRoom above place mode
in_room above place Pass on still = tt
in_room above place (Horizontal p q) on still = omega arith
in_room above place (Vertical n) on still = tt

data Form (above : List Bool) (place : Place) : List Bool → RuleKind → ℕ → Type 0 where
  none : (bits : List Bool) (kind : RuleKind) → mode_fault (next_row due_codes bits) ≡ Some kind → Form above place bits kind 0
  whole : (mode : Mode) (rest : List Bool) → IsMode mode → InRoom above place mode → Form above place (mode_bits place.black mode ++ rest) T6BadPlace 0
  early : (rest : List Bool) (kind : RuleKind) (at : ℕ) → RunFault place.black (length above - from place) rest kind at → Form above place (code mode_codes 1 ++ rest) kind (3 + at)
  late : (run : Run) (rest : List Bool) (kind : RuleKind) (at : ℕ) → HasCodes run → from place + pixels_of_run run ≤ length above → RunFault (not place.black) (length above - from place - pixels_of_run run) rest kind at
      → Form above place (code mode_codes 1 ++ (run_bits place.black run ++ rest)) kind (3 + length (run_bits place.black run) + at)

form_of : {above : List Bool} {place : Place} {bits : List Bool} {kind : RuleKind} {at : ℕ} → place.right ≤ length above → ModeFault above place bits kind at → Form above place bits kind at
form_of on (ModeFault.missing bits kind e) = Form.none bits kind e
form_of {above} {place} on (ModeFault.stays mode rest is still) = Form.whole mode rest is (in_room above place mode on still)
form_of on (ModeFault.passes n rest small past) = Form.whole (Vertical n) rest small tt
form_of on (ModeFault.first rest kind at fault) = Form.early rest kind at fault
form_of on (ModeFault.second run rest kind at has within fault) = Form.late run rest kind at has within fault

some_kind : (k l : RuleKind) → ◌≡◌ {A = Option RuleKind} (Some k) (Some l) → k ≡ l
some_kind k l e = cc

not_front : (bits rest : List Bool) (row : ℕ) (kind : RuleKind) → Backs → mode_fault (next_row due_codes bits) ≡ Some kind → row < 9 → bits ≡ code mode_codes row ++ rest → ⊥
not_front bits rest row kind b e low same =
    let found = ap (next_row due_codes) (same ∙ ap (λ c. c ++ rest) (sym (due_code row low))) ∙ looked_back due_codes row rest b.due (due_long row low) in
    no_fault_of row kind low (ap mode_fault (sym found) ∙ e)

whole_first : (above : List Bool) (place : Place) (mode : Mode) (r x : List Bool) (kind : RuleKind) (at : ℕ) → Backs → IsMode mode → InRoom above place mode → RunFault place.black (length above - from place) x kind at → code mode_codes 1 ++ x ≡ mode_bits place.black mode ++ r → ⊥
whole_first above place Pass r x kind at b is room fault e = omega (arith, (horizontal_only place.black Pass x r b.free is e).0)
whole_first above place (Vertical n) r x kind at b is room fault e = omega (arith, (horizontal_only place.black (Vertical n) x r b.free is e).0, (vertical_row n is).1)
whole_first above place (Horizontal p q) r x kind at b is room fault e =
    no_run_fault fault (run_bits (not place.black) q ++ r) p (b.runs place.black) b.free is.0 (omega (arith, room))
    ((horizontal_only place.black (Horizontal p q) x r b.free is e).1 ∙ append_assoc (run_bits place.black p) (run_bits (not place.black) q) r)

whole_second : (above : List Bool) (place : Place) (mode : Mode) (run : Run) (r x : List Bool) (kind : RuleKind) (at : ℕ) → Backs → IsMode mode → InRoom above place mode → HasCodes run → RunFault (not place.black) (length above - from place - pixels_of_run run) x kind at → code mode_codes 1 ++ (run_bits place.black run ++ x) ≡ mode_bits place.black mode ++ r → ⊥
whole_second above place Pass run r x kind at b is room has fault e = omega (arith, (horizontal_only place.black Pass (run_bits place.black run ++ x) r b.free is e).0)
whole_second above place (Vertical n) run r x kind at b is room has fault e = omega (arith, (horizontal_only place.black (Vertical n) (run_bits place.black run ++ x) r b.free is e).0, (vertical_row n is).1)
whole_second above place (Horizontal p q) run r x kind at b is room has fault e =
    let after_one = (horizontal_only place.black (Horizontal p q) (run_bits place.black run ++ x) r b.free is e).1 ∙ append_assoc (run_bits place.black p) (run_bits (not place.black) q) r in
    let same = one_run place.black run p x (run_bits (not place.black) q ++ r) b.free has is.0 after_one in
    no_run_fault fault r q (b.runs (not place.black)) b.free is.1 (omega (arith, ap pixels_of_run same.0, room)) same.1

first_second : (above : List Bool) (place : Place) (run : Run) (r x : List Bool) (kind : RuleKind) (at : ℕ) → Backs → HasCodes run → from place + pixels_of_run run ≤ length above → RunFault place.black (length above - from place) x kind at → code mode_codes 1 ++ x ≡ code mode_codes 1 ++ (run_bits place.black run ++ r) → ⊥
first_second above place run r x kind at b has within fault e =
    no_run_fault fault r run (b.runs place.black) b.free has (omega arith) (same_rest (code mode_codes 1) x (run_bits place.black run ++ r) e)

one_form : {above : List Bool} {place : Place} {bits other : List Bool} {k l : RuleKind} {a b : ℕ} → Backs → Form above place bits k a → Form above place other l b → bits ≡ other → (k ≡ l) × (a ≡ b)
one_form backs (Form.none bits k e) (Form.none other l f) same = (some_kind k l (sym e ∙ ap (λ bs. mode_fault (next_row due_codes bs)) same ∙ f), refl)
one_form {above} {place} backs (Form.none bits k e) (Form.whole mode rest is room) same =
    absurd (not_front bits (bits_after place.black mode ++ rest) (row_of mode) k backs e (row_within mode is) (same ∙ mode_front place.black mode rest))
one_form backs (Form.none bits k e) (Form.early rest l b fault) same = absurd (not_front bits rest 1 k backs e (omega arith) same)
one_form {above} {place} backs (Form.none bits k e) (Form.late run rest l b has within fault) same = absurd (not_front bits (run_bits place.black run ++ rest) 1 k backs e (omega arith) same)
one_form {above} {place} backs (Form.whole mode rest is room) (Form.none other l f) same =
    absurd (not_front other (bits_after place.black mode ++ rest) (row_of mode) l backs f (row_within mode is) (sym same ∙ mode_front place.black mode rest))
one_form backs (Form.whole mode rest is room) (Form.whole mode' rest' is' room') same = (refl, refl)
one_form {above} {place} backs (Form.whole mode rest is room) (Form.early x l b fault) same = absurd (whole_first above place mode rest x l b backs is room fault (sym same))
one_form {above} {place} backs (Form.whole mode rest is room) (Form.late run x l b has within fault) same = absurd (whole_second above place mode run rest x l b backs is room has fault (sym same))
one_form backs (Form.early rest k a fault) (Form.none other l f) same = absurd (not_front other rest 1 l backs f (omega arith) (sym same))
one_form {above} {place} backs (Form.early x k a fault) (Form.whole mode rest is room) same = absurd (whole_first above place mode rest x k a backs is room fault same)
one_form backs (Form.early x k a fault) (Form.early y l b other) same =
    let one = one_run_fault backs fault other (same_rest (code mode_codes 1) x y same) in (one.0, ap (λ n. 3 + n) one.1)
one_form {above} {place} backs (Form.early x k a fault) (Form.late run r l b has within other) same = absurd (first_second above place run r x k a backs has within fault same)
one_form {above} {place} backs (Form.late run r k a has within fault) (Form.none other l f) same = absurd (not_front other (run_bits place.black run ++ r) 1 l backs f (omega arith) (sym same))
one_form {above} {place} backs (Form.late run x k a has within fault) (Form.whole mode rest is room) same = absurd (whole_second above place mode run rest x k a backs is room has fault same)
one_form {above} {place} backs (Form.late run r k a has within fault) (Form.early x l b other) same = absurd (first_second above place run r x l b backs has within other (sym same))
one_form {above} {place} backs (Form.late run x k a has within fault) (Form.late run' y l b has' within' other) same =
    let runs = one_run place.black run run' x y backs.free has has' (same_rest (code mode_codes 1) (run_bits place.black run ++ x) (run_bits place.black run' ++ y) same) in
    let P : Run → Type 0 = λ r. RunFault (not place.black) (length above - from place - pixels_of_run r) y l b in
    let one = one_run_fault backs fault (subst P (sym runs.0) other) runs.1 in
    (one.0, ap (λ r. 3 + length (run_bits place.black r) + a) runs.0 ∙ ap (λ n. 3 + length (run_bits place.black run') + n) one.1)

-- ---- a row

fault_from : (above : List Bool) (place : Place) (ns ms : List Mode) (r x : List Bool) (k l : RuleKind) (a b : ℕ) → Backs → AllMove above place ns → AllMove above place ms → (end_of_modes above place ns).right ≤ length above → (end_of_modes above place ms).right ≤ length above
    → ModeFault above (end_of_modes above place ns) r k a → ModeFault above (end_of_modes above place ms) x l b → codes_of above place ns ++ r ≡ codes_of above place ms ++ x → (k ≡ l) × (length (codes_of above place ns) + a ≡ length (codes_of above place ms) + b)
fault_from above place [] [] r x k l a b backs hn hm en em fault other e =
    let one = one_form backs (form_of en fault) (form_of em other) e in (one.0, omega (arith, one.1))
fault_from above place [] (m ∷ ms) r x k l a b backs hn hm en em fault other e =
    absurd (no_mode_fault fault m (codes_of above (place_after above place m) ms ++ x) backs hm.0 (e ∙ append_assoc (mode_bits place.black m) (codes_of above (place_after above place m) ms) x))
fault_from above place (n ∷ ns) [] r x k l a b backs hn hm en em fault other e =
    absurd (no_mode_fault other n (codes_of above (place_after above place n) ns ++ r) backs hn.0 (sym e ∙ append_assoc (mode_bits place.black n) (codes_of above (place_after above place n) ns) r))
fault_from above place (n ∷ ns) (m ∷ ms) r x k l a b backs hn hm en em fault other e =
    let one = one_mode place.black n m (codes_of above (place_after above place n) ns ++ r) (codes_of above (place_after above place m) ms ++ x) backs.free hn.0.coded hm.0.coded
    (sym (append_assoc (mode_bits place.black n) (codes_of above (place_after above place n) ns) r) ∙ e ∙ append_assoc (mode_bits place.black m) (codes_of above (place_after above place m) ms) x) in
    let P : Mode → Type 0 = λ v. AllMove above (place_after above place v) ms in
    let Q : Mode → Type 0 = λ v. (end_of_modes above (place_after above place v) ms).right ≤ length above in
    let R : Mode → Type 0 = λ v. ModeFault above (end_of_modes above (place_after above place v) ms) x l b in
    let rest = fault_from above (place_after above place n) ns ms r x k l a b backs hn.1 (subst P (sym one.0) hm.1) en (subst Q (sym one.0) em) fault (subst R (sym one.0) other)
    (one.1 ∙ ap (λ v. codes_of above (place_after above place v) ms ++ x) (sym one.0)) in
    let left = length-append (mode_bits place.black n) (codes_of above (place_after above place n) ns) in
    let right = length-append (mode_bits place.black m) (codes_of above (place_after above place m) ms) in
    let front = ap (λ v. length (mode_bits place.black v)) one.0 in
    let back = ap (λ v. length (codes_of above (place_after above place v) ms)) one.0 in
    (rest.0, omega (arith, rest.1, left, right, front, back))

one_row_fault : {above bits other : List Bool} {k l : RuleKind} {a b : ℕ} → Backs → RowFault above bits k a → RowFault above other l b → bits ≡ other → (k ≡ l) × (a ≡ b)
one_row_fault {above} backs (stops ns r k a hn en fault) (stops ms x l b hm em other) same = fault_from above start ns ms r x k l a b backs hn hm en em fault other same

-- ---- the lines

pub one_fault : {above over bits other : List Bool} {left more : ℕ} {k l : RuleKind} {r s a b : ℕ} → Backs → LinesFault above bits left k r a → LinesFault over other more l s b → above ≡ over → bits ≡ other → (k ≡ l) × (r ≡ s) × (a ≡ b)
one_fault backs (here above bits left k a some fault) (here over other more l b some' fault') e f =
    let one = one_row_fault backs fault (subst (λ (o : List Bool). RowFault o other l b) (sym e) fault') f in (one.0, refl, one.1)
one_fault backs (here above bits left k a some fault) (later over line other rest more l s b reads fault') e f =
    absurd (no_row_fault fault line rest backs (subst (λ (o : List Bool). RowReads o bits line rest) (sym e) (subst (λ (bs : List Bool). RowReads over bs line rest) (sym f) reads)))
one_fault backs (later above line bits rest left k r a reads fault) (here over other more l b some' fault') e f =
    absurd (no_row_fault fault' line rest backs (subst (λ (o : List Bool). RowReads o other line rest) e (subst (λ (bs : List Bool). RowReads above bs line rest) f reads)))
one_fault backs (later above line bits rest left k r a reads fault) (later over line' other rest' more l s b reads' fault') e f =
    let one = one_row above bits line line' rest rest' backs.free reads (subst (λ (o : List Bool). RowReads o bits line' rest') (sym e) (subst (λ (bs : List Bool). RowReads over bs line' rest') (sym f) reads')) in
    let next = one_fault backs fault fault' one.0 one.1 in
    (next.0, ap (λ n. n + 1) next.1, omega (arith, ap length f, ap length one.1, next.2))
