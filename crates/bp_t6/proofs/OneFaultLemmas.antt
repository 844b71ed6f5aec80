-- Lemmas on what is read: carry a reading over to the absence of faults.
use Rattle.std.proofs.Common.{ℕ, zero, suc, ◌+◌, ◌-◌, ◌*◌, ◌<◌, ◌≤◌, ◌≡◌, Bool, true, false, List, [], ◌∷◌, ◌++◌, length, map, sum, slice_get, Some, None, Ok, Err, not, eqb, if◌then◌else◌, refl, ap, sym, ◌∙◌, subst, arith, append_assoc}
use Rattle.std.specs.List.{flat_map}
use Rattle.std.proofs.lemmas.List.Sums.{sum_by-cons}
use Rattle.bp_core.specs.declared.rules.RuleKind.{RuleKind}
use Rattle.bp_codes.specs.declared.code.NoCode.{NoCode}
use Rattle.bp_codes.specs.Bits.{code_of_bits}
use Rattle.bp_codes.specs.Laws.{ReadsBack, IsPrefixFree}
use Rattle.bp_codes.specs.NextCode.{next_row}
use Rattle.bp_codes.specs.CodeLists.{mode_codes, extension_code, end_of_block}
use Rattle.bp_core.specs.declared.rules.RuleKind.TheVariants.{T6EarlyEnd, T6Extension}
use Rattle.std.proofs.lemmas.Bool.{cond-false, ne_eqb}
use Rattle.std.proofs.lemmas.List.{get_or_append_left, length-append}
use Rattle.bp_t6.specs.Places.{Place, start}
use Rattle.bp_t6.specs.Read.{RowReads, LinesRead}
use Rattle.bp_t6.specs.Modes.{Run, pixels_of_run, AreMakeUps, HasCodes, code, run_codes, run_bits, Mode, Pass, Horizontal, Vertical, IsMode, mode_bits, from, place_after, Moves, AllMove, codes_of, end_of_modes}
use Rattle.bp_t6.specs.Faults.{RunFault, ModeFault, RowFault, LinesFault, stops, here, later, row_pixels, due_codes, mode_fault}
use Rattle.bp_t6.proofs.CodeLemmas.{low_bits-number_of}
use Rattle.bp_t6.proofs.RunCodeLemmas.{make_up}
use Rattle.bp_t6.proofs.LookLemmas.{few_pixels, many_pixels}
use Rattle.bp_t6.proofs.OneReadingLemmas.{AreFree, one_code, one_run, one_mode, one_row, run_rows, mode_rows, row_of, bits_after, mode_front, vertical_row, row_within}

code_kept : (codes : List (List Bool)) (row : ℕ) → row < length codes → slice_get (map code_of_bits codes) row ≡ Some (code_of_bits (code codes row))
code_kept [] row h = absurd (omega arith)
code_kept (c ∷ codes) zero h = refl
code_kept (c ∷ codes) (suc row) h = code_kept codes row (omega arith)

-- the code of a row is looked up as that row
pub looked_back : (codes : List (List Bool)) (row : ℕ) (x : List Bool) → ReadsBack codes → row < length codes → next_row codes (code codes row ++ x) ≡ Ok row
looked_back codes row x back h =
    ap (λ bs. next_row codes (bs ++ x)) (sym (low_bits-number_of (code codes row)))
    ∙ back row (code_of_bits (code codes row)) [] x (code_kept codes row h)

pub two_ways : (codes : List (List Bool)) (bits other : List Bool) (row : ℕ) (why : NoCode) → next_row codes bits ≡ Err why → bits ≡ other → next_row codes other ≡ Ok row → ⊥
two_ways codes bits other row why e same f = let g = sym e ∙ ap (next_row codes) same ∙ f in cc

pub one_way : (codes : List (List Bool)) (bits other : List Bool) (row k : ℕ) → next_row codes bits ≡ Ok row → bits ≡ other → next_row codes other ≡ Ok k → row ≡ k
one_way codes bits other row k e same f = let g = sym e ∙ ap (next_row codes) same ∙ f in cc

module _ (codes : List (List Bool)) (back : ReadsBack codes) (free : IsPrefixFree codes) (rows : length codes ≡ 104) where
  abbrev pub flat : List ℕ → List Bool
  flat ns = flat_map (make_up codes) ns

  apart : (n i : ℕ) (ns : List ℕ) (r x : List Bool) → 1 ≤ n → n ≤ 40 → i < 64 → flat (n ∷ ns) ++ r ≡ code codes i ++ x → ⊥
  apart n i ns r x low high short e =
      let one = one_code codes (63 + n) i (flat ns ++ r) x free (omega arith) (omega arith) (sym (append_assoc (make_up codes n) (flat ns) r) ∙ e) in
      omega (arith, one.0)

  pub both : (n m : ℕ) (ns ms : List ℕ) (r y : List Bool) → 1 ≤ n → n ≤ 40 → 1 ≤ m → m ≤ 40 → flat (n ∷ ns) ++ r ≡ flat (m ∷ ms) ++ y → (n ≡ m) × (flat ns ++ r ≡ flat ms ++ y)
  both n m ns ms r y l1 h1 l2 h2 e =
      let one = one_code codes (63 + n) (63 + m) (flat ns ++ r) (flat ms ++ y) free (omega arith) (omega arith)
      (sym (append_assoc (make_up codes n) (flat ns) r) ∙ e ∙ append_assoc (make_up codes m) (flat ms) y) in
      (omega (arith, one.0), one.1)

  pub missing_not : (ns ms : List ℕ) (r x : List Bool) (why : NoCode) (i : ℕ) → AreMakeUps ns → AreMakeUps ms → i < 64 → next_row codes r ≡ Err why → flat ns ++ r ≡ flat ms ++ (code codes i ++ x) → ⊥
  missing_not [] [] r x why i an am short e same = two_ways codes r (code codes i ++ x) i why e same (looked_back codes i x back (omega arith))
  missing_not [] (m ∷ ms) r x why i an am short e same =
      two_ways codes r (make_up codes m ++ (flat ms ++ (code codes i ++ x))) (63 + m) why e (same ∙ append_assoc (make_up codes m) (flat ms) (code codes i ++ x)) (looked_back codes (63 + m) (flat ms ++ (code codes i ++ x)) back (omega (arith, am.0)))
  missing_not (n ∷ ns) [] r x why i an am short e same = apart n i ns r x an.0.0 an.0.1 short same
  missing_not (n ∷ ns) (m ∷ ms) r x why i an am short e same =
      missing_not ns ms r x why i an.1 am.1 short e (both n m ns ms r (code codes i ++ x) an.0.0 an.0.1 am.0.0 am.0.1 same).1

  pub passes_not : (acc room : ℕ) (ns ms : List ℕ) (r x : List Bool) (row i : ℕ) → AreMakeUps ns → AreMakeUps ms → i < 64 → next_row codes r ≡ Ok row → room < acc + 64 * sum ns + row_pixels row → acc + 64 * sum ms + i ≤ room → flat ns ++ r ≡ flat ms ++ (code codes i ++ x) → ⊥
  passes_not acc room [] [] r x row i an am short e past fits same =
      let is = one_way codes r (code codes i ++ x) row i e same (looked_back codes i x back (omega arith)) in
      omega (arith, ap row_pixels is, few_pixels i short)
  passes_not acc room [] (m ∷ ms) r x row i an am short e past fits same =
      let is = one_way codes r (make_up codes m ++ (flat ms ++ (code codes i ++ x))) row (63 + m) e (same ∙ append_assoc (make_up codes m) (flat ms) (code codes i ++ x)) (looked_back codes (63 + m) (flat ms ++ (code codes i ++ x)) back (omega (arith, am.0))) in
      let s = sum_by-cons (λ (v : ℕ). v) m ms in
      omega (arith, ap row_pixels is, many_pixels (63 + m) (omega (arith, am.0.0)))
  passes_not acc room (n ∷ ns) [] r x row i an am short e past fits same = apart n i ns r x an.0.0 an.0.1 short same
  passes_not acc room (n ∷ ns) (m ∷ ms) r x row i an am short e past fits same =
      let one = both n m ns ms r (code codes i ++ x) an.0.0 an.0.1 am.0.0 am.0.1 same in
      let s = sum_by-cons (λ (v : ℕ). v) m ms in let t = sum_by-cons (λ (v : ℕ). v) n ns in
      passes_not (acc + 64 * m) room ns ms r x row i an.1 am.1 short e (omega (arith, one.0)) (omega arith) one.1

pub free_of : AreFree → (black : Bool) → IsPrefixFree (run_codes black)
free_of free true = free.black
free_of free false = free.white

-- where a run is read within the room, no fault of a run stands
pub no_run_fault : {black : Bool} {room : ℕ} {bits : List Bool} {kind : RuleKind} {at : ℕ} → RunFault black room bits kind at → (x : List Bool) (run : Run) → ReadsBack (run_codes black) → AreFree → HasCodes run → pixels_of_run run ≤ room → bits ≡ run_bits black run ++ x → ⊥
no_run_fault {black} {room} (RunFault.missing ns r why are within e) x run back free has fits same =
    missing_not (run_codes black) back (free_of free black) (run_rows black) ns run.make_ups r x why run.rest are has.make_ups has.rest e
    (same ∙ append_assoc (flat_map (make_up (run_codes black)) run.make_ups) (code (run_codes black) run.rest) x)
no_run_fault {black} {room} (RunFault.passes ns r row are within e past) x run back free has fits same =
    passes_not (run_codes black) back (free_of free black) (run_rows black) 0 room ns run.make_ups r x row run.rest are has.make_ups has.rest e (omega arith) (omega arith)
    (same ∙ append_assoc (flat_map (make_up (run_codes black)) run.make_ups) (code (run_codes black) run.rest) x)

-- ---- a mode

pub record Backs : Type 0 where
  pub runs : (black : Bool) → ReadsBack (run_codes black)
  pub due : ReadsBack due_codes
  pub free : AreFree

pub due_code : (row : ℕ) → row < 9 → code due_codes row ≡ code mode_codes row
due_code row h = get_or_append_left mode_codes (extension_code ∷ end_of_block ∷ []) [] row (omega (arith, mode_rows))

pub due_long : (row : ℕ) → row < 9 → row < length due_codes
due_long row h = omega (arith, mode_rows, length-append mode_codes (extension_code ∷ end_of_block ∷ []))

pub no_fault_of : (row : ℕ) (kind : RuleKind) → row < 9 → mode_fault (Ok row) ≡ Some kind → ⊥
no_fault_of row kind h e =
    let is : mode_fault (Ok row) ≡ None = cond-false (eqb row 9) (Some T6Extension) (if eqb row 10 then Some T6EarlyEnd else None) (ne_eqb row 9 (λ s. omega arith)) ∙ cond-false (eqb row 10) (Some T6EarlyEnd) None (ne_eqb row 10 (λ s. omega arith)) in
    let both = sym is ∙ e in cc

-- a run code follows a horizontal mode alone
pub horizontal_only : (black : Bool) (mode : Mode) (rest x : List Bool) → AreFree → IsMode mode → code mode_codes 1 ++ rest ≡ mode_bits black mode ++ x → (row_of mode ≡ 1) × (rest ≡ bits_after black mode ++ x)
horizontal_only black mode rest x free is e =
    let one = one_code mode_codes 1 (row_of mode) rest (bits_after black mode ++ x) free.modes (omega (arith, mode_rows)) (omega (arith, mode_rows, row_within mode is)) (e ∙ mode_front black mode x) in
    (sym one.0, one.1)

no_first : (above : List Bool) (place : Place) (rest x : List Bool) (kind : RuleKind) (at : ℕ) (mode : Mode) → Backs → Moves above place mode → RunFault place.black (length above - from place) rest kind at → code mode_codes 1 ++ rest ≡ mode_bits place.black mode ++ x → ⊥
no_first above place rest x kind at Pass b moves fault e = absurd (omega (arith, (horizontal_only place.black Pass rest x b.free moves.coded e).0))
no_first above place rest x kind at (Vertical n) b moves fault e = absurd (omega (arith, (horizontal_only place.black (Vertical n) rest x b.free moves.coded e).0, (vertical_row n moves.coded).1))
no_first above place rest x kind at (Horizontal p q) b moves fault e =
    no_run_fault fault (run_bits (not place.black) q ++ x) p (b.runs place.black) b.free moves.coded.0 (omega (arith, moves.within))
    ((horizontal_only place.black (Horizontal p q) rest x b.free moves.coded e).1 ∙ append_assoc (run_bits place.black p) (run_bits (not place.black) q) x)

no_second : (above : List Bool) (place : Place) (run : Run) (rest x : List Bool) (kind : RuleKind) (at : ℕ) (mode : Mode) → Backs → HasCodes run → Moves above place mode → RunFault (not place.black) (length above - from place - pixels_of_run run) rest kind at → code mode_codes 1 ++ (run_bits place.black run ++ rest) ≡ mode_bits place.black mode ++ x → ⊥
no_second above place run rest x kind at Pass b has moves fault e = absurd (omega (arith, (horizontal_only place.black Pass (run_bits place.black run ++ rest) x b.free moves.coded e).0))
no_second above place run rest x kind at (Vertical n) b has moves fault e = absurd (omega (arith, (horizontal_only place.black (Vertical n) (run_bits place.black run ++ rest) x b.free moves.coded e).0, (vertical_row n moves.coded).1))
no_second above place run rest x kind at (Horizontal p q) b has moves fault e =
    let after_one = (horizontal_only place.black (Horizontal p q) (run_bits place.black run ++ rest) x b.free moves.coded e).1 ∙ append_assoc (run_bits place.black p) (run_bits (not place.black) q) x in
    let same = one_run place.black run p rest (run_bits (not place.black) q ++ x) b.free has moves.coded.0 after_one in
    no_run_fault fault x q (b.runs (not place.black)) b.free moves.coded.1 (omega (arith, ap pixels_of_run same.0, moves.within)) same.1

-- where a mode is read that moves, no fault of a mode stands
pub no_mode_fault : {above : List Bool} {place : Place} {bits : List Bool} {kind : RuleKind} {at : ℕ} → ModeFault above place bits kind at → (mode : Mode) (x : List Bool) → Backs → Moves above place mode → bits ≡ mode_bits place.black mode ++ x → ⊥
no_mode_fault {above} {place} (ModeFault.missing bits kind e) mode x b moves same =
    let low = row_within mode moves.coded in
    let found = ap (next_row due_codes) (same ∙ mode_front place.black mode x ∙ ap (λ c. c ++ (bits_after place.black mode ++ x)) (sym (due_code (row_of mode) low)))
    ∙ looked_back due_codes (row_of mode) (bits_after place.black mode ++ x) b.due (due_long (row_of mode) low) in
    no_fault_of (row_of mode) kind low (ap mode_fault (sym found) ∙ e)
no_mode_fault {above} {place} (ModeFault.stays other rest is still) mode x b moves same =
    let one = one_mode place.black other mode rest x b.free is moves.coded same in
    omega (arith, ap (λ m. (place_after above place m).right) one.0, moves.onward, still)
no_mode_fault {above} {place} (ModeFault.passes n rest is past) mode x b moves same =
    let one = one_mode place.black (Vertical n) mode rest x b.free is moves.coded same in
    omega (arith, ap (λ m. (place_after above place m).right) one.0, moves.within, past)
no_mode_fault {above} {place} (ModeFault.first rest kind at fault) mode x b moves same = no_first above place rest x kind at mode b moves fault same
no_mode_fault {above} {place} (ModeFault.second run rest kind at has within fault) mode x b moves same = no_second above place run rest x kind at mode b has moves fault same

-- ---- a row, and the rows

no_fault_from : (above : List Bool) (place : Place) (ns ms : List Mode) (r x : List Bool) (kind : RuleKind) (at : ℕ) → Backs → AllMove above place ns → AllMove above place ms → (end_of_modes above place ns).right ≤ length above → (end_of_modes above place ms).right ≡ length above + 1 → ModeFault above (end_of_modes above place ns) r kind at → codes_of above place ns ++ r ≡ codes_of above place ms ++ x → ⊥
no_fault_from above place [] [] r x kind at b hn hm en em fault e = omega arith
no_fault_from above place [] (m ∷ ms) r x kind at b hn hm en em fault e =
    no_mode_fault fault m (codes_of above (place_after above place m) ms ++ x) b hm.0 (e ∙ append_assoc (mode_bits place.black m) (codes_of above (place_after above place m) ms) x)
no_fault_from above place (n ∷ ns) [] r x kind at b hn hm en em fault e = omega (arith, hn.0.onward, hn.0.within)
no_fault_from above place (n ∷ ns) (m ∷ ms) r x kind at b hn hm en em fault e =
    let one = one_mode place.black n m (codes_of above (place_after above place n) ns ++ r) (codes_of above (place_after above place m) ms ++ x) b.free hn.0.coded hm.0.coded
    (sym (append_assoc (mode_bits place.black n) (codes_of above (place_after above place n) ns) r) ∙ e ∙ append_assoc (mode_bits place.black m) (codes_of above (place_after above place m) ms) x) in
    let P : Mode → Type 0 = λ k. AllMove above (place_after above place k) ms in
    let Q : Mode → Type 0 = λ k. (end_of_modes above (place_after above place k) ms).right ≡ length above + 1 in
    no_fault_from above (place_after above place n) ns ms r x kind at b hn.1 (subst P (sym one.0) hm.1) en (subst Q (sym one.0) em) fault
    (one.1 ∙ ap (λ k. codes_of above (place_after above place k) ms ++ x) (sym one.0))

-- where a line is read, no fault of a row stands
pub no_row_fault : {above bits : List Bool} {kind : RuleKind} {at : ℕ} → RowFault above bits kind at → (line rest : List Bool) → Backs → RowReads above bits line rest → ⊥
no_row_fault {above} (stops modes r kind at move on fault) line rest b reads =
    no_fault_from above start modes reads.modes r rest kind at b move reads.move on reads.end fault reads.codes

-- where all lines are read, no fault stands
pub no_fault : {above bits : List Bool} {left : ℕ} {kind : RuleKind} {row at : ℕ} → LinesFault above bits left kind row at → (lines : List (List Bool)) → Backs → length lines ≡ left → LinesRead above bits lines → ⊥
no_fault (here above bits left kind at some fault) [] b long reads = omega arith
no_fault (here above bits left kind at some fault) (line ∷ lines) b long reads = no_row_fault fault line reads.0 b reads.1
no_fault (later above line bits rest left kind row at first fault) [] b long reads = omega arith
no_fault (later above line bits rest left kind row at first fault) (other ∷ lines) b long reads =
    let one = one_row above bits line other rest reads.0 b.free first reads.1 in
    let P : List Bool → Type 0 = λ l. LinesRead l reads.0 lines in
    let Q : List Bool → Type 0 = λ bs. LinesRead line bs lines in
    no_fault fault lines b (omega arith) (subst Q (sym one.1) (subst P (sym one.0) reads.2))
