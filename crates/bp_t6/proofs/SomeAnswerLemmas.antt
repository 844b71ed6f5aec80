-- Carries bits, whatever they are, over to a reading or to a fault.
use Rattle.std.proofs.Common.{ℕ, zero, suc, ◌+◌, ◌-◌, ◌*◌, ◌<◌, ◌≤◌, ◌≡◌, Bool, true, false, not, List, [], ◌∷◌, ◌++◌, length, get_or, drop, Result, Ok, Err, ◌⊎◌, inl, inr, refl, ap, sym, ◌∙◌, subst, arith, append_assoc, length-append}
use Rattle.std.proofs.lemmas.Bool.{cases_lt, cases_eq}
use Rattle.bp_core.specs.declared.rules.RuleKind.{RuleKind}
use Rattle.bp_core.specs.declared.rules.RuleKind.TheVariants.{T6EarlyEnd, T6Extension, T6BadPlace}
use Rattle.bp_codes.specs.declared.code.NoCode.{NoCode}
use Rattle.bp_codes.specs.NextCode.{next_row}
use Rattle.bp_codes.specs.CodeLists.{mode_codes, extension_code, end_of_block}
use Rattle.bp_rows.specs.Changes.{differs}
use Rattle.bp_t6.specs.Places.{Place, start, b1}
use Rattle.bp_t6.specs.Modes.{Run, Mode, Pass, Horizontal, Vertical, HasCodes, IsMode, pixels_of_run, code, run_codes, run_bits, mode_bits, vertical_rows, from, place_after, codes_of, end_of_modes, pixels, Moves, AllMove}
use Rattle.bp_t6.specs.Written.{white_line}
use Rattle.bp_t6.specs.Read.{RowReads, LinesRead, StripReads}
use Rattle.bp_t6.specs.Faults.{RunFault, ModeFault, RowFault, LinesFault, StripFault, stops, here, later, missing_code, mode_fault, due_codes, row_pixels}
use Rattle.bp_t6.proofs.LeastLemmas.{least-end}
use Rattle.bp_t6.proofs.LookLemmas.{MakeUps, none_yet, make_up_more, run_end, run_missing, run_passes, row_found, row_in_table, few_pixels, many_pixels}
use Rattle.bp_t6.proofs.OneReadingLemmas.{run_rows, mode_rows}
use Rattle.bp_t6.proofs.OneFaultLemmas.{due_code}

-- ---- a table

-- a code begins, or there is a reason why none does
looked : (r : Result ℕ NoCode) → ((row : ℕ) × (r ≡ Ok row)) ⊎ ((why : NoCode) × (r ≡ Err why))
looked (Ok row) = inl (row, refl)
looked (Err why) = inr (why, refl)

-- ---- a run

record RunFits (black : Bool) (room : ℕ) (bits : List Bool) : Type 0 where
  run : Run
  rest : List Bool
  has : HasCodes run
  fits : pixels_of_run run ≤ room
  codes : bits ≡ run_bits black run ++ rest

abbrev RunAnswer : Bool → ℕ → List Bool → Type 0
RunAnswer black room bits = RunFits black room bits ⊎ ((kind : RuleKind) × (at : ℕ) × RunFault black room bits kind at)

-- each make-up code takes up 64 pixels of the room, so the room and one are enough of them
run_from :
    (black : Bool) (room : ℕ) (bits : List Bool) (most at pixels : ℕ) (canonical : Bool)
    → MakeUps (run_codes black) bits 0 at pixels canonical
    → pixels ≤ room
    → room < pixels + most
    → RunAnswer black room bits
run_from black room bits zero at pixels canonical so fits few = absurd (omega arith)
run_from black room bits (suc most) at pixels canonical so fits few =
    let codes = run_codes black in
    elim (looked (next_row codes (drop at bits))) [
      | inr none ↦ inr (missing_code none.0, at - 0, run_missing black room bits 0 at pixels none.0 so fits none.1)
      | inl found ↦
          let row = found.0 in
          let long = length (code codes row) in
          elim (cases_lt room (pixels + row_pixels row)) [
            | inl past ↦ inr (T6BadPlace, at - 0, run_passes black room bits 0 at pixels row so fits found.1 past)
            | inr within ↦ elim (cases_lt row 64) [
              | inl low ↦
                  let last = run_end codes bits 0 at pixels row long so found.1 refl low in
                  inl (record {
                    run = last.run;
                    rest = drop (at + long) bits;
                    has = last.has;
                    fits = omega (arith, last.size, few_pixels row low);
                    codes = last.codes;
                  })
              | inr high ↦
                  let bound = row_in_table codes (drop at bits) row found.1 in
                  let more = make_up_more codes bits 0 at pixels row long canonical false so found.1 refl high (omega (arith, bound, run_rows black)) (λ e. cc) in
                  run_from black room bits most (at + long) (pixels + 64 * (row - 63)) false more (omega (arith, many_pixels row high)) (omega arith)
            ]
          ]
    ]

run_answer : (black : Bool) (room : ℕ) (bits : List Bool) → RunAnswer black room bits
run_answer black room bits = run_from black room bits (room + 1) 0 0 true (none_yet (run_codes black) bits 0) (omega arith) (omega arith)

-- ---- a mode

record ModeMoves (above : List Bool) (place : Place) (bits : List Bool) : Type 0 where
  mode : Mode
  rest : List Bool
  moves : Moves above place mode
  codes : bits ≡ mode_bits place.black mode ++ rest

abbrev ModeAnswer : List Bool → Place → List Bool → Type 0
ModeAnswer above place bits = ModeMoves above place bits ⊎ ((kind : RuleKind) × (at : ℕ) × ModeFault above place bits kind at)

module _ (above : List Bool) (place : Place) (bits : List Bool) where
  fault_here : {other : List Bool} {kind : RuleKind} {at : ℕ} → bits ≡ other → ModeFault above place other kind at → ModeAnswer above place bits
  fault_here {other} {kind} {at} same fault = inr (kind, at, subst (λ (bs : List Bool). ModeFault above place bs kind at) (sym same) fault)

  -- a mode that does not pass the width moves a0 to the right, or stays
  within_width :
      (mode : Mode) (rest : List Bool)
      → IsMode mode
      → (place_after above place mode).right ≤ length above + 1
      → bits ≡ mode_bits place.black mode ++ rest
      → ModeAnswer above place bits
  within_width mode rest is within codes = elim (cases_lt place.right (place_after above place mode).right) [
    | inl onward ↦ inl (record {
      mode = mode;
      rest = rest;
      moves = record { coded = is; onward = onward; within = within };
      codes = codes;
    })
    | inr still ↦ fault_here codes (ModeFault.stays mode rest is still)
  ]

  vertical_answer : (n : ℕ) (rest : List Bool) → n ≤ 6 → bits ≡ mode_bits place.black (Vertical n) ++ rest → ModeAnswer above place bits
  vertical_answer n rest small codes = elim (cases_lt (length above + 1) (place_after above place (Vertical n)).right) [
    | inl past ↦ fault_here codes (ModeFault.passes n rest small past)
    | inr within ↦ within_width (Vertical n) rest small within codes
  ]

  horizontal_answer : (rest : List Bool) → place.right ≤ length above → bits ≡ code mode_codes 1 ++ rest → ModeAnswer above place bits
  horizontal_answer rest on same = elim (run_answer place.black (length above - from place) rest) [
    | inr fault ↦ fault_here same (ModeFault.first rest fault.0 fault.1 fault.2)
    | inl p ↦
        let first = run_bits place.black p.run in
        let up_to = same ∙ ap (λ bs. code mode_codes 1 ++ bs) p.codes in
        elim (run_answer (not place.black) (length above - from place - pixels_of_run p.run) p.rest) [
          | inr fault ↦ fault_here up_to (ModeFault.second p.run p.rest fault.0 fault.1 p.has (omega (arith, p.fits)) fault.2)
          | inl q ↦
              let second = run_bits (not place.black) q.run in
              within_width (Horizontal p.run q.run) q.rest (p.has, q.has) (omega (arith, p.fits, q.fits))
              (up_to ∙ ap (λ bs. code mode_codes 1 ++ (first ++ bs)) q.codes
              ∙ ap (λ bs. code mode_codes 1 ++ bs) (sym (append_assoc first second q.rest))
              ∙ sym (append_assoc (code mode_codes 1) (first ++ second) q.rest))
        ]
  ]

  -- from the row of the mode table to the mode
  vertical_at : (row : ℕ) → 1 < row → row < 9 → (n : ℕ) × (n ≤ 6) × (get_or vertical_rows n 0 ≡ row)
  vertical_at zero low high = absurd (omega arith)
  vertical_at (suc zero) low high = absurd (omega arith)
  vertical_at (suc (suc zero)) low high = (3, omega arith, refl)
  vertical_at (suc (suc (suc zero))) low high = (4, omega arith, refl)
  vertical_at (suc (suc (suc (suc zero)))) low high = (5, omega arith, refl)
  vertical_at (suc (suc (suc (suc (suc zero))))) low high = (6, omega arith, refl)
  vertical_at (suc (suc (suc (suc (suc (suc zero)))))) low high = (2, omega arith, refl)
  vertical_at (suc (suc (suc (suc (suc (suc (suc zero))))))) low high = (1, omega arith, refl)
  vertical_at (suc (suc (suc (suc (suc (suc (suc (suc zero)))))))) low high = (0, omega arith, refl)
  vertical_at (suc (suc (suc (suc (suc (suc (suc (suc (suc row))))))))) low high = absurd (omega arith)

  coded_answer : (row : ℕ) (rest : List Bool) → row < 9 → place.right ≤ length above → bits ≡ code mode_codes row ++ rest → ModeAnswer above place bits
  coded_answer zero rest low on same = within_width Pass rest tt (omega (arith, least-end differs (b1 above place + 1) above)) same
  coded_answer (suc zero) rest low on same = horizontal_answer rest on same
  coded_answer (suc (suc row)) rest low on same =
      let v = vertical_at (suc (suc row)) (omega arith) low in
      vertical_answer v.0 rest v.1 (same ∙ ap (λ r. code mode_codes r ++ rest) (sym v.2))

  -- one of the eleven codes that may stand here
  due_answer : (row : ℕ) → next_row due_codes bits ≡ Ok row → place.right ≤ length above → ModeAnswer above place bits
  due_answer row is on = elim (cases_lt row 9) [
    | inl low ↦
        let rest = drop (length (code due_codes row)) bits in
        coded_answer row rest low on (row_found due_codes bits row is ∙ ap (λ c. c ++ rest) (due_code row low))
    | inr high ↦ elim (cases_eq row 9) [
      | inl nine ↦ inr (T6Extension, 0, ModeFault.missing bits T6Extension (ap mode_fault (is ∙ ap Ok nine)))
      | inr more ↦
          let bound = row_in_table due_codes bits row is in
          let all = length-append mode_codes (extension_code ∷ end_of_block ∷ []) in
          let ten : row ≡ 10 = elim (cases_eq row 10) [ inl e ↦ e | inr other ↦ absurd (omega (arith, bound, all, mode_rows)) ] in
          inr (T6EarlyEnd, 0, ModeFault.missing bits T6EarlyEnd (ap mode_fault (is ∙ ap Ok ten)))
    ]
  ]

  mode_answer : place.right ≤ length above → ModeAnswer above place bits
  mode_answer on = elim (looked (next_row due_codes bits)) [
    | inl found ↦ due_answer found.0 found.1 on
    | inr none ↦ inr (missing_code none.0, 0, ModeFault.missing bits (missing_code none.0) (ap mode_fault none.1))
  ]

-- ---- a row

record EndsAt (above : List Bool) (place : Place) (bits : List Bool) : Type 0 where
  modes : List Mode
  rest : List Bool
  move : AllMove above place modes
  end : (end_of_modes above place modes).right ≡ length above + 1
  codes : bits ≡ codes_of above place modes ++ rest

record StopsAt (above : List Bool) (place : Place) (bits : List Bool) : Type 0 where
  modes : List Mode
  rest : List Bool
  kind : RuleKind
  at : ℕ
  move : AllMove above place modes
  on : (end_of_modes above place modes).right ≤ length above
  fault : ModeFault above (end_of_modes above place modes) rest kind at
  codes : bits ≡ codes_of above place modes ++ rest

one_more :
    (above : List Bool) (place : Place) (bits rest : List Bool) (mode : Mode) (modes : List Mode) (last : List Bool)
    → bits ≡ mode_bits place.black mode ++ rest
    → rest ≡ codes_of above (place_after above place mode) modes ++ last
    → bits ≡ codes_of above place (mode ∷ modes) ++ last
one_more above place bits rest mode modes last first others =
    first ∙ ap (λ bs. mode_bits place.black mode ++ bs) others
    ∙ sym (append_assoc (mode_bits place.black mode) (codes_of above (place_after above place mode) modes) last)

-- each mode takes a0 to the right, so what is left of the width is enough of them
row_from :
    (above : List Bool) (most : ℕ) (place : Place) (bits : List Bool)
    → place.right ≤ length above + 1
    → length above + 1 ≤ place.right + most
    → EndsAt above place bits ⊎ StopsAt above place bits
row_from above zero place bits within few = inl (record { modes = []; rest = bits; move = tt; end = omega arith; codes = refl })
row_from above (suc most) place bits within few = elim (cases_lt (length above) place.right) [
  | inl past ↦ inl (record { modes = []; rest = bits; move = tt; end = omega arith; codes = refl })
  | inr on ↦ elim (mode_answer above place bits on) [
    | inr fault ↦ inr (record { modes = []; rest = bits; kind = fault.0; at = fault.1; move = tt; on = on; fault = fault.2; codes = refl })
    | inl step ↦ elim (row_from above most (place_after above place step.mode) step.rest step.moves.within (omega (arith, step.moves.onward))) [
      | inl row ↦ inl (record {
        modes = step.mode ∷ row.modes;
        rest = row.rest;
        move = (step.moves, row.move);
        end = row.end;
        codes = one_more above place bits step.rest step.mode row.modes row.rest step.codes row.codes;
      })
      | inr stop ↦ inr (record {
        modes = step.mode ∷ stop.modes;
        rest = stop.rest;
        kind = stop.kind;
        at = stop.at;
        move = (step.moves, stop.move);
        on = stop.on;
        fault = stop.fault;
        codes = one_more above place bits step.rest step.mode stop.modes stop.rest step.codes stop.codes;
      })
    ]
  ]
]

row_answer :
    (above bits : List Bool)
    → ((line rest : List Bool) × RowReads above bits line rest) ⊎ ((kind : RuleKind) × (at : ℕ) × RowFault above bits kind at)
row_answer above bits = elim (row_from above (length above + 1) start bits (omega arith) (omega arith)) [
  | inl row ↦ inl (pixels above start row.modes, row.rest, record { modes = row.modes; move = row.move; codes = row.codes; end = row.end; paint = refl })
  | inr stop ↦
      let at = length (codes_of above start stop.modes) + stop.at in
      inr (stop.kind, at, subst (λ (bs : List Bool). RowFault above bs stop.kind at) (sym stop.codes) (stops stop.modes stop.rest stop.kind stop.at stop.move stop.on stop.fault))
]

-- ---- the lines

lines_answer :
    (height : ℕ) (above bits : List Bool)
    → ((lines : List (List Bool)) × (length lines ≡ height) × LinesRead above bits lines)
    ⊎ ((kind : RuleKind) × (row at : ℕ) × LinesFault above bits height kind row at)
lines_answer zero above bits = inl ([], refl, tt)
lines_answer (suc left) above bits = elim (row_answer above bits) [
  | inr fault ↦ inr (fault.0, 0, fault.1, here above bits (suc left) fault.0 fault.1 (omega arith) fault.2)
  | inl row ↦ elim (lines_answer left row.0 row.1) [
    | inl lines ↦ inl (row.0 ∷ lines.0, omega (arith, lines.1), (row.1, row.2, lines.2))
    | inr fault ↦
        let at = length bits - length row.1 + fault.2 in
        let count : left + 1 ≡ suc left = omega arith in
        inr (fault.0, fault.1 + 1, at, subst (λ (n : ℕ). LinesFault above bits n fault.0 (fault.1 + 1) at) count (later above row.0 bits row.1 left fault.0 fault.1 fault.2 row.2 fault.3))
  ]
]

-- a strip is read, or has a fault
pub some_answer :
    (bits : List Bool) (width height : ℕ)
    → ((lines : List (List Bool)) × StripReads bits width height lines)
    ⊎ ((kind : RuleKind) × (row at : ℕ) × StripFault bits width height kind row at)
some_answer bits width height = elim (lines_answer height (white_line width) bits) [
  | inl lines ↦ inl (lines.0, record { count = lines.1; read = lines.2 })
  | inr fault ↦ inr fault
]
