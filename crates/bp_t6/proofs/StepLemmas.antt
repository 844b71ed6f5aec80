-- Lemmas on one mode read: carry places and bits over to the modes of a row, and to its faults.
use Rattle.std.proofs.Common.{nat_eq, Some, ℕ, zero, suc, ◌+◌, ◌-◌, ◌<◌, ◌≤◌, ◌≡◌, Bool, true, false, not, ◌&&◌, List, [], ◌∷◌, ◌++◌, length, get_or, drop, replicate, Ok, Err, Result, IfOk, IfErr, refl, ap, sym, ◌∙◌, subst, arith, inl, inr, append_assoc, length-append, length-drop}
use Rattle.bp_core.specs.declared.rules.RuleKind.{RuleKind}
use Rattle.bp_core.specs.declared.rules.RuleKind.TheVariants.{T6BadPlace}
use Rattle.bp_codes.specs.CodeLists.{mode_codes}
use Rattle.bp_t6.specs.declared.reading.Under.{Under}
use Rattle.bp_t6.specs.declared.run_reader.ReadFault.{ReadFault}
use Rattle.std.proofs.lemmas.List.{append-nil, drop-drop}
use Rattle.bp_codes.specs.NextCode.{next_row}
use Rattle.bp_t6.specs.Places.{Place, start, b1, b2}
use Rattle.bp_t6.specs.Modes.{Run, Mode, Pass, Horizontal, Vertical, HasCodes, pixels_of_run, code, run_bits, mode_bits, vertical_rows, place_after, painted, Moves, AllMove, codes_of, end_of_modes, pixels}
use Rattle.bp_t6.specs.Faults.{RunFault, ModeFault, RowFault, stops, due_codes, mode_fault}
use Rattle.bp_rows.specs.Changes.{place_at, odd, Shows, Rises}
use Rattle.std.specs.Int.{from_bool}
use Rattle.std.proofs.lemmas.Bool.{cond-false}
use Rattle.bp_t6.specs.Coding.{IsNextFrom, SteppedTo}
use Rattle.bp_t6.specs.Turns.{Turns}
use Rattle.bp_t6.specs.declared.near_reader.Near.{Near}
use Rattle.bp_t6.specs.Near.{BeginsNear, near_mode}
use Rattle.bp_t6.specs.Canonical.{AreCanonicalRuns, IsCanonical, AreCanonical}
use Rattle.bp_t6.specs.Reading.{place_under, IsUnder, Steps, ModeReads, ModeStops, VerticalStops, RowIsRead, RowStops, ModesRead}
use Rattle.bp_t6.proofs.PlaceLemmas.{b1_is, after_is, from_back, from_same}
use Rattle.bp_t6.proofs.LookLemmas.{row_found, row_length}
use Rattle.bp_rows.proofs.ShownLemmas.{shows_white}
use Rattle.bp_t6.proofs.TurnLemmas.{shows_more, turn_shows, turn_turns, turn_colour}

abbrev pub at_place : ℕ → Bool → Place
at_place right black = record { right = right; black = black }

same_place : (r s : ℕ) (c d : Bool) → r ≡ s → c ≡ d → at_place r c ≡ at_place s d
same_place r s c d e f = ap (λ n. at_place n c) e ∙ ap (at_place s) f

-- the line grows in its colour up to another place
pub grown : (ts : List ℕ) (n to : ℕ) (px : List Bool) (c : Bool) → Turns ts n → Shows ts n px → odd (length ts) ≡ c → n ≤ to → Shows ts to (px ++ replicate (to - n) c)
grown ts n to px c turns shows colour more =
    let size : n + (to - n) ≡ to = omega arith in
    subst (λ (k : ℕ). Shows ts k (px ++ replicate (to - n) c)) size (shows_more ts n (to - n) px c turns shows colour)

pub turns_grown : (ts : List ℕ) (n to : ℕ) → Turns ts n → n ≤ to → Turns ts to
turns_grown ts n to turns more = record { strict = turns.strict; until = λ k h. omega (arith, turns.until k h) }

module _ (above : List ℕ) (width : ℕ) (over : List Bool) (u : Under) (shows_over : Shows above width over) (next : IsNextFrom above width u.from u.right u.black) where
  pub b1-there : b1 over (place_under u) ≡ place_at above width u.from
  b1-there = b1_is above width over (place_under u) u.from shows_over next

  pub b2-there : b2 over (place_under u) ≡ place_at above width (u.from + 1)
  b2-there = after_is above width over u.from (b1 over (place_under u)) shows_over b1-there

  pub vertical_right : (n : ℕ) → (place_after over (place_under u) (Vertical n)).right ≡ place_at above width u.from + 1 + n - 3
  vertical_right n = ap (λ k. k + 1 + n - 3) b1-there

  pub vertical_steps : (ts new : List ℕ) (v : Under) (n : ℕ) (px : List Bool) → n ≤ 6 → Turns ts (u.right - 1) → odd (length ts) ≡ u.black → Shows ts (u.right - 1) px
      → v.right ≡ place_at above width u.from + 1 + n - 3 → v.black ≡ not u.black → u.right < v.right → v.right ≤ width + 1
      → ((pixels : List Bool) → Shows ts (v.right - 1) pixels → Shows new (v.right - 1) pixels)
      → (v.canonical ≡ true → (u.canonical ≡ true) × (place_at above width u.from + n ≤ place_at above width (u.from + 1) + 3)) → Steps over px new u v (Vertical n)
  vertical_steps ts new v n px small turns colour shows right black more within turned fine =
      let there = vertical_right n in
      record {
        moves = record { coded = small; onward = omega arith; within = omega (arith, shows_over.long) };
        there = same_place (b1 over (place_under u) + 1 + n - 3) v.right (not u.black) v.black (there ∙ sym right) (sym black);
        shows = turned (px ++ replicate (v.right - 1 - (u.right - 1)) u.black) (grown ts (u.right - 1) (v.right - 1) px u.black turns shows colour (omega arith));
        chosen = λ e. (let f = fine e in (f.0, omega (arith, f.1, b1-there, b2-there)));
      }

  pub pass_steps : (ts : List ℕ) (v : Under) (px : List Bool) → Turns ts (u.right - 1) → odd (length ts) ≡ u.black → Shows ts (u.right - 1) px
      → v.right ≡ place_at above width (u.from + 1) + 1 → v.black ≡ u.black → u.right < v.right → v.right ≤ width + 1
      → (v.canonical ≡ true → (u.canonical ≡ true) × (v.right ≤ width)) → Steps over px ts u v Pass
  pass_steps ts v px turns colour shows right black more within fine =
      record {
        moves = record { coded = tt; onward = omega (arith, b2-there); within = omega (arith, b2-there, shows_over.long) };
        there = same_place (b2 over (place_under u) + 1) v.right u.black v.black (ap (λ k. k + 1) b2-there ∙ sym right) (sym black);
        shows = grown ts (u.right - 1) (v.right - 1) px u.black turns shows colour (omega arith);
        chosen = λ e. (let f = fine e in (f.0, omega (arith, f.1, right, b2-there, shows_over.long)));
      }

module _ (bits : List Bool) (width : ℕ) (above : List ℕ) (u : Under) where
  pub horizontal_steps : (over px : List Bool) (ts mid new : List ℕ) (v : Under) (p q : Run) (m n middle : ℕ) → Shows above width over → HasCodes p → HasCodes q → pixels_of_run p ≡ m → pixels_of_run q ≡ n
      → Turns ts (u.right - 1) → odd (length ts) ≡ u.black → Shows ts (u.right - 1) px
      → middle ≡ u.right - 1 + m → v.right ≡ middle + n + 1 → v.black ≡ u.black → u.right < v.right → v.right ≤ width + 1
      → Turns mid middle → odd (length mid) ≡ not (odd (length ts)) → ((pixels : List Bool) → Shows ts middle pixels → Shows mid middle pixels)
      → ((pixels : List Bool) → Shows mid (v.right - 1) pixels → Shows new (v.right - 1) pixels)
      → (v.canonical ≡ true → (u.canonical ≡ true) × AreCanonicalRuns over (place_under u) p q) → Steps over px new u v (Horizontal p q)
  horizontal_steps over px ts mid new v p q m n middle shows_over has_p has_q is_m is_n turns colour shows first second black more within turns_mid colour_mid turned_mid turned fine =
      let c = u.black in
      let one : middle - (u.right - 1) ≡ m = omega arith in
      let two : v.right - 1 - middle ≡ n = omega arith in
      let px-one = px ++ replicate (middle - (u.right - 1)) c in
      let half = turned_mid px-one (grown ts (u.right - 1) middle px c turns shows colour (omega arith)) in
      let whole = turned (px-one ++ replicate (v.right - 1 - middle) (not c)) (grown mid middle (v.right - 1) px-one (not c) turns_mid half (colour_mid ∙ ap not colour) (omega arith)) in
      let same : px-one ++ replicate (v.right - 1 - middle) (not c) ≡ px ++ (replicate (pixels_of_run p) c ++ replicate (pixels_of_run q) (not c)) =
      append_assoc px (replicate (middle - (u.right - 1)) c) (replicate (v.right - 1 - middle) (not c))
      ∙ ap (λ (k : ℕ). px ++ (replicate k c ++ replicate (v.right - 1 - middle) (not c))) (one ∙ sym is_m)
      ∙ ap (λ (k : ℕ). px ++ (replicate (pixels_of_run p) c ++ replicate k (not c))) (two ∙ sym is_n) in
      record {
        moves = record { coded = (has_p, has_q); onward = omega arith; within = omega (arith, shows_over.long) };
        there = same_place (u.right - 1 + (pixels_of_run p + pixels_of_run q) + 1) v.right c v.black (omega arith) (sym black);
        shows = subst (λ (ps : List Bool). Shows new (v.right - 1) ps) same whole;
        chosen = fine;
      }

  pub horizontal_bits : (p q : Run) (at middle end : ℕ) → drop u.at bits ≡ code mode_codes 1 ++ drop at bits → drop at bits ≡ run_bits u.black p ++ drop middle bits → drop middle bits ≡ run_bits (not u.black) q ++ drop end bits → drop u.at bits ≡ mode_bits u.black (Horizontal p q) ++ drop end bits
  horizontal_bits p q at middle end one two three =
      let a = code mode_codes 1 in let b = run_bits u.black p in let d = run_bits (not u.black) q in let r = drop end bits in
      one ∙ ap (λ x. a ++ x) (two ∙ ap (λ x. b ++ x) three ∙ sym (append_assoc b d r)) ∙ sym (append_assoc a (b ++ d) r)

  pub first_stops : (f : ReadFault) (at start : ℕ) → at ≡ u.at + 3 → at ≤ f.bit → start ≡ u.right - 1 → drop u.at bits ≡ code mode_codes 1 ++ drop at bits → RunFault u.black (width - start) (drop at bits) f.kind (f.bit - at) → ModeStops bits width above u f
  first_stops f at start three since is reads fault = record {
    since = omega arith;
    fault = λ over shows.
        let room : width - start ≡ length over - (u.right - 1) = omega (arith, shows.long) in
        let count : 3 + (f.bit - at) ≡ f.bit - u.at = omega arith in
        let here = subst (λ (r : ℕ). RunFault u.black r (drop at bits) f.kind (f.bit - at)) room fault in
        subst (λ (bs : List Bool). ModeFault over (place_under u) bs f.kind (f.bit - u.at)) (sym reads)
        (subst (λ (n : ℕ). ModeFault over (place_under u) (code mode_codes 1 ++ drop at bits) f.kind n) count
        (ModeFault.first (drop at bits) f.kind (f.bit - at) here));
  }

  pub second_stops : (f : ReadFault) (p : Run) (at start middle m : ℕ) → at ≡ u.at + 3 → at ≤ length bits → middle ≤ length bits → middle ≤ f.bit → start ≡ u.right - 1 → u.right ≤ width → HasCodes p → pixels_of_run p ≡ m → m ≤ width - start
      → drop u.at bits ≡ code mode_codes 1 ++ drop at bits → drop at bits ≡ run_bits u.black p ++ drop middle bits → RunFault (not u.black) (width - start - m) (drop middle bits) f.kind (f.bit - middle) → ModeStops bits width above u f
  second_stops f p at start middle m three low high since is on has is_m fits reads first fault =
      let size : length (run_bits u.black p) ≡ middle - at = omega (arith, ap length first, length-append (run_bits u.black p) (drop middle bits), length-drop at bits, length-drop middle bits) in
      let longer : at ≤ middle = omega (arith, ap length first, length-append (run_bits u.black p) (drop middle bits), length-drop at bits, length-drop middle bits) in
      record {
        since = omega arith;
        fault = λ over shows.
            let room : width - start - m ≡ length over - (u.right - 1) - pixels_of_run p = omega (arith, shows.long) in
            let count : 3 + length (run_bits u.black p) + (f.bit - middle) ≡ f.bit - u.at = omega arith in
            let here = subst (λ (r : ℕ). RunFault (not u.black) r (drop middle bits) f.kind (f.bit - middle)) room fault in
            subst (λ (bs : List Bool). ModeFault over (place_under u) bs f.kind (f.bit - u.at)) (sym (reads ∙ ap (λ x. code mode_codes 1 ++ x) first))
            (subst (λ (n : ℕ). ModeFault over (place_under u) (code mode_codes 1 ++ (run_bits u.black p ++ drop middle bits)) f.kind n) count
            (ModeFault.second p (drop middle bits) f.kind (f.bit - middle) has (omega (arith, shows.long)) here));
      }

  -- a whole mode that does not move
  pub stays_there : (over : List Bool) (mode : Mode) (at bit : ℕ) (kind : RuleKind) → ModeFault over (place_under u) (mode_bits u.black mode ++ drop at bits) T6BadPlace 0 → drop u.at bits ≡ mode_bits u.black mode ++ drop at bits → bit ≡ u.at → kind ≡ T6BadPlace → ModeFault over (place_under u) (drop u.at bits) kind (bit - u.at)
  stays_there over mode at bit kind fault reads here is =
      let none : 0 ≡ bit - u.at = omega arith in
      subst (λ (bs : List Bool). ModeFault over (place_under u) bs kind (bit - u.at)) (sym reads)
      (subst (λ (n : ℕ). ModeFault over (place_under u) (mode_bits u.black mode ++ drop at bits) kind n) none
      (subst (λ (k : RuleKind). ModeFault over (place_under u) (mode_bits u.black mode ++ drop at bits) k 0) (sym is) fault))

  pub horizontal_stops : (f : ReadFault) (p q : Run) (at : ℕ) → f.kind ≡ T6BadPlace → f.bit ≡ u.at → HasCodes p → HasCodes q → drop u.at bits ≡ mode_bits u.black (Horizontal p q) ++ drop at bits → u.right - 1 + (pixels_of_run p + pixels_of_run q) < u.right → ModeStops bits width above u f
  horizontal_stops f p q at kind bit has_p has_q reads still = record {
    since = omega arith;
    fault = λ over shows. stays_there over (Horizontal p q) at f.bit f.kind (ModeFault.stays (Horizontal p q) (drop at bits) (has_p, has_q) (omega arith)) reads bit kind;
  }

  pub vertical_stops : (n at row : ℕ) → n ≤ 6 → get_or vertical_rows n 0 ≡ row → drop u.at bits ≡ code mode_codes row ++ drop at bits → (f : ReadFault) → VerticalStops width above u n f → ModeStops bits width above u f
  vertical_stops n at row small is reads f so =
      let own : drop u.at bits ≡ mode_bits u.black (Vertical n) ++ drop at bits = reads ∙ ap (λ r. code mode_codes r ++ drop at bits) (sym is) in
      record {
        since = omega (arith, so.bit);
        fault = λ over shows. elim (so.fault over shows) [
          | inl still ↦ stays_there over (Vertical n) at f.bit f.kind (ModeFault.stays (Vertical n) (drop at bits) small still) own so.bit so.kind
          | inr past ↦ stays_there over (Vertical n) at f.bit f.kind (ModeFault.passes n (drop at bits) small past) own so.bit so.kind
        ];
      }

  pub vertical_reads : (old new : List ℕ) (n at row : ℕ) (r : Result Under ReadFault) → get_or vertical_rows n 0 ≡ row → drop u.at bits ≡ code mode_codes row ++ drop at bits → IfOk r (λ v. v.at ≡ at)
      → ((over px : List Bool) → Shows above width over → Shows old (u.right - 1) px → IfOk r (λ v. Steps over px new u v (Vertical n))) → IfOk r (λ v. ModeReads bits width above old new u v)
  vertical_reads old new n at row (Ok v) is reads there steps = λ over px shows_over shows.
      record {
        mode = Vertical n;
        codes = reads ∙ ap (λ r. code mode_codes r ++ drop at bits) (sym is) ∙ ap (λ k. mode_bits u.black (Vertical n) ++ drop k bits) (sym there);
        steps = steps over px shows_over shows;
      }
  vertical_reads old new n at row (Err e) is reads there steps = tt

-- what is said of each fault
pub of_fault : {P Q : ReadFault → Type 0} (r : Result Under ReadFault) → ((f : ReadFault) → P f → Q f) → IfErr r P → IfErr r Q
of_fault (Ok v) h fault = tt
of_fault (Err f) h fault = h f fault

-- ---- a mode looked up

pub mode_found : (bits : List Bool) (at row len : ℕ) → next_row mode_codes (drop at bits) ≡ Ok row → len ≡ length (code mode_codes row) → drop at bits ≡ code mode_codes row ++ drop (at + len) bits
mode_found bits at row len is long =
    row_found mode_codes (drop at bits) row is ∙ ap (λ bs. code mode_codes row ++ bs) (ap (λ m. drop m (drop at bits)) (sym long) ∙ drop-drop len at bits)

pub mode_within : (bits : List Bool) (at row len : ℕ) → next_row mode_codes (drop at bits) ≡ Ok row → len ≡ length (code mode_codes row) → at ≤ length bits → at + len ≤ length bits
mode_within bits at row len is long within = omega (arith, row_length mode_codes (drop at bits) row is, length-drop at bits)

-- the same, of the bit after the code
pub mode_ends : (bits : List Bool) (at row next : ℕ) → next_row mode_codes (drop at bits) ≡ Ok row → next ≡ at + length (code mode_codes row) → drop at bits ≡ code mode_codes row ++ drop next bits
mode_ends bits at row next is end = mode_found bits at row (length (code mode_codes row)) is refl ∙ ap (λ k. code mode_codes row ++ drop k bits) (sym end)

pub mode_inside : (bits : List Bool) (at row next : ℕ) → next_row mode_codes (drop at bits) ≡ Ok row → next ≡ at + length (code mode_codes row) → at ≤ length bits → next ≤ length bits
mode_inside bits at row next is end within = omega (arith, mode_within bits at row (length (code mode_codes row)) is refl within)

pub three_bits : length (code mode_codes 1) ≡ 3
unfolding mode_codes
three_bits = refl

pub missing_stops : (bits : List Bool) (width : ℕ) (above : List ℕ) (u : Under) (f : ReadFault) → f.bit ≡ u.at → mode_fault (next_row due_codes (drop u.at bits)) ≡ Some f.kind → ModeStops bits width above u f
missing_stops bits width above u f here is = record {
  since = omega arith;
  fault = λ over shows.
      let none : 0 ≡ f.bit - u.at = omega arith in
      subst (λ (n : ℕ). ModeFault over (place_under u) (drop u.at bits) f.kind n) none (ModeFault.missing (drop u.at bits) f.kind is);
}

pub at_most : (r : Result Under ReadFault) (at n : ℕ) → IfOk r (λ v. v.at ≡ at) → at ≤ n → IfOk r (λ v. v.at ≤ n)
at_most (Ok v) at n is h = omega arith
at_most (Err e) at n is h = tt

-- ---- a row under way

all_more : (over : List Bool) (place : Place) (ms : List Mode) (m : Mode) → AllMove over place ms → Moves over (end_of_modes over place ms) m → AllMove over place (ms ++ m ∷ [])
all_more over place [] m all here = (here, tt)
all_more over place (k ∷ ms) m all here = (all.0, all_more over (place_after over place k) ms m all.1 here)

chosen_more : (over : List Bool) (place : Place) (ms : List Mode) (m : Mode) → AreCanonical over place ms → IsCanonical over (end_of_modes over place ms) m → AreCanonical over place (ms ++ m ∷ [])
chosen_more over place [] m all here = (here, tt)
chosen_more over place (k ∷ ms) m all here = (all.0, chosen_more over (place_after over place k) ms m all.1 here)

codes_more : (over : List Bool) (place : Place) (ms : List Mode) (m : Mode) → codes_of over place (ms ++ m ∷ []) ≡ codes_of over place ms ++ mode_bits (end_of_modes over place ms).black m
codes_more over place [] m = append-nil (mode_bits place.black m)
codes_more over place (k ∷ ms) m =
    ap (λ bs. mode_bits place.black k ++ bs) (codes_more over (place_after over place k) ms m)
    ∙ sym (append_assoc (mode_bits place.black k) (codes_of over (place_after over place k) ms) (mode_bits (end_of_modes over place (k ∷ ms)).black m))

end_more : (over : List Bool) (place : Place) (ms : List Mode) (m : Mode) → end_of_modes over place (ms ++ m ∷ []) ≡ place_after over (end_of_modes over place ms) m
end_more over place [] m = refl
end_more over place (k ∷ ms) m = end_more over (place_after over place k) ms m

pixels_more : (over : List Bool) (place : Place) (ms : List Mode) (m : Mode) → pixels over place (ms ++ m ∷ []) ≡ pixels over place ms ++ painted (end_of_modes over place ms) (place_after over (end_of_modes over place ms) m) m
pixels_more over place [] m = append-nil (painted place (place_after over place m) m)
pixels_more over place (k ∷ ms) m =
    ap (λ ps. painted place (place_after over place k) k ++ ps) (pixels_more over (place_after over place k) ms m)
    ∙ sym (append_assoc (painted place (place_after over place k) k) (pixels over (place_after over place k) ms) (painted (end_of_modes over place (k ∷ ms)) (place_after over (end_of_modes over place (k ∷ ms)) m) m))

pub none_read : (over bits : List Bool) (first : ℕ) (line : List ℕ) (u : Under) → line ≡ [] → u.right ≡ 0 → u.black ≡ false → u.at ≡ first → ModesRead over bits first line u
none_read over bits first line u none right black here = record {
  modes = [];
  move = tt;
  reads = ap (λ k. drop k bits) (sym here);
  there = same_place 0 u.right false u.black (sym right) (sym black);
  shows = (let zero : 0 ≡ u.right - 1 = omega arith in subst (λ (ts : List ℕ). Shows ts (u.right - 1) []) (sym none) (subst (λ (n : ℕ). Shows [] n []) zero (shows_white 0)));
  chosen = λ e. tt;
}

pub mode_more : (over bits : List Bool) (first width : ℕ) (above old new : List ℕ) (u v : Under) → Shows above width over → ModesRead over bits first old u → ModeReads bits width above old new u v → ModesRead over bits first new v
mode_more over bits first width above old new u v shows_over so more =
    let one = more over (pixels over start so.modes) shows_over so.shows in
    let m = one.mode in let step = one.steps in let p = place_under u in
    let E : Place → Type 0 = λ q. Moves over q m in
    let black : (end_of_modes over start so.modes).black ≡ u.black = ap (λ (q : Place). q.black) so.there in
    record {
      modes = so.modes ++ m ∷ [];
      move = all_more over start so.modes m so.move (subst E (sym so.there) step.moves);
      reads = so.reads ∙ ap (λ bs. codes_of over start so.modes ++ bs) one.codes
          ∙ sym (append_assoc (codes_of over start so.modes) (mode_bits u.black m) (drop v.at bits))
          ∙ ap (λ c. (codes_of over start so.modes ++ mode_bits c m) ++ drop v.at bits) (sym black)
          ∙ ap (λ bs. bs ++ drop v.at bits) (sym (codes_more over start so.modes m));
      there = end_more over start so.modes m ∙ ap (λ q. place_after over q m) so.there ∙ step.there;
      shows = subst (λ (ps : List Bool). Shows new (v.right - 1) ps)
          (sym (pixels_more over start so.modes m ∙ ap (λ q. pixels over start so.modes ++ painted q (place_after over q m) m) so.there ∙ ap (λ q. pixels over start so.modes ++ painted p q m) step.there)) step.shows;
      chosen = λ e. (let f = step.chosen e in chosen_more over start so.modes m (so.chosen f.0) (subst (λ (q : Place). IsCanonical over q m) (sym so.there) f.1));
    }

pub row_end : (over bits : List Bool) (first width : ℕ) (above line : List ℕ) (u : Under) → Shows above width over → ModesRead over bits first line u → u.right ≡ width + 1 → RowIsRead over bits first u.at width line
row_end over bits first width above line u shows_over so last =
    let all : u.right - 1 ≡ width = omega arith in
    record {
      row = pixels over start so.modes;
      reads = record {
        modes = so.modes;
        move = so.move;
        codes = so.reads;
        end = ap (λ (q : Place). q.right) so.there ∙ last ∙ omega (arith, shows_over.long);
        paint = refl;
      };
      shows = subst (λ (n : ℕ). Shows line n (pixels over start so.modes)) all so.shows;
    }

pub row_stops : (over bits : List Bool) (first width : ℕ) (above line : List ℕ) (u : Under) (f : ReadFault) → Shows above width over → ModesRead over bits first line u → u.right ≤ width → first ≤ length bits → u.at ≤ length bits → ModeStops bits width above u f → RowStops over bits first f
row_stops over bits first width above line u f shows_over so on low high stop =
    let modes = so.modes in
    let long : length (drop first bits) ≡ length (codes_of over start modes) + length (drop u.at bits) = ap length so.reads ∙ length-append (codes_of over start modes) (drop u.at bits) in
    let size : u.at ≡ first + length (codes_of over start modes) = omega (arith, long, length-drop first bits, length-drop u.at bits) in
    let count : length (codes_of over start modes) + (f.bit - u.at) ≡ f.bit - first = omega (arith, stop.since) in
    let fault = subst (λ (q : Place). ModeFault over q (drop u.at bits) f.kind (f.bit - u.at)) (sym so.there) (stop.fault over shows_over) in
    let right : (end_of_modes over start modes).right ≡ u.right = ap (λ (q : Place). q.right) so.there in
    record {
      since = omega (arith, stop.since);
      fault = subst (λ (bs : List Bool). RowFault over bs f.kind (f.bit - first)) (sym so.reads)
          (subst (λ (n : ℕ). RowFault over (codes_of over start modes ++ drop u.at bits) f.kind n) count
          (stops modes (drop u.at bits) f.kind (f.bit - u.at) so.move (omega (arith, shows_over.long)) fault));
    }

pub under_none : (above line : List ℕ) (width : ℕ) (u : Under) → line ≡ [] → u.right ≡ 0 → u.black ≡ false → u.from ≡ 0 → IsUnder above line width u
under_none above line width u none right black from_is = record {
  within = omega arith;
  turns = subst (λ (ts : List ℕ). Turns ts (u.right - 1)) (sym none) (record { strict = λ k h. absurd (omega arith); until = λ k h. absurd (omega arith) });
  colour = ap (λ (ts : List ℕ). odd (length ts)) none ∙ sym black;
  from = λ on. record {
    colour = ap odd from_is ∙ sym black;
    behind = λ j e. absurd (omega arith);
    ahead = omega arith;
  };
}

-- a turn right of all before it, where the colour goes over
pub under_next : (above old new : List ℕ) (width : ℕ) (u v : Under) → IsUnder above old width u → 0 < u.right → new ≡ old ++ (v.right - 1) ∷ [] → v.black ≡ not u.black → u.right < v.right → v.right ≤ width → IsNextFrom above width v.from v.right v.black → IsUnder above new width v
under_next above old new width u v so onward is black more within next = record {
  within = omega arith;
  turns = subst (λ (ts : List ℕ). Turns ts (v.right - 1)) (sym is)
      (turn_turns old (v.right - 1) (turns_grown old (u.right - 1) (v.right - 1) so.turns (omega arith)) (λ k e. omega (arith, so.turns.until k (omega arith))));
  colour = turn_colour old new (v.right - 1) is ∙ ap not so.colour ∙ sym black;
  from = λ on. next;
}

not_not : (b : Bool) → not (not b) ≡ b
not_not true = refl
not_not false = refl

-- the turns after a run
pub run_turns : (old : List ℕ) (from to : ℕ) → Turns old from → from < to → Turns (old ++ to ∷ []) to
run_turns old from to turns more = turn_turns old to (turns_grown old from to turns (omega arith)) (λ k e. omega (arith, turns.until k (omega arith)))

-- two runs on, neither of them empty
pub under_runs : (above old new : List ℕ) (width middle end : ℕ) (u v : Under) → IsUnder above old width u → u.right - 1 < middle → middle < end → v.right ≡ end + 1 → v.right ≤ width → new ≡ (old ++ middle ∷ []) ++ end ∷ [] → v.black ≡ u.black → IsNextFrom above width v.from v.right v.black → IsUnder above new width v
under_runs above old new width middle end u v so first second there within is black next =
    let mid = old ++ middle ∷ [] in
    let last : end ≡ v.right - 1 = omega arith in
    record {
      within = omega arith;
      turns = subst (λ (ts : List ℕ). Turns ts (v.right - 1)) (sym is) (subst (λ (n : ℕ). Turns (mid ++ end ∷ []) n) last (run_turns mid middle end (run_turns old (u.right - 1) middle so.turns first) second));
      colour = turn_colour mid new end is ∙ ap not (turn_colour old mid middle refl) ∙ not_not (odd (length old)) ∙ so.colour ∙ sym black;
      from = λ on. next;
    }

-- the code of a mode near b1
near_bits : (n : ℕ) (black : Bool) → n ≤ 7 → mode_bits black (near_mode n) ≡ code mode_codes (get_or vertical_rows n 0)
near_bits zero black h = refl
near_bits (suc zero) black h = refl
near_bits (suc (suc zero)) black h = refl
near_bits (suc (suc (suc zero))) black h = refl
near_bits (suc (suc (suc (suc zero)))) black h = refl
near_bits (suc (suc (suc (suc (suc zero))))) black h = refl
near_bits (suc (suc (suc (suc (suc (suc zero)))))) black h = refl
near_bits (suc (suc (suc (suc (suc (suc (suc zero))))))) black h = refl
near_bits (suc (suc (suc (suc (suc (suc (suc (suc n)))))))) black h = absurd (omega arith)

-- a mode near b1 read out of a word
pub near_reads : (bits : List Bool) (width : ℕ) (above old new : List ℕ) (u v : Under) (near : Near) → BeginsNear (drop u.at bits) near → v.at ≡ u.at + near.len
    → ((over px : List Bool) → Shows above width over → Shows old (u.right - 1) px → Steps over px new u v (near_mode near.shift)) → ModeReads bits width above old new u v
near_reads bits width above old new u v near begins there steps = λ over px shows_over shows.
    let row = get_or vertical_rows near.shift 0 in
    record {
      mode = near_mode near.shift;
      codes = mode_found bits u.at row near.len begins.row begins.long ∙ ap (λ k. code mode_codes row ++ drop k bits) (sym there) ∙ ap (λ bs. bs ++ drop v.at bits) (sym (near_bits near.shift u.black begins.small));
      steps = steps over px shows_over shows;
    }

-- the place under way after a mode near b1, which stays in its colour or turns it
pub near_under : (stays : Bool) (above old new : List ℕ) (width change : ℕ) (u v : Under) → Rises above width → IsUnder above old width u → 0 < u.right → u.right ≤ width → change ≡ u.from + from_bool stays → 0 < change
    → (stays ≡ true → new ≡ old) → (stays ≡ false → new ≡ old ++ (v.right - 1) ∷ []) → (stays ≡ true → v.black ≡ u.black) → (stays ≡ false → v.black ≡ not u.black)
    → u.right < v.right → v.right ≤ width → SteppedTo above width (change - 1) v.from v.right → IsUnder above new width v
near_under true above old new width change u v rises so onward on is some same put kept turned less within step =
    let back : change - 1 ≡ u.from = omega arith in
    record {
      within = omega arith;
      turns = subst (λ (ts : List ℕ). Turns ts (v.right - 1)) (sym (same refl)) (turns_grown old (u.right - 1) (v.right - 1) so.turns (omega arith));
      colour = ap (λ (ts : List ℕ). odd (length ts)) (same refl) ∙ so.colour ∙ sym (kept refl);
      from = λ h. subst (λ (b : Bool). IsNextFrom above width v.from v.right b) (sym (kept refl))
          (from_same above width u.from v.from u.right v.right u.black (so.from on) (omega arith) within (subst (λ (n : ℕ). SteppedTo above width n v.from v.right) back step));
    }
near_under false above old new width change u v rises so onward on is some same put kept turned less within step =
    let here : change ≡ u.from = omega arith in
    under_next above old new width u v so onward (put refl) (turned refl) less within
    (subst (λ (b : Bool). IsNextFrom above width v.from v.right b) (sym (turned refl))
    (from_back above width u.from (change - 1) v.from u.right v.right u.black rises (so.from on) (λ h. omega arith) (λ h. absurd (omega arith)) (omega arith) within step))

-- the mode that it is
pub near_steps : (stays : Bool) (above old new : List ℕ) (width change shift add : ℕ) (over px : List Bool) (u v : Under) → Shows above width over → Shows old (u.right - 1) px → IsUnder above old width u → u.right ≤ width
    → nat_eq shift 7 ≡ stays → shift ≤ 7 → (stays ≡ true → shift ≡ 7) → (stays ≡ false → shift ≤ 6) → (stays ≡ true → add ≡ 3) → (stays ≡ false → add ≡ shift) → change ≡ u.from + from_bool stays → v.right ≡ place_at above width change + add - 2
    → (stays ≡ true → new ≡ old) → (stays ≡ false → new ≡ old ++ (v.right - 1) ∷ []) → (stays ≡ true → v.black ≡ u.black) → (stays ≡ false → v.black ≡ not u.black)
    → u.right < v.right → v.right ≤ width → v.canonical ≡ u.canonical → (u.canonical ≡ true → v.right ≤ place_at above width (change + 1)) → Steps over px new u v (near_mode shift)
near_steps true above old new width change shift add over px u v shows_over shows so on e small seven six three own is right same put kept turned less within wanted short =
    let place : change ≡ u.from + 1 = is in
    subst (λ (ts : List ℕ). Steps over px ts u v (near_mode shift)) (sym (same refl))
    (subst (λ (n : ℕ). Steps over px old u v (near_mode n)) (sym (seven refl))
    (pass_steps above width over u shows_over (so.from on) old v px so.turns so.colour shows (omega (arith, right, ap (place_at above width) place, three refl)) (kept refl) less (omega arith)
    (λ f. (sym wanted ∙ f, within))))
near_steps false above old new width change shift add over px u v shows_over shows so on e small seven six three own is right same put kept turned less within wanted short =
    let place : change ≡ u.from = omega arith in
    let mode : near_mode shift ≡ Vertical shift = cond-false (nat_eq shift 7) Pass (Vertical shift) e in
    subst (λ (m : Mode). Steps over px new u v m) (sym mode)
    (vertical_steps above width over u shows_over (so.from on) old new v shift px (six refl) so.turns so.colour shows (omega (arith, right, ap (place_at above width) place, own refl)) (turned refl) less (omega arith)
    (λ ps h. subst (λ (ts : List ℕ). Shows ts (v.right - 1) ps) (sym (put refl)) (turn_shows old (v.right - 1) ps h))
    (λ f. (let own_is = sym wanted ∙ f in let next : change + 1 ≡ u.from + 1 = omega arith in
    (own_is, omega (arith, short own_is, ap (place_at above width) next, right, ap (place_at above width) place, own refl, less)))))

-- what is not refused where it is wanted
pub not_refused : (wanted is : Bool) → (wanted && not is) ≡ false → wanted ≡ true → is ≡ true
not_refused true true e f = refl
not_refused true false e f = cc
not_refused false is e f = cc

-- a number that stands for a truth value
pub at_most_one : (b : Bool) (n : ℕ) → n ≡ from_bool b → n ≤ 1
at_most_one true n e = let one : n ≡ 1 = e in omega arith
at_most_one false n e = let none : n ≡ 0 = e in omega arith
