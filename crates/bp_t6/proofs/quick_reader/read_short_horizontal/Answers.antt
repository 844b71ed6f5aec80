use Rattle.std.proofs.Common.{◌≡◌, ◌≤◌, ◌+◌, ◌-◌, ◌*◌, ◌++◌, ◌∷◌, [], ℕ, List, length, drop, Ok, refl, sym, ap, ◌∙◌, subst, arith}
use Rattle.bp_codes.specs.CodeLists.{mode_codes}
use Rattle.bp_codes.specs.Span.{span_bits}
use Rattle.bp_codes.proofs.BitListLemmas.{length-bits_of}
use Rattle.bp_rows.specs.Changes.{Shows}
use Rattle.bp_t6.specs.Modes.{code, Horizontal}
use Rattle.bp_t6.proofs.PlaceLemmas.{from_same}
use Rattle.bp_t6.proofs.TurnLemmas.{turn_shows, turn_colour}
use Rattle.bp_t6.proofs.StepLemmas.{mode_ends, three_bits, horizontal_bits, horizontal_steps, run_turns, under_runs, not_refused}
use Rattle.bp_t6.proofs.quick_reader.read_short_horizontal.Goals as goal

pub overflow_add-start : goal.overflow_add-start
overflow_add-start c =
    let bits = span_bits c.args.span.now in
    let whole : length bits ≡ length c.args.span.now.bytes.now * 8 = length-bits_of c.args.span.now.fill c.args.span.now.bytes.now in
    omega (arith, c.requires.place, whole, c.args.span.now.short)

pub returns-clause-under : goal.returns-clause-under
returns-clause-under c =
    let above = c.args.above.now in let w = c.args.width in let u = c.args.under in
    let first = c.in-Some-run_ahead.run'.pixels in let second = c.in-Some-run_ahead-2.run'.pixels in
    let middle = u.right - 1 + first in
    let on : u.right ≤ w = omega (arith, c.if-end-width.false) in
    let within : middle + second + 1 ≤ w = omega (arith, c.if-end-width.false) in
    under_runs above c.args.line.now.items c.push_reserved-2.new.self.items w middle (middle + second) u _ c.requires.under (omega (arith, c.if-first-eq0.false)) (omega (arith, c.if-second-eq0.false)) refl within
    (c.push_reserved-2.ensures.items ∙ ap (λ (ts : List ℕ). ts ++ (middle + second) ∷ []) c.push_reserved.ensures.items) refl
    (from_same above w u.from c.next_likely.result u.right (middle + second + 1) u.black (c.requires.under.from on) (omega arith) within
    (record { colour = c.next_likely.ensures.colour; behind = c.next_likely.ensures.behind; ahead = c.next_likely.ensures.ahead }))

pub returns-clause-read : goal.returns-clause-read
returns-clause-read c = λ over px shows_over shows.
    let bits = span_bits c.args.span.now in let above = c.args.above.now in let w = c.args.width in let u = c.args.under in
    let old = c.args.line.now.items in
    let first = c.in-Some-run_ahead.run'.pixels in let second = c.in-Some-run_ahead-2.run'.pixels in
    let middle = u.right - 1 + first in let end = middle + second in
    let p = c.in-Some-run_ahead.ensures.found in let q = c.in-Some-run_ahead-2.ensures.found in
    let found = c.in-Some.ensures (drop u.at bits) c.requires.ahead in
    let row : c.in-Some.mode.row ≡ 1 = omega (arith, c.if-mode-ne-HORIZONTAL.false) in
    let three : u.at + 3 ≡ u.at + length (code mode_codes 1) = ap (λ k. u.at + k) (sym three_bits) in
    let begins = mode_ends bits u.at 1 (u.at + 3) (found.0 ∙ ap Ok row) three in
    let mid = old ++ middle ∷ [] in
    let last : end ≡ end + 1 - 1 = omega arith in
    let two : c.push_reserved-2.new.self.items ≡ mid ++ end ∷ [] = c.push_reserved-2.ensures.items ∙ ap (λ (ts : List ℕ). ts ++ end ∷ []) c.push_reserved.ensures.items in
    record {
      mode = Horizontal p.run q.run;
      codes = horizontal_bits bits w above u p.run q.run (u.at + 3) c.in-Some-run_ahead.run'.next c.in-Some-run_ahead-2.run'.next begins p.codes q.codes;
      steps = horizontal_steps bits w above u over px old mid c.push_reserved-2.new.self.items _ p.run q.run first second middle shows_over p.has q.has p.size q.size
          c.requires.under.turns c.requires.under.colour shows refl refl refl
          (omega (arith, c.if-first-eq0.false, c.if-second-eq0.false)) (omega (arith, c.if-end-width.false))
          (run_turns old (u.right - 1) middle c.requires.under.turns (omega (arith, c.if-first-eq0.false))) (turn_colour old mid middle refl)
          (λ ps h. turn_shows old middle ps h)
          (λ ps h. subst (λ (k : ℕ). Shows c.push_reserved-2.new.self.items k ps) last
          (subst (λ (ts : List ℕ). Shows ts end ps) (sym two) (turn_shows mid end ps (subst (λ (k : ℕ). Shows mid k ps) (sym last) h))))
          (λ e. (e, c.are_canonical.ensures over p.run q.run shows_over p.size p.chosen q.size q.chosen (not_refused u.canonical c.are_canonical.result c.if-is_refused.false e)));
    }

pub are_canonical-requires-clause-from : goal.are_canonical-requires-clause-from
are_canonical-requires-clause-from c = c.requires.under.from (omega (arith, c.if-end-width.false))
