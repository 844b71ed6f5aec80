use Rattle.std.proofs.Common.{◌≡◌, ◌+◌, ◌-◌, ◌∙◌, nat_le, refl, sym, arith, inl, inr, ℕ, subst}
use Rattle.bp_rows.specs.Changes.{Shows}
use Rattle.std.proofs.lemmas.Bool.{and_parts, leb-true}
use Rattle.bp_t6.proofs.PlaceLemmas.{from_small}
use Rattle.bp_t6.proofs.StepLemmas.{vertical_right, vertical_steps}
use Rattle.bp_t6.proofs.mode_reader.read_vertical.Goals as goal
use Rattle.bp_t6.proofs.mode_reader.read_vertical.Goals.{then-right-under-via-then-right-under, then-right-under-via-else-right-under+then-width-right}

pub returns-then-right-under-clause-fault : goal.returns-then-right-under-clause-fault
returns-then-right-under-clause-fault c = record {
  kind = refl;
  bit = refl;
  fault = λ over shows.
      let there = vertical_right c.args.above.now c.args.width over c.args.under shows (c.requires.under.from c.requires.on) c.args.n in
      let read = c.place_in.ensures in let less = c.saturating_sub-right.ensures in
      elim c.then-right-under.branch [
        | then-right-under-via-then-right-under w ↦ inl (omega (arith, w.if-right-under.true))
        | then-right-under-via-else-right-under+then-width-right w ↦ inr (omega (arith, w.if-width-right.true, shows.long))
      ];
}

pub returns-clause-steps : goal.returns-clause-steps
returns-clause-steps c = λ over px shows_over shows.
    let v = c.go_over.result in let u = c.args.under in let put = c.turn.ensures in
    let place = c.go_over.ensures.right in
    let last : v.right - 1 ≡ c.saturating_sub-right.result - 1 = omega (arith, place) in
    vertical_steps c.args.above.now c.args.width over u shows_over (c.requires.under.from c.requires.on) c.args.line.now.items c.turn.new.line.items v c.args.n px c.requires.shift
    c.requires.under.turns c.requires.under.colour shows (omega (arith, place, c.saturating_sub-right.ensures, c.place_in.ensures)) c.go_over.ensures.black
    (omega (arith, place, c.if-right-under.false)) (omega (arith, place, c.if-width-right.false))
    (λ ps h. subst (λ (k : ℕ). Shows c.turn.new.line.items k ps) (sym last) (put.shows ps (subst (λ (k : ℕ). Shows c.args.line.now.items k ps) last h)))
    (λ e.
    let right = c.saturating_sub-right.result in let end = c.place_in-b2.result + 1 in
    let both = and_parts u.canonical (nat_le right end) (sym c.go_over.ensures.canonical ∙ e) in
    (both.0, omega (arith, leb-true right end both.1, c.place_in-b2.ensures, c.saturating_sub-right.ensures, c.place_in.ensures, c.if-right-under.false)))

pub overflow_add-under : goal.overflow_add-under
overflow_add-under c =
    let small = from_small c.args.above.now c.args.width c.args.under.from c.args.under.right c.args.under.black (c.requires.under.from c.requires.on) c.requires.on in omega arith
