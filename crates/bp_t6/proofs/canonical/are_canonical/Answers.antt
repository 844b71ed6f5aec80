use Rattle.std.proofs.Common.{ℕ, ◌+◌, ◌-◌, ◌<◌, ◌≤◌, ◌≡◌, true, ◌&&◌, nat_le, nat_lt, ap, sym, ◌∙◌, arith, inl, inr}
use Rattle.std.proofs.lemmas.Bool.{and_parts, cases_lt, leb-true, lt-ltb}
use Rattle.std.specs.Int.{from_bool}
use Rattle.bp_rows.specs.Changes.{place_at}
use Rattle.bp_t6.specs.Places.{b1, b2}
use Rattle.bp_t6.specs.Written.{written_run}
use Rattle.bp_t6.specs.Reading.{place_under}
use Rattle.bp_t6.proofs.PlaceLemmas.{b1_is, after_is, from_small}
use Rattle.bp_t6.proofs.canonical.are_canonical.Goals as goal

pub overflow_add-under : goal.overflow_add-under
overflow_add-under c =
    let small = from_small c.args.above.now c.args.width c.args.under.from c.args.under.right c.args.under.black c.requires.from c.requires.on in omega arith

pub returns : goal.returns
returns c = λ over p q shows is_p has_p is_q has_q e.
    let above = c.args.above.now in let w = c.args.width in let u = c.args.under in
    let start = c.saturating_sub.ensures in
    let a1 = c.saturating_sub.result + c.args.first.pixels in
    let first_change : b1 over (place_under u) ≡ place_at above w u.from = b1_is above w over (place_under u) u.from shows c.requires.from in
    let second_change : b2 over (place_under u) ≡ place_at above w (u.from + 1) = after_is above w over u.from (b1 over (place_under u)) shows first_change in
    let y = c.place_in-b1.ensures in let z = c.place_in-b2.ensures in
    let coded = c.args.first.canonical && c.args.second.canonical in
    let parts = and_parts coded (nat_le c.from.result c.args.second.pixels) e in
    let both = and_parts c.args.first.canonical c.args.second.canonical parts.0 in
    record {
      first_coded = has_p both.0 ∙ ap written_run (sym is_p);
      second_coded = has_q both.1 ∙ ap written_run (sym is_q);
      begins = λ some. omega (arith, is_p, c.if-a1-under.false, start);
      goes_on = λ less.
          let inside : nat_lt a1 w ≡ true = lt-ltb a1 w (omega (arith, less, is_p, start, shows.long)) in
          let one : c.from.result ≡ 1 = c.from.ensures ∙ ap from_bool inside in
          omega (arith, one, is_q, leb-true c.from.result c.args.second.pixels parts.1);
      no_pass = omega (arith, is_p, start, second_change, z, c.if-b2-a1.false);
      far = elim (cases_lt (b1 over (place_under u) + 3) a1) [
        | inl more ↦ inl (omega (arith, is_p, start, more))
        | inr less ↦ inr (omega (arith, is_p, start, first_change, y, less, c.abs_diff.ensures, c.if-abs_diff-le-VERTICAL_REACH.false))
      ];
    }
