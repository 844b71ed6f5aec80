use Rattle.std.proofs.Common.{◌≡◌, ◌≤◌, ◌<◌, ◌+◌, ◌-◌, sym, ap, ◌∙◌, arith, inl, inr}
use Rattle.std.proofs.lemmas.Bool.{cases_lt}
use Rattle.std.proofs.lemmas.List.{get_or_default, get_or_past}
use Rattle.bp_rows.specs.Changes.{place_at}
use Rattle.bp_rows.specs.Words.{is_one}
use Rattle.bp_rows.proofs.ShownLemmas.{up}
use Rattle.bp_rows.proofs.PaintLemmas.{turns_none, turns_more, painted_open, painted_ended}
use Rattle.bp_rows.proofs.paint.paint_word.Goals as goal
use Rattle.bp_rows.proofs.paint.paint_word.Goals.{then-loop-next-test+else-places-next, else-loop-next-test}

pub loop-next-init : goal.loop-next-init
loop-next-init c = record {
  turns = turns_none c.args.places.now c.args.width c.args.base c.args.first c.colour_word-pixels.result c.requires.behind c.colour_word-pixels.ensures;
  behind = λ j e. omega (arith, c.requires.behind j e);
  ahead = c.requires.ahead;
}

pub loop-next-preserved : goal.loop-next-preserved
loop-next-preserved c =
    let ps = c.args.places.now in let w = c.args.width in let k = c.loop-next.next in
    let to = get_or_default ps k w 0 c.loop-next-test.true in
    record {
      turns = turns_more ps w c.args.base k _ c.loop-next.pixels _ (sym to) (omega (arith, c.loop-next.invariant.ahead, to)) c.if-places-next.true c.loop-next.invariant.turns c.turn_from-pixels.ensures;
      behind = λ j e. (let same : j ≡ k = omega arith in omega (arith, ap (place_at ps w) same, to, c.if-places-next.true));
      ahead = omega (arith, c.loop-next.invariant.ahead, up ps w k c.requires.rises);
    }

pub returns-clause-pixels : goal.returns-clause-pixels
returns-clause-pixels c = λ line i shows small.
    let ps = c.args.places.now in let w = c.args.width in let k = c.loop-next.next in
    let within = c.requires.rises.within k in
    let last : w < c.args.base + 64 → place_at ps w k ≡ w = λ ends. elim c.loop-next-test.branch [
      | then-loop-next-test+else-places-next u ↦
          (let here = get_or_default ps k w 0 u.loop-next-test.true in
          absurd (omega (arith, within, here, u.if-places-next.false)))
      | else-loop-next-test u ↦ get_or_past ps k w u.loop-next-test.false
    ] in
    let beyond : c.args.base + 64 ≤ w → c.args.base + 64 ≤ place_at ps w k = λ goes. elim c.loop-next-test.branch [
      | then-loop-next-test+else-places-next u ↦
          (let here = get_or_default ps k w 0 u.loop-next-test.true in
          omega (arith, here, u.if-places-next.false))
      | else-loop-next-test u ↦ omega (arith, get_or_past ps k w u.loop-next-test.false)
    ] in
    elim (cases_lt w (c.args.base + 64)) [
      | inl ends ↦
          painted_ended ps w c.args.base k c.loop-next.pixels _ (last ends) c.loop-next.invariant.turns (c.end_row-pixels.ensures.ended ends) line i shows small
      | inr goes ↦
          ap (λ p. is_one p (63 - i)) (c.end_row-pixels.ensures.open goes)
          ∙ painted_open ps w c.args.base k c.loop-next.pixels (beyond goes) c.loop-next.invariant.turns line i shows small
    ]

-- behind the word, where the row goes on
pub returns-clause-ahead : goal.returns-clause-ahead
returns-clause-ahead c = λ goes.
    let ps = c.args.places.now in let w = c.args.width in let k = c.loop-next.next in
    elim c.loop-next-test.branch [
      | then-loop-next-test+else-places-next u ↦
          (let here = get_or_default ps k w 0 u.loop-next-test.true in
          omega (arith, here, u.if-places-next.false))
      | else-loop-next-test u ↦ omega (arith, get_or_past ps k w u.loop-next-test.false)
    ]
