use Rattle.std.proofs.Common.{◌≡◌, ◌+◌, ◌-◌, ◌*◌, ◌^◌, ◌%◌, Bool, List, length, drop, sym, ap, ◌∙◌, subst, arith, length-drop}
use Rattle.std.proofs.lemmas.List.{drop-drop}
use Rattle.bp_codes.specs.Span.{span_bits}
use Rattle.bp_codes.proofs.BitListLemmas.{length-bits_of}
use Rattle.bp_t6.specs.Near.{Holds}
use Rattle.bp_t6.proofs.NearLemmas.{held_of, held_less, held_on}
use Rattle.bp_t6.proofs.StepLemmas.{mode_more, near_reads}
use Rattle.bp_t6.proofs.quick_reader.read_quick_modes.Goals as goal

pub loop-left-init : goal.loop-left-init
loop-left-init c =
    let i = c.loop-word.invariant in
    let bits = drop c.loop-word.under.at (span_bits c.args.span.now) in
    record {
      under = i.under;
      on = i.on;
      onward = i.onward;
      within = i.within;
      moves = i.moves;
      since = omega arith;
      far = omega arith;
      few = omega arith;
      room = i.room;
      holds = held_less c.in-Some.word 57 56 bits (omega arith) (held_of c.in-Some.word bits c.in-Some.ensures.ahead);
      read = i.read;
    }

pub read_near-requires-clause-place : goal.read_near-requires-clause-place
read_near-requires-clause-place c =
    let i = c.loop-left.invariant in let bits = span_bits c.args.span.now in
    let begins = c.in-Some-near_ahead.ensures (7 * c.loop-left.left) (drop c.loop-left.under.at bits) i.holds (omega (arith, c.loop-left-test.true)) in
    let whole : length bits ≡ length c.args.span.now.bytes.now * 8 = length-bits_of c.args.span.now.fill c.args.span.now.bytes.now in
    omega (arith, begins.short, i.within, whole, c.args.span.now.short)

pub read_near-requires-clause-shift : goal.read_near-requires-clause-shift
read_near-requires-clause-shift c =
    let i = c.loop-left.invariant in
    (c.in-Some-near_ahead.ensures (7 * c.loop-left.left) (drop c.loop-left.under.at (span_bits c.args.span.now)) i.holds (omega (arith, c.loop-left-test.true))).small

pub overflow_shl-word : goal.overflow_shl-word
overflow_shl-word c =
    let i = c.loop-left.invariant in
    let begins = c.in-Some-near_ahead.ensures (7 * c.loop-left.left) (drop c.loop-left.under.at (span_bits c.args.span.now)) i.holds (omega (arith, c.loop-left-test.true)) in
    omega (arith, begins.short)

pub loop-left-preserved-in-Some-near_ahead : goal.loop-left-preserved-in-Some-near_ahead
loop-left-preserved-in-Some-near_ahead c =
    let i = c.loop-left.invariant in let bits = span_bits c.args.span.now in
    let u = c.loop-left.under in let v = c.in-Some-read_near.next in let near = c.in-Some-near_ahead.near in
    let n = 7 * c.loop-left.left in
    let begins = c.in-Some-near_ahead.ensures n (drop u.at bits) i.holds (omega (arith, c.loop-left-test.true)) in
    let e = c.in-Some-read_near.ensures in
    let there : v.at ≡ u.at + near.len = e.at in
    let word = c.loop-left.word * 2 ^ near.len % 2 ^ 64 in
    let rest : drop near.len (drop u.at bits) ≡ drop v.at bits = drop-drop near.len u.at bits ∙ ap (λ k. drop k bits) (sym there) in
    let held = held_on c.loop-left.word n near.len (drop u.at bits) (omega (arith, begins.short, c.loop-left-test.true)) i.holds in
    record {
      under = e.under;
      on = e.on;
      onward = omega (arith, e.moves);
      within = omega (arith, there, begins.short, i.holds.long, length-drop u.at bits, c.loop-left-test.true, i.within);
      moves = omega (arith, i.moves, e.moves);
      since = omega (arith, i.since, e.moves);
      far = omega (arith, i.far, e.moves, c.loop-left-test.true);
      few = omega (arith, i.few);
      room = omega (arith, i.room, e.room);
      holds = held_less word (n - near.len) (7 * (c.loop-left.left - 1)) (drop v.at bits) (omega (arith, begins.short, c.loop-left-test.true)) (subst (λ (bs : List Bool). Holds word (n - near.len) bs) rest held);
      read = λ over start shows read.
          mode_more over bits start c.args.width c.args.above.now c.loop-left.line.items c.read_near.new.line.items u v shows (i.read over start shows read)
          (near_reads bits c.args.width c.args.above.now c.loop-left.line.items c.read_near.new.line.items u v near begins there e.steps);
    }

pub loop-left-preserved : goal.loop-left-preserved
loop-left-preserved c =
    let i = c.loop-left.invariant in let bits = span_bits c.args.span.now in
    let u = c.loop-left.under in let v = c.in-Some-read_short_horizontal.next in
    let e = c.in-Some-read_short_horizontal.ensures in
    let ahead = c.in-Some-ahead.ahead in
    let k = v.at - u.at in
    let there : u.at + k ≡ v.at = omega (arith, e.onward) in
    let word = ahead * 2 ^ k % 2 ^ 64 in
    let rest : drop k (drop u.at bits) ≡ drop v.at bits = drop-drop k u.at bits ∙ ap (λ n. drop n bits) there in
    let held = held_on ahead 57 k (drop u.at bits) (omega (arith, e.short)) (held_of ahead (drop u.at bits) c.in-Some-ahead.ensures.ahead) in
    record {
      under = e.under;
      on = e.on;
      onward = omega (arith, e.moves);
      within = e.next;
      moves = omega (arith, i.moves, e.moves);
      since = omega (arith, i.since, e.moves);
      far = omega (arith, i.since, e.moves);
      few = omega arith;
      room = omega (arith, i.room, e.room);
      holds = held_less word (57 - k) 28 (drop v.at bits) (omega (arith, e.short)) (subst (λ (bs : List Bool). Holds word (57 - k) bs) rest held);
      read = λ over start shows read.
          mode_more over bits start c.args.width c.args.above.now c.loop-left.line.items c.read_short_horizontal.new.line.items u v shows (i.read over start shows read) e.read;
    }
