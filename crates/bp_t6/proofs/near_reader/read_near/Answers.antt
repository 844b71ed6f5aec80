use Rattle.std.proofs.Common.{◌≡◌, ◌≤◌, ◌+◌, ◌-◌, true, false, nat_eq, refl, ap, arith}
use Rattle.std.proofs.lemmas.Bool.{eqb-true}
use Rattle.std.proofs.lemmas.List.{get_or_default}
use Rattle.bp_t6.proofs.PlaceLemmas.{from_small}
use Rattle.bp_t6.proofs.StepLemmas.{near_under, near_steps, at_most_one}
use Rattle.bp_t6.proofs.near_reader.read_near.Goals as goal
use Rattle.bp_t6.proofs.near_reader.read_near.Goals.{then-is_pass, else-is_pass}

pub overflow_add-change : goal.overflow_add-change
overflow_add-change c =
    let small = from_small c.args.above.now c.args.width c.args.under.from c.args.under.right c.args.under.black (c.requires.under.from c.requires.on) c.requires.on in
    let one = at_most_one _ c.from.result c.from.ensures in omega arith

pub overflow_add-change-else-change-eq0 : goal.overflow_add-change-else-change-eq0
overflow_add-change-else-change-eq0 c =
    let small = from_small c.args.above.now c.args.width c.args.under.from c.args.under.right c.args.under.black (c.requires.under.from c.requires.on) c.requires.on in
    let one = at_most_one _ c.from.result c.from.ensures in omega arith

pub returns-clause-under : goal.returns-clause-under
returns-clause-under c =
    let u = c.args.under in
    near_under (nat_eq c.args.near.shift 7) c.args.above.now c.args.line.now.items c.turn_unless.new.line.items c.args.width (u.from + c.from.result) u _ c.requires.above c.requires.under c.requires.onward c.requires.on
    (ap (λ n. u.from + n) c.from.ensures) (omega (arith, c.if-change-eq0.false)) c.turn_unless.ensures.stays c.turn_unless.ensures.turns c.colour_unless.ensures.stays c.colour_unless.ensures.turns
    (omega (arith, c.if-past-under.false)) c.in-Some.ensures.on c.in-Some.ensures.step

pub returns-clause-steps : goal.returns-clause-steps
returns-clause-steps c = λ over px shows_over shows.
    let u = c.args.under in let n = c.args.near.shift in let p = nat_eq n 7 in
    let change = u.from + c.from.result in
    let at_change = get_or_default c.args.above.now change 0 c.args.width (omega (arith, c.if-change-above.false, c.len.ensures)) in
    let seven : p ≡ true → n ≡ 7 = eqb-true n 7 in
    let six : p ≡ false → n ≤ 6 = elim c.if-is_pass.branch [ then-is_pass w ↦ (λ e. let f = w.if-is_pass.true in cc) | else-is_pass w ↦ (λ e. omega (arith, w.if-is_pass.false, c.requires.shift)) ] in
    let three : p ≡ true → c.if-is_pass.shift ≡ 3 = elim c.if-is_pass.branch [ then-is_pass w ↦ (λ e. w.shift-is) | else-is_pass w ↦ (λ e. let f = w.if-is_pass.false in cc) ] in
    let own : p ≡ false → c.if-is_pass.shift ≡ n = elim c.if-is_pass.branch [ then-is_pass w ↦ (λ e. let f = w.if-is_pass.true in cc) | else-is_pass w ↦ (λ e. w.shift-is) ] in
    near_steps p c.args.above.now c.args.line.now.items c.turn_unless.new.line.items c.args.width change n c.if-is_pass.shift over px u _ shows_over shows c.requires.under c.requires.on
    refl c.requires.shift seven six three own (ap (λ k. u.from + k) c.from.ensures) (ap (λ k. k + c.if-is_pass.shift - 2) at_change)
    c.turn_unless.ensures.stays c.turn_unless.ensures.turns c.colour_unless.ensures.stays c.colour_unless.ensures.turns
    (omega (arith, c.if-past-under.false)) c.in-Some.ensures.on refl c.in-Some.ensures.left
