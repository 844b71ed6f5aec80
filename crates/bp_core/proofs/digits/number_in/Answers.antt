use Rattle.std.proofs.Common.{◌≤◌, ◌^◌, arith, sym}
use Rattle.std.proofs.Math.Nat.{pow-le-pow_right}
use Rattle.bp_core.proofs.DigitLemmas.{next_digit}
use Rattle.bp_core.proofs.digits.number_in.Goals as goal

pub overflow_mul-number : goal.overflow_mul-number
overflow_mul-number c =
    let most : 10 ^ c.loop-digit.digit-index ≤ 10 ^ 8 = pow-le-pow_right {n = 10} (omega arith) {i = c.loop-digit.digit-index} {j = 8} (omega arith) in
    omega (arith, most, c.loop-digit.invariant.small)

pub overflow_add-number : goal.overflow_add-number
overflow_add-number c =
    let most : 10 ^ c.loop-digit.digit-index ≤ 10 ^ 8 = pow-le-pow_right {n = 10} (omega arith) {i = c.loop-digit.digit-index} {j = 8} (omega arith) in
    omega (arith, most, c.loop-digit.invariant.small, c.type_inv.text c.loop-digit.digit-index)

pub loop-digit-preserved : goal.loop-digit-preserved
loop-digit-preserved c =
    let i = c.loop-digit.digit-index in
    let so_far = c.loop-digit.invariant in
    let next = next_digit c.args.text.now i c.loop-digit.number c.from.result c.loop-digit-test.true so_far.digits (sym c.if-not-is_ascii_digit.ensures.value) c.from.ensures so_far.value so_far.small in
    record { digits = next.0; value = next.1; small = next.2 }
