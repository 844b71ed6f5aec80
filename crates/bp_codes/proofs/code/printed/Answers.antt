use Rattle.std.proofs.Common.{arith, ap, ◌∙◌, ◌≤◌, length}
use Rattle.bp_codes.proofs.PrintLemmas.{next_one, next_zero, small_so_far}
use Rattle.bp_codes.proofs.code.printed.Goals as goal
use Rattle.bp_codes.proofs.code.printed.Goals.{then-byte-eq49, else-byte-eq49}

pub overflow_mul-bits : goal.overflow_mul-bits
overflow_mul-bits c =
    let short : length c.as_bytes-byte-items.result.now ≤ 13 = omega (arith, ap length c.as_bytes-byte-items.ensures.value) in
    omega (arith, small_so_far c.as_bytes-byte-items.result.now c.loop-byte.byte-index c.loop-byte.bits c.loop-byte-test.true short c.loop-byte.invariant)

pub overflow_add-bits : goal.overflow_add-bits
overflow_add-bits c =
    let short : length c.as_bytes-byte-items.result.now ≤ 13 = omega (arith, ap length c.as_bytes-byte-items.ensures.value) in
    omega (arith, small_so_far c.as_bytes-byte-items.result.now c.loop-byte.byte-index c.loop-byte.bits c.loop-byte-test.true short c.loop-byte.invariant)

pub overflow_mul-bits-else-byte-eq49 : goal.overflow_mul-bits-else-byte-eq49
overflow_mul-bits-else-byte-eq49 c =
    let short : length c.as_bytes-byte-items.result.now ≤ 13 = omega (arith, ap length c.as_bytes-byte-items.ensures.value) in
    omega (arith, small_so_far c.as_bytes-byte-items.result.now c.loop-byte.byte-index c.loop-byte.bits c.loop-byte-test.true short c.loop-byte.invariant)

pub loop-byte-preserved : goal.loop-byte-preserved
loop-byte-preserved c =
    elim c.if-byte-eq49.branch [
      | then-byte-eq49 w ↦ w.bits-is ∙ next_one c.as_bytes-byte-items.result.now c.loop-byte.byte-index c.loop-byte.bits c.loop-byte-test.true c.loop-byte.invariant w.if-byte-eq49.true
      | else-byte-eq49 w ↦ w.bits-is ∙ next_zero c.as_bytes-byte-items.result.now c.loop-byte.byte-index c.loop-byte.bits c.loop-byte-test.true c.loop-byte.invariant w.if-byte-eq49.false
    ]
