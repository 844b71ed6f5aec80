use Rattle.std.proofs.Common.{◌≡◌, ◌<◌, ◌-◌, arith}
use Rattle.bp_t6.proofs.PlaceLemmas.{from_back}
use Rattle.bp_t6.proofs.mode_reader.go_over.Goals as goal
use Rattle.bp_t6.proofs.mode_reader.go_over.Goals.{then-under-gt0, else-under-gt0}

pub returns-clause-from : goal.returns-clause-from
returns-clause-from c = λ h.
    let above = c.args.above.now in let w = c.args.width in let u = c.args.under in
    let back = c.if-under-gt0.back in
    let some : 0 < u.from → back ≡ u.from - 1 = elim c.if-under-gt0.branch [ then-under-gt0 w ↦ (λ p. w.back-is) | else-under-gt0 w ↦ (λ p. absurd (omega (arith, w.if-under-gt0.false))) ] in
    let none : u.from ≡ 0 → back ≡ 1 = elim c.if-under-gt0.branch [ then-under-gt0 w ↦ (λ p. absurd (omega (arith, w.if-under-gt0.true))) | else-under-gt0 w ↦ (λ p. w.back-is) ] in
    from_back above w u.from back c.next_near.result u.right c.args.right u.black c.requires.above c.requires.from some none c.requires.more h (record { colour = c.next_near.ensures.colour; behind = c.next_near.ensures.behind; ahead = c.next_near.ensures.ahead })
