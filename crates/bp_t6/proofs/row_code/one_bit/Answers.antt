use Rattle.std.proofs.Common.{Bool, [], ◌∷◌, ap, sym}
use Rattle.bp_t6.proofs.row_code.one_bit.Goals as goal

pub returns-then-bit-clause-bits : goal.returns-then-bit-clause-bits
returns-then-bit-clause-bits c = ap (λ (b : Bool). b ∷ []) (sym c.if-bit.true)

pub returns-else-bit-clause-bits : goal.returns-else-bit-clause-bits
returns-else-bit-clause-bits c = ap (λ (b : Bool). b ∷ []) (sym c.if-bit.false)
