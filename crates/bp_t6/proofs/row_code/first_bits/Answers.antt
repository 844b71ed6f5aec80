use Rattle.std.proofs.Common.{ℕ, ◌-◌, ◌/◌, ◌^◌, ◌<◌, ap, subst, sym, arith}
use Rattle.bp_t6.proofs.CopyLemmas.{first_below, first_code, first_fits}
use Rattle.bp_t6.proofs.row_code.first_bits.Goals as goal

pub overflow_cast-result-2 : goal.overflow_cast-result-2
overflow_cast-result-2 c =
    omega (arith, first_fits c.args.word c.from.result (omega (arith, c.from.ensures, c.requires.short)) (omega arith))

pub returns-clause-fits : goal.returns-clause-fits
returns-clause-fits c =
    subst (λ (n : ℕ). c.args.word / 2 ^ (64 - n) < 2 ^ c.args.len) (sym c.from.ensures)
    (first_below c.args.word c.args.len c.requires.short (omega arith))

pub returns-clause-bits : goal.returns-clause-bits
returns-clause-bits c = λ bits ahead.
    first_code c.args.word c.args.len (c.args.word / 2 ^ (64 - c.from.result)) bits ahead c.requires.short (omega arith)
    (ap (λ n. c.args.word / 2 ^ (64 - n)) c.from.ensures)
