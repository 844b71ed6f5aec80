use Rattle.std.proofs.Common.{◌∙◌, List, ap, length, arith}
use Rattle.bp_load.specs.Opt.{opt_of}
use Rattle.bp_load.specs.declared.opt.OptLine.{OptLine}
use Rattle.bp_check.proofs.CalmLemmas.{bad_after, opt_calm}
use Rattle.bp_load.proofs.CountLemmas.{opt_few}
use Rattle.bp_check.proofs.plans.read_lines.Goals as goal

pub returns-in_err-read_opt-clause-after : goal.returns-in_err-read_opt-clause-after
returns-in_err-read_opt-clause-after g c =
    c.in_ok-bytes.ensures.after
    ∙ bad_after {Y = (List OptLine)} {V = (List OptLine)} (λ lines. lines) c.from_residual-in_err-read_opt.result c.in_err-read_opt.field-0.0 (opt_of c.deref.result.now) _
    (opt_calm c.deref.result.now) c.from_residual-in_err-read_opt.ensures.1 c.in_err-read_opt.ensures

pub returns-clause-few : goal.returns-clause-few
returns-clause-few g c =
    omega (arith, opt_few c.deref.result.now c.in_ok-read_opt.field-0 c.in_ok-read_opt.ensures, c.in_ok-bytes.ensures.limit, ap length c.deref.ensures.value)
