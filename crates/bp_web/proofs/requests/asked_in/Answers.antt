use Rattle.std.proofs.Common.{arith, ap, sym, ◌∙◌}
use Rattle.bp_web.proofs.RequestLemmas.{asked_found, asked_if, asked_short}
use Rattle.bp_web.proofs.requests.asked_in.Goals as goal

pub returns-then-after-asking : goal.returns-then-after-asking
returns-then-after-asking c not_memory = asked_short c.args.asking c.args.target.now c.args.after.now c.if-after-asking.true

pub returns-in-Ok-Some : goal.returns-in-Ok-Some
returns-in-Ok-Some c not_memory =
    ap (asked_if c.args.asking.key) (sym c.in-Ok-Some.field-0-is)
    ∙ asked_found c.args.asking c.args.target.now c.args.after.now c.in-Ok-Some.field-0 (omega (arith, c.if-after-asking.false)) c.in-Ok-Some.ensures

pub returns-in-Ok-None : goal.returns-in-Ok-None
returns-in-Ok-None c not_memory =
    ap (asked_if c.args.asking.key) (sym c.in-Ok-None.field-0-is)
    ∙ asked_found c.args.asking c.args.target.now c.args.after.now c.in-Ok-None.field-0 (omega (arith, c.if-after-asking.false)) c.in-Ok-None.ensures
