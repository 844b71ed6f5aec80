use Rattle.std.proofs.Common.{Option, ap, arith, sym, ◌∙◌}
use Rattle.std.specs.Option.{ok_or}
use Rattle.bp_web.specs.declared.refusals.WebRefusal.TheVariants as refusals
use Rattle.bp_receiver.specs.declared.events.Event.{Event}
use Rattle.bp_receiver.proofs.RequestLemmas.{asked-found, asked-short}
use Rattle.bp_receiver.proofs.requests.asked_in.Goals as goal

pub returns-then-after-asking : goal.returns-then-after-asking
returns-then-after-asking c not_memory =
    asked-short c.args.asking c.args.target.now c.args.after.now c.if-after-asking.true

pub returns-in-Ok-Some : goal.returns-in-Ok-Some
returns-in-Ok-Some c not_memory =
    ap (λ (x : Option Event). ok_or x refusals.BodyRefused) (sym c.in-Ok-Some.field-0-is)
    ∙ asked-found c.args.asking c.args.target.now c.args.after.now c.in-Ok-Some.field-0
    (omega (arith, c.if-after-asking.false)) c.in-Ok-Some.ensures

pub returns-in-Ok-None : goal.returns-in-Ok-None
returns-in-Ok-None c not_memory =
    ap (λ (x : Option Event). ok_or x refusals.BodyRefused) (sym c.in-Ok-None.field-0-is)
    ∙ asked-found c.args.asking c.args.target.now c.args.after.now c.in-Ok-None.field-0
    (omega (arith, c.if-after-asking.false)) c.in-Ok-None.ensures
