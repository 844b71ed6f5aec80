use Rattle.std.proofs.Common.{refl, subst}
use Rattle.bp_outside.specs.Out.{OutWritesPrefix, out_after_refusal}
use Rattle.bp_outside.specs.declared.refusals.OutRefusal.{OutRefusal}
use Rattle.bp_cli.specs.Printing.{lacking}
use Rattle.bp_cli.proofs.printing.print.Goals as goal

pub returns-in-Err-OutOfMemory : goal.returns-in-Err-OutOfMemory
returns-in-Err-OutOfMemory g c =
    let part = subst (λ (r : OutRefusal). OutWritesPrefix (out_after_refusal (g.O.Out.shows c.args.out.now) r) c.args.text.now (g.O.Out.shows c.write_all.new.out)) c.in-Err-OutOfMemory.field-0-is c.in-Err-OutOfMemory.ensures in
    lacking refl part
