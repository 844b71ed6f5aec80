use Rattle.std.proofs.Common.{ap, sym, cond}
use Rattle.std.proofs.lemmas.Bool.{ne_eqb}
use Rattle.bp_core.specs.Paths.{with_solidus}
use Rattle.bp_core.proofs.paths.with_solidus.Goals as goal

pub returns-then-c-eq92 : goal.returns-then-c-eq92
returns-then-c-eq92 c = sym (ap with_solidus c.if-c-eq92.true)

pub returns-else-c-eq92 : goal.returns-else-c-eq92
returns-else-c-eq92 c = sym (ap (λ b. cond b 47 c.args.c) (ne_eqb c.args.c 92 c.if-c-eq92.false))
