use Rattle.std.proofs.Common.{refl}
use Rattle.bp_outside.proofs.InputLemmas.{no_more_bytes}
use Rattle.bp_outside.proofs.input.read_some.Goals as goal

pub returns-then-taken-eq0 : goal.returns-then-taken-eq0
returns-then-taken-eq0 g c =
    (refl, no_more_bytes _ _ _ _ c.in-Ok.ensures c.if-taken-eq0.true)
