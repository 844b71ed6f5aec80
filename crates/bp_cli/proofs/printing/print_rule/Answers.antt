use Rattle.std.proofs.Common.{inl, refl}
use Rattle.bp_cli.proofs.printing.print_rule.Goals as goal

pub returns-in-Err : goal.returns-in-Err
returns-in-Err g c = c.print_lack.ensures.lacks _ 2 (inl refl)
