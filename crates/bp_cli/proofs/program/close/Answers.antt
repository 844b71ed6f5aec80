use Rattle.std.proofs.Common.{Some, subst, sym}
use Rattle.bp_keep_sql.specs.Keeper.{KeptOver}
use Rattle.bp_cli.specs.Database.{ClosesAfter, LeavesFiles}
use Rattle.bp_cli.proofs.DatabaseLemmas.{leaves_files}
use Rattle.bp_cli.proofs.program.close.Goals as goal

pub returns-in-Some : goal.returns-in-Some
returns-in-Some g c =
    subst (λ given. ClosesAfter given (Some c.close.result)) (sym c.in-Some.is)
    (subst (λ (k : KeptOver _). LeavesFiles k.conn c.close.result) c.over.ensures
    (leaves_files c.over.result.conn c.close.result c.close.ensures.kept c.close.ensures.refused))
