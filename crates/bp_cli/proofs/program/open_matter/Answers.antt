use Rattle.std.proofs.Common.{subst, sym}
use Rattle.sqlite_wal.specs.Files.{image_at}
use Rattle.bp_cli.specs.Database.{OpensOver}
use Rattle.bp_cli.proofs.program.open_matter.Goals as goal

pub returns-in-Ok-clause-opens : goal.returns-in-Ok-clause-opens
returns-in-Ok-clause-opens g c =
    subst (OpensOver (image_at g.S.Start)) (sym c.into_connection.ensures)
    (record {
      opened = c.in-Ok.ensures.opened;
      told = c.in-Ok.ensures.told;
      sums = c.in-Ok.ensures.sums;
    })
