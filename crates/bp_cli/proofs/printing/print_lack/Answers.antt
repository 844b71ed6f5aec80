use Rattle.bp_cli.proofs.PrintingLemmas.{lack_printed}
use Rattle.bp_cli.proofs.printing.print_lack.Goals as goal

pub returns : goal.returns
returns g c = record { lacks = lack_printed _ _ c.write_all.result c.write_all.ensures }
