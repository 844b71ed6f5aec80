use Rattle.bp_cli.proofs.BurnLemmas.{file_refused}
use Rattle.bp_cli.proofs.burn.page_in.Goals as goal

pub returns-in-Err : goal.returns-in-Err
returns-in-Err c = file_refused c.args.file.items c.in-Err.refusal c.from.result c.in-Err.ensures.refused c.in-Err.ensures.kind c.from.ensures
