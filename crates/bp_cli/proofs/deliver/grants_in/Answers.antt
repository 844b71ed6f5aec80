use Rattle.bp_cli.proofs.DeliverLemmas.{rows_stop}
use Rattle.bp_cli.proofs.deliver.grants_in.Goals as goal

pub returns-in-Err : goal.returns-in-Err
returns-in-Err c = rows_stop c.args.bytes.now c.in-Err.refusal c.from.result c.in-Err.ensures.answer c.from.ensures
