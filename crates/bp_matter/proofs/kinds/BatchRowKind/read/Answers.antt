use Rattle.std.proofs.Common.{arith}
use Rattle.bp_matter.proofs.RowLemmas.{batch_found}
use Rattle.bp_matter.proofs.kinds.BatchRowKind.read.Goals as goal

pub returns-in-Ok-clause-written : goal.returns-in-Ok-clause-written
returns-in-Ok-clause-written c =
    batch_found c.args.row.now c.as_slice-bytes.result.now c.in-Ok.value c.in-Ok.rest.now c.finish.result (omega arith) c.if-row-ne0.false (omega arith) c.as_slice-bytes.ensures c.know_bytes.ensures c.in-Ok.ensures c.finish.ensures
