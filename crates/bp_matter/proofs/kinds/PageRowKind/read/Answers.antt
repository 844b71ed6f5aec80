use Rattle.std.proofs.Common.{arith}
use Rattle.bp_matter.proofs.RowLemmas.{page_found}
use Rattle.bp_matter.proofs.kinds.PageRowKind.read.Goals as goal

pub returns-in-Ok-clause-written : goal.returns-in-Ok-clause-written
returns-in-Ok-clause-written c =
    page_found c.strip_law.ensures c.args.row.now c.as_slice-bytes.result.now c.in-Ok.value (omega arith) (omega arith) (omega arith) c.as_slice-bytes.ensures c.know_bytes.ensures c.in-Ok.ensures
