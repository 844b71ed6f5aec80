use Rattle.std.proofs.Common.{ap, arith, length}
use Rattle.bp_looks.proofs.CountLemmas.{held-few}
use Rattle.bp_looks.proofs.shown.held_count.Goals as goal

pub overflow_cast-result : goal.overflow_cast-result
overflow_cast-result c =
    let few = held-few c.args.tables.now.matter c.args.doc.0 c.know_valid.ensures in
    omega (arith, few, ap length c.held_on.ensures)
