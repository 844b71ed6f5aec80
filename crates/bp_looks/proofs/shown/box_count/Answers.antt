use Rattle.std.proofs.Common.{ap, arith, length}
use Rattle.bp_looks.proofs.CountLemmas.{boxes-few}
use Rattle.bp_looks.proofs.shown.box_count.Goals as goal

pub overflow_cast-result : goal.overflow_cast-result
overflow_cast-result c =
    let few = boxes-few c.args.tables.now.matter c.args.doc.0 c.know_valid.ensures in
    omega (arith, few, ap length c.boxes_on.ensures)
