use Rattle.std.proofs.Common.{◌≤◌, arith}
use Rattle.bp_t6.proofs.ShownPlaceLemmas.{left_all}
use Rattle.bp_t6.proofs.SameRowLemmas.{ones_are}
use Rattle.bp_t6.proofs.same_row.ones_of.Goals as goal

pub returns : goal.returns
returns c = λ row over shows shows_over.
    let places = c.args.places.now in let width = c.args.width in
    let count = c.count_within.result in let within = c.count_within.ensures in
    ones_are places width row over shows shows_over count (record { left = left_all places width count c.requires within.few within.last; end = within.end count (omega arith) })
