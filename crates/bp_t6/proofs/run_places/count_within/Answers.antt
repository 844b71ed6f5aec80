use Rattle.std.proofs.Common.{◌≡◌, ◌-◌, get_or, ap, arith}
use Rattle.bp_t6.proofs.ShownPlaceLemmas.{ends_all}
use Rattle.bp_t6.proofs.run_places.count_within.Goals as goal

pub loop-count-init : goal.loop-count-init
loop-count-init c = ends_all c.args.places.now c.args.width

pub returns-else-width-places-clause-last : goal.returns-else-width-places-clause-last
returns-else-width-places-clause-last c = λ j e.
    let last : j ≡ c.loop-count.count - 1 = omega arith in
    omega (arith, c.if-width-places.false, ap (λ k. get_or c.args.places.now k 0) last)
