use Rattle.std.proofs.Common.{arith}
use Rattle.bp_core.proofs.SortedLemmas.{range-order, range-found}
use Rattle.bp_core.proofs.sorted.rows_between.Goals as goal

pub slice_bounds-result-count : goal.slice_bounds-result-count
slice_bounds-result-count g c =
    let a = c.place_of-first.ensures in let b = c.place_of-last.ensures in
    range-order g.T.Keyed.key_of c.args.rows.now c.args.low c.args.high c.place_of-first.result c.place_of-last.result c.requires.order a.bound a.below b.above

pub slice_bounds-result-start : goal.slice_bounds-result-start
slice_bounds-result-start g c =
    let a = c.place_of-first.ensures in let b = c.place_of-last.ensures in
    omega (arith, range-order g.T.Keyed.key_of c.args.rows.now c.args.low c.args.high c.place_of-first.result c.place_of-last.result c.requires.order a.bound a.below b.above)

pub returns : goal.returns
returns g c =
    let a = c.place_of-first.ensures in let b = c.place_of-last.ensures in
    range-found g.T.Keyed.key_of c.args.rows.now c.args.low c.args.high c.place_of-first.result c.place_of-last.result c.requires.order a.bound b.bound a.below a.above b.below b.above
