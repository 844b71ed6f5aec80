use Rattle.std.proofs.Common.{sym, arith}
use Rattle.std.proofs.lemmas.List.{length-take-le, take_all}
use Rattle.bp_looks.specs.declared.states.TheConstants.{MAX_STATES}
use Rattle.bp_looks.proofs.states.first_of.Goals as goal

pub returns-then-rows-le-MAX_STATES : goal.returns-then-rows-le-MAX_STATES
returns-then-rows-le-MAX_STATES c =
    sym (take_all MAX_STATES c.args.rows.now c.if-rows-le-MAX_STATES.true)

pub slice_bounds-result-end : goal.slice_bounds-result-end
slice_bounds-result-end c = sym (length-take-le MAX_STATES c.args.rows.now (omega arith))
