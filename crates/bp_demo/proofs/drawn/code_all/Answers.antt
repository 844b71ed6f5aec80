use Rattle.std.proofs.Common.{◌<◌, ◌∙◌, arith, length, sym}
use Rattle.std.proofs.lemmas.List.{same_lists}
use Rattle.bp_demo.proofs.drawn.code_all.Goals as goal

pub returns : goal.returns
returns g c =
    let long = c.for_each_mut.auto.s in
    same_lists c.for_each_mut.new.s c.args.docs.now long (λ k d less.
    let below : k < length c.args.docs.now = omega (arith, long, less) in
    let step = (c.for_each_mut.ensures k d below).1 in
    sym step.left ∙ step.call ∙ step.argument_is)
