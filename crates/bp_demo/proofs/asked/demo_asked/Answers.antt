use Rattle.std.proofs.Common.{◌≡◌, ◌-◌, ◌<◌, ◌∙◌, ap, arith, length}
use Rattle.bp_demo.specs.Documents.{documents, pages_drawn}
use Rattle.bp_demo.proofs.BatchLemmas.{drawn_batch, drawn_few}
use Rattle.bp_demo.proofs.asked.demo_asked.Goals as goal

pub drawn_calls-requires : goal.drawn_calls-requires
drawn_calls-requires g c =
    let small : c.args.pages - 1 < 2000 = omega arith in
    let docs : c.in_ok-docs.docs.items ≡ documents (pages_drawn c.args.seed (c.args.pages - 1)) = c.in_ok-docs.ensures ∙ c.in_ok-drawn.ensures.docs in
    let few = drawn_few c.in_ok-docs.docs.items c.args.seed (c.args.pages - 1) small docs in
    omega (arith, few, ap length c.deref.ensures.value)

pub batch_of-requires : goal.batch_of-requires
batch_of-requires g c =
    let small : c.args.pages - 1 < 2000 = omega arith in
    drawn_batch c.in_ok-docs.docs.items c.args.seed (c.args.pages - 1) small (c.in_ok-docs.ensures ∙ c.in_ok-drawn.ensures.docs)
