use Rattle.std.proofs.Common.{◌≡◌, ◌-◌, ◌<◌, ◌∙◌, ap, arith, subst}
use Rattle.std.specs.Prelude.{IfOk}
use Rattle.bp_demo.specs.Documents.{Pile, documents, pages_drawn}
use Rattle.bp_demo.proofs.PileLemmas.{few_done}
use Rattle.bp_demo.proofs.documents.drawn_documents.Goals as goal

pub add_page-requires : goal.add_page-requires
add_page-requires c =
    let small : c.loop-added.added < 2000 = omega arith in
    few_done c.loop-added.drawing c.args.seed c.loop-added.added small c.loop-added.invariant

pub finish-requires : goal.finish-requires
finish-requires c =
    let small : c.loop-added.added < 2000 = omega arith in
    few_done c.loop-added.drawing c.args.seed c.loop-added.added small c.loop-added.invariant

pub returns-clause-docs : goal.returns-clause-docs
returns-clause-docs c =
    let all : c.loop-added.added ≡ c.args.pages - 1 = omega arith in
    let whole : c.loop-added.drawing ≡ pages_drawn c.args.seed (c.args.pages - 1) = c.loop-added.invariant ∙ ap (pages_drawn c.args.seed) all in
    subst (λ (pile : Pile). IfOk c.finish.result (λ x. x.0.items ≡ documents pile)) whole c.finish.ensures.docs

pub returns-clause-state : goal.returns-clause-state
returns-clause-state c =
    let all : c.loop-added.added ≡ c.args.pages - 1 = omega arith in
    let whole : c.loop-added.drawing ≡ pages_drawn c.args.seed (c.args.pages - 1) = c.loop-added.invariant ∙ ap (pages_drawn c.args.seed) all in
    subst (λ (pile : Pile). IfOk c.finish.result (λ x. x.1.state ≡ pile.state)) whole c.finish.ensures.state
