use Rattle.std.proofs.Common.{◌≡◌, ◌-◌, ◌^◌, ◌++◌, ap, sym, ◌∙◌, arith, append_assoc}
use Rattle.std.proofs.lemmas.List.{append-nil}
use Rattle.bp_rows.specs.Words.{word_ones}
use Rattle.bp_rows.proofs.EdgeLemmas.{ones_more, shl_one, word_none}
use Rattle.bp_rows.proofs.changes.push_ones.Goals as goal

pub overflow_sub-rest-in-loop-rest : goal.overflow_sub-rest-in-loop-rest
overflow_sub-rest-in-loop-rest c =
    let more = ones_more c.args.base c.loop-rest.rest (omega arith) (omega (arith, c.loop-rest.auto.rest-fits)) in
    omega (arith, shl_one _ more.0 more.1, more.2)

pub loop-rest-preserved : goal.loop-rest-preserved
loop-rest-preserved c =
    let base = c.args.base in let rest = c.loop-rest.rest in
    let more = ones_more base rest (omega arith) (omega (arith, c.loop-rest.auto.rest-fits)) in
    ap (λ v. c.push.new.self.items ++ word_ones base (rest - v)) (shl_one _ more.0 more.1)
    ∙ ap (λ is. is ++ word_ones base (rest - 2 ^ more.0)) c.in_ok-push.ensures.items
    ∙ append_assoc c.loop-rest.places.items _ (word_ones base (rest - 2 ^ more.0))
    ∙ ap (λ ps. c.loop-rest.places.items ++ ps) (sym more.3) ∙ c.loop-rest.invariant

pub returns : goal.returns
returns c =
    let none : c.loop-rest.rest ≡ 0 = omega arith in
    sym (append-nil c.loop-rest.places.items) ∙ ap (λ ps. c.loop-rest.places.items ++ ps) (sym (word_none c.args.base))
    ∙ ap (λ n. c.loop-rest.places.items ++ word_ones c.args.base n) (sym none) ∙ c.loop-rest.invariant
