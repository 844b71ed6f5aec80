use Rattle.std.proofs.Common.{sym, ◌∙◌}
use Rattle.std.proofs.lemmas.Bool.{not-true, not-false}
use Rattle.bp_core.proofs.DifferLemmas.{seen_met, seen_grown}
use Rattle.bp_core.proofs.differing.all_differ.Goals as goal

pub returns-then-not-branch : goal.returns-then-not-branch
returns-then-not-branch g c =
    sym (seen_met g.L.UniqueText.text_of g.L.UniqueText.coded g.L.UniqueText.decoded c.args.rows.now c.loop-first.rest.now c.in-Some.others.now c.in-Some.first.now c.loop-first.seen c.bytes.result
    c.loop-first.invariant c.in-Some.ensures.cases.0 c.bytes.ensures.bytes c.bytes.ensures.text (not-false _ (sym c.in_ok-insert.ensures.added ∙ c.if-not-branch.true)))

pub loop-first-preserved : goal.loop-first-preserved
loop-first-preserved g c =
    seen_grown g.L.UniqueText.text_of g.L.UniqueText.coded g.L.UniqueText.decoded c.args.rows.now c.loop-first.rest.now c.in-Some.others.now c.in-Some.first.now c.loop-first.seen c.insert.new.self c.bytes.result
    c.loop-first.invariant c.in-Some.ensures.cases.0 c.bytes.ensures.bytes c.bytes.ensures.text (not-true _ (sym c.in_ok-insert.ensures.added ∙ c.if-not-branch.false)) c.in_ok-insert.ensures.updates.0
