use Rattle.std.proofs.Common.{◌+◌, ap}
use Rattle.bp_demo.specs.Calls.{calls_from}
use Rattle.bp_demo.proofs.CallLemmas.{calls_more, calls_whole}
use Rattle.bp_demo.proofs.calls.drawn_calls.Goals as goal

pub loop-doc-preserved : goal.loop-doc-preserved
loop-doc-preserved c =
    let docs = c.args.docs.now in
    let so_far = c.loop-doc.invariant in (
      calls_more (calls_from c.args.draws.state 1 docs) c.loop-doc.calls.items c.add_calls.new.calls.items c.loop-doc.draws.state c.add_calls.new.draws.state c.loop-doc.number c.loop-doc.doc-index docs c.doc-item.result
          c.loop-doc-test.true c.doc-item.is c.in_ok-add_calls.ensures.calls c.in_ok-add_calls.ensures.state so_far.0,
      ap (λ n. n + 1) so_far.1,
    )

pub returns : goal.returns
returns c = calls_whole (calls_from c.args.draws.state 1 c.args.docs.now) c.loop-doc.calls.items c.loop-doc.draws.state c.loop-doc.number c.loop-doc.doc-index c.args.docs.now c.loop-doc-test.false c.loop-doc.invariant.0
