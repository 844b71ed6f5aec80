use Rattle.std.proofs.Common.{◌≡◌, ◌+◌, ◌++◌, drop}
use Rattle.bp_demo.specs.Calls.{calls_from}
use Rattle.bp_demo.proofs.calls.drawn_calls.Given as goal

-- those so far, and behind them the calls of the documents that are left
abbrev pub invariant-loop-doc : goal.invariant-loop-doc
invariant-loop-doc l =
    (l.calls.items ++ calls_from l.draws.state l.number (drop l.doc-index l.docs) ≡ calls_from l.initial.draws.state 1 l.docs)
    × (l.number ≡ l.doc-index + 1)
