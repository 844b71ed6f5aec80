use Rattle.std.proofs.Common.{◌≡◌, ◌++◌, drop}
use Rattle.bp_looks.specs.Hits.{lent_texts, terms_of, hits_of, hits_after}
use Rattle.bp_looks.proofs.hits.add_hits.Given as goal

abbrev pub invariant-loop-i : goal.invariant-loop-i
invariant-loop-i l =
    l.hits.items ++ hits_after (terms_of l.terms) l.spot l.i (drop l.i (lent_texts l.texts))
    ≡ l.initial.hits.items ++ hits_of (terms_of l.terms) l.spot (lent_texts l.texts)
