use Rattle.std.proofs.Common.{◌≡◌, drop}
use Rattle.bp_looks.specs.Hits.{lent_texts, terms_of, has_hit}
use Rattle.bp_looks.proofs.hits.has_hit.Given as goal

abbrev pub invariant-loop-i : goal.invariant-loop-i
invariant-loop-i l =
    has_hit (terms_of l.terms) (lent_texts l.texts)
    ≡ has_hit (drop l.i (terms_of l.terms)) (drop l.i (lent_texts l.texts))
