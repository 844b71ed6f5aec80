use Rattle.std.proofs.Common.{◌≡◌, take}
use Rattle.bp_looks.specs.Hits.{terms_of}
use Rattle.bp_looks.proofs.terms.letters_of.Given as goal

-- the characters of the terms so far
abbrev pub invariant-loop-term : goal.invariant-loop-term
invariant-loop-term l = terms_of l.letters.items ≡ take l.term-index l.term-items
