use Rattle.bp_looks.specs.Found.{spot_of}
use Rattle.bp_looks.specs.Parts.{page_words}
use Rattle.bp_looks.proofs.CoveredLemmas.{kept-bare, place-bare}
use Rattle.bp_looks.proofs.laws.covered_law.Goals as goal

pub returns-clause-one : goal.returns-clause-one
returns-clause-one c = λ m doc page term boxes all.
    kept-bare boxes term (spot_of doc page) (page_words m doc page) all

pub returns-clause-several : goal.returns-clause-several
returns-clause-several c = λ m doc page terms boxes all place j lt few bare.
    place-bare boxes terms (spot_of doc page) (page_words m doc page) all place j lt few bare
