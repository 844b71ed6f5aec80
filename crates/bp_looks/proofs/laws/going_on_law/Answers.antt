use Rattle.bp_looks.specs.Parts.{documents_of}
use Rattle.bp_looks.proofs.LawLemmas.{going_on-hits}
use Rattle.bp_looks.proofs.laws.going_on_law.Goals as goal

pub returns : goal.returns
returns c = λ m terms from page n above few.
    going_on-hits n (documents_of m) terms from page above few
