use Rattle.bp_freeze.proofs.LabelLemmas.{no-label-twice}
use Rattle.bp_freeze.proofs.NumberLemmas.{taken-once}
use Rattle.bp_freeze.proofs.laws.numbers_are_taken_once.Goals as goal

pub returns : goal.returns
returns c = record { numbers = taken-once; labels = no-label-twice }
