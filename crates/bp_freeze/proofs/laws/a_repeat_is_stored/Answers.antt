use Rattle.bp_freeze.proofs.KeptLemmas.{kept-matter, kept-stored, repeat-adds-nothing, repeat-stored}
use Rattle.bp_freeze.proofs.laws.a_repeat_is_stored.Goals as goal

pub returns : goal.returns
returns c = record { repeated = repeat-stored; unchanged = repeat-adds-nothing; stored = kept-stored; left = kept-matter }
