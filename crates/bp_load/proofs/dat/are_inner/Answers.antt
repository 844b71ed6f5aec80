use Rattle.std.proofs.Common.{rules, tests}
use Rattle.std.proofs.lemmas.Iterator.{YieldsList-from_chars}
use Rattle.std.proofs.lemmas.Iterator.Search.{all_from_yields_List}
use Rattle.bp_load.specs.Dat.{is_inner}
use Rattle.bp_load.proofs.dat.are_inner.Goals as goal

pub returns : goal.returns
returns c = all_from_yields_List is_inner _ _ c.all.result c.all.ensures.ran (YieldsList-from_chars c.args.text.now c.utf8.text cc) (λ x b q k. search (rules, tests))
