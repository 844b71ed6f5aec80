use Rattle.std.proofs.Common.{sym, ◌∙◌}
use Rattle.bp_freeze.proofs.AlikeLemmas.{freeze-same}
use Rattle.bp_press.proofs.SameLemmas.{volume-same}
use Rattle.bp_press.proofs.laws.same_product.Goals as goal

pub returns-clause-frozen : goal.returns-clause-frozen
returns-clause-frozen c = λ q m n f alike frozen. sym (freeze-same q m n alike.decided) ∙ frozen

pub returns-clause-volume : goal.returns-clause-volume
returns-clause-volume c = λ q m n f alike frozen. sym (volume-same f m n (alike.shown f frozen))
