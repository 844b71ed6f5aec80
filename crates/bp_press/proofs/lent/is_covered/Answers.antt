use Rattle.std.proofs.Common.{sym, ◌∙◌}
use Rattle.bp_press.proofs.ShownLemmas.{touched_on}
use Rattle.bp_press.proofs.lent.is_covered.Goals as goal

pub returns : goal.returns
returns c = c.some_covers.ensures ∙ sym (touched_on c.args.rect.now c.args.boxes.now c.args.page.0)
