use Rattle.std.proofs.Common.{◌++◌, ap, ◌∙◌}
use Rattle.std.specs.List.{list_all}
use Rattle.bp_freeze.specs.Log.{entry_values}
use Rattle.bp_freeze.specs.Writing.{is_one_line}
use Rattle.bp_freeze.proofs.LogLemmas.{row-lines}
use Rattle.bp_freeze.proofs.log.put_item.Goals as goal

pub put_line-requires-clause-lines : goal.put_line-requires-clause-lines
put_line-requires-clause-lines c =
    ap (list_all is_one_line) (c.in_ok-add_entry.ensures.values ∙ ap (λ vs. vs ++ entry_values c.args.item.now.entry) c.in_ok-add_claim.ensures.values)
    ∙ row-lines c.args.prefix.now c.args.item.now c.requires.prefix c.requires.entry
