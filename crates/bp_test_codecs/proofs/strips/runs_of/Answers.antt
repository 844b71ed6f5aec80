use Rattle.std.proofs.Common.{sym, ◌∙◌}
use Rattle.bp_test_codecs.proofs.RowLemmas.{fills}
use Rattle.bp_test_codecs.proofs.strips.runs_of.Goals as goal

pub invariant_of-result-clause-total : goal.invariant_of-result-clause-total
invariant_of-result-clause-total c =
    fills c.args.page.now c.args.row c.in_ok-runs.runs c.width-width.ensures.page.grid c.requires c.in_ok-runs.ensures
    ∙ sym c.width-width.ensures.value
