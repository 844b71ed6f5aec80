use Rattle.std.proofs.Common.{rules, tests}
use Rattle.std.proofs.lemmas.Iterator.Search.{all_from_yields_List}
use Rattle.std.proofs.lemmas.Iterator.Splits.{YieldsList-from_slice_split}
use Rattle.bp_core.specs.Paths.{is_slash, is_dot}
use Rattle.bp_core.proofs.paths.are_dots.Goals as goal

pub returns : goal.returns
returns c =
    all_from_yields_List is_dot _ _ c.all.result c.all.ensures.ran
    (YieldsList-from_slice_split _ is_slash c.args.bytes.now c.split.ensures.rest c.split.ensures.done c.split.ensures.closure (λ x r q k. search (rules, tests)))
    (λ x b q k. search (rules, tests))
