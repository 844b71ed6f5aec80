use Rattle.std.proofs.Common.{rules, tests, lit<, not}
use Rattle.std.proofs.lemmas.Iterator.Consumers.{map_from_collect, YieldsList-at, YieldsList-from_filter}
use Rattle.std.proofs.lemmas.Iterator.Splits.{YieldsList-from_str_split}
use Rattle.bp_core.specs.Paths.{is_dot}
use Rattle.bp_core.proofs.paths.parts_kept.Goals as goal

pub returns : goal.returns
returns c =
    map_from_collect _ c.collect.ensures.ran
    (YieldsList-from_filter _ (λ part. not (is_dot part)) (YieldsList-at c.filter.ensures.source (YieldsList-from_str_split 47 c.args.text.now (lit< tt) c.split.ensures.text c.split.ensures.has_more c.split.ensures.pattern)) c.filter.ensures.closure (λ x b q k. search (rules, tests)))
