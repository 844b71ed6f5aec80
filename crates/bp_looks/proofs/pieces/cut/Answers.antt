use Rattle.std.proofs.Common.{rules, tests, lit<}
use Rattle.std.proofs.lemmas.Iterator.Consumers.{map_from_collect, YieldsList-from_filter}
use Rattle.std.proofs.lemmas.Iterator.Splits.{YieldsList-from_str_split}
use Rattle.bp_looks.specs.Pieces.{is_some_text}
use Rattle.bp_looks.proofs.pieces.cut.Goals as goal

pub returns : goal.returns
returns c =
    map_from_collect _ c.collect.ensures.ran (YieldsList-from_filter _ is_some_text
    (YieldsList-from_str_split 32 c.args.value.now (lit< tt)
    (cc (c.filter.ensures.source, c.split.ensures.text))
    (cc (c.filter.ensures.source, c.split.ensures.has_more))
    (cc (c.filter.ensures.source, c.split.ensures.pattern)))
    c.filter.ensures.closure (λ x b q k. search (rules, tests)))
