use Rattle.std.proofs.Common.{sym, ◌∙◌}
use Rattle.bp_import.proofs.StripLemmas.{if_comes, if_read}
use Rattle.bp_import.proofs.strips.page_of_one_strip.Goals as goal

pub returns-clause-found : goal.returns-clause-found
returns-clause-found c =
    if_read c.args.bytes.now c.in-Ok.layout c.first_strip.result.now c.frame_of.result c.in_ok-page.page
    (sym c.read_layout.ensures.gives ∙ c.in-Ok.is) (c.is_one_strip.ensures c.if-not-is_one_strip.false)
    c.first_strip.ensures.gives c.frame_of.ensures c.in_ok-page.ensures

pub returns-clause-fits : goal.returns-clause-fits
returns-clause-fits c =
    if_comes c.in-Ok.layout c.first_strip.result.now c.frame_of.result c.in_ok-page.page
    (c.is_one_strip.ensures c.if-not-is_one_strip.false) c.frame_of.ensures c.in_ok-page.ensures
