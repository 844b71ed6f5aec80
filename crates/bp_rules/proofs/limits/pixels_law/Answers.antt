use Rattle.std.proofs.Common.{◌^◌, arith}
use Rattle.std.proofs.lemmas.Bool.{ltb-true}
use Rattle.bp_matter.specs.Batches.{pages_in}
use Rattle.bp_rules.proofs.ImportLemmas.{pixels-bounded}
use Rattle.bp_rules.proofs.PageLemmas.{all-pages-fit}
use Rattle.bp_rules.proofs.limits.pixels_law.Goals as goal

pub returns : goal.returns
returns c =
    let b = c.args.batch.now in
    omega (arith, pixels-bounded b.docs (all-pages-fit b c.know_batch.ensures), ltb-true (pages_in b.docs) (2 ^ 32) c.know_batch.ensures.few_pages)
