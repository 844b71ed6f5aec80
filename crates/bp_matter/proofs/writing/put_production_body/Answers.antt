use Rattle.std.proofs.Common.{sym, subst}
use Rattle.std.specs.Prelude.{IsTrue}
use Rattle.bp_matter.specs.Written.{are_few, item_written}
use Rattle.bp_matter.proofs.BodyLemmas.{production_written-parts}
use Rattle.bp_matter.proofs.writing.put_production_body.Goals as goal

pub put_list-requires : goal.put_list-requires
put_list-requires c = subst (λ items. IsTrue (are_few item_written items)) (sym c.as_slice.ensures) (production_written-parts c.args.row.now c.requires).items
