use Rattle.std.proofs.Common.{◌≡◌, List, true, subst, sym, arith}
use Rattle.std.specs.List.{list_all}
use Rattle.bp_matter.specs.Written.{production_written}
use Rattle.bp_matter.specs.declared.rows.ProductionRow.{ProductionRow}
use Rattle.bp_looks.proofs.CountLemmas.{items-few}
use Rattle.bp_looks.proofs.productions.see_productions.Goals as goal

pub production_view-requires : goal.production_view-requires
production_view-requires c =
    items-few c.as_slice-rows.result.now c.loop-i.i c.index-rows-i.result
    (subst (λ (rows : List ProductionRow). list_all production_written rows ≡ true)
    (sym c.as_slice-rows.ensures.value) c.tables.invariant.productions.written)
    (omega arith)
