use Rattle.std.proofs.Common.{true, refl, subst, sym}
use Rattle.bp_matter.specs.Matter.{Matter}
use Rattle.bp_freeze.specs.Keeping.{KeepsProduction}
use Rattle.bp_cli.specs.Produce.{produce_gives}
use Rattle.bp_cli.proofs.RowsLemmas.{freeze_refused, produced_ends, rows_refused}
use Rattle.bp_cli.proofs.produce.produce_volume.Goals as goal

pub returns-in_err-tables : goal.returns-in_err-tables
returns-in_err-tables g c =
    let residual = c.from_residual in
    rows_refused true (produce_gives c.args.request) (λ rule. refl) (g.K.Keeper.shows c.args.keeper.now) (g.K.Keeper.shows c.load_tables.new.keeper) (g.F.Folder.shows c.args.folder.now)
    c.in_err-tables.field-0.0 residual.result c.in_err-tables.ensures.loaded residual.ensures.0 residual.ensures.1

pub returns-in_err-production : goal.returns-in_err-production
returns-in_err-production g c =
    let residual = c.from_residual-in_err-production in
    freeze_refused c.args.request (g.K.Keeper.shows c.args.keeper.now) (g.K.Keeper.shows c.load_tables.new.keeper) (g.K.Keeper.shows c.freeze_for_lead.new.keeper) (g.F.Folder.shows c.args.folder.now)
    c.in_ok-tables.tables c.freeze_for_lead.new.tables.matter c.in_err-production.field-0.0 residual.result
    c.know_valid.ensures c.in_ok-tables.ensures.loaded c.in_err-production.ensures residual.ensures.0 residual.ensures.1

pub put_volume-requires-clause-kept : goal.put_volume-requires-clause-kept
put_volume-requires-clause-kept g c κs within =
    let froze = c.in_ok-production.ensures in
    let f = c.in_ok-production.production in
    subst (λ (m : Matter). KeepsProduction m f) (sym froze.matter) (c.a_freeze_keeps.ensures.its_own c.in_ok-tables.tables.matter c.args.request f froze.answer)

pub returns : goal.returns
returns g c =
    produced_ends c.args.request (g.K.Keeper.shows c.args.keeper.now) (g.K.Keeper.shows c.load_tables.new.keeper) (g.K.Keeper.shows c.freeze_for_lead.new.keeper)
    (g.F.Folder.shows c.args.folder.now) (g.F.Folder.shows c.put_volume.new.folder) c.in_ok-tables.tables c.in_ok-production.production c.freeze_for_lead.new.tables.matter c.put_volume.result
    c.know_valid.ensures c.in_ok-tables.ensures.loaded c.in_ok-production.ensures c.put_volume.ensures
