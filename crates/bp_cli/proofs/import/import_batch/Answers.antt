use Rattle.bp_cli.proofs.ImportLemmas.{load_refused, lacked, read_refused, step_refused, line_lacked, imports_made}
use Rattle.bp_cli.proofs.import.import_batch.Goals as goal

pub returns-in_err-tables : goal.returns-in_err-tables
returns-in_err-tables g c =
    let residual = c.from_residual in
    load_refused c.one_batch.ensures.some c.args.name.now (g.S.Source.shows c.args.source.now) (g.K.Keeper.shows c.args.keeper.now)
    (g.K.Keeper.shows c.load_tables.new.keeper) c.in_err-tables.field-0.0 residual.result c.in_err-tables.ensures.loaded residual.ensures.0 residual.ensures.1

pub returns-in_err-folder : goal.returns-in_err-folder
returns-in_err-folder g c =
    let residual = c.from_residual-in_err-folder in
    lacked c.args.name.now (g.S.Source.shows c.args.source.now) (g.K.Keeper.shows c.args.keeper.now) (g.K.Keeper.shows c.load_tables.new.keeper)
    c.in_ok-tables.tables residual.result c.in_ok-tables.ensures.loaded residual.ensures.0 residual.ensures.1

pub returns-in_err-batch : goal.returns-in_err-batch
returns-in_err-batch g c =
    let residual = c.from_residual-in_err-batch in
    read_refused c.args.name.now c.in_ok-folder.folder (g.S.Source.shows c.args.source.now) (g.S.Source.shows c.read_batch.new.source)
    (g.K.Keeper.shows c.args.keeper.now) (g.K.Keeper.shows c.load_tables.new.keeper) c.in_ok-tables.tables c.in_err-batch.field-0.0 residual.result
    c.in_ok-folder.ensures c.know_valid.ensures c.in_ok-tables.ensures.loaded c.in_err-batch.ensures.told c.in_err-batch.ensures.after residual.ensures.0 residual.ensures.1

pub returns-in_err-counted : goal.returns-in_err-counted
returns-in_err-counted g c =
    let residual = c.from_residual-in_err-counted in
    step_refused c.args.name.now c.in_ok-folder.folder (g.S.Source.shows c.args.source.now) (g.S.Source.shows c.read_batch.new.source)
    (g.K.Keeper.shows c.args.keeper.now) (g.K.Keeper.shows c.load_tables.new.keeper) (g.K.Keeper.shows c.step_import.new.keeper) c.in_ok-tables.tables c.in_ok-batch.batch
    c.step_import.new.tables.matter c.in_err-counted.field-0.0 residual.result
    c.in_ok-folder.ensures c.know_valid.ensures c.in_ok-tables.ensures.loaded c.in_ok-batch.ensures.told c.in_ok-batch.ensures.after c.in_err-counted.ensures.made residual.ensures.0 residual.ensures.1

pub returns-in_err-line_of_counts : goal.returns-in_err-line_of_counts
returns-in_err-line_of_counts g c =
    let residual = c.from_residual-in_err-line_of_counts in
    line_lacked c.args.name.now c.in_ok-folder.folder (g.S.Source.shows c.args.source.now) (g.S.Source.shows c.read_batch.new.source)
    (g.K.Keeper.shows c.args.keeper.now) (g.K.Keeper.shows c.load_tables.new.keeper) (g.K.Keeper.shows c.step_import.new.keeper) c.in_ok-tables.tables c.in_ok-batch.batch
    c.in_ok-counted.counted c.step_import.new.tables.matter residual.result
    c.in_ok-folder.ensures c.know_valid.ensures c.in_ok-tables.ensures.loaded c.in_ok-batch.ensures.told c.in_ok-batch.ensures.after c.in_ok-counted.ensures.made residual.ensures.0 residual.ensures.1

pub returns : goal.returns
returns g c =
    imports_made c.args.name.now c.in_ok-folder.folder (g.S.Source.shows c.args.source.now) (g.S.Source.shows c.read_batch.new.source)
    (g.K.Keeper.shows c.args.keeper.now) (g.K.Keeper.shows c.load_tables.new.keeper) (g.K.Keeper.shows c.step_import.new.keeper) c.in_ok-tables.tables c.in_ok-batch.batch
    c.in_ok-counted.counted c.step_import.new.tables.matter c.in_ok-line_of_counts.field-0
    c.in_ok-folder.ensures c.know_valid.ensures c.in_ok-tables.ensures.loaded c.in_ok-batch.ensures.told c.in_ok-batch.ensures.after c.in_ok-counted.ensures.made c.in_ok-line_of_counts.ensures
