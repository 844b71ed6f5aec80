use Rattle.std.proofs.Common.{List, ℕ, ◌≡◌, Some, None, Err, sym, subst}
use Rattle.bp_core.specs.declared.rules.Rule.{Rule}
use Rattle.bp_freeze.specs.Freezing.{kept_production}
use Rattle.bp_cli.specs.declared.stops.Stop.TheVariants as stops
use Rattle.bp_cli.specs.Claw.{claw_seen}
use Rattle.bp_cli.specs.ClawSteps.{ReplacesAfter}
use Rattle.bp_cli.proofs.ClawLemmas.{ClawEnds, file_refused, lacked, load_refused, not_kept, replaced_ends}
use Rattle.bp_cli.proofs.LabelLemmas.{none_found, some_found}
use Rattle.bp_cli.proofs.claw.claw_volume.Goals as goal

pub returns-in_err-tables-clause-works : goal.returns-in_err-tables-clause-works
returns-in_err-tables-clause-works g c =
    let residual = c.from_residual in
    load_refused (claw_seen c.args.asked.now) (g.S.Source.shows c.args.source.now) (g.K.Keeper.shows c.args.keeper.now) (g.K.Keeper.shows c.load_tables.new.keeper) (g.F.Folder.shows c.args.folder.now)
    c.in_err-tables.field-0.0 residual.result c.in_err-tables.ensures.loaded residual.ensures.0 residual.ensures.1

pub returns-in_err-file-clause-works : goal.returns-in_err-file-clause-works
returns-in_err-file-clause-works g c =
    let residual = c.from_residual-in_err-file in
    file_refused (claw_seen c.args.asked.now) (g.S.Source.shows c.args.source.now) (g.S.Source.shows c.file_named.new.source) (g.K.Keeper.shows c.args.keeper.now) (g.K.Keeper.shows c.load_tables.new.keeper) (g.F.Folder.shows c.args.folder.now)
    c.in_ok-tables.tables c.in_err-file.field-0.0 residual.result c.know_valid.ensures c.in_ok-tables.ensures.loaded c.in_err-file.ensures.file residual.ensures.0 residual.ensures.1

pub returns-in_err-id-clause-works : goal.returns-in_err-id-clause-works
returns-in_err-id-clause-works g c =
    let residual = c.from_residual-in_err-id in
    lacked (claw_seen c.args.asked.now) (g.S.Source.shows c.args.source.now) (g.S.Source.shows c.file_named.new.source) (g.K.Keeper.shows c.args.keeper.now) (g.K.Keeper.shows c.load_tables.new.keeper) (g.F.Folder.shows c.args.folder.now)
    c.in_ok-tables.tables residual.result c.in_ok-tables.ensures.loaded c.in_ok-file.ensures.file.1 residual.ensures.0 residual.ensures.1

pub returns-in-None-clause-works : goal.returns-in-None-clause-works
returns-in-None-clause-works g c =
    let asked = claw_seen c.args.asked.now in
    let source = g.S.Source.shows c.args.source.now in
    let source' = g.S.Source.shows c.file_named.new.source in
    let before = g.K.Keeper.shows c.args.keeper.now in
    let mid = g.K.Keeper.shows c.load_tables.new.keeper in
    let folder = g.F.Folder.shows c.args.folder.now in
    let m = c.in_ok-tables.tables.matter in
    let none : kept_production m.productions asked.id ≡ None = none_found m.productions c.in_ok-id.id asked.id c.production.result c.production.ensures c.in_ok-id.ensures c.in-None.is in
    subst (λ (r : Rule). ClawEnds asked source before mid folder (Err (stops.Broken r)) source' folder) (sym c.bare.ensures)
    (not_kept asked source source' before mid folder c.in_ok-tables.tables c.in_ok-file.file c.know_valid.ensures c.in_ok-tables.ensures.loaded c.in_ok-file.ensures.file none)

pub returns-clause-works : goal.returns-clause-works
returns-clause-works g c =
    let asked = claw_seen c.args.asked.now in
    let m = c.in_ok-tables.tables.matter in
    let f = c.in-Some.production.now in
    let folder = g.F.Folder.shows c.args.folder.now in
    let folder' = g.F.Folder.shows c.replace_after.new.folder in
    let found : kept_production m.productions asked.id ≡ Some f = some_found m.productions c.in_ok-id.id asked.id c.production.result c.in-Some.production c.production.ensures c.in_ok-id.ensures c.in-Some.is in
    replaced_ends asked (g.S.Source.shows c.args.source.now) (g.S.Source.shows c.file_named.new.source) (g.K.Keeper.shows c.args.keeper.now) (g.K.Keeper.shows c.load_tables.new.keeper) folder folder'
    c.in_ok-tables.tables c.in_ok-file.file f c.replace_after.result c.know_valid.ensures c.in_ok-tables.ensures.loaded c.in_ok-file.ensures.file found
    (subst (λ (bytes : List ℕ). ReplacesAfter asked.volume m f bytes folder c.replace_after.result folder') c.as_slice.ensures c.replace_after.ensures)
