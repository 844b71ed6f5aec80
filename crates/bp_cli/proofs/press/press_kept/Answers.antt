use Rattle.std.proofs.Common.{false, ◌≡◌, Some, None, refl, sym, ap, subst}
use Rattle.bp_core.specs.Rules.{bare_rule}
use Rattle.bp_core.specs.declared.rules.Rule.{Rule}
use Rattle.bp_core.specs.declared.rules.RuleKind.TheVariants.{NoProduction}
use Rattle.std.specs.Str.{chars}
use Rattle.bp_freeze.specs.Freezing.{kept_production}
use Rattle.bp_press.specs.Volume.{volume_of}
use Rattle.bp_cli.specs.declared.stops.Stop.TheVariants as stops
use Rattle.std.specs.Prelude.{Err, Ok}
use Rattle.bp_cli.specs.Press.{kept_gives, press_gives}
use Rattle.bp_cli.specs.Produce.{volume_done}
use Rattle.bp_cli.proofs.KeptLemmas.{load_calls, load_left, read_itself}
use Rattle.bp_cli.proofs.LabelLemmas.{none_found, some_found}
use Rattle.bp_cli.proofs.RowsLemmas.{RowsEnds, rows_used, matter_outcome, rows_lacked, rows_refused, rows_rule, rows_volume}
use Rattle.bp_cli.proofs.press.press_kept.Goals as goal

pub returns-in_err-tables : goal.returns-in_err-tables
returns-in_err-tables g c =
    let residual = c.from_residual in
    rows_refused false (press_gives (chars c.args.id.now)) (λ rule. refl) (g.K.Keeper.shows c.args.keeper.now) (g.K.Keeper.shows c.load_tables.new.keeper) (g.F.Folder.shows c.args.folder.now)
    c.in_err-tables.field-0.0 residual.result c.in_err-tables.ensures.loaded residual.ensures.0 residual.ensures.1

pub returns-in_err-id : goal.returns-in_err-id
returns-in_err-id g c =
    let residual = c.from_residual-in_err-id in
    rows_lacked false (press_gives (chars c.args.id.now)) (g.K.Keeper.shows c.args.keeper.now) (g.K.Keeper.shows c.load_tables.new.keeper) (g.F.Folder.shows c.args.folder.now)
    c.in_ok-tables.tables residual.result c.in_ok-tables.ensures.loaded residual.ensures.0 residual.ensures.1

pub returns-in-None : goal.returns-in-None
returns-in-None g c =
    let before = g.K.Keeper.shows c.args.keeper.now in
    let mid = g.K.Keeper.shows c.load_tables.new.keeper in
    let folder = g.F.Folder.shows c.args.folder.now in
    let m = c.in_ok-tables.tables.matter in
    let none : kept_production m.productions (chars c.args.id.now) ≡ None = none_found m.productions c.in_ok-id.id (chars c.args.id.now) c.production.result c.production.ensures c.in_ok-id.ensures c.in-None.is in
    subst (λ (r : Rule). RowsEnds false (press_gives (chars c.args.id.now)) before folder (Err (stops.Broken r)) mid folder) (sym c.bare.ensures)
    (rows_rule false (press_gives (chars c.args.id.now)) before mid folder c.in_ok-tables.tables (bare_rule NoProduction) c.know_valid.ensures c.in_ok-tables.ensures.loaded
    (ap (kept_gives (λ f. volume_done f (volume_of f m) None)) none) (λ source. refl))

pub put_volume-requires-clause-kept : goal.put_volume-requires-clause-kept
put_volume-requires-clause-kept g c κs within =
    let m = c.in_ok-tables.tables.matter in
    c.found_is_kept.ensures m c.in_ok-id.id c.in-Some.production.now (some_found m.productions c.in_ok-id.id c.in_ok-id.id c.production.result c.in-Some.production c.production.ensures refl c.in-Some.is)

pub returns : goal.returns
returns g c =
    let before = g.K.Keeper.shows c.args.keeper.now in
    let mid = g.K.Keeper.shows c.load_tables.new.keeper in
    let m = c.in_ok-tables.tables.matter in
    let f = c.in-Some.production.now in
    let found : kept_production m.productions (chars c.args.id.now) ≡ Some f = some_found m.productions c.in_ok-id.id (chars c.args.id.now) c.production.result c.in-Some.production c.production.ensures c.in_ok-id.ensures c.in-Some.is in
    let loads = c.in_ok-tables.ensures.loaded in
    rows_volume false (press_gives (chars c.args.id.now)) before mid mid (g.F.Folder.shows c.args.folder.now) (g.F.Folder.shows c.put_volume.new.folder) f (volume_of f m) None c.put_volume.result
    (read_itself before mid loads.same) (load_calls (rows_used false) before mid (Ok c.in_ok-tables.tables) refl loads)
    (matter_outcome (press_gives (chars c.args.id.now)) before mid c.in_ok-tables.tables (volume_done f (volume_of f m) None) c.know_valid.ensures c.in_ok-tables.ensures.loaded
    (ap (kept_gives (λ f. volume_done f (volume_of f m) None)) found))
    (load_left before mid (Ok c.in_ok-tables.tables) before.faults c.in_ok-tables.ensures.loaded c.in_ok-tables.ensures.loaded.faults) c.put_volume.ensures
