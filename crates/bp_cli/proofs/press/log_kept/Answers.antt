use Rattle.std.proofs.Common.{false, ◌≡◌, List, ℕ, [], Some, None, refl, sym, ap, subst, ◌∙◌}
use Rattle.bp_core.specs.Rules.{bare_rule}
use Rattle.bp_core.specs.declared.rules.Rule.{Rule}
use Rattle.bp_core.specs.declared.rules.RuleKind.TheVariants.{NoProduction}
use Rattle.std.specs.Str.{chars}
use Rattle.bp_freeze.specs.Freezing.{kept_production}
use Rattle.bp_freeze.specs.Log.{log_of}
use Rattle.bp_cli.specs.declared.stops.Stop.TheVariants as stops
use Rattle.std.specs.Prelude.{Err}
use Rattle.bp_cli.specs.Endings.{done}
use Rattle.bp_cli.specs.Press.{kept_gives, log_gives}
use Rattle.bp_cli.proofs.LabelLemmas.{kept_logged, none_found, some_found}
use Rattle.bp_cli.proofs.RowsLemmas.{RowsEnds, rows_lacked, rows_refused, rows_rule, rows_told}
use Rattle.bp_cli.proofs.press.log_kept.Goals as goal

pub returns-in_err-tables : goal.returns-in_err-tables
returns-in_err-tables g c = λ source folder.
    let residual = c.from_residual in
    rows_refused false (log_gives (chars c.args.id.now)) (λ rule. refl) (g.K.Keeper.shows c.args.keeper.now) (g.K.Keeper.shows c.load_tables.new.keeper) folder
    c.in_err-tables.field-0.0 residual.result c.in_err-tables.ensures.loaded residual.ensures.0 residual.ensures.1 source

pub returns-in_err-id : goal.returns-in_err-id
returns-in_err-id g c = λ source folder.
    let residual = c.from_residual-in_err-id in
    rows_lacked false (log_gives (chars c.args.id.now)) (g.K.Keeper.shows c.args.keeper.now) (g.K.Keeper.shows c.load_tables.new.keeper) folder
    c.in_ok-tables.tables residual.result c.in_ok-tables.ensures.loaded residual.ensures.0 residual.ensures.1 source

pub returns-in-None : goal.returns-in-None
returns-in-None g c = λ source folder.
    let before = g.K.Keeper.shows c.args.keeper.now in
    let mid = g.K.Keeper.shows c.load_tables.new.keeper in
    let m = c.in_ok-tables.tables.matter in
    let none : kept_production m.productions (chars c.args.id.now) ≡ None = none_found m.productions c.in_ok-id.id (chars c.args.id.now) c.production.result c.production.ensures c.in_ok-id.ensures c.in-None.is in
    subst (λ (r : Rule). RowsEnds false (log_gives (chars c.args.id.now)) before folder (Err (stops.Broken r)) mid folder) (sym c.bare.ensures)
    (rows_rule false (log_gives (chars c.args.id.now)) before mid folder c.in_ok-tables.tables (bare_rule NoProduction) c.know_valid.ensures c.in_ok-tables.ensures.loaded
    (ap (kept_gives (λ f. done (log_of f) [] None)) none) (λ s. refl)) source

pub log_text-requires : goal.log_text-requires
log_text-requires g c =
    let m = c.in_ok-tables.tables.matter in
    let f = c.in-Some.production.now in
    kept_logged m c.know_valid.ensures f (c.found_is_kept.ensures m c.in_ok-id.id f (some_found m.productions c.in_ok-id.id c.in_ok-id.id c.production.result c.in-Some.production c.production.ensures refl c.in-Some.is))

pub returns-in_err-log_text-in-Some : goal.returns-in_err-log_text-in-Some
returns-in_err-log_text-in-Some g c = λ source folder.
    let residual = c.from_residual-in_err-log_text-in-Some in
    rows_lacked false (log_gives (chars c.args.id.now)) (g.K.Keeper.shows c.args.keeper.now) (g.K.Keeper.shows c.load_tables.new.keeper) folder
    c.in_ok-tables.tables residual.result c.in_ok-tables.ensures.loaded residual.ensures.0 residual.ensures.1 source

pub returns : goal.returns
returns g c = λ source folder.
    let before = g.K.Keeper.shows c.args.keeper.now in
    let mid = g.K.Keeper.shows c.load_tables.new.keeper in
    let m = c.in_ok-tables.tables.matter in
    let f = c.in-Some.production.now in
    let text = c.in_ok-log_text-in-Some.field-0 in
    let found : kept_production m.productions (chars c.args.id.now) ≡ Some f = some_found m.productions c.in_ok-id.id (chars c.args.id.now) c.production.result c.in-Some.production c.production.ensures c.in_ok-id.ensures c.in-Some.is in
    rows_told false (log_gives (chars c.args.id.now)) before mid folder c.in_ok-tables.tables text c.know_valid.ensures c.in_ok-tables.ensures.loaded
    (ap (kept_gives (λ f. done (log_of f) [] None)) found ∙ ap (λ (t : List ℕ). done t [] None) (sym c.in_ok-log_text-in-Some.ensures)) source
