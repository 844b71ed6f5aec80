use Rattle.std.proofs.Common.{ℕ, List, [], ap, refl, sym, subst, ◌∙◌}
use Rattle.std.specs.Prelude.{Err, Some}
use Rattle.bp_core.specs.declared.kept.Put.{Put}
use Rattle.bp_core.specs.declared.rules.Rule.{Rule}
use Rattle.bp_keep.specs.Puts.{put_all}
use Rattle.bp_matter.specs.KeptRows.{rows_of}
use Rattle.bp_rules.specs.Beginning.{begun}
use Rattle.bp_cli.specs.Endings.{done}
use Rattle.bp_cli.specs.Init.{init_gives}
use Rattle.bp_cli.specs.declared.stops.Stop.TheVariants as stops
use Rattle.bp_cli.proofs.FirstLemmas.{FirstEnds, commit_failed, lacked, load_failed, matter_there, no_rows, rows_kept}
use Rattle.bp_cli.proofs.init.make_matter.Goals as goal

pub returns-in_err-rows : goal.returns-in_err-rows
returns-in_err-rows g c = λ source folder.
    let residual = c.from_residual in
    load_failed (init_gives c.args.digest) (g.K.Keeper.shows c.args.keeper.now) (g.K.Keeper.shows c.load.new.self) folder c.in_err-rows.field-0.0 residual.result c.in_err-rows.ensures residual.ensures.0 residual.ensures.1 source

pub returns-then-not-is_empty : goal.returns-then-not-is_empty
returns-then-not-is_empty g c = λ source folder.
    let before = g.K.Keeper.shows c.args.keeper.now in
    let mid = g.K.Keeper.shows c.load.new.self in
    subst (λ (r : Rule). FirstEnds (init_gives c.args.digest) before folder (Err (stops.Broken r)) mid folder) (sym c.bare.ensures)
    (matter_there (init_gives c.args.digest) (λ row rows. refl) before mid folder c.in_ok-rows.rows c.in_ok-rows.ensures (sym c.is_empty.ensures ∙ c.if-not-is_empty.true)) source

pub returns-in_err-line : goal.returns-in_err-line
returns-in_err-line g c = λ source folder.
    let residual = c.from_residual-in_err-line in
    lacked (init_gives c.args.digest) (g.K.Keeper.shows c.args.keeper.now) (g.K.Keeper.shows c.load.new.self) folder c.in_ok-rows.rows residual.result c.in_ok-rows.ensures residual.ensures.0 residual.ensures.1 source

pub returns-in_err-puts : goal.returns-in_err-puts
returns-in_err-puts g c = λ source folder.
    let residual = c.from_residual-in_err-puts in
    lacked (init_gives c.args.digest) (g.K.Keeper.shows c.args.keeper.now) (g.K.Keeper.shows c.load.new.self) folder c.in_ok-rows.rows residual.result c.in_ok-rows.ensures residual.ensures.0 residual.ensures.1 source

pub returns-in_err-commit : goal.returns-in_err-commit
returns-in_err-commit g c = λ source folder.
    let residual = c.from_residual-in_err-commit in
    commit_failed (init_gives c.args.digest) (g.K.Keeper.shows c.args.keeper.now) (g.K.Keeper.shows c.load.new.self) (g.K.Keeper.shows c.commit.new.self) folder c.in_ok-rows.rows c.in_ok-puts.puts c.in_err-commit.field-0.0 residual.result
    c.in_ok-rows.ensures c.in_err-commit.ensures residual.ensures.0 residual.ensures.1 source

-- the puts of the first rows, in a keeper without rows, leave them
pub returns : goal.returns
returns g c = λ source folder.
    let first = rows_of (begun c.args.digest) in
    rows_kept (init_gives c.args.digest) (g.K.Keeper.shows c.args.keeper.now) (g.K.Keeper.shows c.load.new.self) (g.K.Keeper.shows c.commit.new.self) folder
    c.in_ok-rows.rows first c.in_ok-puts.puts c.in_ok-line.line (no_rows c.in_ok-rows.rows (sym c.is_empty.ensures ∙ c.if-not-is_empty.false)) c.in_ok-rows.ensures
    (ap (λ (puts : List Put). put_all puts []) c.in_ok-puts.ensures) c.in_ok-commit.ensures
    (ap (λ (l : List ℕ). done l [] (Some first)) (sym c.in_ok-line.ensures)) source
