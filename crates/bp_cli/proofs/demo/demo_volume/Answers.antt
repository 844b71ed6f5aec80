use Rattle.std.proofs.Common.{[], refl, subst, sym}
use Rattle.std.specs.Prelude.{Err}
use Rattle.bp_core.specs.declared.rules.Rule.{Rule}
use Rattle.bp_matter.specs.Matter.{Matter}
use Rattle.bp_freeze.specs.Keeping.{KeepsProduction}
use Rattle.bp_demo.specs.Demo.{demo_freeze, demo_matter}
use Rattle.bp_cli.specs.Demo.{demo_gives}
use Rattle.bp_cli.specs.declared.stops.Stop.TheVariants as stops
use Rattle.bp_cli.proofs.DemoLemmas.{demo_put, demo_refused, drawing_stopped, keeping_stopped, none_there}
use Rattle.bp_cli.proofs.FirstLemmas.{FirstEnds, load_failed}
use Rattle.bp_cli.proofs.demo.demo_volume.Goals as goal

pub returns-in_err-there : goal.returns-in_err-there
returns-in_err-there g c =
    let residual = c.from_residual in
    load_failed (demo_gives c.args.asked) (g.K.Keeper.shows c.args.keeper.now) (g.K.Keeper.shows c.has_rows.new.keeper) (g.F.Folder.shows c.args.folder.now)
    c.in_err-there.field-0.0 residual.result c.in_err-there.ensures residual.ensures.0 residual.ensures.1

pub returns-then-there : goal.returns-then-there
returns-then-there g c =
    let before = g.K.Keeper.shows c.args.keeper.now in
    let mid = g.K.Keeper.shows c.has_rows.new.keeper in
    let folder = g.F.Folder.shows c.args.folder.now in
    subst (λ (r : Rule). FirstEnds (demo_gives c.args.asked) before folder (Err (stops.Broken r)) mid folder) (sym c.bare.ensures)
    (demo_refused c.args.asked before mid folder c.in_ok-there.there c.in_ok-there.ensures c.if-there.true)

pub returns-in_err-drawn : goal.returns-in_err-drawn
returns-in_err-drawn g c =
    let residual = c.from_residual-in_err-drawn in
    let before = g.K.Keeper.shows c.args.keeper.now in
    let mid = g.K.Keeper.shows c.has_rows.new.keeper in
    drawing_stopped c.args.asked before mid (g.F.Folder.shows c.args.folder.now) [] c.in_err-drawn.field-0.0 residual.result refl
    (none_there before mid c.in_ok-there.there c.in_ok-there.ensures c.if-there.false) c.in_err-drawn.ensures residual.ensures.0 residual.ensures.1

pub returns-in_err-keep_first : goal.returns-in_err-keep_first
returns-in_err-keep_first g c =
    let residual = c.from_residual-in_err-keep_first in
    let before = g.K.Keeper.shows c.args.keeper.now in
    let mid = g.K.Keeper.shows c.has_rows.new.keeper in
    keeping_stopped c.args.asked c.in_ok-drawn.drawn.tables.matter before mid (g.K.Keeper.shows c.keep_first.new.keeper) (g.F.Folder.shows c.args.folder.now) [] c.in_err-keep_first.field-0.0 residual.result
    (none_there before mid c.in_ok-there.there c.in_ok-there.ensures c.if-there.false) c.in_err-keep_first.ensures residual.ensures.0 residual.ensures.1

pub put_volume-requires-clause-kept : goal.put_volume-requires-clause-kept
put_volume-requires-clause-kept g c κs within =
    let froze = c.in_ok-drawn.ensures in
    let f = c.in_ok-drawn.drawn.production in
    let m = demo_matter c.args.asked.seed c.args.asked.pages in
    subst (λ (n : Matter). KeepsProduction n f) (sym froze.matter) (c.a_freeze_keeps.ensures.its_own m (demo_freeze m) f froze.answer)

pub returns : goal.returns
returns g c =
    let before = g.K.Keeper.shows c.args.keeper.now in
    let mid = g.K.Keeper.shows c.has_rows.new.keeper in
    let drawn = c.in_ok-drawn.drawn in
    demo_put c.args.asked before mid (g.K.Keeper.shows c.keep_first.new.keeper) (g.F.Folder.shows c.args.folder.now) (g.F.Folder.shows c.put_volume.new.folder) [] drawn.production drawn.tables.matter c.put_volume.result
    (c.order_law.ensures drawn.tables.matter c.know_valid.ensures) refl (none_there before mid c.in_ok-there.there c.in_ok-there.ensures c.if-there.false)
    c.in_ok-drawn.ensures c.in_ok-keep_first.ensures c.put_volume.ensures
