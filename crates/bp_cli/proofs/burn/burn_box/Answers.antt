use Rattle.bp_cli.specs.Burn.{burn_seen}
use Rattle.bp_cli.specs.BurnSteps.{paths_seen}
use Rattle.bp_cli.specs.Endings.{world}
use Rattle.bp_cli.proofs.BurnLemmas.{box_refused, burned_ends, path_stops, read_stops}
use Rattle.bp_cli.proofs.burn.burn_box.Goals as goal

pub returns-in_err-paths-clause-ends : goal.returns-in_err-paths-clause-ends
returns-in_err-paths-clause-ends g c = λ keeper.
    path_stops (burn_seen c.args.asked.now) (world (g.S.Source.shows c.args.source.now) keeper (g.F.Folder.shows c.args.folder.now))
    c.in_err-paths.field-0.0 c.from_residual.result c.from_residual.ensures.0 c.from_residual.ensures.1 c.in_err-paths.ensures

pub returns-in_err-page-clause-ends : goal.returns-in_err-page-clause-ends
returns-in_err-page-clause-ends g c = λ keeper.
    let residual = c.from_residual-in_err-page in
    read_stops (burn_seen c.args.asked.now) (paths_seen c.in_ok-paths.paths)
    (world (g.S.Source.shows c.args.source.now) keeper (g.F.Folder.shows c.args.folder.now)) (g.S.Source.shows c.page_at.new.source)
    c.in_err-page.field-0.0 residual.result residual.ensures.0 residual.ensures.1 c.in_ok-paths.ensures c.in_err-page.ensures.page

pub returns-in-Ok-clause-ends : goal.returns-in-Ok-clause-ends
returns-in-Ok-clause-ends g c = λ keeper.
    burned_ends (burn_seen c.args.asked.now) (paths_seen c.in_ok-paths.paths)
    (world (g.S.Source.shows c.args.source.now) keeper (g.F.Folder.shows c.args.folder.now)) (g.S.Source.shows c.page_at.new.source)
    (g.F.Folder.shows c.put_page.new.folder) c.in_ok-page.page c.in-Ok.burned c.put_page.result
    c.in_ok-paths.ensures c.in_ok-page.ensures.page c.in-Ok.ensures c.put_page.ensures

pub returns-clause-ends : goal.returns-clause-ends
returns-clause-ends g c = λ keeper.
    box_refused (burn_seen c.args.asked.now) (paths_seen c.in_ok-paths.paths)
    (world (g.S.Source.shows c.args.source.now) keeper (g.F.Folder.shows c.args.folder.now)) (g.S.Source.shows c.page_at.new.source)
    c.in_ok-page.page c.in-Err.rule c.in_ok-paths.ensures c.in_ok-page.ensures.page c.in-Err.ensures
