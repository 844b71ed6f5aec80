use Rattle.std.proofs.Common.{Some, Err, List, ℕ, ◌≡◌, sym, subst}
use Rattle.std.specs.Prelude.{IfSome}
use Rattle.std.specs.FinMap as map
use Rattle.bp_outside.specs.Source.{ReadOver}
use Rattle.bp_cli.specs.declared.burn.TheConstants.{FILE_LIMIT}
use Rattle.bp_cli.specs.declared.stops.Stop.{Stop}
use Rattle.bp_cli.specs.BurnSteps.{ReadsPageAt}
use Rattle.bp_cli.proofs.BurnLemmas.{page_read, read_refused}
use Rattle.bp_cli.proofs.burn.page_at.Goals as goal

pub returns-in-Ok-clause-page : goal.returns-in-Ok-clause-page
returns-in-Ok-clause-page g c =
    let source = g.S.Source.shows c.args.source.now in
    let file = c.in-Ok.file.items in
    page_read c.args.from.now source (g.S.Source.shows c.read.new.self) file c.page_in.result c.in-Ok.ensures.limit
    (subst (λ (path : List ℕ). IfSome source.files (λ files. map.get files path ≡ Some file)) c.as_str.ensures.characters c.in-Ok.ensures.told)
    c.in-Ok.ensures.after c.page_in.ensures

pub returns-in-Err-clause-page : goal.returns-in-Err-clause-page
returns-in-Err-clause-page g c =
    let from = c.args.from.now in
    let source = g.S.Source.shows c.args.source.now in
    let source' = g.S.Source.shows c.read.new.self in
    subst (λ (s : Stop). ReadsPageAt from source (Err s) source')
    (sym c.stop_of_read.ensures)
    (read_refused from source source' c.in-Err.refusal
    (subst (λ (path : List ℕ). IfSome source.files (ReadOver path FILE_LIMIT (Err c.in-Err.refusal))) c.as_str.ensures.characters c.in-Err.ensures.told)
    c.in-Err.ensures.after)
