use Rattle.std.proofs.Common.{Some, Err, List, ℕ, ◌≡◌, sym, subst}
use Rattle.std.specs.Prelude.{IfSome}
use Rattle.std.specs.FinMap as map
use Rattle.std.specs.Str.{chars}
use Rattle.bp_outside.specs.Source.{ReadOver}
use Rattle.bp_cli.specs.declared.burn.TheConstants.{FILE_LIMIT}
use Rattle.bp_cli.specs.declared.stops.Stop.{Stop}
use Rattle.bp_cli.specs.DeliverSteps.{HoldsGrants, ReadsGrants}
use Rattle.bp_cli.proofs.DeliverLemmas.{file_refused, rows_read, unnamed_stops}
use Rattle.bp_cli.proofs.deliver.grants_named.Goals as goal

pub returns-in_err-path-clause-grants : goal.returns-in_err-path-clause-grants
returns-in_err-path-clause-grants g c =
    unnamed_stops (chars c.args.named.now) (g.S.Source.shows c.args.source.now) c.in_err-path.field-0.0 c.from_residual.result c.from_residual.ensures.0 c.from_residual.ensures.1 c.in_err-path.ensures

pub returns-in-Ok-clause-grants : goal.returns-in-Ok-clause-grants
returns-in-Ok-clause-grants g c =
    let source = g.S.Source.shows c.args.source.now in
    let file = c.in-Ok.file.items in
    rows_read (chars c.args.named.now) c.in_ok-path.path source (g.S.Source.shows c.read.new.self) file c.grants_in.result c.in_ok-path.ensures c.in-Ok.ensures.limit
    (subst (λ (path : List ℕ). IfSome source.files (λ files. map.get files path ≡ Some file)) c.as_str.ensures.characters c.in-Ok.ensures.told)
    c.in-Ok.ensures.after (subst (λ (bytes : List ℕ). HoldsGrants bytes c.grants_in.result) c.as_slice.ensures.value c.grants_in.ensures)

pub returns-clause-grants : goal.returns-clause-grants
returns-clause-grants g c =
    let named = chars c.args.named.now in
    let source = g.S.Source.shows c.args.source.now in
    let source' = g.S.Source.shows c.read.new.self in
    subst (λ (s : Stop). ReadsGrants named source (Err s) source')
    (sym c.stop_of_read.ensures)
    (file_refused named c.in_ok-path.path source source' c.in-Err.refusal c.in_ok-path.ensures
    (subst (λ (path : List ℕ). IfSome source.files (ReadOver path FILE_LIMIT (Err c.in-Err.refusal))) c.as_str.ensures.characters c.in-Err.ensures.told)
    c.in-Err.ensures.after)
