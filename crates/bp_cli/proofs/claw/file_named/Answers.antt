use Rattle.std.proofs.Common.{Some, Ok, Err, List, ℕ, ◌≡◌, sym, subst}
use Rattle.std.specs.Prelude.{IfSome}
use Rattle.std.specs.FinMap as map
use Rattle.std.specs.Str.{chars}
use Rattle.bp_outside.specs.Source.{ReadOver}
use Rattle.bp_cli.specs.declared.burn.TheConstants.{FILE_LIMIT}
use Rattle.bp_cli.specs.declared.stops.Stop.{Stop}
use Rattle.bp_cli.specs.ClawSteps.{ReadsFile}
use Rattle.bp_cli.proofs.ClawLemmas.{file_came, file_unread}
use Rattle.bp_cli.proofs.claw.file_named.Goals as goal

pub returns-in-Ok-clause-file : goal.returns-in-Ok-clause-file
returns-in-Ok-clause-file g c =
    let named = chars c.args.named.now in
    let source = g.S.Source.shows c.args.source.now in
    let source' = g.S.Source.shows c.read.new.self in
    let file = c.in-Ok.file.items in
    subst (λ (bytes : List ℕ). ReadsFile named source (Ok bytes) source') (sym c.from_vec.ensures)
    (file_came named c.in_ok-path.path source source' file c.in_ok-path.ensures c.in-Ok.ensures.limit
    (subst (λ (path : List ℕ). IfSome source.files (λ files. map.get files path ≡ Some file)) c.as_str.ensures.characters c.in-Ok.ensures.told)
    c.in-Ok.ensures.after)

pub returns-clause-file : goal.returns-clause-file
returns-clause-file g c =
    let named = chars c.args.named.now in
    let source = g.S.Source.shows c.args.source.now in
    let source' = g.S.Source.shows c.read.new.self in
    subst (λ (s : Stop). ReadsFile named source (Err s) source')
    (sym c.stop_of_read.ensures)
    (file_unread named c.in_ok-path.path source source' c.in-Err.refusal c.in_ok-path.ensures
    (subst (λ (path : List ℕ). IfSome source.files (ReadOver path FILE_LIMIT (Err c.in-Err.refusal))) c.as_str.ensures.characters c.in-Err.ensures.told)
    c.in-Err.ensures.after)
