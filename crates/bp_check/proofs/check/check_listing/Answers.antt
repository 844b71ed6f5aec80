use Rattle.std.proofs.Common.{map}
use Rattle.bp_check.specs.Listing.{listed_all}
use Rattle.bp_check.specs.Seen.{listed_seen}
use Rattle.bp_check.proofs.CalmLemmas.{bad_after, listed_calm}
use Rattle.bp_check.proofs.check.check_listing.Goals as goal

pub returns-in_err-all_listed-clause-after : goal.returns-in_err-all_listed-clause-after
returns-in_err-all_listed-clause-after g c =
    let listed = map listed_seen c.deref.result.now in
    let paths = c.args.paths.now in
    bad_after {Y = Unit {0}} {V = Unit {0}} (λ _. tt) c.from_residual.result c.in_err-all_listed.field-0.0 (listed_all listed 0 paths) _
    (listed_calm listed 0 paths) c.from_residual.ensures.1 c.in_err-all_listed.ensures
