use Rattle.bp_freeze.specs.Freezing.{new_production}
use Rattle.bp_freeze.specs.Refusals.{family_rules, taking_rules}
use Rattle.bp_freeze.specs.Seeing.{decisions_of, seen_of}
use Rattle.bp_freeze.proofs.RuleLemmas.{refused-first}
use Rattle.bp_freeze.proofs.freezing.freeze_range.Goals as goal

pub returns-in-Some : goal.returns-in-Some
returns-in-Some c =
    let q = c.args.request.now in
    let d = decisions_of c.args.tables.now.matter in
    let docs = seen_of c.args.tables.now.matter q in
    refused-first (family_rules d docs q) (taking_rules d docs q) c.in-Some.rule (new_production d docs q) c.in-Some.ensures
