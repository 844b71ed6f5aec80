use Rattle.std.proofs.Common.{◌++◌, ◌∙◌, Option, subst, sym}
use Rattle.bp_core.specs.Answers.{Answers}
use Rattle.bp_core.specs.declared.rules.Rule.{Rule}
use Rattle.bp_freeze.specs.Freezing.{frozen_unless, new_production}
use Rattle.bp_freeze.specs.Refusals.{family_rules, request_rules, taking_rules}
use Rattle.bp_freeze.specs.Seeing.{decisions_of, seen_of}
use Rattle.bp_freeze.proofs.RuleLemmas.{passed-first, refused-first}
use Rattle.bp_freeze.proofs.freezing.freeze_new.Goals as goal

pub returns-in-Some : goal.returns-in-Some
returns-in-Some c =
    let q = c.args.request.now in
    let d = decisions_of c.args.tables.now.matter in
    let docs = seen_of c.args.tables.now.matter q in
    refused-first (request_rules d q) (family_rules d docs q ++ taking_rules d docs q) c.in-Some.rule (new_production d docs q) (sym c.in-Some.is ∙ c.in_ok-rule.ensures)

pub returns : goal.returns
returns c =
    let q = c.args.request.now in
    let d = decisions_of c.args.tables.now.matter in
    let docs = seen_of c.args.tables.now.matter q in
    let P : Option Rule → Type 0 = λ rule. Answers (λ f. f) c.freeze_range.result (frozen_unless rule (new_production d docs q)) in
    subst P (passed-first (request_rules d q) (family_rules d docs q ++ taking_rules d docs q) (sym c.in_default.is ∙ c.in_ok-rule.ensures)) c.freeze_range.ensures
