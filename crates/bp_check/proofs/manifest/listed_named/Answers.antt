use Rattle.std.proofs.Common.{◌∙◌, cond, None, Err, Result, ap, sym, subst}
use Rattle.std.specs.Option.{ok_or}
use Rattle.std.specs.Str.{chars}
use Rattle.std.proofs.lemmas.Str.{is_utf8-from_IsUtf8}
use Rattle.bp_core.specs.Answers.{Answers}
use Rattle.bp_core.specs.Rules.{rule_at_line}
use Rattle.bp_core.specs.declared.rules.Rule.{Rule}
use Rattle.bp_load.proofs.OptLemmas.{not_utf8}
use Rattle.bp_core.specs.declared.rules.RuleKind.TheVariants.{ManifestShape}
use Rattle.bp_check.specs.Manifest.{Listed, listed_at, listed_named}
use Rattle.bp_check.specs.Seen.{listed_seen}
use Rattle.bp_check.specs.declared.manifest.ListedFile.{ListedFile}
use Rattle.bp_check.proofs.manifest.listed_named.Goals as goal

pub returns-in-Ok : goal.returns-in-Ok
returns-in-Ok c =
    let digest = c.args.digest.now in
    let path = c.args.path.now in
    let rule = rule_at_line ManifestShape c.args.number in
    let P : Result Listed Rule → Type 0 = λ defined. Answers listed_seen c.listed_at.result defined in
    subst P
    (ap (λ t. ok_or (listed_at digest (chars t)) rule) c.in-Ok.ensures.cases.0
    ∙ sym (ap (λ b. ok_or (cond b (listed_at digest (chars path)) None) rule) (is_utf8-from_IsUtf8 path c.in-Ok.ensures.cases.1)))
    c.listed_at.ensures

pub returns-in-Err : goal.returns-in-Err
returns-in-Err c =
    let digest = c.args.digest.now in
    let path = c.args.path.now in
    let rule = rule_at_line ManifestShape c.args.number in
    let defined = ok_or (listed_named digest path) rule in
    subst (λ refusal. Answers {X = ListedFile} listed_seen (Err refusal) defined) (sym c.manifest_shape.ensures)
    (ap (λ b. ok_or (cond b (listed_at digest (chars path)) None) rule) (not_utf8 path c.in-Err.ensures.cases.0))
