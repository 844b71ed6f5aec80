use Rattle.std.proofs.Common.{◌≡◌, ◌∙◌, ap, ap₂, subst, rules, drop}
use Rattle.clap.specs.Words.{App, app_of, rule_of, with_rule, HasMatchesOf}
use Rattle.clap.specs.Takes.{takes}
use Rattle.bp_cli.specs.Words.{word_bytes, words_lent}
use Rattle.bp_cli.proofs.OperandLemmas.{any_operands, operand_rule, line_taken, line_found, some_found, none_found}
use Rattle.bp_cli.proofs.operands.operands_of.Goals as goal

pub unreachable-requires : goal.unreachable-requires
unreachable-requires c =
    let rule_is : rule_of c.action-operand.result ≡ operand_rule = search rules in
    let app_is : app_of c.in_ok-command.command ≡ any_operands c.as_str.result.now = c.in_ok-command.ensures.shape (search rules) ∙ ap₂ with_rule c.new-2.ensures.app rule_is in
    c.in_default.not-OutOfMemory (c.kind.ensures ∙ c.in-Err.ensures.passes (ap (λ (a : App). takes a (word_bytes c.args.words.now)) app_is ∙ line_taken _ (word_bytes c.args.words.now) c.requires.plain))

pub returns-in-Some : goal.returns-in-Some
returns-in-Some c =
    let words = word_bytes c.args.words.now in
    let rule_is : rule_of c.action-operand.result ≡ operand_rule = search rules in
    let app_is : app_of c.in_ok-command.command ≡ any_operands c.as_str.result.now = c.in_ok-command.ensures.shape (search rules) ∙ ap₂ with_rule c.new-2.ensures.app rule_is in
    let found = line_found c.as_str.result.now words c.in-Ok.matches c.requires.plain (subst (λ (a : App). HasMatchesOf a words c.in-Ok.matches) app_is c.in-Ok.ensures.matches) in
    let same : words_lent c.in-Some.operands.now ≡ drop 1 words = some_found (drop 1 words) (words_lent c.in-Some.operands.now) (c.in-Some.ensures ∙ found) in
    ap words_lent c.in_ok-from_slice-in-Some.ensures.items ∙ same

pub returns-in-Ok : goal.returns-in-Ok
returns-in-Ok c =
    let words = word_bytes c.args.words.now in
    let rule_is : rule_of c.action-operand.result ≡ operand_rule = search rules in
    let app_is : app_of c.in_ok-command.command ≡ any_operands c.as_str.result.now = c.in_ok-command.ensures.shape (search rules) ∙ ap₂ with_rule c.new-2.ensures.app rule_is in
    let found = line_found c.as_str.result.now words c.in-Ok.matches c.requires.plain (subst (λ (a : App). HasMatchesOf a words c.in-Ok.matches) app_is c.in-Ok.ensures.matches) in
    ap words_lent c.new-in-None.ensures.items ∙ none_found (drop 1 words) (c.in-None.ensures ∙ found)
