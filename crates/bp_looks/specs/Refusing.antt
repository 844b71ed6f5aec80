-- What a look may be refused for.
use Rattle.std.specs.Prelude.{ℕ}
use Rattle.bp_core.specs.Rules.{rule_naming}
use Rattle.bp_core.specs.declared.rules.Rule.{Rule}
use Rattle.bp_core.specs.declared.rules.RuleKind.TheVariants.{NoDocument, NoPage}

-- there is no document of this number
abbrev pub no_document : ℕ → Rule
no_document doc = rule_naming NoDocument doc

-- the document has no page of this number
abbrev pub no_page : ℕ → Rule
no_page page = rule_naming NoPage page
