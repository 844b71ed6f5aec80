use Rattle.std.proofs.Common.{◌∙◌, ap}
use Rattle.bp_load.proofs.LineLemmas.{unmarked}
use Rattle.bp_load.proofs.lines.text_without_mark.Goals as goal

pub returns-clause-rest : goal.returns-clause-rest
returns-clause-rest c = ap (λ x. x.now) c.unwrap_or.ensures ∙ unmarked c.args.text c.strip_prefix.result c.strip_prefix.ensures.cases
