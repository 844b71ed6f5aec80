use Rattle.std.proofs.Common.{Ok, sym, ap, ◌∙◌}
use Rattle.std.specs.Option.{ok_or}
use Rattle.std.specs.Str.{chars}
use Rattle.bp_core.specs.Rules.{bare_rule}
use Rattle.bp_core.specs.declared.rules.RuleKind.TheVariants.{PathRefused}
use Rattle.bp_core.proofs.PathLemmas.{named, refused}
use Rattle.bp_core.proofs.paths.path_of.Goals as goal

pub returns-then-not-is_path-clause-answer : goal.returns-then-not-is_path-clause-answer
returns-then-not-is_path-clause-answer c =
    rw (c.bare.ensures)
    (ap (λ path. ok_or path (bare_rule PathRefused)) (refused (chars c.args.text.now) (sym c.is_path.ensures ∙ c.if-not-is_path.true)))

pub returns-in_err-joined_parts-clause-refused : goal.returns-in_err-joined_parts-clause-refused
returns-in_err-joined_parts-clause-refused c =
    λ none. let some = named (chars c.args.text.now) (sym c.is_path.ensures ∙ c.if-not-is_path.false) in cc

pub returns-clause-answer : goal.returns-clause-answer
returns-clause-answer c =
    let path = named (chars c.args.text.now) (sym c.is_path.ensures ∙ c.if-not-is_path.false) in
    ap (λ found. ok_or found (bare_rule PathRefused)) path ∙ ap Ok (sym c.in_ok-joined_parts.ensures)

pub returns-clause-refused : goal.returns-clause-refused
returns-clause-refused c =
    λ none. let some = named (chars c.args.text.now) (sym c.is_path.ensures ∙ c.if-not-is_path.false) in cc
