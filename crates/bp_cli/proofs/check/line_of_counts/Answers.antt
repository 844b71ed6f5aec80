use Rattle.std.proofs.Common.{◌∙◌, ◌∷◌, ◌++◌, [], ap, codes}
use Rattle.std.specs.Fmt.{decimal}
use Rattle.bp_cli.proofs.CheckLemmas.{pieces}
use Rattle.bp_cli.proofs.check.line_of_counts.Goals as goal

pub returns : goal.returns
returns c =
    let checked = c.args.checked in
    c.from_vec.ensures ∙ ap (λ v. v.items) c.into_bytes.ensures.value ∙ c.in_ok-line.ensures.ok
    ∙ ap (λ text. codes "checked documents " ++ text)
    (pieces (decimal checked.documents) (codes " images ") (decimal checked.images) (codes " files ") (decimal checked.files) (10 ∷ []))
