use Rattle.std.proofs.Common.{[], ◌∷◌, ap, ◌∙◌}
use Rattle.std.specs.List.{join_by}
use Rattle.std.specs.Str.{chars}
use Rattle.std.specs.String.{string_bytes}
use Rattle.bp_core.specs.Paths.{path_parts}
use Rattle.bp_core.proofs.TextLemmas.{encodes-chars}
use Rattle.bp_core.proofs.PathLemmas.{turned_parts, joined}
use Rattle.bp_core.proofs.paths.joined_parts.Goals as goal

pub returns : goal.returns
returns c =
    let cs = chars c.args.text.now in
    let s = c.in_ok-join.field-0 in
    let items = c.in_ok-parts.ensures ∙ turned_parts c.as_str.result.now cs (c.as_str.ensures.value ∙ c.in_ok-slashed.ensures) in
    let made = c.in_ok-join.ensures.ok ∙ ap (join_by (λ x. x.now) (47 ∷ [])) c.as_slice.ensures.value in
    c.from_string.ensures
    ∙ joined (λ x. x.now) (string_bytes s) (chars (string_bytes s)) (path_parts cs) c.in_ok-parts.parts.items items made (encodes-chars s)
