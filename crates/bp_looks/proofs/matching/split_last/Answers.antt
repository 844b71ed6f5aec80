use Rattle.std.proofs.Common.{◌≡◌, ◌++◌, length, ap, sym, ◌∙◌}
use Rattle.std.specs.Prelude.{encode_utf8}
use Rattle.std.specs.Str.{chars}
use Rattle.std.proofs.lemmas.List.{nil_from_length}
use Rattle.std.proofs.lemmas.Str.{chars-nil}
use Rattle.bp_looks.proofs.TextLemmas.{chars-last}
use Rattle.bp_looks.proofs.matching.split_last.Goals as goal

pub returns-in-Some-clause-some : goal.returns-in-Some-clause-some
returns-in-Some-clause-some c =
    let cut : c.args.text.now ≡ c.as_str.result.now ++ encode_utf8 c.in-Some.c =
    cc (c.in-Some.ensures.steps, c.chars-walk.ensures.rest, c.as_str.ensures) in
    chars-last c.args.text.now c.as_str.result.now c.in-Some.c c.utf8.text c.as_str.utf8 cut

pub returns-in-None-clause-none : goal.returns-in-None-clause-none
returns-in-None-clause-none c =
    ap chars (nil_from_length c.args.text.now (ap length (sym c.chars-walk.ensures.rest) ∙ c.in-None.ensures.steps.0)) ∙ chars-nil
