use Rattle.std.proofs.Common.{◌≡◌, ◌∙◌, rules}
use Rattle.std.specs.Str.{chars}
use Rattle.std.proofs.lemmas.Str.{chars_from_encodes}
use Rattle.bp_looks.proofs.terms.letters_in.Goals as goal

pub returns : goal.returns
returns c =
    let spelt : c.in_ok-letters.letters.items ≡ chars c.as_str.result.now = search (rules, chars_from_encodes) in
    spelt ∙ c.as_str.ensures.characters
