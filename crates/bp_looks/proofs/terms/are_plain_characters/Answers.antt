use Rattle.std.proofs.Common.{◌∙◌, ap, rules, tests}
use Rattle.std.specs.List.{list_all}
use Rattle.std.proofs.lemmas.Iterator.{YieldsList-from_chars}
use Rattle.std.proofs.lemmas.Iterator.Search.{all_from_yields_List}
use Rattle.bp_matter.specs.Texts.{is_plain_character}
use Rattle.bp_looks.proofs.terms.are_plain_characters.Goals as goal

pub returns : goal.returns
returns c =
    all_from_yields_List is_plain_character _ _ c.all.result c.all.ensures.ran (YieldsList-from_chars c.as_str.result.now c.as_str.utf8 cc) (λ x b q k. search (rules, tests))
    ∙ ap (list_all is_plain_character) c.as_str.ensures.characters
