use Rattle.std.proofs.Common.{◌∙◌, ◌==◌, ap, not, rules, tests}
use Rattle.std.specs.List.{list_all}
use Rattle.std.proofs.lemmas.Iterator.{YieldsList-from_chars}
use Rattle.std.proofs.lemmas.Iterator.Search.{all_from_yields_List}
use Rattle.bp_import.proofs.columns.has_no_newline.Goals as goal

pub returns : goal.returns
returns c =
    all_from_yields_List (λ c. not (c == 10)) _ _ c.all.result c.all.ensures.ran (YieldsList-from_chars c.as_str.result.now c.as_str.utf8 cc) (λ x b q k. search (rules, tests))
    ∙ ap (list_all (λ c. not (c == 10))) c.as_str.ensures.characters
