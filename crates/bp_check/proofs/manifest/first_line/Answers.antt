use Rattle.std.proofs.Common.{◌+◌, ◌∷◌, take, drop, ap, sym, ◌∙◌, length, rules, tests}
use Rattle.std.proofs.lemmas.Iterator.{YieldsList-from_slice}
use Rattle.std.proofs.lemmas.Iterator.Search.{position_from_yields_List}
use Rattle.std.proofs.lemmas.List.Splits.{slice_split_first}
use Rattle.std.specs.List.{position_or_len}
use Rattle.bp_load.proofs.LineLemmas.{is_lf, no_break, place_none, place_some, rest_after}
use Rattle.bp_check.specs.Manifest.{between_newlines}
use Rattle.bp_check.proofs.manifest.first_line.Goals as goal

pub returns-in-None-clause-line : goal.returns-in-None-clause-line
returns-in-None-clause-line c =
    let bs = c.args.bytes.now in
    let r = position_from_yields_List is_lf _ _ c.position.result c.position.ensures.ran (YieldsList-from_slice bs cc) (λ x b q k. search (rules, tests)) in
    no_break is_lf bs (place_none _ _ (sym c.in-None.is ∙ r))

pub returns-in-Some-clause-line : goal.returns-in-Some-clause-line
returns-in-Some-clause-line c =
    let bs = c.args.bytes.now in
    let r = position_from_yields_List is_lf _ _ c.position.result c.position.ensures.ran (YieldsList-from_slice bs cc) (λ x b q k. search (rules, tests)) in
    let p = place_some c.in-Some.end (position_or_len is_lf bs) (length bs) (sym c.in-Some.is ∙ r) in
    let end = c.in-Some.end in
    slice_split_first is_lf bs 0 p.1 ∙ ap (λ k. take k bs ∷ between_newlines (drop (k + 1) bs)) (sym p.0)
    ∙ ap (λ rest. take end bs ∷ between_newlines rest) (sym (rest_after bs end))
