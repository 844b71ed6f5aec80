use Rattle.std.proofs.Common.{◌+◌, ◌∷◌, take, drop, ap, sym, ◌∙◌, length, rules, tests}
use Rattle.std.proofs.lemmas.Iterator.{YieldsList-from_slice}
use Rattle.std.proofs.lemmas.Iterator.Search.{position_from_yields_List}
use Rattle.std.specs.List.{position_or_len}
use Rattle.std.specs.Str.Lines.{lines, strip_carriage_return}
use Rattle.bp_load.proofs.LineLemmas.{is_lf, lines_whole, lines_first, place_none, place_some, rest_after}
use Rattle.bp_load.proofs.lines.first_line.Goals as goal

pub returns-in-None-clause-line : goal.returns-in-None-clause-line
returns-in-None-clause-line c =
    let bs = c.args.bytes.now in
    let r = position_from_yields_List is_lf _ _ c.position.result c.position.ensures.ran (YieldsList-from_slice bs cc) (λ x b q k. search (rules, tests)) in
    lines_whole bs c.requires (place_none _ _ (sym c.in-None.is ∙ r))

pub returns-in-Some-clause-line : goal.returns-in-Some-clause-line
returns-in-Some-clause-line c =
    let bs = c.args.bytes.now in
    let r = position_from_yields_List is_lf _ _ c.position.result c.position.ensures.ran (YieldsList-from_slice bs cc) (λ x b q k. search (rules, tests)) in
    let p = place_some c.in-Some.end (position_or_len is_lf bs) (length bs) (sym c.in-Some.is ∙ r) in
    let end = c.in-Some.end in
    lines_first bs p.1 ∙ ap (λ k. strip_carriage_return (take k bs) ∷ lines (drop (k + 1) bs)) (sym p.0)
    ∙ ap (λ line. line ∷ lines (drop (end + 1) bs)) (sym c.without_return.ensures)
    ∙ ap (λ rest. c.without_return.result.now ∷ lines rest) (sym (rest_after bs end))
