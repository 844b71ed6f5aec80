use Rattle.std.proofs.Common.{◌≡◌, ◌-◌, ◌∷◌, drop, take, length, get_or, arith, ap, sym, ◌∙◌, length-drop}
use Rattle.std.proofs.lemmas.List.{drop_more, take_all}
use Rattle.bp_t6.proofs.RunPlaceLemmas.{places_all}
use Rattle.bp_t6.proofs.run_places.push_places.Goals as goal

pub returns : goal.returns
returns c =
    let runs = c.args.runs.now in
    let first = get_or runs 0 0 in
    let rest : take (length runs - 1) (drop 1 runs) ≡ drop 1 runs = take_all (length runs - 1) (drop 1 runs) (omega (arith, length-drop 1 runs)) in
    places_all first (take (length runs - 1) (drop 1 runs)) runs c.loop-run.places.items c.loop-run.run-index c.loop-run.at c.loop-run.invariant (omega arith)
    (drop_more runs 0 0 (grind (arith, c.if-is_empty.false, c.is_empty.ensures, c.if-is_empty.ensures)) ∙ ap (λ rs. first ∷ rs) (sym rest)) c.requires.least
