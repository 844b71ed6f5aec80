use Rattle.std.proofs.Common.{◌≡◌, ◌+◌, ◌∙◌, ap, nat_lt, get_or, arith}
use Rattle.std.proofs.lemmas.List.{get_or_default}
use Rattle.std.specs.Int.{from_bool}
use Rattle.bp_t6.proofs.PlaceLemmas.{odd_steps, two_steps}
use Rattle.bp_t6.proofs.row.next_near_two.Goals as goal

pub returns-clause-colour : goal.returns-clause-colour
returns-clause-colour c = c.next_from.ensures.colour ∙ odd_steps c.args.start (c.from.result + c.from-2.result)

pub returns-clause-behind : goal.returns-clause-behind
returns-clause-behind c = λ behind.
    let places = c.args.places.now in let w = c.args.width in let start = c.args.start in
    let one : get_or places start 0 ≡ get_or places start w = get_or_default places start 0 w (omega (arith, c.requires.within)) in
    let two : get_or places (start + 2) 0 ≡ get_or places (start + 2) w = get_or_default places (start + 2) 0 w c.requires.within in
    c.next_from.ensures.behind (two_steps places w start c.args.right c.from.result c.from-2.result c.requires.rises
    (c.from.ensures ∙ ap (λ x. from_bool (nat_lt x c.args.right)) one) (c.from-2.ensures ∙ ap (λ x. from_bool (nat_lt x c.args.right)) two) behind)
