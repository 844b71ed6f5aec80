use Rattle.std.proofs.Common.{◌∙◌, sym, refl, arith}
use Rattle.std.proofs.lemmas.Bool.{eq-eqb, ne_eqb}
use Rattle.bp_core.proofs.SortedLemmas.{find-placed, at_key-past, at_key-read}
use Rattle.bp_core.proofs.sorted.find_row.Goals as goal

pub returns-then-place-rows : goal.returns-then-place-rows
returns-then-place-rows g c =
    let e = c.place_of-place.ensures in
    sym (find-placed g.T.Keyed.key_of c.args.key 0 c.args.rows.now c.place_of-place.result c.requires e.bound e.below e.above
    ∙ at_key-past g.T.Keyed.key_of c.args.key c.args.rows.now c.place_of-place.result (omega arith))

pub returns-then-key : goal.returns-then-key
returns-then-key g c =
    let e = c.place_of-place.ensures in
    sym (find-placed g.T.Keyed.key_of c.args.key 0 c.args.rows.now c.place_of-place.result c.requires e.bound e.below e.above
    ∙ at_key-read g.T.Keyed.key_of c.args.key c.args.rows.now c.place_of-place.result c.index-rows-place.result (omega arith) c.index-rows-place.is
    ∙ rw (eq-eqb _ _ (sym c.key.ensures.value ∙ c.if-key.true)) refl)

pub returns-else-key : goal.returns-else-key
returns-else-key g c =
    let e = c.place_of-place.ensures in
    sym (find-placed g.T.Keyed.key_of c.args.key 0 c.args.rows.now c.place_of-place.result c.requires e.bound e.below e.above
    ∙ at_key-read g.T.Keyed.key_of c.args.key c.args.rows.now c.place_of-place.result c.index-rows-place.result (omega arith) c.index-rows-place.is
    ∙ rw (ne_eqb _ _ (λ same. c.if-key.false (c.key.ensures.value ∙ same))) refl)
