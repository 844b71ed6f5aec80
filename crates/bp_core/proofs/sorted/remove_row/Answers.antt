use Rattle.std.proofs.Common.{◌∙◌, sym, ap, arith}
use Rattle.std.proofs.lemmas.List.{get_or_default}
use Rattle.bp_core.proofs.SortedLemmas.{without-found, without-missed, ascends-without}
use Rattle.bp_core.proofs.sorted.remove_row.Goals as goal
use Rattle.bp_core.proofs.sorted.remove_row.Goals.{else-place-len-via-then-place-len+else-key, else-place-len-via-else-place-len}

pub returns-then-key-clause-items : goal.returns-then-key-clause-items
returns-then-key-clause-items g c =
    let e = c.place_of-place.ensures in
    rw c.remove-row.ensures.items (without-found g.T.Keyed.key_of c.args.key c.args.rows.now.items c.deref.result.now c.place_of-place.result c.index.result.now c.deref.ensures.value c.requires e.bound e.below e.above
    (omega arith) c.index.ensures (sym c.key.ensures.value ∙ c.if-key.true))

pub returns-else-place-len-clause-items : goal.returns-else-place-len-clause-items
returns-else-place-len-clause-items g c =
    let e = c.place_of-place.ensures in
    without-missed g.T.Keyed.key_of c.args.key c.args.rows.now.items c.deref.result.now c.place_of-place.result c.deref.ensures.value c.requires e.bound e.below e.above
    (elim c.else-place-len.branch [
      | else-place-len-via-then-place-len+else-key w ↦ λ d lt same. w.if-key.false (w.key.ensures.value ∙ ap g.T.Keyed.key_of (w.index.ensures ∙ get_or_default c.args.rows.now.items c.place_of-place.result w.index.result.now d lt) ∙ same)
      | else-place-len-via-else-place-len w ↦ λ d lt same. absurd (omega arith)
    ])

pub returns-then-key-clause-ascending : goal.returns-then-key-clause-ascending
returns-then-key-clause-ascending g c =
    rw (returns-then-key-clause-items g c) (ascends-without g.T.Keyed.key_of c.args.key 0 c.args.rows.now.items c.requires)
