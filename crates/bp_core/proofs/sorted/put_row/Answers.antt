use Rattle.std.proofs.Common.{◌∙◌, sym, ap, arith}
use Rattle.bp_core.proofs.SortedLemmas.{put-found, put-missed, get_or-any, ascends-put}
use Rattle.bp_core.proofs.sorted.put_row.Goals as goal
use Rattle.bp_core.proofs.sorted.put_row.Goals.{else-place-len-via-then-place-len+else-key, else-place-len-via-else-place-len}

pub returns-then-key-clause-items : goal.returns-then-key-clause-items
returns-then-key-clause-items g c =
    let e = c.place_of-place.ensures in
    put-found g.T.Keyed.key_of c.args.row c.args.rows.now.items c.deref.result.now c.key-key.result c.place_of-place.result c.index.result.now c.deref.ensures.value c.key-key.ensures.value e.bound e.below e.above
    (omega arith) c.index.ensures (sym c.key.ensures.value ∙ c.if-key.true)

pub returns-in_ok-insert-clause-items : goal.returns-in_ok-insert-clause-items
returns-in_ok-insert-clause-items g c =
    let e = c.place_of-place.ensures in
    rw c.in_ok-insert.ensures.items (put-missed g.T.Keyed.key_of c.args.row c.args.rows.now.items c.deref.result.now c.key-key.result c.place_of-place.result c.deref.ensures.value c.key-key.ensures.value e.bound e.below e.above
    (elim c.else-place-len.branch [
      | else-place-len-via-then-place-len+else-key w ↦ λ d lt same. w.if-key.false (w.key.ensures.value ∙ ap g.T.Keyed.key_of (w.index.ensures ∙ get_or-any c.args.rows.now.items c.place_of-place.result w.index.result.now d lt) ∙ sym same)
      | else-place-len-via-else-place-len w ↦ λ d lt same. absurd (omega arith)
    ]))

pub returns-then-key-clause-ascending : goal.returns-then-key-clause-ascending
returns-then-key-clause-ascending g c =
    rw (returns-then-key-clause-items g c) (ascends-put g.T.Keyed.key_of 0 c.args.row c.args.rows.now.items c.requires (omega arith))

pub returns-in_ok-insert-clause-ascending : goal.returns-in_ok-insert-clause-ascending
returns-in_ok-insert-clause-ascending g c =
    rw (returns-in_ok-insert-clause-items g c) (ascends-put g.T.Keyed.key_of 0 c.args.row c.args.rows.now.items c.requires (omega arith))
