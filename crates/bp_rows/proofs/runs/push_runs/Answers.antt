use Rattle.std.proofs.Common.{arith, ◌≤◌, sym}
use Rattle.std.proofs.lemmas.List.{get_or_default, get_or_past}
use Rattle.bp_rows.specs.Changes.{place_at}
use Rattle.bp_rows.proofs.RunLemmas.{no_runs, not_after, runs_more, runs_end}
use Rattle.bp_rows.proofs.runs.push_runs.Goals as goal
use Rattle.bp_rows.proofs.runs.push_runs.Goals.{then-loop-k-test+else-places-k, else-loop-k-test}

pub loop-k-init : goal.loop-k-init
loop-k-init c = no_runs c.args.places.now c.args.width _ c.clear.ensures.items

pub overflow_sub-places : goal.overflow_sub-places
overflow_sub-places c =
    let ps = c.args.places.now in
    omega (arith, not_after ps c.args.width c.loop-k.runs.items c.loop-k.k c.loop-k.last c.requires c.loop-k.invariant, get_or_default ps c.loop-k.k c.args.width 0 c.loop-k-test.true)

pub loop-k-preserved : goal.loop-k-preserved
loop-k-preserved c =
    let ps = c.args.places.now in
    runs_more ps c.args.width c.loop-k.runs.items c.push.new.self.items c.loop-k.k c.loop-k.last _ c.requires c.loop-k.invariant (sym (get_or_default ps c.loop-k.k c.args.width 0 c.loop-k-test.true)) c.if-places-k.true c.in_ok-push.ensures.items

pub overflow_sub-width : goal.overflow_sub-width
overflow_sub-width c = c.loop-k.invariant.within

pub returns : goal.returns
returns c = λ line shows.
    let ps = c.args.places.now in let w = c.args.width in let k = c.loop-k.k in
    let past : w ≤ place_at ps w k = elim c.loop-k-test.branch [
      | then-loop-k-test+else-places-k u ↦ omega (arith, get_or_default ps k w 0 u.loop-k-test.true, u.if-places-k.false)
      | else-loop-k-test u ↦ omega (arith, get_or_past ps k w u.loop-k-test.false)
    ] in
    runs_end ps w line c.loop-k.runs.items c.push-2.new.self.items k c.loop-k.last shows c.loop-k.invariant past c.in_ok-push-2.ensures.items
