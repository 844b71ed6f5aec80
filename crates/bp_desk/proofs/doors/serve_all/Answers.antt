use Rattle.std.proofs.Common.{◌<◌, ◌∙◌, ap, arith, length, slice_index_or, subst₂, sym, take_at}
use denote.Param.Send.{sendable}
use Rattle.std.proofs.Crossing.{crosses}
use Rattle.bp_desk.specs.Doors.{ServesFor}
use Rattle.bp_desk.proofs.ThreadLemmas.{book_send, desk_sync, post_send}
use Rattle.bp_desk.proofs.doors.serve_all.Goals as goal

pub for_each_mut-requires-send-T : goal.for_each_mut-requires-send-T
for_each_mut-requires-send-T g c κs within =
    let k = c.type_bounds.send-K in
    let d = c.type_bounds.send-D in search (post_send, book_send, sendable, crosses) depth 40 fits 20000

pub for_each_mut-requires-sync-F : goal.for_each_mut-requires-sync-F
for_each_mut-requires-sync-F g c κs within =
    let k = c.type_bounds.send-K in
    let r = c.type_bounds.sync-R in search (desk_sync, book_send, sendable, crosses) depth 40 fits 20000

pub returns-clause-each : goal.returns-clause-each
returns-clause-each g c = λ k d less.
    let shown = c.as_mut_slice.ensures in
    let same = shown.value in
    let long = c.for_each_mut.auto.s in
    let below : k < length c.as_mut_slice.result.now = omega (arith, ap length same, less) in
    let step = (c.for_each_mut.ensures k d below).1 in
    let whole = take_at c.for_each_mut.new.s _ c.args.posts.now.len (omega (arith, long, shown.len)) in
    subst₂ (λ x y. ServesFor g.D.Door.shows c.args.connections x.seat x.door y.seat y.door)
    (step.argument_is ∙ ap (λ l. slice_index_or l k d) same)
    (step.left ∙ sym (ap (λ l. slice_index_or l k d) whole))
    step.call
