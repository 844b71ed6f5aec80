use Rattle.std.proofs.Common.{◌≤◌, ◌+◌, arith}
use Rattle.std.proofs.lemmas.List.{length-take}
use Rattle.bp_outside.proofs.ReadingLemmas.{took_more}
use Rattle.bp_outside.proofs.system.file_source.read_all.Goals as goal

pub returns-then-taken-left-clause-taken : goal.returns-then-taken-left-clause-taken
returns-then-taken-left-clause-taken g c =
    let bound = c.in-Ok.ensures.bound.0 in
    let room = length-take c.min-room.result c.loop-taken.chunk in
    let few : c.in-Ok.taken ≤ c.loop-taken.left + 1 =
    omega (arith, bound, c.read.auto.room, room, c.min-room.ensures, c.saturating_add.ensures) in
    took_more _ _ _ _ _ _ _ _ c.loop-taken.invariant.all few bound
    c.loop-taken.invariant.lost c.in-Ok.ensures.bytes.0

pub returns-in_err-extend_from_slice-clause-taken :
    goal.returns-in_err-extend_from_slice-clause-taken
returns-in_err-extend_from_slice-clause-taken g c =
    let few : c.in-Ok.taken ≤ c.loop-taken.left + 1 = omega (arith, c.if-taken-left.false) in
    took_more _ _ _ _ _ _ _ _ c.loop-taken.invariant.all few c.in-Ok.ensures.bound.0
    c.loop-taken.invariant.lost c.in-Ok.ensures.bytes.0
