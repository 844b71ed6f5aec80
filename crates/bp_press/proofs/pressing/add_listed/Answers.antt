use Rattle.std.proofs.Common.{rules, ◌≡◌, Err, Ok, refl, subst, arith}
use Rattle.std.specs.Prelude.{IfOk}
use Rattle.bp_outside.specs.declared.refusals.FolderRefusal.TheVariants.{OutOfMemory}
use Rattle.bp_press.specs.Batches.{IsCodedBatch}
use Rattle.bp_press.specs.VolumeFiles.{file_of_entry}
use Rattle.bp_press.specs.declared.volume_files.VolumeFile.TheVariants.{Dat}
use Rattle.bp_press.proofs.AddLemmas.{adds_err, all_of, cut_of, entries_begin, entries_last, entries_piece, entries_piece_cut, entries_stop}
use Rattle.bp_press.proofs.pressing.add_listed.Goals as goal

pub returns-in_err-coded : goal.returns-in_err-coded
returns-in_err-coded g c =
    let row = file_of_entry c.args.maker.now.production.now (g.P.Shows.matter c.args.maker.now.shown.now) in
    adds_err _ _ _ c.from_residual.result _ _ OutOfMemory (search rules)
    (entries_stop row c.args.maker.now.list.now 0 Dat _ _ _ _ OutOfMemory c.requires.some refl (entries_begin row c.args.maker.now.list.now _ c.args.manifest.now.items))

pub loop-coded-init : goal.loop-coded-init
loop-coded-init g c =
    (entries_begin (file_of_entry c.args.maker.now.production.now (g.P.Shows.matter c.args.maker.now.shown.now)) c.args.maker.now.list.now _ _, c.in_ok-coded.ensures)

pub add_beside-next-requires-clause-coded : goal.add_beside-next-requires-clause-coded
add_beside-next-requires-clause-coded g c κs within = c.loop-coded.invariant.1

pub returns-in_err-added : goal.returns-in_err-added
returns-in_err-added g c =
    let f = c.args.maker.now.production.now in
    let m = (g.P.Shows.matter c.args.maker.now.shown.now) in
    let was : c.add_beside-next.result.1 ≡ Err c.in_err-added.field-0.0 = c.in_err-added.was in
    adds_err _ _ _ c.from_residual-in_err-added.result _ _ c.in_err-added.field-0.0 (search rules)
    (entries_piece_cut (file_of_entry f m) c.args.maker.now.list.now c.loop-coded.from c.loop-coded.coded.batch.end _ _ _ _ _ _ _
    (omega (arith, c.loop-coded.invariant.1.onward)) refl c.loop-coded.invariant.0
    (cut_of _ _ _ c.add_beside-next.result.1 _ _ c.in_err-added.field-0.0 was c.add_beside-next.ensures.added))

pub returns-in_err-coded-2 : goal.returns-in_err-coded-2
returns-in_err-coded-2 g c =
    let f = c.args.maker.now.production.now in
    let m = (g.P.Shows.matter c.args.maker.now.shown.now) in
    let list = c.args.maker.now.list.now in
    let end = c.loop-coded.coded.batch.end in
    let was : c.add_beside-next.result.1 ≡ Ok c.in_ok-added.field-0 = c.in_ok-added.was in
    let put = all_of _ _ _ c.add_beside-next.result.1 _ _ c.in_ok-added.field-0 was c.add_beside-next.ensures.added in
    adds_err _ _ _ c.from_residual-in_err-coded-2.result _ _ OutOfMemory (search rules)
    (entries_stop (file_of_entry f m) list end Dat _ _ _ _ OutOfMemory c.loop-coded-test.true refl
    (entries_piece (file_of_entry f m) list c.loop-coded.from end _ _ _ _ _ _ _ (omega (arith, c.loop-coded.invariant.1.onward)) refl c.loop-coded.invariant.0 put.0 put.1))

pub loop-coded-smaller : goal.loop-coded-smaller
loop-coded-smaller g c = omega (arith, c.loop-coded.invariant.1.onward, c.loop-coded.invariant.1.within)

pub loop-coded-preserved : goal.loop-coded-preserved
loop-coded-preserved g c =
    let f = c.args.maker.now.production.now in
    let m = (g.P.Shows.matter c.args.maker.now.shown.now) in
    let list = c.args.maker.now.list.now in
    let end = c.loop-coded.coded.batch.end in
    let was : c.add_beside-next.result.1 ≡ Ok c.in_ok-added.field-0 = c.in_ok-added.was in
    let put = all_of _ _ _ c.add_beside-next.result.1 _ _ c.in_ok-added.field-0 was c.add_beside-next.ensures.added in
    let coded : c.add_beside-next.result.0 ≡ Ok c.in_ok-coded-2.coded = c.in_ok-coded-2.was in (
      entries_piece (file_of_entry f m) list c.loop-coded.from end _ _ _ _ _ _ _ (omega (arith, c.loop-coded.invariant.1.onward)) refl c.loop-coded.invariant.0 put.0 put.1,
      subst (λ answer. IfOk answer (IsCodedBatch f m list end)) coded c.add_beside-next.ensures.coded,
    )

pub add_batch-requires-clause-coded : goal.add_batch-requires-clause-coded
add_batch-requires-clause-coded g c = c.loop-coded.invariant.1

pub returns : goal.returns
returns g c =
    let f = c.args.maker.now.production.now in
    let m = (g.P.Shows.matter c.args.maker.now.shown.now) in
    entries_last (file_of_entry f m) c.args.maker.now.list.now c.loop-coded.from c.loop-coded.coded.batch.end _ _ _ _ _ c.add_batch.result _ _
    (omega (arith, c.loop-coded.invariant.1.onward)) c.loop-coded-test.false refl c.loop-coded.invariant.0 c.add_batch.ensures
