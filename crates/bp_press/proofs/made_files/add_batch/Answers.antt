use Rattle.std.proofs.Common.{rules, refl, ap, subst, sym}
use Rattle.std.specs.Prelude.{slice_range}
use Rattle.bp_outside.specs.declared.refusals.FolderRefusal.TheVariants.{OutOfMemory}
use Rattle.bp_press.specs.Batches.{IsDigested}
use Rattle.bp_press.specs.VolumeFiles.{file_of_entry}
use Rattle.bp_press.specs.declared.volume_files.VolumeFile.TheVariants.{Dat}
use Rattle.bp_press.proofs.AddLemmas.{adds_err, entries_cut, entries_stop, entries_turn}
use Rattle.bp_press.proofs.made_files.add_batch.Goals as goal

pub returns-in_err-file : goal.returns-in_err-file
returns-in_err-file g c =
    let row = file_of_entry c.args.maker.now.production.now (g.P.Shows.matter c.args.maker.now.shown.now) in
    let piece = slice_range c.args.maker.now.list.now c.args.from c.args.coded.now.batch.end in
    adds_err _ _ _ c.from_residual.result _ _ OutOfMemory (search rules)
    (entries_stop row piece c.loop-place.place Dat _ _ _ _ OutOfMemory c.loop-place-test.true refl c.loop-place.invariant)

pub add_file-requires : goal.add_file-requires
add_file-requires g c = subst IsDigested (sym (c.in_ok-file.ensures Dat)) refl

pub returns-in_err-add_file : goal.returns-in_err-add_file
returns-in_err-add_file g c =
    let row = file_of_entry c.args.maker.now.production.now (g.P.Shows.matter c.args.maker.now.shown.now) in
    let piece = slice_range c.args.maker.now.list.now c.args.from c.args.coded.now.batch.end in
    adds_err _ _ _ c.from_residual-in_err-add_file.result _ _ c.in_err-add_file.field-0.0 (search rules)
    (entries_cut row piece c.loop-place.place Dat _ _ _ _ _ _ _ c.loop-place-test.true (ap (λ made. made.row) (c.in_ok-file.ensures Dat)) c.loop-place.invariant c.in_err-add_file.ensures.cut)

pub loop-place-preserved : goal.loop-place-preserved
loop-place-preserved g c =
    let row = file_of_entry c.args.maker.now.production.now (g.P.Shows.matter c.args.maker.now.shown.now) in
    let piece = slice_range c.args.maker.now.list.now c.args.from c.args.coded.now.batch.end in
    entries_turn row piece c.loop-place.place Dat _ _ _ _ _ _ _ c.loop-place-test.true (ap (λ made. made.row) (c.in_ok-file.ensures Dat)) c.loop-place.invariant
    c.in_ok-add_file.ensures.files c.in_ok-add_file.ensures.lines_are
