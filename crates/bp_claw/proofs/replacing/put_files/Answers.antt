use Rattle.std.proofs.Common.{rules, ◌≡◌, ◌∷◌, Option, refl, subst}
use Rattle.std.specs.Prelude.{IfSome}
use Rattle.bp_outside.specs.declared.refusals.FolderRefusal.TheVariants.{OutOfMemory}
use Rattle.bp_press.specs.Batches.{IsDigested}
use Rattle.bp_press.specs.InTurn.{TakesMade}
use Rattle.bp_press.specs.declared.batches.MadeFile.{MadeFile}
use Rattle.bp_press.proofs.ItemLemmas.{on_err}
use Rattle.bp_claw.proofs.PutLemmas.{put_cut, put_next, put_stop}
use Rattle.bp_claw.proofs.replacing.put_files.Goals as goal

pub returns-in_err-file-clause-cut : goal.returns-in_err-file-clause-cut
returns-in_err-file-clause-cut g c =
    let l = c.loop-left in
    on_err c.from_residual.result OutOfMemory _
    (put_stop (g.F.Folder.shows c.args.folder.now) c.args.files (g.F.Folder.shows l.folder) l.left l.pressed OutOfMemory l.invariant c.in_err-file.ensures.some refl) (search rules)

pub returns-in_err-put_row-clause-cut : goal.returns-in_err-put_row-clause-cut
returns-in_err-put_row-clause-cut g c =
    let l = c.loop-left in
    let is = subst (λ (o : Option MadeFile). TakesMade l.left o c.next.new.self) c.in-Some.is c.in_ok-file.ensures.taken in
    on_err c.from_residual-in_err-put_row.result c.in_err-put_row.field-0.0 _
    (put_cut (g.F.Folder.shows c.args.folder.now) c.args.files (g.F.Folder.shows l.folder) (g.F.Folder.shows c.put_row.new.folder) c.in-Some.file.row c.next.new.self l.left l.pressed _ l.invariant is c.in_err-put_row.ensures.cut)
    (search rules)

pub loop-left-preserved : goal.loop-left-preserved
loop-left-preserved g c =
    let l = c.loop-left in
    let is = subst (λ (o : Option MadeFile). TakesMade l.left o c.next.new.self) c.in-Some.is c.in_ok-file.ensures.taken in
    put_next (g.F.Folder.shows c.args.folder.now) c.args.files (g.F.Folder.shows l.folder) (g.F.Folder.shows c.put_row.new.folder) c.in-Some.file.row c.next.new.self l.left l.pressed _ l.invariant is c.in_ok-put_row.ensures.files refl
    (subst (λ (o : Option MadeFile). IfSome o IsDigested) c.in-Some.is c.in_ok-file.ensures.digest)
