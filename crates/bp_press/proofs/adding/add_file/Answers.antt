use Rattle.std.proofs.Common.{rules, refl, []}
use Rattle.bp_outside.specs.declared.refusals.FolderRefusal.TheVariants.{OutOfMemory}
use Rattle.bp_press.proofs.AddLemmas.{adds_err, adds_put}
use Rattle.bp_press.proofs.WritingLemmas.{cut_none}
use Rattle.bp_press.proofs.adding.add_file.Goals as goal

pub returns-in_err-add_line : goal.returns-in_err-add_line
returns-in_err-add_line g c =
    adds_err _ _ _ c.from_residual.result _ _ OutOfMemory (search rules) (cut_none _ _ [] OutOfMemory refl)

pub returns : goal.returns
returns g c =
    adds_put c.args.file.now.row _ c.args.file.now.row.bytes _ _ _ c.put_file.result _ _ c.as_str.ensures.characters refl c.as_slice.ensures
    (c.in_ok-add_line.ensures c.args.file.now.row.bytes c.requires) c.put_file.ensures
