use Rattle.bp_press.proofs.NameLemmas.{path_named, image_named}
use Rattle.bp_press.proofs.names.image_path.Goals as goal

pub returns : goal.returns
returns c =
    path_named c.path_of.result _ _
    (image_named c.args.separator c.args.request.now c.args.place c.args.number c.in_ok-folder.folder c.in_ok-label.label c.in_ok-folder.ensures c.in_ok-label.ensures)
    c.path_of.ensures
