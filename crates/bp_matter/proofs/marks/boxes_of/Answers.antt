use Rattle.std.proofs.Common.{◌∙◌}
use Rattle.bp_matter.proofs.MarkLemmas.{boxes_between}
use Rattle.bp_matter.proofs.marks.boxes_of.Goals as goal

pub returns : goal.returns
returns c = c.of_doc.ensures ∙ boxes_between c.args.doc.0 c.args.boxes.now.rows c.requires
