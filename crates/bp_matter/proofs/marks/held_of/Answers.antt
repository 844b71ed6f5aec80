use Rattle.std.proofs.Common.{◌∙◌}
use Rattle.bp_matter.proofs.MarkLemmas.{held_between}
use Rattle.bp_matter.proofs.marks.held_of.Goals as goal

pub returns : goal.returns
returns c = c.of_doc.ensures ∙ held_between c.args.doc.0 c.args.held.now.rows c.requires
