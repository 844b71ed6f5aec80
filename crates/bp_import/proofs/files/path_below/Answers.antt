use Rattle.std.proofs.Common.{◌∙◌, rules}
use Rattle.bp_import.proofs.ScanLemmas.{path_joined}
use Rattle.bp_import.proofs.files.path_below.Goals as goal

pub returns : goal.returns
returns c = c.from_string.ensures ∙ path_joined c.args.name.now c.args.path.now _ c.as_str.ensures.scalars c.utf8.path (search rules)
