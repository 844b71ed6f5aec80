use Rattle.std.proofs.Common.{ℕ, List, ap₂, ◌∙◌}
use Rattle.bp_outside.specs.Folder.{file}
use Rattle.bp_press.specs.Batches.{made_of}
use Rattle.bp_press.proofs.file_rows.made_file.Goals as goal

pub returns : goal.returns
returns g c = c.digested.ensures ∙ ap₂ (λ (path : List ℕ) (bytes : List ℕ). made_of (file path bytes)) c.in_ok-path.ensures c.in_ok-bytes.ensures
