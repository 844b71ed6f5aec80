use Rattle.std.proofs.Common.{ap, ◌≡◌, ◌++◌, List, ℕ, subst}
use Rattle.std.specs.Prelude.{OnOk}
use Rattle.bp_outside.specs.Folder.{file}
use Rattle.bp_press.specs.Manifest.{manifest_line}
use Rattle.bp_press.specs.VolumeFiles.{file_of_entry}
use Rattle.bp_press.specs.declared.batches.MadeFile.{MadeFile}
use Rattle.bp_press.proofs.finding.add_line_of.Goals as goal

pub returns : goal.returns
returns g c =
    let row = file_of_entry c.args.production.now (g.P.Shows.matter c.args.shown.now) c.args.file.now in
    let is = c.in_ok-made.ensures in
    subst (λ (path : List ℕ). OnOk c.add_line.result (c.add_line.new.manifest.items ≡ c.args.manifest.now.items ++ manifest_line (file path row.bytes)))
    (ap (λ (made : MadeFile). made.row.path) is) (c.add_line.ensures row.bytes (ap (λ (made : MadeFile). made.digest) is))
