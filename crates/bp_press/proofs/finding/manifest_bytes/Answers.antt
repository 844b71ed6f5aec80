use Rattle.std.proofs.Common.{◌++◌, ◌∙◌, ap}
use Rattle.bp_press.specs.Manifest.{manifest_line}
use Rattle.bp_press.specs.declared.volume_files.VolumeFile.{VolumeFile}
use Rattle.bp_press.specs.VolumeFiles.{file_of_entry}
use Rattle.bp_press.proofs.FindLemmas.{lines_begin, lines_end, lines_turn}
use Rattle.bp_press.proofs.finding.manifest_bytes.Goals as goal

pub loop-file-init : goal.loop-file-init
loop-file-init g c = lines_begin (file_of_entry c.args.production.now (g.P.Shows.matter c.args.shown.now)) c.args.list.now _ c.new-manifest.ensures.items

pub loop-file-preserved : goal.loop-file-preserved
loop-file-preserved g c =
    lines_turn (file_of_entry c.args.production.now (g.P.Shows.matter c.args.shown.now)) c.args.list.now c.loop-file.file-index c.file-item.result c.loop-file.manifest.items _ c.loop-file-test.true c.loop-file.invariant
    (c.in_ok-add_line_of.ensures ∙ ap (λ (file : VolumeFile). c.loop-file.manifest.items ++ manifest_line (file_of_entry c.args.production.now (g.P.Shows.matter c.args.shown.now) file)) c.file-item.is)

pub returns : goal.returns
returns g c =
    c.from_vec.ensures ∙ lines_end (file_of_entry c.args.production.now (g.P.Shows.matter c.args.shown.now)) c.args.list.now c.loop-file.file-index _ c.loop-file-test.false c.loop-file.invariant
