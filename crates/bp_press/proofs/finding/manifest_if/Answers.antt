use Rattle.std.proofs.Common.{rules, ◌≡◌, ◌∙◌, ap, true, false, map}
use Rattle.std.specs.Str.{bytes_eq}
use Rattle.bp_outside.specs.Folder.{file}
use Rattle.bp_press.specs.Manifest.{manifest_of}
use Rattle.bp_press.specs.Paths.{manifest_path}
use Rattle.bp_press.specs.Volume.{files_before, placed_items}
use Rattle.bp_press.specs.VolumeFiles.{file_of_entry}
use Rattle.bp_press.proofs.FindLemmas.{hit, missed}
use Rattle.bp_press.proofs.PressLemmas.{lent_listed}
use Rattle.bp_press.proofs.finding.manifest_if.Goals as goal

pub returns-then-ne : goal.returns-then-ne
returns-then-ne g c =
    let f = c.args.production.now in
    let other : bytes_eq c.in_ok-own.own c.args.path.now ≡ false = search rules in
    let rows = files_before f (placed_items f (g.P.Shows.matter c.args.shown.now)) in
    missed c.args.path.now c.in_ok-own.own (file (manifest_path f.request) (manifest_of rows)) c.in_ok-own.ensures other

pub manifest_bytes-requires-clause-made : goal.manifest_bytes-requires-clause-made
manifest_bytes-requires-clause-made g c =
    (lent_listed c.args.production.now (g.P.Shows.matter c.args.shown.now) c.in_ok-list.list.items c.as_slice.result.now _ c.as_slice.ensures.value c.in_ok-list.ensures).made

pub returns : goal.returns
returns g c =
    let f = c.args.production.now in
    let m = g.P.Shows.matter c.args.shown.now in
    let same : bytes_eq c.in_ok-own.own c.args.path.now ≡ true = search rules in
    let rows = files_before f (placed_items f m) in
    let listed = lent_listed f m c.in_ok-list.list.items c.as_slice.result.now rows c.as_slice.ensures.value c.in_ok-list.ensures in
    hit c.args.path.now c.in_ok-own.own c.in_ok-manifest_bytes.field-0 (file (manifest_path f.request) (manifest_of rows)) c.in_ok-own.ensures same
    (c.in_ok-manifest_bytes.ensures ∙ ap manifest_of listed.files)
