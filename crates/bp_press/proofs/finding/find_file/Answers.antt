use Rattle.std.proofs.Common.{Some, ap, ◌∙◌, sym}
use Rattle.std.specs.Str.{bytes_eq}
use Rattle.bp_matter.specs.LookUps.{of_row}
use Rattle.bp_press.specs.VolumeFiles.{EntryCanBeMade, bytes_of_entry, entry_path}
use Rattle.bp_press.proofs.FindLemmas.{entry_bytes, found_has, found_here, found_later, found_same}
use Rattle.bp_press.proofs.SoughtLemmas.{lent_sought}
use Rattle.bp_press.proofs.finding.find_file.Goals as goal

pub file_bytes-requires-clause-made : goal.file_bytes-requires-clause-made
file_bytes-requires-clause-made g c =
    let f = c.args.production.now in
    let m = g.P.Shows.matter c.args.shown.now in
    found_has (EntryCanBeMade f m) (λ entry. bytes_eq (entry_path f entry) c.args.path.now) c.as_slice.result.now c.in-Some.file (sym c.in_ok-file.ensures ∙ c.in-Some.is)
    (lent_sought f m c.args.path.now _ _ _ c.as_slice.ensures.value c.in_ok-list.ensures).made

pub returns-in-Some : goal.returns-in-Some
returns-in-Some g c =
    let f = c.args.production.now in
    let m = g.P.Shows.matter c.args.shown.now in
    found_here c.args.path.now f m c.in_ok-list.list.items c.as_slice.result.now c.in_ok-file_bytes-in-Some.field-0 c.as_slice.ensures.value c.in_ok-list.ensures
    (ap Some c.in_ok-file_bytes-in-Some.ensures ∙ sym (ap (of_row (bytes_of_entry f m)) (sym c.in_ok-file.ensures ∙ c.in-Some.is)) ∙ sym (entry_bytes f m c.args.path.now c.as_slice.result.now))

pub returns : goal.returns
returns g c =
    let f = c.args.production.now in
    let m = g.P.Shows.matter c.args.shown.now in
    found_same c.manifest_if.result _ _
    (found_later c.args.path.now f m c.in_ok-list.list.items c.as_slice.result.now c.as_slice.ensures.value c.in_ok-list.ensures
    (sym (ap (of_row (bytes_of_entry f m)) (sym c.in_ok-file.ensures ∙ c.in-None.is)) ∙ sym (entry_bytes f m c.args.path.now c.as_slice.result.now)))
    c.manifest_if.ensures
