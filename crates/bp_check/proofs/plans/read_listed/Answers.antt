use Rattle.std.proofs.Common.{◌∙◌, List, Vec, map, ap, length, arith}
use Rattle.std.specs.declared.alloc.Global.{Global}
use Rattle.std.proofs.lemmas.List.{length-map}
use Rattle.bp_check.specs.Manifest.{Listed, listed_files}
use Rattle.bp_check.specs.Seen.{listed_seen}
use Rattle.bp_check.specs.declared.manifest.ListedFile.{ListedFile}
use Rattle.bp_check.proofs.CalmLemmas.{bad_after, manifest_calm}
use Rattle.bp_check.proofs.CountLemmas.{manifest_few}
use Rattle.bp_check.proofs.plans.read_listed.Goals as goal

pub returns-in_err-read_manifest-clause-after : goal.returns-in_err-read_manifest-clause-after
returns-in_err-read_manifest-clause-after g c =
    c.in_ok-bytes.ensures.after
    ∙ bad_after {Y = Vec ListedFile Global} {V = List Listed} (λ rows. map listed_seen rows.items) c.from_residual-in_err-read_manifest.result c.in_err-read_manifest.field-0.0 (listed_files c.deref.result.now) _
    (manifest_calm c.deref.result.now) c.from_residual-in_err-read_manifest.ensures.1 c.in_err-read_manifest.ensures

pub returns-clause-few : goal.returns-clause-few
returns-clause-few g c =
    let rows = c.in_ok-read_manifest.field-0.items in
    omega (arith, manifest_few c.deref.result.now (map listed_seen rows) c.in_ok-read_manifest.ensures, length-map rows listed_seen, c.in_ok-bytes.ensures.limit, ap length c.deref.ensures.value)
