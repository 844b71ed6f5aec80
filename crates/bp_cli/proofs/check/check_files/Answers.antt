use Rattle.std.proofs.Common.{◌≡◌, ◌∙◌, ap, refl}
use Rattle.bp_check.specs.Check.{Operands}
use Rattle.std.specs.Option.{option_copied}
use Rattle.bp_cli.specs.Check.{check_seen}
use Rattle.bp_cli.proofs.CheckLemmas.{checked_ends, lacking_ends, refused_ends}
use Rattle.bp_cli.proofs.check.check_files.Goals as goal

pub returns-in_err-texts : goal.returns-in_err-texts
returns-in_err-texts g c =
    let source = g.S.Source.shows c.args.source.now in
    lacking_ends (check_seen c.args.asked.now) source source c.from_residual.result c.from_residual.ensures.0 c.from_residual.ensures.1 refl

pub returns-in_err-checked : goal.returns-in_err-checked
returns-in_err-checked g c =
    let texts = c.in_ok-texts.texts in
    let residual = c.from_residual-in_err-checked in
    let named : Operands = record { dat = texts.dat; opt = texts.opt; manifest = option_copied c.as_ref-manifest.result } in
    let same : named ≡ check_seen c.args.asked.now = ap (λ m. record named { manifest = m }) c.as_ref-manifest.ensures.value ∙ c.in_ok-texts.ensures in
    refused_ends c.one_answer.ensures.some (check_seen c.args.asked.now) named (g.S.Source.shows c.args.source.now) (g.S.Source.shows c.check_volume.new.source)
    c.in_err-checked.field-0.0 residual.result residual.ensures.0 residual.ensures.1 same c.in_err-checked.ensures.told c.in_err-checked.ensures.after

pub returns-in_err-line_of_counts : goal.returns-in_err-line_of_counts
returns-in_err-line_of_counts g c =
    let residual = c.from_residual-in_err-line_of_counts in
    lacking_ends (check_seen c.args.asked.now) (g.S.Source.shows c.args.source.now) (g.S.Source.shows c.check_volume.new.source)
    residual.result residual.ensures.0 residual.ensures.1 c.in_ok-checked.ensures.after

pub returns : goal.returns
returns g c =
    let texts = c.in_ok-texts.texts in
    let named : Operands = record { dat = texts.dat; opt = texts.opt; manifest = option_copied c.as_ref-manifest.result } in
    let same : named ≡ check_seen c.args.asked.now = ap (λ m. record named { manifest = m }) c.as_ref-manifest.ensures.value ∙ c.in_ok-texts.ensures in
    checked_ends c.one_answer.ensures.some (check_seen c.args.asked.now) named (g.S.Source.shows c.args.source.now) (g.S.Source.shows c.check_volume.new.source)
    c.in_ok-checked.checked c.in_ok-line_of_counts.field-0 same c.in_ok-checked.ensures.told c.in_ok-checked.ensures.after c.in_ok-line_of_counts.ensures
