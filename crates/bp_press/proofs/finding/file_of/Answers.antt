use Rattle.std.proofs.Common.{subst, sym}
use Rattle.bp_matter.specs.declared.rows.Production.{Production}
use Rattle.bp_press.specs.Needs.{CanBePressed}
use Rattle.bp_press.specs.Shown.{matter_behind, production_shown}
use Rattle.bp_press.proofs.PressedLemmas.{kept-pressed}
use Rattle.bp_press.proofs.finding.file_of.Goals as goal

pub find_file-requires-clause-pressed : goal.find_file-requires-clause-pressed
find_file-requires-clause-pressed c =
    let m = matter_behind c.args.shown.now in
    subst (λ (f : Production). CanBePressed f m) (sym c.production.ensures) (kept-pressed m c.know_valid.ensures (production_shown c.args.shown.now) c.requires)
