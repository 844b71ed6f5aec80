use Rattle.std.proofs.Common.{◌≡◌, ◌∙◌, ℕ, List, Option, Ok, Result, Some, ap, sym}
use Rattle.std.specs.List.{find}
use Rattle.std.specs.Option.{option_copied}
use Rattle.bp_core.specs.declared.rules.Rule.{Rule}
use Rattle.bp_freeze.proofs.KeptLemmas.{found_is_kept}
use Rattle.bp_matter.specs.declared.rows.Production.{Production}
use Rattle.bp_press.specs.Shown.{matter_behind, production_shown}
use Rattle.bp_receiver.specs.Ready.{is_ready_at}
use Rattle.bp_receiver.specs.Receiving.{file_given}
use Rattle.bp_receiver.specs.declared.events.Given.{Given}
use Rattle.bp_receiver.specs.declared.events.Given.TheVariants as gives
use Rattle.bp_receiver.specs.declared.ready.ReadyFile.{ReadyFile}
use Rattle.bp_receiver.proofs.ReadyFileLemmas.{ready-given}
use Rattle.bp_receiver.proofs.wants.file_given.Goals as goal

abbrev as_given : List ℕ → Result Given Rule
as_given bytes = Ok (gives.File bytes)

pub returns-in-Some-clause-given : goal.returns-in-Some-clause-given
returns-in-Some-clause-given c =
    let m = matter_behind c.args.file.shown in
    let id = c.args.file.id.now in
    let path = c.args.file.path.now in
    let found : find (is_ready_at id path) c.args.ready.now.items ≡ Some c.in-Some.there.now =
    ap (λ (files : List ReadyFile). find (is_ready_at id path) files) (sym c.deref.ensures.value)
    ∙ sym c.ready_at.ensures
    ∙ ap option_copied c.in-Some.is in
    ap (λ (kept : Option Production). file_given m path kept) (sym c.requires.of.kept)
    ∙ ready-given m c.args.ready.now.items id path c.in-Some.there.now c.requires.ready found
    ∙ ap as_given (sym c.in_ok-copy_of.ensures)

pub file_made-requires : goal.file_made-requires
file_made-requires c =
    let file = c.args.file in
    found_is_kept (matter_behind file.shown) file.id.now (production_shown file.shown)
    c.requires.of.kept
