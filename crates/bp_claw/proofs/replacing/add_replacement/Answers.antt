use Rattle.std.proofs.Common.{rules, ◌≡◌, ◌∙◌, IfOk, List, ap, sym, subst}
use Rattle.std.specs.Result.{IfErr, OnOk}
use Rattle.bp_outside.specs.declared.files.FileRow.{FileRow}
use Rattle.bp_outside.specs.declared.refusals.FolderRefusal.TheVariants.{OutOfMemory}
use Rattle.bp_matter.specs.Matter.{Matter}
use Rattle.bp_matter.specs.declared.rows.Production.{Production}
use Rattle.bp_press.specs.Needs.{CanBePressed}
use Rattle.bp_press.specs.Pressed.{pressed_of}
use Rattle.bp_press.specs.Shown.{matter_behind, production_shown}
use Rattle.bp_press.specs.Volume.{volume_of}
use Rattle.bp_press.specs.Writing.{AddsAll, LeavesCut}
use Rattle.bp_press.proofs.ItemLemmas.{on_err}
use Rattle.bp_claw.proofs.ReplacedLemmas.{nothing-replaced, replaced-pressed, replacement-is}
use Rattle.bp_claw.proofs.replacing.add_replacement.Goals as goal

pub returns-in_err-replacement-clause-cut : goal.returns-in_err-replacement-clause-cut
returns-in_err-replacement-clause-cut g c =
    on_err c.from_residual.result OutOfMemory _
    (nothing-replaced c.args.production.now c.args.notice.now c.args.volume.now c.args.tables.now.matter (g.F.Folder.shows c.args.folder.now)) (search rules)

pub over-requires : goal.over-requires
over-requires g c =
    let m = c.args.tables.now.matter in
    let pressed : CanBePressed c.in_ok-replacement.replacement m =
    subst (λ (f : Production). CanBePressed f m) (sym c.in_ok-replacement.ensures)
    (replaced-pressed m c.know_valid.ensures c.args.production.now c.requires.kept c.args.notice.now c.requires.fits c.args.volume.now c.requires.named) in
    subst (λ (n : Matter). CanBePressed (production_shown c.of-shown.result) n) (sym c.of-shown.ensures.matter) (subst (λ (f : Production). CanBePressed f m) (sym c.of-shown.ensures.production) pressed)

pub returns-in_err-files-clause-cut : goal.returns-in_err-files-clause-cut
returns-in_err-files-clause-cut g c =
    on_err c.from_residual-in_err-files.result OutOfMemory _
    (nothing-replaced c.args.production.now c.args.notice.now c.args.volume.now c.args.tables.now.matter (g.F.Folder.shows c.args.folder.now)) (search rules)

pub returns-clause-told : goal.returns-clause-told
returns-clause-told g c =
    let m = c.args.tables.now.matter in
    let is =
    c.in_ok-files.ensures.files ∙ ap (λ (f : Production). volume_of f (matter_behind c.of-shown.result)) c.of-shown.ensures.production
    ∙ ap (volume_of c.in_ok-replacement.replacement) c.of-shown.ensures.matter
    ∙ replacement-is c.args.production.now c.args.notice.now c.args.volume.now m c.in_ok-replacement.replacement c.in_ok-replacement.ensures in
    subst (λ (files : List FileRow). IfOk c.put_files.result (λ pressed. pressed ≡ pressed_of files)) is c.put_files.ensures.told

pub returns-clause-files : goal.returns-clause-files
returns-clause-files g c =
    let m = c.args.tables.now.matter in
    let is =
    c.in_ok-files.ensures.files ∙ ap (λ (f : Production). volume_of f (matter_behind c.of-shown.result)) c.of-shown.ensures.production
    ∙ ap (volume_of c.in_ok-replacement.replacement) c.of-shown.ensures.matter
    ∙ replacement-is c.args.production.now c.args.notice.now c.args.volume.now m c.in_ok-replacement.replacement c.in_ok-replacement.ensures in
    subst (λ (files : List FileRow). OnOk c.put_files.result (AddsAll (g.F.Folder.shows c.args.folder.now) files (g.F.Folder.shows c.put_files.new.folder))) is c.put_files.ensures.files

pub returns-clause-cut : goal.returns-clause-cut
returns-clause-cut g c =
    let m = c.args.tables.now.matter in
    let is =
    c.in_ok-files.ensures.files ∙ ap (λ (f : Production). volume_of f (matter_behind c.of-shown.result)) c.of-shown.ensures.production
    ∙ ap (volume_of c.in_ok-replacement.replacement) c.of-shown.ensures.matter
    ∙ replacement-is c.args.production.now c.args.notice.now c.args.volume.now m c.in_ok-replacement.replacement c.in_ok-replacement.ensures in
    subst (λ (files : List FileRow). IfErr c.put_files.result (λ refusal. LeavesCut (g.F.Folder.shows c.args.folder.now) files refusal (g.F.Folder.shows c.put_files.new.folder))) is c.put_files.ensures.cut
