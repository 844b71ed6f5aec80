use Rattle.std.proofs.Common.{◌∙◌, ap, subst, sym}
use Rattle.bp_matter.specs.Matter.{Matter}
use Rattle.bp_press.specs.Needs.{CanBePressed}
use Rattle.bp_press.specs.Pressed.{pressed_of}
use Rattle.bp_press.specs.Volume.{volume_of}
use Rattle.bp_press.specs.Writing.{with_files}
use Rattle.bp_press.proofs.PressedLemmas.{kept-pressed}
use Rattle.bp_press.proofs.ReadLemmas.{read-back}
use Rattle.bp_press.proofs.SameLemmas.{volume-same}
use Rattle.bp_press.proofs.pressing.press.Goals as goal

pub write_volume-requires-clause-pressed : goal.write_volume-requires-clause-pressed
write_volume-requires-clause-pressed g c κs within =
    subst (λ (m : Matter). CanBePressed c.args.production.now m) (sym c.of-shown.ensures.matter) (kept-pressed c.args.tables.now.matter c.know_valid.ensures c.args.production.now c.requires)

pub returns-in-Ok-clause-alike : goal.returns-in-Ok-clause-alike
returns-in-Ok-clause-alike g c = λ other keeps agree.
    let before = g.F.Folder.shows c.args.folder.now in
    c.in-Ok.ensures.files.there ∙ ap (λ (m : Matter). with_files before (volume_of c.args.production.now m)) c.of-shown.ensures.matter
    ∙ ap (with_files before) (volume-same c.args.production.now c.args.tables.now.matter other agree)

pub returns-in-Ok-clause-told_alike : goal.returns-in-Ok-clause-told_alike
returns-in-Ok-clause-told_alike g c = λ other keeps agree.
    c.in-Ok.ensures.told ∙ ap (λ (m : Matter). pressed_of (volume_of c.args.production.now m)) c.of-shown.ensures.matter
    ∙ ap pressed_of (volume-same c.args.production.now c.args.tables.now.matter other agree)

pub returns-in-Ok-clause-read_back : goal.returns-in-Ok-clause-read_back
returns-in-Ok-clause-read_back g c = read-back c.written_is_read.ensures c.args.production.now c.args.tables.now.matter c.know_valid.ensures c.requires

pub returns-in-Err-clause-read_back : goal.returns-in-Err-clause-read_back
returns-in-Err-clause-read_back g c = read-back c.written_is_read.ensures c.args.production.now c.args.tables.now.matter c.know_valid.ensures c.requires
