use Rattle.std.proofs.Common.{◌∙◌, ap}
use Rattle.bp_press.specs.Pressed.{pressed_of}
use Rattle.bp_press.specs.Writing.{with_files}
use Rattle.bp_claw.proofs.AgreeLemmas.{replacement-same}
use Rattle.bp_claw.proofs.ReplacedLemmas.{few-items}
use Rattle.bp_claw.proofs.StayLemmas.{replacement-stays}
use Rattle.bp_claw.proofs.replacing.replace.Goals as goal

pub refusal-requires : goal.refusal-requires
refusal-requires g c = few-items c.args.tables.now.matter c.know_valid.ensures c.args.production.now c.requires.kept

pub returns-in-Some-clause-stays : goal.returns-in-Some-clause-stays
returns-in-Some-clause-stays g c =
    replacement-stays c.args.tables.now.matter c.know_valid.ensures c.args.production.now c.requires.kept c.args.notice.now c.requires.fits c.args.volume.now

pub returns-in-Ok-clause-alike : goal.returns-in-Ok-clause-alike
returns-in-Ok-clause-alike g c = λ other agree.
    c.in-Ok.ensures.files.there
    ∙ ap (with_files (g.F.Folder.shows c.args.folder.now)) (replacement-same c.args.production.now c.args.notice.now c.args.volume.now c.args.tables.now.matter other agree)

pub returns-in-Ok-clause-told_alike : goal.returns-in-Ok-clause-told_alike
returns-in-Ok-clause-told_alike g c = λ other agree.
    c.in-Ok.ensures.told ∙ ap pressed_of (replacement-same c.args.production.now c.args.notice.now c.args.volume.now c.args.tables.now.matter other agree)

pub returns-in-Ok-clause-stays : goal.returns-in-Ok-clause-stays
returns-in-Ok-clause-stays g c =
    replacement-stays c.args.tables.now.matter c.know_valid.ensures c.args.production.now c.requires.kept c.args.notice.now c.requires.fits c.args.volume.now

pub returns-in-Err-clause-stays : goal.returns-in-Err-clause-stays
returns-in-Err-clause-stays g c =
    replacement-stays c.args.tables.now.matter c.know_valid.ensures c.args.production.now c.requires.kept c.args.notice.now c.requires.fits c.args.volume.now
