use Rattle.std.proofs.Common.{◌≡◌, ◌∙◌, Option, Some, None, sym, ap, subst}
use Rattle.std.specs.Option.{option_map}
use Rattle.bp_cli.specs.declared.commands.Command.{Command}
use Rattle.bp_cli.specs.declared.commands.Command.TheVariants as commands
use Rattle.bp_cli.specs.Burn.{burn_seen}
use Rattle.bp_cli.specs.Words.{word_bytes}
use Rattle.bp_cli.specs.Endings.{world}
use Rattle.std.specs.Str.{chars}
use Rattle.bp_cli.specs.Commands.{CommandLine, burn, init, import, produce, press, log, check, claw, demo, command_seen, command_of, ReadsAndWorks, ReadsAsOften}
use Rattle.bp_cli.proofs.BurnLemmas.{burn_reads}
use Rattle.bp_cli.specs.Check.{check_seen}
use Rattle.bp_cli.specs.Claw.{claw_seen}
use Rattle.bp_cli.proofs.CheckLemmas.{check_reads}
use Rattle.bp_cli.proofs.WorkLemmas.{never_read, words_lacked, words_refused}
use Rattle.bp_cli.proofs.run.work.Goals as goal

pub returns-in_err-command_in-clause-works : goal.returns-in_err-command_in-clause-works
returns-in_err-command_in-clause-works g c =
    let source = g.S.Source.shows c.args.source.now in
    let folder = g.F.Folder.shows c.args.folder.now in
    words_lacked (command_of (word_bytes c.args.words.now)) source (g.K.Keeper.shows c.args.keeper.now) folder c.from_residual.result c.from_residual.ensures.0 c.from_residual.ensures.1

pub returns-in-None-clause-works : goal.returns-in-None-clause-works
returns-in-None-clause-works g c =
    let source = g.S.Source.shows c.args.source.now in
    let folder = g.F.Folder.shows c.args.folder.now in
    let is : None ≡ command_of (word_bytes c.args.words.now) = ap (option_map command_seen) (sym c.in-None.is) ∙ c.in_ok-command_in.ensures in
    words_refused (command_of (word_bytes c.args.words.now)) source (g.K.Keeper.shows c.args.keeper.now) folder is

pub returns-in-Some-Burn-clause-works : goal.returns-in-Some-Burn-clause-works
returns-in-Some-Burn-clause-works g c =
    let keeper = g.K.Keeper.shows c.args.keeper.now in
    let before = world (g.S.Source.shows c.args.source.now) keeper (g.F.Folder.shows c.args.folder.now) in
    let after = world (g.S.Source.shows c.burn_box.new.source) keeper (g.F.Folder.shows c.burn_box.new.folder) in
    let found : c.in_ok-command_in.field-0 ≡ Some (commands.Burn c.in-Some-Burn.asked) = c.in-Some-Burn.is ∙ ap (λ (x : Command). Some x) c.in-Some-Burn.field-0-is in
    let is : Some (burn (burn_seen c.in-Some-Burn.asked)) ≡ command_of (word_bytes c.args.words.now) = ap (option_map command_seen) (sym found) ∙ c.in_ok-command_in.ensures in
    subst (λ (o : Option CommandLine). ReadsAndWorks o before c.burn_box.result after) is
    (burn_reads (burn_seen c.in-Some-Burn.asked) (g.S.Source.shows c.args.source.now) (g.S.Source.shows c.burn_box.new.source) keeper (g.F.Folder.shows c.args.folder.now) (g.F.Folder.shows c.burn_box.new.folder) c.burn_box.result (c.burn_box.ensures.ends keeper))

pub returns-in-Some-Init-clause-works : goal.returns-in-Some-Init-clause-works
returns-in-Some-Init-clause-works g c =
    let source = g.S.Source.shows c.args.source.now in
    let folder = g.F.Folder.shows c.args.folder.now in
    let before = world source (g.K.Keeper.shows c.args.keeper.now) folder in
    let after = world source (g.K.Keeper.shows c.make_matter.new.keeper) folder in
    let found : c.in_ok-command_in.field-0 ≡ Some (commands.Init c.in-Some-Init.digest) = c.in-Some-Init.is ∙ ap (λ (x : Command). Some x) c.in-Some-Init.field-0-is in
    let is : Some (init c.in-Some-Init.digest) ≡ command_of (word_bytes c.args.words.now) = ap (option_map command_seen) (sym found) ∙ c.in_ok-command_in.ensures in
    subst (λ (o : Option CommandLine). ReadsAndWorks o before c.make_matter.result after) is (c.make_matter.ensures source folder)

pub returns-in-Some-Import-clause-works : goal.returns-in-Some-Import-clause-works
returns-in-Some-Import-clause-works g c =
    let folder = g.F.Folder.shows c.args.folder.now in
    let before = world (g.S.Source.shows c.args.source.now) (g.K.Keeper.shows c.args.keeper.now) folder in
    let after = world (g.S.Source.shows c.import_batch.new.source) (g.K.Keeper.shows c.import_batch.new.keeper) folder in
    let found : c.in_ok-command_in.field-0 ≡ Some (commands.Import c.in-Some-Import.name) = c.in-Some-Import.is ∙ ap (λ (x : Command). Some x) c.in-Some-Import.field-0-is in
    let is : Some (import c.in-Some-Import.name.now) ≡ command_of (word_bytes c.args.words.now) = ap (option_map command_seen) (sym found) ∙ c.in_ok-command_in.ensures in
    subst (λ (o : Option CommandLine). ReadsAndWorks o before c.import_batch.result after) is (c.import_batch.ensures folder)

pub returns-in-Some-Produce-clause-works : goal.returns-in-Some-Produce-clause-works
returns-in-Some-Produce-clause-works g c =
    let source = g.S.Source.shows c.args.source.now in
    let before = world source (g.K.Keeper.shows c.args.keeper.now) (g.F.Folder.shows c.args.folder.now) in
    let after = world source (g.K.Keeper.shows c.produce_volume.new.keeper) (g.F.Folder.shows c.produce_volume.new.folder) in
    let found : c.in_ok-command_in.field-0 ≡ Some (commands.Produce c.in-Some-Produce.request) = c.in-Some-Produce.is ∙ ap (λ (x : Command). Some x) c.in-Some-Produce.field-0-is in
    let is : Some (produce c.in-Some-Produce.request) ≡ command_of (word_bytes c.args.words.now) = ap (option_map command_seen) (sym found) ∙ c.in_ok-command_in.ensures in
    subst (λ (o : Option CommandLine). ReadsAndWorks o before c.produce_volume.result after) is (c.produce_volume.ensures source)

pub returns-in-Some-Press-clause-works : goal.returns-in-Some-Press-clause-works
returns-in-Some-Press-clause-works g c =
    let source = g.S.Source.shows c.args.source.now in
    let before = world source (g.K.Keeper.shows c.args.keeper.now) (g.F.Folder.shows c.args.folder.now) in
    let after = world source (g.K.Keeper.shows c.press_kept.new.keeper) (g.F.Folder.shows c.press_kept.new.folder) in
    let found : c.in_ok-command_in.field-0 ≡ Some (commands.Press c.in-Some-Press.id) = c.in-Some-Press.is ∙ ap (λ (x : Command). Some x) c.in-Some-Press.field-0-is in
    let is : Some (press (chars c.in-Some-Press.id.now)) ≡ command_of (word_bytes c.args.words.now) = ap (option_map command_seen) (sym found) ∙ c.in_ok-command_in.ensures in
    subst (λ (o : Option CommandLine). ReadsAndWorks o before c.press_kept.result after) is (c.press_kept.ensures source)

pub returns-in-Some-Log-clause-works : goal.returns-in-Some-Log-clause-works
returns-in-Some-Log-clause-works g c =
    let source = g.S.Source.shows c.args.source.now in
    let folder = g.F.Folder.shows c.args.folder.now in
    let before = world source (g.K.Keeper.shows c.args.keeper.now) folder in
    let after = world source (g.K.Keeper.shows c.log_kept.new.keeper) folder in
    let found : c.in_ok-command_in.field-0 ≡ Some (commands.Log c.in-Some-Log.id) = c.in-Some-Log.is ∙ ap (λ (x : Command). Some x) c.in-Some-Log.field-0-is in
    let is : Some (log (chars c.in-Some-Log.id.now)) ≡ command_of (word_bytes c.args.words.now) = ap (option_map command_seen) (sym found) ∙ c.in_ok-command_in.ensures in
    subst (λ (o : Option CommandLine). ReadsAndWorks o before c.log_kept.result after) is (c.log_kept.ensures source folder)

pub returns-in-Some-Check-clause-works : goal.returns-in-Some-Check-clause-works
returns-in-Some-Check-clause-works g c =
    let keeper = g.K.Keeper.shows c.args.keeper.now in
    let folder = g.F.Folder.shows c.args.folder.now in
    let before = world (g.S.Source.shows c.args.source.now) keeper folder in
    let after = world (g.S.Source.shows c.check_files.new.source) keeper folder in
    let found : c.in_ok-command_in.field-0 ≡ Some (commands.Check c.in-Some-Check.asked) = c.in-Some-Check.is ∙ ap (λ (x : Command). Some x) c.in-Some-Check.field-0-is in
    let is : Some (check (check_seen c.in-Some-Check.asked)) ≡ command_of (word_bytes c.args.words.now) = ap (option_map command_seen) (sym found) ∙ c.in_ok-command_in.ensures in
    subst (λ (o : Option CommandLine). ReadsAndWorks o before c.check_files.result after) is
    (check_reads (check_seen c.in-Some-Check.asked) (g.S.Source.shows c.args.source.now) (g.S.Source.shows c.check_files.new.source) keeper folder c.check_files.result c.check_files.ensures)

pub returns-in-Some-Claw-clause-works : goal.returns-in-Some-Claw-clause-works
returns-in-Some-Claw-clause-works g c =
    let before = world (g.S.Source.shows c.args.source.now) (g.K.Keeper.shows c.args.keeper.now) (g.F.Folder.shows c.args.folder.now) in
    let after = world (g.S.Source.shows c.claw_volume.new.source) (g.K.Keeper.shows c.claw_volume.new.keeper) (g.F.Folder.shows c.claw_volume.new.folder) in
    let found : c.in_ok-command_in.field-0 ≡ Some (commands.Claw c.in-Some-Claw.asked) = c.in-Some-Claw.is ∙ ap (λ (x : Command). Some x) c.in-Some-Claw.field-0-is in
    let is : Some (claw (claw_seen c.in-Some-Claw.asked)) ≡ command_of (word_bytes c.args.words.now) = ap (option_map command_seen) (sym found) ∙ c.in_ok-command_in.ensures in
    subst (λ (o : Option CommandLine). ReadsAndWorks o before c.claw_volume.result after) is c.claw_volume.ensures.works

pub returns-in-Some-Demo-clause-works : goal.returns-in-Some-Demo-clause-works
returns-in-Some-Demo-clause-works g c =
    let source = g.S.Source.shows c.args.source.now in
    let before = world source (g.K.Keeper.shows c.args.keeper.now) (g.F.Folder.shows c.args.folder.now) in
    let after = world source (g.K.Keeper.shows c.demo_volume.new.keeper) (g.F.Folder.shows c.demo_volume.new.folder) in
    let found : c.in_ok-command_in.field-0 ≡ Some (commands.Demo c.in-Some-Demo.asked) = c.in-Some-Demo.is ∙ ap (λ (x : Command). Some x) c.in-Some-Demo.field-0-is in
    let is : Some (demo c.in-Some-Demo.asked) ≡ command_of (word_bytes c.args.words.now) = ap (option_map command_seen) (sym found) ∙ c.in_ok-command_in.ensures in
    subst (λ (o : Option CommandLine). ReadsAndWorks o before c.demo_volume.result after) is (c.demo_volume.ensures source)

-- ---- how often it read

pub returns-in_err-command_in-clause-reads : goal.returns-in_err-command_in-clause-reads
returns-in_err-command_in-clause-reads g c = never_read (command_of (word_bytes c.args.words.now)) (g.S.Source.reads c.args.source.now)

pub returns-in-None-clause-reads : goal.returns-in-None-clause-reads
returns-in-None-clause-reads g c = never_read (command_of (word_bytes c.args.words.now)) (g.S.Source.reads c.args.source.now)

pub returns-in-Some-Burn-clause-reads : goal.returns-in-Some-Burn-clause-reads
returns-in-Some-Burn-clause-reads g c =
    let found : c.in_ok-command_in.field-0 ≡ Some (commands.Burn c.in-Some-Burn.asked) = c.in-Some-Burn.is ∙ ap (λ (x : Command). Some x) c.in-Some-Burn.field-0-is in
    let is : Some (burn (burn_seen c.in-Some-Burn.asked)) ≡ command_of (word_bytes c.args.words.now) = ap (option_map command_seen) (sym found) ∙ c.in_ok-command_in.ensures in
    subst (λ (o : Option CommandLine). ReadsAsOften o (g.S.Source.reads c.args.source.now) (g.S.Source.reads c.burn_box.new.source)) is c.burn_box.ensures.reads

pub returns-in-Some-Import-clause-reads : goal.returns-in-Some-Import-clause-reads
returns-in-Some-Import-clause-reads g c =
    let found : c.in_ok-command_in.field-0 ≡ Some (commands.Import c.in-Some-Import.name) = c.in-Some-Import.is ∙ ap (λ (x : Command). Some x) c.in-Some-Import.field-0-is in
    let is : Some (import c.in-Some-Import.name.now) ≡ command_of (word_bytes c.args.words.now) = ap (option_map command_seen) (sym found) ∙ c.in_ok-command_in.ensures in
    subst (λ (o : Option CommandLine). ReadsAsOften o (g.S.Source.reads c.args.source.now) (g.S.Source.reads c.import_batch.new.source)) is tt

pub returns-in-Some-Init-clause-reads : goal.returns-in-Some-Init-clause-reads
returns-in-Some-Init-clause-reads g c = never_read (command_of (word_bytes c.args.words.now)) (g.S.Source.reads c.args.source.now)

pub returns-in-Some-Produce-clause-reads : goal.returns-in-Some-Produce-clause-reads
returns-in-Some-Produce-clause-reads g c = never_read (command_of (word_bytes c.args.words.now)) (g.S.Source.reads c.args.source.now)

pub returns-in-Some-Press-clause-reads : goal.returns-in-Some-Press-clause-reads
returns-in-Some-Press-clause-reads g c = never_read (command_of (word_bytes c.args.words.now)) (g.S.Source.reads c.args.source.now)

pub returns-in-Some-Log-clause-reads : goal.returns-in-Some-Log-clause-reads
returns-in-Some-Log-clause-reads g c = never_read (command_of (word_bytes c.args.words.now)) (g.S.Source.reads c.args.source.now)

pub returns-in-Some-Check-clause-reads : goal.returns-in-Some-Check-clause-reads
returns-in-Some-Check-clause-reads g c =
    let found : c.in_ok-command_in.field-0 ≡ Some (commands.Check c.in-Some-Check.asked) = c.in-Some-Check.is ∙ ap (λ (x : Command). Some x) c.in-Some-Check.field-0-is in
    let is : Some (check (check_seen c.in-Some-Check.asked)) ≡ command_of (word_bytes c.args.words.now) = ap (option_map command_seen) (sym found) ∙ c.in_ok-command_in.ensures in
    subst (λ (o : Option CommandLine). ReadsAsOften o (g.S.Source.reads c.args.source.now) (g.S.Source.reads c.check_files.new.source)) is tt

pub returns-in-Some-Claw-clause-reads : goal.returns-in-Some-Claw-clause-reads
returns-in-Some-Claw-clause-reads g c =
    let found : c.in_ok-command_in.field-0 ≡ Some (commands.Claw c.in-Some-Claw.asked) = c.in-Some-Claw.is ∙ ap (λ (x : Command). Some x) c.in-Some-Claw.field-0-is in
    let is : Some (claw (claw_seen c.in-Some-Claw.asked)) ≡ command_of (word_bytes c.args.words.now) = ap (option_map command_seen) (sym found) ∙ c.in_ok-command_in.ensures in
    subst (λ (o : Option CommandLine). ReadsAsOften o (g.S.Source.reads c.args.source.now) (g.S.Source.reads c.claw_volume.new.source)) is c.claw_volume.ensures.reads

pub returns-in-Some-Demo-clause-reads : goal.returns-in-Some-Demo-clause-reads
returns-in-Some-Demo-clause-reads g c = never_read (command_of (word_bytes c.args.words.now)) (g.S.Source.reads c.args.source.now)
