use Rattle.std.proofs.Common.{◌≡◌, sym, ap, ◌∙◌, length, arith}
use Rattle.std.specs.Option.{option_map}
use Rattle.bp_cli.specs.Commands.{command_of}
use Rattle.bp_cli.specs.Deliver.{deliver_of, deliver_seen}
use Rattle.bp_cli.specs.Words.{word_bytes}
use Rattle.bp_cli.proofs.RunningLemmas.{asked_command, asked_to_deliver, command_read, delivering_read}
use Rattle.bp_cli.proofs.run.run_other.Goals as goal

pub returns-in-Some-clause-runs : goal.returns-in-Some-clause-runs
returns-in-Some-clause-runs g c =
    let count : c.len.result ≡ length c.args.doors.items = omega (arith, c.len.ensures, c.args.doors.ok) in
    let words = word_bytes c.args.words.now in
    asked_to_deliver g.D.Door.shows g.K.Keeper.shows (deliver_of (length c.args.doors.items) words) (command_of words) (deliver_seen c.in-Some.asked) c.deliver_and_tell.result.keeper
    (g.S.Source.shows c.args.source.now) _ _ (g.F.Folder.shows c.args.folder.now) _ _ _ _ _ _
    (ap (option_map deliver_seen) (sym c.in-Some.is) ∙ c.deliver_in.ensures.is ∙ ap (λ n. deliver_of n words) count)
    c.deliver_and_tell.ensures.history
    c.deliver_and_tell.ensures.delivers

pub returns-in-None-clause-runs : goal.returns-in-None-clause-runs
returns-in-None-clause-runs g c =
    let count : c.len.result ≡ length c.args.doors.items = omega (arith, c.len.ensures, c.args.doors.ok) in
    let words = word_bytes c.args.words.now in
    asked_command g.D.Door.shows (deliver_of (length c.args.doors.items) words) (command_of words) c.carry_out.result.keeper _ _ _ _ _ _
    (ap (option_map deliver_seen) (sym c.in-None.is) ∙ c.deliver_in.ensures.is ∙ ap (λ n. deliver_of n words) count)
    (ap (λ v. v.items) c.carry_out.ensures.doors)
    c.carry_out.ensures.history
    c.carry_out.ensures.runs

pub returns-in-Some-clause-reads : goal.returns-in-Some-clause-reads
returns-in-Some-clause-reads g c =
    let count : c.len.result ≡ length c.args.doors.items = omega (arith, c.len.ensures, c.args.doors.ok) in
    let words = word_bytes c.args.words.now in
    delivering_read (deliver_of (length c.args.doors.items) words) (deliver_seen c.in-Some.asked) (command_of words) (g.S.Source.reads c.args.source.now) (g.S.Source.reads c.deliver_and_tell.new.source)
    (ap (option_map deliver_seen) (sym c.in-Some.is) ∙ c.deliver_in.ensures.is ∙ ap (λ n. deliver_of n words) count)
    c.deliver_and_tell.ensures.reads

pub returns-in-None-clause-reads : goal.returns-in-None-clause-reads
returns-in-None-clause-reads g c =
    let count : c.len.result ≡ length c.args.doors.items = omega (arith, c.len.ensures, c.args.doors.ok) in
    let words = word_bytes c.args.words.now in
    command_read (deliver_of (length c.args.doors.items) words) (command_of words) (g.S.Source.reads c.args.source.now) (g.S.Source.reads c.carry_out.new.source)
    (ap (option_map deliver_seen) (sym c.in-None.is) ∙ c.deliver_in.ensures.is ∙ ap (λ n. deliver_of n words) count)
    c.carry_out.ensures.reads
