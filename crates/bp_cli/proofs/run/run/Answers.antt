use Rattle.std.proofs.Common.{◌≡◌, sym, ap, ◌∙◌, length, arith}
use Rattle.bp_cli.specs.Commands.{command_of}
use Rattle.bp_cli.specs.RunWords.{run_asked}
use Rattle.bp_cli.specs.Serve.{serve_of}
use Rattle.bp_cli.specs.Words.{word_bytes}
use Rattle.bp_cli.proofs.RunningLemmas.{asked_else, asked_to_serve, none_read}
use Rattle.bp_cli.proofs.run.run.Goals as goal

pub returns-in-Some-clause-runs : goal.returns-in-Some-clause-runs
returns-in-Some-clause-runs g c =
    let count : c.len.result ≡ length c.args.doors.items = omega (arith, c.len.ensures, c.args.doors.ok) in
    let words = word_bytes c.args.words.now in
    asked_to_serve g.D.Door.shows g.K.Keeper.shows _ (run_asked (length c.args.doors.items) words) c.in-Some.asked c.serve_and_tell.result.keeper
    (g.S.Source.shows c.args.source.now) _ (g.F.Folder.shows c.args.folder.now) _ _ _ _ _ _
    (sym c.in-Some.is ∙ c.serve_in.ensures.is ∙ ap (λ n. serve_of n words) count)
    c.serve_and_tell.ensures

pub returns-in-None-clause-runs : goal.returns-in-None-clause-runs
returns-in-None-clause-runs g c =
    let count : c.len.result ≡ length c.args.doors.items = omega (arith, c.len.ensures, c.args.doors.ok) in
    let words = word_bytes c.args.words.now in
    asked_else g.D.Door.shows (run_asked (length c.args.doors.items) words) c.run_other.result.keeper _ _ _ _ _ _
    (sym c.in-None.is ∙ c.serve_in.ensures.is ∙ ap (λ n. serve_of n words) count)
    c.run_other.ensures.runs

pub returns-in-Some-clause-reads : goal.returns-in-Some-clause-reads
returns-in-Some-clause-reads g c = none_read _ (command_of (word_bytes c.args.words.now)) (g.S.Source.reads c.args.source.now)
