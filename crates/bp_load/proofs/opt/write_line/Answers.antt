use Rattle.std.proofs.lemmas.Result.{on_ok_weaker}
use Rattle.bp_load.proofs.OptWrittenLemmas.{line_written}
use Rattle.bp_load.proofs.opt.write_line.Goals as goal

pub returns-clause-ok : goal.returns-clause-ok
returns-clause-ok c =
    on_ok_weaker c.write_text-4.result
    (λ last. line_written c.args.line.now _ _ _ _ _ _ _ _ c.in_ok-write_text.ensures.ok c.in_ok-write_text-2.ensures.ok c.in_ok-write_text-3.ensures.ok
    c.in_ok-write_flag.ensures c.in_ok-write_flag-2.ensures c.in_ok-write_flag-3.ensures last)
    c.write_text-4.ensures.ok
