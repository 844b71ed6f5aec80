use Rattle.bp_cli.proofs.AlikeLemmas.{Laws, one_outcome, some_outcome, told_outcome, outcome_alike}
use Rattle.bp_cli.proofs.RunLemmas.{runs}
use Rattle.bp_cli.proofs.run.carry_out.Goals as goal

pub returns-clause-runs : goal.returns-clause-runs
returns-clause-runs g c =
    let laws : Laws = record {
      one = c.one_answer.ensures.only;
      some = c.one_answer.ensures.some;
      rows = c.rows_law.ensures;
      one_batch = c.one_batch.ensures.only;
      some_batch = c.one_batch.ensures.some;
    } in
    runs (record { one = one_outcome laws; some = some_outcome laws; told = told_outcome; two = outcome_alike laws })
    _ _ _ c.finish-status.result c.work-ending.result c.work-ending.ensures.works c.finish-status.ensures
    (record {
      source = g.met.S.Source.unfailing c.work-ending.new.source;
      keeper = g.met.K.Keeper.unfailing c.work-ending.new.keeper;
      folder = g.met.F.Folder.unfailing c.work-ending.new.folder;
      out = g.met.O.Out.unfailing c.finish-status.new.out;
    })
