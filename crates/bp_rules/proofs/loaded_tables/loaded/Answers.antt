use Rattle.std.proofs.Common.{sym, ◌∙◌}
use Rattle.bp_rules.proofs.LoadLemmas.{loaded-ok, told-ok}
use Rattle.bp_rules.proofs.loaded_tables.loaded.Goals as goal

pub returns-in-Ok : goal.returns-in-Ok
returns-in-Ok g c =
    let rows = c.in_ok-rows.rows in
    let tables = c.in-Ok.tables in
    let loads = c.in_ok-rows.ensures in
    let some = sym c.is_empty.ensures ∙ c.if-is_empty.false in
    let good = loaded-ok rows tables c.know_valid.ensures c.rows_law.ensures some c.in-Ok.ensures in
    record {
      told_after = told-ok (g.K.Keeper.shows c.load.new.self).rows rows tables loads.told_after good;
      rule = tt;
      same = loads.same;
      faults = loads.faults;
      loads = loads.loads;
      commits = loads.commits;
      sure = loads.sure;
    }
