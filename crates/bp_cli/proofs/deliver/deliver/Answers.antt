use Rattle.std.proofs.Common.{List, [], Ok, Err, subst}
use Rattle.bp_core.specs.Answers.{Answers}
use Rattle.bp_receiver.specs.Events.{Holding}
use Rattle.bp_receiver.specs.Granting.{grant_each}
use Rattle.bp_receiver.specs.declared.grants.Grant.{Grant}
use Rattle.bp_cli.specs.Deliver.{deliver_seen}
use Rattle.bp_cli.proofs.DeliverLemmas.{door_served, grants_stop, line_lacks, load_stops, read_stops}
use Rattle.bp_cli.proofs.deliver.deliver.Goals as goal

pub returns-in_err-tables-clause-delivers : goal.returns-in_err-tables-clause-delivers
returns-in_err-tables-clause-delivers g c =
    let residual = c.from_residual in
    load_stops (deliver_seen c.args.asked.now) (g.S.Source.shows c.args.source.now) (g.K.Keeper.shows c.args.keeper.now) (g.K.Keeper.shows c.load_tables.new.keeper)
    (g.D.Door.shows c.args.door.now) c.in_err-tables.field-0.0 residual.result c.in_err-tables.ensures.loaded residual.ensures.0 residual.ensures.1

pub returns-in_err-rows-clause-delivers : goal.returns-in_err-rows-clause-delivers
returns-in_err-rows-clause-delivers g c =
    let residual = c.from_residual-in_err-rows in
    read_stops (deliver_seen c.args.asked.now) (g.S.Source.shows c.args.source.now) (g.S.Source.shows c.grants_named.new.source) (g.K.Keeper.shows c.args.keeper.now) (g.K.Keeper.shows c.load_tables.new.keeper)
    (g.D.Door.shows c.args.door.now) c.in_ok-tables.tables c.in_err-rows.field-0.0 residual.result residual.ensures.0 residual.ensures.1 c.know_valid.ensures c.in_ok-tables.ensures.loaded c.in_err-rows.ensures.grants

pub returns-in_err-desk-clause-delivers : goal.returns-in_err-desk-clause-delivers
returns-in_err-desk-clause-delivers g c =
    let residual = c.from_residual-in_err-desk in
    grants_stop (deliver_seen c.args.asked.now) (g.S.Source.shows c.args.source.now) (g.S.Source.shows c.grants_named.new.source) (g.K.Keeper.shows c.args.keeper.now) (g.K.Keeper.shows c.load_tables.new.keeper)
    (g.D.Door.shows c.args.door.now) c.in_ok-tables.tables c.in_ok-rows.rows c.in_err-desk.field-0.0 residual.result residual.ensures.0 residual.ensures.1 c.know_valid.ensures c.in_ok-tables.ensures.loaded c.in_ok-rows.ensures.grants
    (subst (λ (rows : List Grant). Answers (λ (desk : Holding). desk.grants) (Err c.in_err-desk.field-0.0) (grant_each c.in_ok-tables.tables.matter [] 1 rows)) c.as_slice.ensures c.in_err-desk.ensures.grants)

pub returns-in_err-line_of_count-clause-delivers : goal.returns-in_err-line_of_count-clause-delivers
returns-in_err-line_of_count-clause-delivers g c =
    let residual = c.from_residual-in_err-line_of_count in
    line_lacks (deliver_seen c.args.asked.now) (g.S.Source.shows c.args.source.now) (g.S.Source.shows c.grants_named.new.source) (g.K.Keeper.shows c.args.keeper.now) (g.K.Keeper.shows c.load_tables.new.keeper) (g.K.Keeper.shows c.serve_receiver-count.new.keeper)
    (g.D.Door.shows c.args.door.now) (g.D.Door.shows c.serve_receiver-count.new.door) c.in_ok-tables.tables c.in_ok-rows.rows c.in_ok-desk.desk c.serve_receiver-count.new.delivery c.serve_receiver-count.result
    c.know_valid.ensures c.in_ok-tables.ensures.loaded c.in_ok-rows.ensures.grants (subst (λ (rows : List Grant). Answers (λ (desk : Holding). desk.grants) (Ok c.in_ok-desk.desk) (grant_each c.in_ok-tables.tables.matter [] 1 rows)) c.as_slice.ensures c.in_ok-desk.ensures.grants) c.in_ok-desk.ensures.matter c.serve_receiver-count.ensures.served c.want_law.ensures c.events_law.ensures
    residual.result residual.ensures.0 residual.ensures.1

pub returns-clause-delivers : goal.returns-clause-delivers
returns-clause-delivers g c =
    door_served (deliver_seen c.args.asked.now) (g.S.Source.shows c.args.source.now) (g.S.Source.shows c.grants_named.new.source) (g.K.Keeper.shows c.args.keeper.now) (g.K.Keeper.shows c.load_tables.new.keeper) (g.K.Keeper.shows c.serve_receiver-count.new.keeper)
    (g.D.Door.shows c.args.door.now) (g.D.Door.shows c.serve_receiver-count.new.door) c.in_ok-tables.tables c.in_ok-rows.rows c.in_ok-desk.desk c.serve_receiver-count.new.delivery c.serve_receiver-count.result
    c.know_valid.ensures c.in_ok-tables.ensures.loaded c.in_ok-rows.ensures.grants (subst (λ (rows : List Grant). Answers (λ (desk : Holding). desk.grants) (Ok c.in_ok-desk.desk) (grant_each c.in_ok-tables.tables.matter [] 1 rows)) c.as_slice.ensures c.in_ok-desk.ensures.grants) c.in_ok-desk.ensures.matter c.serve_receiver-count.ensures.served c.want_law.ensures c.events_law.ensures
    c.in_ok-line_of_count.field-0 c.in_ok-line_of_count.ensures
