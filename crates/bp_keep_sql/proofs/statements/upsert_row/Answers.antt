use Rattle.std.proofs.Common.{ap}
use Rattle.sqlite.specs.Held.{state}
use Rattle.bp_keep_sql.proofs.TextLemmas.{upsert_text}
use Rattle.bp_keep_sql.proofs.KindLemmas.{upsert_writes}
use Rattle.bp_keep_sql.proofs.StatementLemmas.{upserted, inside_left, inside_ok, same_keeps, stays_inside, schema_stays}
use Rattle.bp_keep_sql.proofs.statements.upsert_row.Goals as goal

pub returns-clause-rows : goal.returns-clause-rows
returns-clause-rows g c clean rows keeps =
    let old = state g.S.Store c.args.transaction.now.conn.now in
    let new = state g.S.Store c.execute.new.self.conn.now in
    inside_ok old new _ c.execute.result (λ out. (_, (c.execute.ensures.ended out).0))
    (λ within. upserted old new c.args.kind c.args.k1 c.args.k2 c.args.body.now c.execute.result c.ranges.kind.fits c.ranges.k1.fits c.ranges.k2.fits rows keeps
    (rw (c.params-to_sql.ensures, c.params-to_sql-2.ensures, c.params-to_sql-3.ensures, c.params-to_sql-4.ensures, c.from.ensures) at (c.execute.ensures.runs clean within)))

pub returns-clause-kept : goal.returns-clause-kept
returns-clause-kept g c clean =
    let old = state g.S.Store c.args.transaction.now.conn.now in
    let new = state g.S.Store c.execute.new.self.conn.now in
    inside_left upsert_text _ old new c.execute.result
    (λ out. let e = c.execute.ensures.ended out in ((_, e.0), same_keeps old new (ap (λ h. state g.S.Store h) e.1)))
    (λ within. c.execute.ensures.runs clean within)

pub returns-clause-inside : goal.returns-clause-inside
returns-clause-inside g c clean within =
    stays_inside upsert_text _ (state g.S.Store c.args.transaction.now.conn.now) (state g.S.Store c.execute.new.self.conn.now) c.execute.result (c.execute.ensures.runs clean within)

pub returns-clause-schema : goal.returns-clause-schema
returns-clause-schema g c clean =
    let old = state g.S.Store c.args.transaction.now.conn.now in
    let new = state g.S.Store c.execute.new.self.conn.now in
    inside_ok old new _ c.execute.result (λ out. (_, (c.execute.ensures.ended out).0)) (λ within. schema_stays upsert_text _ old new c.execute.result upsert_writes (c.execute.ensures.runs clean within))
