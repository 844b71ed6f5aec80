use Rattle.std.proofs.Common.{inl, inr, ◌≡◌, OnOk, true, false, sym, subst, arith}
use Rattle.sqlite.specs.Held.{state}
use Rattle.sqlite.specs.Effect.{Database}
use Rattle.sqlite.specs.State.{HasCleanDisk}
use Rattle.bp_keep_sql.specs.Keeps.{Keeps}
use Rattle.bp_keep_sql.proofs.AskedLemmas.{fails_later}
use Rattle.bp_keep_sql.proofs.LeaveLemmas.{made_after}
use Rattle.bp_keep_sql.proofs.commit.commit_puts.Goals as goal

pub returns-clause-rows : goal.returns-clause-rows
returns-clause-rows g c clean rows keeps =
    let old = state g.S.Store c.args.conn.now in
    let mid = state g.S.Store c.find_table.new.conn in
    let early : HasCleanDisk mid = omega (arith, c.put_inside.ensures.clean, clean) in
    made_after old mid c.put_inside.result _ c.in_ok-find_table.ensures.leaves early
    (c.put_inside.ensures.opened clean)
    (λ same. c.put_inside.ensures.rows clean rows (subst (λ d. Keeps d rows) (sym same) keeps))

pub returns-clause-schema : goal.returns-clause-schema
returns-clause-schema g c clean =
    let old = state g.S.Store c.args.conn.now in
    let mid = state g.S.Store c.find_table.new.conn in
    let new = state g.S.Store c.put_inside.new.conn in
    let early : HasCleanDisk mid = omega (arith, c.put_inside.ensures.clean, clean) in
    made_after old mid c.put_inside.result _ c.in_ok-find_table.ensures.leaves early
    (c.put_inside.ensures.opened clean)
    (λ same. subst (λ (d : Database). OnOk c.put_inside.result (new.now.schema ≡ d.schema)) same
    (c.put_inside.ensures.schema clean))

pub returns-clause-stops : goal.returns-clause-stops
returns-clause-stops g c clean rows keeps db left =
    let mid = state g.S.Store c.find_table.new.conn in
    let early : HasCleanDisk mid = omega (arith, c.put_inside.ensures.clean, clean) in
    let found = c.in_ok-find_table.ensures in
    let same = found.leaves.same early (found.opened early) in
    let before = subst (λ d. Keeps d rows) (sym same) keeps in
    elim (c.put_inside.ensures.stops clean rows before db left) [
      | inl old ↦ inl (found.stops early db old)
      | inr made ↦ inr made
    ]

pub returns-clause-refused : goal.returns-clause-refused
returns-clause-refused g c clean =
    let mid = state g.S.Store c.find_table.new.conn in
    let early : HasCleanDisk mid = omega (arith, c.put_inside.ensures.clean, clean) in
    fails_later g.S.Store c.args.puts.now c.args.conn.now c.find_table.new.conn c.put_inside.new.conn
    c.put_inside.result (c.in_ok-find_table.ensures.asked early) c.find_table.ensures.limit
    (c.put_inside.ensures.refused clean)

pub returns-clause-without : goal.returns-clause-without
returns-clause-without g c clean has db left =
    let mid = state g.S.Store c.find_table.new.conn in
    let early : HasCleanDisk mid = omega (arith, c.put_inside.ensures.clean, clean) in
    absurd (let e : false ≡ true = c.in_ok-find_table.ensures.lacking early has in cc)
