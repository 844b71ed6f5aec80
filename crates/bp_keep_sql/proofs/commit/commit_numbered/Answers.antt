use Rattle.std.proofs.Common.{◌≡◌, OnOk, not, ap, subst, sym, ◌∙◌, inl, inr, arith}
use Rattle.sqlite.specs.Held.{state}
use Rattle.sqlite.specs.Effect.{Database}
use Rattle.sqlite.specs.State.{HasCleanDisk}
use Rattle.bp_keep_sql.specs.Keeps.{Keeps}
use Rattle.bp_keep_sql.proofs.AskedLemmas.{fails_numbered}
use Rattle.bp_keep_sql.proofs.LeaveLemmas.{errs_then}
use Rattle.bp_keep_sql.proofs.StopLemmas.{left_as_before, left_by_commit, numbers_open}
use Rattle.bp_keep_sql.proofs.ToldLemmas.{numbered_after, told_after}
use Rattle.bp_keep_sql.proofs.commit.commit_numbered.Goals as goal

pub returns-clause-numbered : goal.returns-clause-numbered
returns-clause-numbered g c =
    let made = c.commit_puts.ensures in
    numbered_after c.number_once.new.numbered (state g.S.Store c.number_once.new.conn)
    (state g.S.Store c.commit_puts.new.conn) c.args.puts.now c.commit_puts.result made.live
    c.in_ok-number_once.ensures.numbered made.clean made.was_open made.schema made.rows made.left

pub returns-clause-told : goal.returns-clause-told
returns-clause-told g c =
    let made = c.commit_puts.ensures in
    let found = c.in_ok-number_once.ensures in
    told_after c.number_once.new.numbered (state g.S.Store c.args.conn.now)
    (state g.S.Store c.number_once.new.conn) (state g.S.Store c.commit_puts.new.conn) c.args.puts.now
    c.commit_puts.result found.known found.leaves made.live found.numbered made.clean made.was_open
    made.schema made.rows made.outside made.lacking

pub returns-clause-rows : goal.returns-clause-rows
returns-clause-rows g c clean rows keeps =
    let mid = state g.S.Store c.number_once.new.conn in
    let early : HasCleanDisk mid = omega (arith, c.commit_puts.ensures.clean, clean) in
    c.commit_puts.ensures.rows clean rows
    (subst (λ d. Keeps d rows) (sym (c.in_ok-number_once.ensures.same early)) keeps)

pub returns-clause-schema : goal.returns-clause-schema
returns-clause-schema g c clean =
    let new = state g.S.Store c.commit_puts.new.conn in
    let early : HasCleanDisk (state g.S.Store c.number_once.new.conn) =
    omega (arith, c.commit_puts.ensures.clean, clean) in
    subst (λ (d : Database). OnOk c.commit_puts.result (new.now.schema ≡ d.schema))
    (c.in_ok-number_once.ensures.same early) (c.commit_puts.ensures.schema clean)

pub returns-clause-lacking : goal.returns-clause-lacking
returns-clause-lacking g c clean has =
    let early : HasCleanDisk (state g.S.Store c.number_once.new.conn) =
    omega (arith, c.commit_puts.ensures.clean, clean) in
    c.commit_puts.ensures.lacking clean
    (ap (λ (d : Database). d.schema) (c.in_ok-number_once.ensures.same early) ∙ has)

pub returns-clause-left : goal.returns-clause-left
returns-clause-left g c =
    errs_then (state g.S.Store c.args.conn.now) (state g.S.Store c.number_once.new.conn)
    (state g.S.Store c.commit_puts.new.conn) c.commit_puts.result c.in_ok-number_once.ensures.leaves
    c.commit_puts.ensures.left

pub returns-clause-stops : goal.returns-clause-stops
returns-clause-stops g c clean rows keeps db left =
    let early : HasCleanDisk (state g.S.Store c.number_once.new.conn) =
    omega (arith, c.commit_puts.ensures.clean, clean) in
    let found = c.in_ok-number_once.ensures in
    elim (c.commit_puts.ensures.stops clean rows
    (subst (λ d. Keeps d rows) (sym (found.same early)) keeps) db left) [
      | inl old ↦ inl (found.stops early db old)
      | inr made ↦ inr made
    ]

pub returns-clause-refused : goal.returns-clause-refused
returns-clause-refused g c clean =
    let early : HasCleanDisk (state g.S.Store c.number_once.new.conn) =
    omega (arith, c.commit_puts.ensures.clean, clean) in
    fails_numbered g.S.Store c.args.puts.now c.args.conn.now c.args.numbered.now c.number_once.new.conn
    c.commit_puts.new.conn c.commit_puts.result (c.in_ok-number_once.ensures.asked early)
    c.number_once.ensures.limit (c.commit_puts.ensures.refused clean)

pub returns-in_err-number_once-clause-stopped : goal.returns-in_err-number_once-clause-stopped
returns-in_err-number_once-clause-stopped g c clean =
    let test = c.is_autocommit-settled.ensures in
    left_as_before (state g.S.Store c.args.conn.now) c.schema-schema.ensures.live
    (λ outside. test.settled (test.value ∙ ap not outside))
    (λ db o left. g.met.S.Store.settled c.args.conn.now.store db o left) c.args.puts.now
    (state g.S.Store c.number_once.new.conn) (c.number_once.ensures.stops clean)

pub returns-clause-stopped : goal.returns-clause-stopped
returns-clause-stopped g c clean =
    let mid = state g.S.Store c.number_once.new.conn in
    let early : HasCleanDisk mid = omega (arith, c.commit_puts.ensures.clean, clean) in
    let test = c.is_autocommit-settled.ensures in
    let found = c.in_ok-number_once.ensures in
    let made = c.commit_puts.ensures in
    left_by_commit (state g.S.Store c.args.conn.now) c.schema-schema.ensures.live
    (λ outside. test.settled (test.value ∙ ap not outside))
    (λ db o left. g.met.S.Store.settled c.args.conn.now.store db o left) c.args.puts.now
    mid (state g.S.Store c.commit_puts.new.conn) c.number_once.new.numbered early (found.same early)
    (numbers_open g.S.Store c.args.numbered.now c.args.conn.now c.number_once.new.conn tt (found.asked early))
    found.known found.numbered (found.stops early) (made.without clean) (made.stops clean)
