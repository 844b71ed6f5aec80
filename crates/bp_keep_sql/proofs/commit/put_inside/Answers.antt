use Rattle.std.proofs.Common.{◌≡◌, IsTrue, Err, OnErr, IfErr, sym, ap, subst, inl, inr, arith, rules}
use Rattle.sqlite.specs.Held.{state}
use Rattle.sqlite.specs.State.{HasCleanDisk}
use Rattle.bp_keep_sql.specs.Asked.{FailsToPut}
use Rattle.bp_keep_sql.specs.Keeps.{Keeps}
use Rattle.bp_keep_sql.proofs.AskedLemmas.{stops_put, fails_last}
use Rattle.bp_keep_sql.proofs.StatementLemmas.{uncommitted}
use Rattle.bp_keep_sql.proofs.StopLemmas.{kept_trees}
use Rattle.bp_keep_sql.proofs.commit.put_inside.Goals as goal

pub returns-clause-left : goal.returns-clause-left
returns-clause-left g c clean opens =
    let first = state g.S.Store c.args.conn.now in
    let begun = state g.S.Store c.transaction-transaction.result.conn.now in
    let mid = state g.S.Store c.make_puts.new.transaction.conn.now in
    let end = c.commit.new.self.0 in
    let same : end ≡ c.conn-2-1.given.0 = search rules in
    let late : HasCleanDisk (state g.S.Store end) = subst (λ h. HasCleanDisk (state g.S.Store h)) (sym same) clean in
    let early : HasCleanDisk mid = omega (arith, c.commit.ensures.survives.clean) in
    let is = c.transaction-transaction.ensures.begun in
    subst (λ h. OnErr c.commit.result ((state g.S.Store h).now ≡ first.now)) same
    (uncommitted first begun mid (state g.S.Store end) c.commit.result (c.commit.ensures.err late)
    (c.in_ok-make_puts.ensures.inside early (ap (λ h. h.in_transaction) is))
    (c.in_ok-make_puts.ensures.kept early)
    (ap (λ h. (state g.S.Store h).committed) is)
    (c.is_autocommit.ensures.settled (search rules))
    (λ o. rw is at o)
    (subst (λ h. IsTrue (state g.S.Store h).is_open) (sym same) opens))

pub returns-in_err-make_puts-clause-refused : goal.returns-in_err-make_puts-clause-refused
returns-in_err-make_puts-clause-refused g c clean =
    let mid = state g.S.Store c.make_puts.new.transaction.conn.now in
    let end = c.drop-transaction.new.self.0 in
    let same : end ≡ c.conn-1.given.0 = search rules in
    let late : HasCleanDisk (state g.S.Store end) = subst (λ h. HasCleanDisk (state g.S.Store h)) (sym same) clean in
    let early : HasCleanDisk mid = omega (arith, c.drop-transaction.ensures.survives.clean, late) in
    let begun = c.transaction-transaction.ensures.begun in
    let is : c.from_residual.result ≡ Err c.in_err-make_puts.field-0.0 = search rules in
    subst (λ r. IfErr r (FailsToPut g.S.Store c.args.puts.now c.args.conn.now c.conn-1.given.0)) (sym is)
    (stops_put g.S.Store c.args.puts.now c.args.conn.now c.transaction-transaction.result.conn.now
    c.make_puts.new.transaction.conn.now c.conn-1.given.0 c.in_err-make_puts.field-0.0 begun
    (c.in_err-make_puts.ensures.refused early (ap (λ h. h.in_transaction) begun)))

pub returns-clause-refused : goal.returns-clause-refused
returns-clause-refused g c clean =
    let mid = state g.S.Store c.make_puts.new.transaction.conn.now in
    let end = c.commit.new.self.0 in
    let same : end ≡ c.conn-2-1.given.0 = search rules in
    let late : HasCleanDisk (state g.S.Store end) = subst (λ h. HasCleanDisk (state g.S.Store h)) (sym same) clean in
    let early : HasCleanDisk mid = omega (arith, c.commit.ensures.survives.clean, late) in
    let begun = c.transaction-transaction.ensures.begun in
    subst (λ h. IfErr c.commit.result (FailsToPut g.S.Store c.args.puts.now c.args.conn.now h)) same
    (fails_last g.S.Store c.args.puts.now c.args.conn.now c.transaction-transaction.result.conn.now
    c.make_puts.new.transaction.conn.now end c.commit.result begun
    (c.in_ok-make_puts.ensures.all early (ap (λ h. h.in_transaction) begun)) (c.commit.ensures.err late))

pub returns-clause-stops : goal.returns-clause-stops
returns-clause-stops g c clean rows keeps db left =
    let mid = state g.S.Store c.make_puts.new.transaction.conn.now in
    let end = c.commit.new.self.0 in
    let same : end ≡ c.conn-2-1.given.0 = search rules in
    let late : HasCleanDisk (state g.S.Store end) = subst (λ h. HasCleanDisk (state g.S.Store h)) (sym same) clean in
    let early : HasCleanDisk mid = omega (arith, c.commit.ensures.survives.clean, late) in
    let begun = c.transaction-transaction.ensures.begun in
    let before = subst (λ h. Keeps (state g.S.Store h).now rows) (sym begun) keeps in
    let was = subst (λ h. (state g.S.Store h).may_leave db) (sym same) left in
    elim (c.commit.ensures.survives.crash late db was) [
      | inl mid_left ↦ elim (c.make_puts.ensures.survives.crash early db mid_left) [
        | inl old ↦ inl (subst (λ h. (state g.S.Store h).may_leave db) begun old)
        | inr none ↦ absurd none
      ]
      | inr made ↦ inr (kept_trees mid.now db _ made (c.in_ok-make_puts.ensures.rows early rows before))
    ]
