use Rattle.std.proofs.Common.{◌≡◌, List, take, Err, IfErr, sym, subst, ◌∙◌, arith, rules}
use Rattle.std.proofs.lemmas.Grind.{common_steps}
use Rattle.sqlite.specs.Held.{state}
use Rattle.sqlite.specs.State.{HasCleanDisk}
use Rattle.sqlite.proofs.StateLemmas.{survives_then}
use Rattle.bp_core.specs.declared.kept.Put.{Put}
use Rattle.bp_keep.specs.Puts.{put_all}
use Rattle.bp_keep_sql.specs.Keeps.{Keeps}
use Rattle.bp_keep_sql.proofs.StatementLemmas.{commits_then, put_all-next}
use Rattle.bp_keep_sql.specs.Asked.{PutsAll, StopsAt}
use Rattle.bp_keep_sql.proofs.AskedLemmas.{puts_more, got}
use Rattle.bp_keep_sql.proofs.commit.make_puts.Goals as goal

pub loop-put-preserved : goal.loop-put-preserved
loop-put-preserved g c =
    let old = state g.S.Store c.args.transaction.now.conn.now in
    let mid = state g.S.Store c.loop-put.transaction.conn.now in
    let new = state g.S.Store c.make_put.new.transaction.conn.now in
    let was = c.loop-put.invariant in
    let made = c.in_ok-make_put.ensures in
    let early : HasCleanDisk new → HasCleanDisk mid = λ clean. omega (arith, made.survives.clean) in
    record {
      same = made.same_reference ∙ was.same;
      survives = survives_then old mid new _ _ (λ _. ⊥) (λ _ db none. none) (λ _ db none. none) was.survives made.survives;
      kept = λ clean. commits_then old mid new (was.kept (early clean)) (made.kept clean);
      inside = λ clean within. made.inside clean (was.inside (early clean) within);
      schema = λ clean. made.schema clean ∙ was.schema (early clean);
      puts = λ clean within.
          puts_more g.S.Store c.args.puts.now c.loop-put.put-index c.put-item.result c.args.transaction.now.conn.now
          c.loop-put.transaction.conn.now c.make_put.new.transaction.conn.now _ c.loop-put-test.true c.put-item.is
          (was.puts (early clean) within) (made.runs clean (was.inside (early clean) within)) made.limit;
      rows = λ clean rows keeps.
          subst (Keeps new.now) (sym (put_all-next c.args.puts.now c.loop-put.put-index c.put-item.result rows c.loop-put-test.true c.put-item.is)) (made.rows clean _ (was.rows (early clean) rows keeps));
    }

pub returns-clause-rows : goal.returns-clause-rows
returns-clause-rows g c clean rows keeps =
    let all : take c.loop-put.put-index c.args.puts.now ≡ c.args.puts.now = grind (arith, common_steps) in
    subst (λ (l : List Put). Keeps (state g.S.Store c.loop-put.transaction.conn.now).now (put_all l rows)) all (c.loop-put.invariant.rows clean rows keeps)

pub returns-clause-all : goal.returns-clause-all
returns-clause-all g c clean within =
    let all : take c.loop-put.put-index c.args.puts.now ≡ c.args.puts.now = grind (arith, common_steps) in
    subst (λ (l : List Put). PutsAll g.S.Store l c.args.transaction.now.conn.now c.loop-put.transaction.conn.now) all
    (c.loop-put.invariant.puts clean within)

pub returns-in_err-make_put-clause-refused : goal.returns-in_err-make_put-clause-refused
returns-in_err-make_put-clause-refused g c clean within =
    let mid = state g.S.Store c.loop-put.transaction.conn.now in
    let was = c.loop-put.invariant in
    let early : HasCleanDisk mid = omega (arith, c.in_err-make_put.ensures.survives.clean, clean) in
    let is : c.from_residual.result ≡ Err c.in_err-make_put.field-0.0 = search rules in
    subst (λ r. IfErr r (StopsAt g.S.Store c.args.puts.now c.args.transaction.now.conn.now c.make_put.new.transaction.conn.now))
    (sym is) (
      c.loop-put.put-index,
      c.put-item.result,
      got c.args.puts.now c.loop-put.put-index c.put-item.result c.loop-put-test.true c.put-item.is,
      c.loop-put.transaction.conn.now,
      was.puts early within,
      c.in_err-make_put.ensures.runs clean (was.inside early within),
    )
