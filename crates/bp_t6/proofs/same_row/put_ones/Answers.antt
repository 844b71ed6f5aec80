use Rattle.std.proofs.Common.{◌≡◌, ◌++◌, Bool, List, OnOk, true, replicate, refl, ap, ◌∙◌, subst, arith}
use Rattle.bp_t6.proofs.MarkLemmas.{continues_put, continues_then, continues_either}
use Rattle.bp_t6.proofs.SameRowLemmas.{ones_more, ones_last}
use Rattle.bp_t6.proofs.same_row.put_ones.Goals as goal

pub loop-left-preserved : goal.loop-left-preserved
loop-left-preserved c =
    let old = c.args.out.now in
    record {
      few = omega (arith, c.loop-left.invariant.few);
      put = ones_more old c.loop-left.out c.put.new.self c.args.count c.loop-left.left 13 c.loop-left.invariant.put c.loop-left.invariant.few (omega arith)
          (c.in_ok-put.ensures.ok ∙ ap (λ (bs : List Bool). c.loop-left.out ++ bs) c.ones.ensures.bits);
    }

pub returns-clause-put : goal.returns-clause-put
returns-clause-put c =
    let old = c.args.out.now in let out = c.loop-left.out in let left = c.loop-left.left in
    let so = c.loop-left.invariant in
    let end = ap (λ (bs : List Bool). out ++ bs) c.ones-2.ensures.bits ∙ ones_last old out (out ++ replicate left true) c.args.count left so.put so.few refl in
    subst (λ (bs : List Bool). OnOk c.put-2.result (c.put-2.new.self ≡ bs)) end c.put-2.ensures.ok

pub returns-clause-begins : goal.returns-clause-begins
returns-clause-begins c =
    let old = c.args.out.now in let out = c.loop-left.out in
    continues_then old out c.put-2.new.self (continues_put old out _ c.loop-left.invariant.put) (continues_either c.put-2.result out c.put-2.new.self _ c.put-2.ensures.ok c.put-2.ensures.err)
