use Rattle.std.proofs.Common.{◌≡◌, ◌+◌, ◌∙◌, ◌∷◌, [], Ok, arith, length, ap, sym, subst, rules}
use Rattle.std.proofs.lemmas.Result.{err_from_is_err_and}
use Rattle.bp_matter.specs.Matter.{Matter}
use Rattle.bp_receiver.specs.Granting.{at_record, grant_each, grant_of}
use Rattle.bp_receiver.proofs.GrantLemmas.{grant_made, grant_refused}
use Rattle.bp_receiver.proofs.delivery.Delivery.with_grants.Goals as goal

pub loop-grant-preserved : goal.loop-grant-preserved
loop-grant-preserved c =
    let l = c.loop-grant in
    let m = c.args.tables.matter in
    let new = c.in-Some.grant.now in
    let others = c.in-Some.others.now in
    let is : l.rest.now ≡ new ∷ others = search rules in
    let made = c.in_ok-grant_at.ensures in
    record {
      counted = omega (arith, l.invariant.counted, ap length is);
      matter = made.matter ∙ l.invariant.matter;
      told = grant_made m l.desk.grants (l.number + 1) new others c.grant_at.new.self.grants (grant_each m [] 1 c.args.grants.now)
          (subst (λ (x : Matter). at_record (l.number + 1) (grant_of x l.desk.grants new) ≡ Ok c.grant_at.new.self.grants) l.invariant.matter made.grants)
          (ap (grant_each m l.desk.grants (l.number + 1)) (sym is) ∙ l.invariant.told);
    }

pub returns-in_err-grant_at-clause-grants : goal.returns-in_err-grant_at-clause-grants
returns-in_err-grant_at-clause-grants c =
    let l = c.loop-grant in
    let m = c.args.tables.matter in
    let new = c.in-Some.grant.now in
    let others = c.in-Some.others.now in
    let is : l.rest.now ≡ new ∷ others = search rules in
    let answer = grant_refused m l.desk (l.number + 1) new others (grant_each m [] 1 c.args.grants.now) c.in_err-grant_at.field-0.0 c.grant_at.new.self l.invariant.matter
    (ap (grant_each m l.desk.grants (l.number + 1)) (sym is) ∙ l.invariant.told) c.in_err-grant_at.ensures in
    let p = err_from_is_err_and c.from_residual.result c.from_residual.ensures.1 in
    rw (p.1, p.2) answer
