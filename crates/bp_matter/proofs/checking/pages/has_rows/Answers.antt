use Rattle.std.proofs.Common.{◌≡◌, ◌-◌, ◌+◌, ◌∙◌, ap, arith, length}
use Rattle.bp_matter.proofs.CheckLemmas.{has_step, add-one-is}
use Rattle.bp_matter.specs.ValidPages.{has_rows}
use Rattle.bp_matter.proofs.checking.pages.has_rows.Goals as goal

pub loop-left-preserved : goal.loop-left-preserved
loop-left-preserved g c =
    let rest : length c.loop-left.rest.now ≡ length c.in-Some.others.now + 1 = ap length c.in-Some.ensures.cases.0 ∙ add-one-is (length c.in-Some.others.now) in
    record {
      test = has_step g.T.Keyed.key_of (has_rows g.T.Keyed.key_of c.args.count c.args.first c.args.rows.now) c.loop-left.left (c.loop-left.left - 1) c.loop-left.key c.in-Some.row.now c.loop-left.rest.now c.in-Some.others.now c.loop-left.invariant.test c.in-Some.ensures.cases.0 (omega (arith, c.loop-left-test.true)) (omega (arith, c.key.ensures.value, c.if-key.false));
      enough = omega (arith, rest, c.loop-left.invariant.enough, c.loop-left-test.true);
      small = omega (arith, c.loop-left.invariant.small, c.loop-left-test.true);
    }
