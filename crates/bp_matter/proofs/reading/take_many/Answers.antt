use Rattle.std.proofs.Common.{arith, ◌-◌}
use Rattle.bp_matter.proofs.FieldLemmas.{many_kept, many_ends, many_fails}
use Rattle.bp_matter.proofs.reading.take_many.Goals as goal

pub returns-in-Err : goal.returns-in-Err
returns-in-Err g c =
    many_fails g.T.Part.read_at c.args.count c.loop-left.left c.args.bytes.now c.loop-left.rest.now c.loop-left.values.items c.in-Err.fault c.loop-left.invariant c.loop-left-test.true c.in-Err.ensures

pub loop-left-preserved : goal.loop-left-preserved
loop-left-preserved g c =
    many_kept g.T.Part.read_at c.args.count c.loop-left.left (c.loop-left.left - 1) c.args.bytes.now c.loop-left.rest.now c.in-Ok.others.now c.loop-left.values.items c.push.new.self.items c.in-Ok.value c.loop-left.invariant (omega (arith, c.loop-left-test.true)) c.in-Ok.ensures c.in_default.ensures.items

pub returns : goal.returns
returns g c = many_ends g.T.Part.read_at c.args.count c.loop-left.left c.args.bytes.now c.loop-left.rest.now c.loop-left.values.items c.loop-left.invariant (omega arith)
