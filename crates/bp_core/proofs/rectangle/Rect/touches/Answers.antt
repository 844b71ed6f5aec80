use Rattle.std.proofs.Common.{rules}
use Rattle.bp_core.proofs.RectangleLemmas.{touches-fact}
use Rattle.bp_core.proofs.rectangle.Rect.touches.Goals as goal

-- src/rectangle.rt:39:5
pub returns-then-spans_meet-clause-fact : goal.returns-then-spans_meet-clause-fact
returns-then-spans_meet-clause-fact c = touches-fact c.args.self.now c.args.other.now _ (search rules)

pub returns-else-spans_meet-clause-fact : goal.returns-else-spans_meet-clause-fact
returns-else-spans_meet-clause-fact c = touches-fact c.args.self.now c.args.other.now _ (search rules)
