use Rattle.std.proofs.Common.{arith}
use Rattle.bp_t6.proofs.row_room.RowRoom.take.Goals as goal

pub invariant_of-result : goal.invariant_of-result
invariant_of-result c = record {
  none = c.in_ok-above.ensures.items;
  above_room = omega (arith, c.in_ok-above.ensures.exact, c.room_for.ensures);
  line_room = omega (arith, c.in_ok-line.ensures.exact, c.room_for-2.ensures);
}
