use Rattle.std.proofs.Common.{◌≤◌, length, vec_capacity}
use Rattle.bp_desk.specs.Matters.{Pairing}
use Rattle.bp_desk.proofs.posts.paired.Given as goal

abbrev pub invariant-loop-seat : goal.invariant-loop-seat
invariant-loop-seat g l =
    record {
      pairing : Pairing l.fn.seats.items l.fn.doors.items l.posts.items l.seats.items
          l.behind.items;
      enough : length l.seats.items ≤ length l.behind.items;
      room : length l.fn.seats.items ≤ vec_capacity l.posts;
      seat_room : length l.fn.seats.items ≤ vec_capacity l.seats;
      door_room : length l.fn.doors.items ≤ vec_capacity l.behind;
    }

abbrev pub decreases-loop-seat : goal.decreases-loop-seat
decreases-loop-seat g l = length l.seats.items
