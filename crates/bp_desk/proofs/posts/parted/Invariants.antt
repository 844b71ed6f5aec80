use Rattle.std.proofs.Common.{◌+◌, ◌≤◌, length, vec_capacity}
use Rattle.bp_desk.specs.Matters.{Pairing, post_door, post_seat}
use Rattle.std.specs.Prelude.{◌++◌, map, reverse}
use Rattle.bp_desk.proofs.posts.parted.Given as goal

abbrev pub invariant-loop-post : goal.invariant-loop-post
invariant-loop-post g l =
    record {
      pairing : Pairing (map post_seat l.fn.hall.posts.items)
          (map post_door l.fn.hall.posts.items ++ reverse l.fn.hall.behind.items) l.posts.items
          l.seats.items l.doors.items;
      seat_room : length l.posts.items + length l.seats.items ≤ vec_capacity l.seats;
      door_room : length l.posts.items + length l.doors.items ≤ vec_capacity l.doors;
    }

abbrev pub decreases-loop-post : goal.decreases-loop-post
decreases-loop-post g l = goal.left-loop-post g l
