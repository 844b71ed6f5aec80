use Rattle.std.proofs.Common.{rules, arith}
use Rattle.bp_desk.proofs.DealLemmas.{notes}
use Rattle.bp_desk.proofs.notes.Desk+K.note.Goals as goal

pub split_seat-place-requires : goal.split_seat-place-requires
split_seat-place-requires g c = (
  search rules,
  (let w = c.self.invariant.words in omega arith),
  notes c.self.inside.table.shared.key c.seat.inside.place.id c.seat.inside.place.me.0
      c.seat.invariant.free,
)
