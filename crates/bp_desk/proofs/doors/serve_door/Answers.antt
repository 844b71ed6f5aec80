use Rattle.std.proofs.Common.{subst, sym}
use Rattle.bp_desk.specs.Doors.{history_at}
use Rattle.bp_desk.specs.Seats.{SameSeat, SeatView}
use Rattle.bp_desk.specs.Serving.{ServesCallDoor}
use Rattle.bp_desk.proofs.SeatLemmas.{same_not}
use Rattle.bp_desk.proofs.ServingLemmas.{serves_door}
use Rattle.bp_desk.proofs.doors.serve_door.Goals as goal

pub serve-calls-requires : goal.serve-calls-requires
serve-calls-requires g c =
    let P : SeatView → Type 0 = λ start. SameSeat start c.args.seat.now in
    (c.requires, subst P (sym c.of-start.ensures) (same_not c.args.seat.now))

pub returns : goal.returns
returns g c =
    let P : SeatView → Type 0 = λ start. SameSeat start c.serve-calls.new.at in
    let Q : SeatView → Type 0 = λ start.
    ServesCallDoor start.view.number c.args.connections (history_at c.args.seat.now.view)
    (g.D.Door.shows c.args.door.now) (history_at c.serve-calls.new.at.view)
    (g.D.Door.shows c.serve-calls.new.door) in
    record {
      at = record {
        served = subst Q c.of-start.ensures
            (serves_door _ _ _ (λ v. history_at v.0.view) _ _ _ _ c.serve-calls.ensures.served);
        same = subst P c.of-start.ensures c.serve-calls.ensures.keeps.1;
        own = c.know_own.ensures.own;
      };
      knocks = c.serve-calls.ensures.knocks;
    }
