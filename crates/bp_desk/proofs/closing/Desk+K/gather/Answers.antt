use Rattle.std.proofs.Common.{rules, arith, ◌≡◌, ◌++◌, Some, sym, ap, ◌∙◌, subst}
use Rattle.std.specs.Option.{option_to_list}
use Rattle.std.proofs.lemmas.List.Elements.{All-pop}
use Rattle.bp_desk.specs.Seats.{IsSeatOf, SeatView}
use Rattle.bp_desk.specs.Turns.{both}
use Rattle.bp_desk.proofs.CloseLemmas.{gather_begins, gather_next, some_seat}
use Rattle.bp_desk.proofs.DealLemmas.{meets}
use Rattle.bp_desk.proofs.closing.Desk+K.gather.Goals as goal

pub unreachable-requires : goal.unreachable-requires
unreachable-requires g c =
    some_seat c.args.self.now c.args.seats.items c.requires
    (let s = c.self.invariant.some_seat in
    let b = ap (λ d. d.seats) c.self.view_is in omega arith)
    (search rules)

pub loop-seat-init : goal.loop-seat-init
loop-seat-init g c =
    let P = IsSeatOf c.args.self.now in
    let cut = c.pop.ensures.items ∙ ap (λ r. c.pop.new.self.items ++ option_to_list r) c.in-Some.is in
    let all =
    All-pop P c.args.seats.items c.pop.new.self.items (Some c.in-Some.last) cut
    c.requires.of_desk in (
      ap (λ s. s.desk) c.last.view_is ∙ all.1.same,
      all.0,
      gather_begins c.args.seats.items c.pop.new.self.items c.in-Some.last c.last.inside.place.me.0
          cut (ap (λ s. s.view) c.last.view_is) c.last.invariant.free,
    )

pub join_seat-requires : goal.join_seat-requires
join_seat-requires g c =
    let P = IsSeatOf c.args.self.now in
    let cut =
    c.pop-in-loop-seat.ensures.items
    ∙ ap (λ r. c.pop-in-loop-seat.new.self.items ++ option_to_list r) c.in-Some-pop.is in
    let all =
    All-pop P c.loop-seat.rest.items c.pop-in-loop-seat.new.self.items (Some c.in-Some-pop.seat)
    cut c.loop-seat.invariant.1 in
    let id = ap (λ d. d.id) c.self.view_is in (
      c.loop-seat.invariant.0 ∙ sym id,
      ap (λ s. s.desk) c.seat.view_is ∙ (all.1.same ∙ sym id),
      c.seat.invariant.none,
      (let w = c.self.invariant.words in omega arith),
      meets c.self.inside.table.shared.key c.loop-seat.place.id c.loop-seat.place.me.0
          c.seat.inside.place.id c.seat.inside.place.me.0 c.loop-seat.invariant.2.free
          c.seat.invariant.free,
    )

pub loop-seat-preserved : goal.loop-seat-preserved
loop-seat-preserved g c =
    let P = IsSeatOf c.args.self.now in
    let cut =
    c.pop-in-loop-seat.ensures.items
    ∙ ap (λ r. c.pop-in-loop-seat.new.self.items ++ option_to_list r) c.in-Some-pop.is in
    let all =
    All-pop P c.loop-seat.rest.items c.pop-in-loop-seat.new.self.items (Some c.in-Some-pop.seat)
    cut c.loop-seat.invariant.1 in
    let e = c.join_seat.ensures in (
      e.0 ∙ c.loop-seat.invariant.0,
      all.0,
      gather_next c.args.seats.items c.loop-seat.rest.items c.pop-in-loop-seat.new.self.items
          c.loop-seat.place.me.0 c.join_seat.new.seat.me.0 c.in-Some-pop.seat
          c.loop-seat.invariant.2 cut
          (subst (λ (s : SeatView). c.join_seat.new.seat.me.0 ≡ both c.loop-seat.place.me.0 s.view)
          c.seat.view_is (ap (λ m. m.0) e.2)),
    )
