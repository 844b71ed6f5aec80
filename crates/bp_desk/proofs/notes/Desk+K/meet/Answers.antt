use Rattle.std.proofs.Common.{rules, arith, ◌≡◌, false, [], ap, ◌∙◌, subst}
use Rattle.std.specs.Prelude.{All}
use mathlib.Core.Option.{none}
use Rattle.atomic_table.specs.Table.{step}
use Rattle.bp_desk.proofs.DealLemmas.{meets, settles}
use Rattle.bp_desk.specs.Calls.{Begins}
use Rattle.bp_desk.specs.Turns.{both}
use Rattle.bp_desk.proofs.CloseLemmas.{met_both, rests_met}
use Rattle.bp_desk.proofs.notes.Desk+K.meet.Goals as goal

pub join_seat-requires : goal.join_seat-requires
join_seat-requires g c = (
  search rules,
  search rules,
  c.note.invariant.none,
  (let w = c.self.invariant.words in omega arith),
  meets c.self.inside.table.shared.key c.seat.inside.place.id c.seat.inside.place.me.0
      c.note.inside.place.id c.note.inside.place.me.0 c.seat.invariant.free c.note.invariant.free,
)

pub load-requires : goal.load-requires
load-requires g c =
    let off : c.join_seat.new.seat.me.0.holds ≡ false =
    ap (λ m. m.0.holds) c.join_seat.ensures.2 ∙ c.seat.invariant.free in (
      search rules,
      (let w = c.self.invariant.words in omega arith),
      settles c.self.inside.table.shared.key _ c.join_seat.new.seat.id c.join_seat.new.seat.me
          (step c.self.inside.table.shared.table_id.slots 0 0 0 none) off,
    )

pub returns-clause-met : goal.returns-clause-met
returns-clause-met g c =
    let came = c.join_seat.ensures.2 in
    let t = c.load.ensures.2 in
    rw (← c.seat.view_is, ← c.note.view_is)
    (met_both c.seat.inside.place.me.0 c.note.inside.place.me.0 c.load.new.seat.me.0
    c.note.invariant.unraised (ap (λ m. m.0) t.same ∙ ap (λ m. record m.0 { met = [] }) came)
    (subst (λ m. All (λ p. Begins p.seen m.0.seen) m.0.met) came t.peers))

pub invariant_of-seat : goal.invariant_of-seat
invariant_of-seat g c =
    let m = c.seat.inside.place.me in
    let v = c.seat.inside.place.me.0 in
    let w = c.note.inside.place.me.0 in
    let none = c.seat.invariant.none in
    rests_met v w m c.join_seat.new.seat.me c.load.new.seat.me c.seat.inside.number
    (ap (λ cs. (v, cs)) none) c.seat.invariant c.note.invariant.unraised
    (c.join_seat.ensures.2 ∙ ap (λ cs. (both v w, cs)) none) c.load.ensures.2
