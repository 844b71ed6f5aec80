use Rattle.std.proofs.Common.{rules, arith, ◌≤◌, ◌∷◌, Some, sym, ap, ◌∙◌}
use mathlib.Core.Option.{none}
use Rattle.atomic_table.specs.Table.{rest, step}
use Rattle.bp_desk.specs.Turns.{with_count}
use Rattle.bp_desk.proofs.MoveLemmas.{tells, leaves}
use Rattle.bp_desk.proofs.desk.Desk+K.leave_turn.Goals as goal

pub swap-requires : goal.swap-requires
swap-requires g c =
    let up : c.args.place.now.me.0.left ≤ c.faults.result =
    (let a = c.requires.book.count in let b = c.faults.ensures in omega arith) in (
      search rules,
      (let w = c.self.invariant.words in omega arith),
      tells c.self.inside.table.shared.key _ c.args.place.now.id c.args.place.now.me
          (step c.self.inside.table.shared.table_id.slots 2 c.faults.result 0 none)
          c.requires.holds.0 up,
    )

pub store-requires : goal.store-requires
store-requires g c =
    let is =
    c.exchange-vacant.ensures.3
    ∙
    (ap (λ m. (m.0, (0, Some c.args.book) ∷ rest m.1)) c.swap.ensures.2
    ∙ ap
    (λ cs. (
      with_count c.args.place.now.me.0 c.faults.result,
      (0, Some c.args.book) ∷ rest cs,
    ))
    c.requires.holds.1)
    in (
      search rules,
      (let w = c.self.invariant.words in omega arith),
      leaves c.self.inside.table.shared.key _ _ _
          (step c.self.inside.table.shared.table_id.slots 0 0 0 none)
          (with_count c.args.place.now.me.0 c.faults.result) c.args.book c.self.invariant.slots is
          c.requires.holds.0
          (record {
            journal = c.requires.book.journal;
            opening = c.requires.book.opening;
            roomy = c.requires.book.roomy;
            count = sym c.faults.ensures;
            stays = c.requires.book.stays;
          }),
    )
