use Rattle.std.proofs.Common.{rules, arith, ◌∷◌, Some, sym, ap, ◌∙◌}
use mathlib.Core.Option.{none}
use Rattle.atomic_table.specs.Table.{step, rest}
use Rattle.bp_desk.proofs.MoveLemmas.{tries}
use Rattle.bp_desk.proofs.desk.Desk+K.try_turn.Goals as goal

pub compare_exchange-requires : goal.compare_exchange-requires
compare_exchange-requires g c = (
  search rules,
  (let w = c.self.invariant.words in omega arith),
  tries c.self.inside.table.shared.key _ _ c.args.place.now.me
      (step c.self.inside.table.shared.table_id.slots 0 0 1 none) c.requires.numbered
      c.requires.rests.0 c.requires.rests.1,
)

pub exchange-requires : goal.exchange-requires
exchange-requires g c =
    let won = c.compare_exchange.ensures.2.0 (search rules) in (
      search rules,
      (Some won.book, won.carries ∙ ap (λ cs. (0, Some won.book) ∷ rest cs) (sym won.carries)),
    )
