use Rattle.std.proofs.Common.{rules, arith, ap, ◌∙◌}
use mathlib.Core.Option.{none}
use Rattle.atomic_table.specs.Table.{step}
use Rattle.bp_desk.proofs.MoveLemmas.{counts}
use Rattle.bp_desk.proofs.desk.Desk+K.count.Goals as goal

pub fetch_add-requires : goal.fetch_add-requires
fetch_add-requires g c = (
  search rules,
  (let w = c.self.invariant.words in omega arith),
  counts c.self.inside.table.shared.key _ c.args.place.now.id c.args.place.now.me
      (step c.self.inside.table.shared.table_id.slots 1 1 0 none) g.W.Said.made
      c.requires.holds.0 (ap (λ m. m.seat) c.requires.made ∙ c.requires.holds.2)
      c.requires.holds.1 c.requires.room,
)
