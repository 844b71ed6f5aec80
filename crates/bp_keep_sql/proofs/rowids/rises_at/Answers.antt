use Rattle.std.proofs.Common.{◌≡◌, [], get_or, subst, arith, rules}
use Rattle.std.proofs.lemmas.Grind.{common_steps}
use Rattle.sqlite.specs.Values.{IsInt}
use Rattle.sqlite_trees.specs.Tree.{rowid}
use Rattle.bp_keep_sql.proofs.rowids.rises_at.Goals as goal

pub returns-in_default-clause-falls : goal.returns-in_default-clause-falls
returns-in_default-clause-falls c off rise =
    let same : get_or c.args.lines.now c.args.at [] ≡ c.index-lines-at.result =
    grind (arith, common_steps) in
    c.in_default.ensures.none (search rules)
    (subst (λ l. IsInt (rowid l)) same (rise.ints c.args.at c.requires))
