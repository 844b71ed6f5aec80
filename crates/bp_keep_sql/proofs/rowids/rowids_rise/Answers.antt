use Rattle.std.proofs.Common.{◌≡◌, ◌+◌, ◌-◌, true, [], get_or, inl, inr, subst, arith, rules}
use Rattle.std.proofs.lemmas.Bool.{cases_lt}
use Rattle.sqlite_trees.specs.Tree.{rowid}
use Rattle.sqlite.specs.Values.{IsInt}
use Rattle.bp_keep_sql.specs.Rowids.{IsBelow}
use Rattle.bp_keep_sql.proofs.rowids.rowids_rise.Goals as goal

pub loop-at-preserved : goal.loop-at-preserved
loop-at-preserved c =
    let at = c.loop-at.at in
    let lines = c.args.lines.now in
    let was = c.loop-at.invariant in
    let is : c.rises_at.result ≡ true = search rules in
    let here = c.rises_at.ensures in
    record {
      ints = λ i within. elim (cases_lt i at) [
        | inl before ↦ was.ints i before
        | inr last ↦
            let same : at ≡ i = omega (arith, within) in
            subst (λ k. IsInt (rowid (get_or lines k []))) same (here.int is)
      ];
      up = λ i within. elim (cases_lt (i + 1) at) [
        | inl before ↦ was.up i before
        | inr last ↦
            let same : at ≡ i + 1 = omega (arith, within) in
            let less : at - 1 ≡ i = omega (arith, same) in
            let both = here.up is (omega (arith, same)) in
            subst (λ k. IsBelow (get_or lines i []) (get_or lines k [])) same
            (subst (λ k. IsBelow (get_or lines k []) (get_or lines at [])) less both)
      ];
    }
