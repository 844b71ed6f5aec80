use Rattle.std.proofs.Common.{◌≡◌, true, ◌∙◌, ◌++◌, ◌∷◌, [], ap, arith, append_assoc, length, rules, sym}
use Rattle.std.specs.Vec.Iter.{into_iter_items}
use Rattle.bp_core.specs.Sorted.{ascends, put}
use Rattle.bp_shelves.proofs.ShelfLemmas.{put-last}
use Rattle.bp_shelves.proofs.shelves.Shelves.from_rows.Goals as goal

pub loop-row-preserved : goal.loop-row-preserved
loop-row-preserved g c =
    let key = g.T.Keyed.key_of in
    let l = c.loop-row in
    let row = c.in-Some.row in
    let rest = into_iter_items c.next.new.self in
    let steps = c.in-Some.ensures.steps.0 in
    let behind = ap (λ xs. l.shelves.rows ++ xs) (sym steps) ∙ l.invariant.whole in
    let up : ascends key 0 (l.shelves.rows ++ row ∷ rest) ≡ true = rw behind c.requires in
    record {
      whole =
          ap (λ xs. xs ++ rest) (c.put.ensures ∙ ap (put key row) c.reserve.ensures.rows ∙ put-last key 0 l.shelves.rows row rest up)
          ∙ append_assoc l.shelves.rows (row ∷ []) rest ∙ behind;
      left = let was = l.invariant.left in let gone = c.in-Some.ensures.steps.1 in let short = ap length steps in omega arith;
    }
