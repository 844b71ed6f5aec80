use Rattle.std.proofs.Common.{arith, ◌∙◌}
use Rattle.bp_shelves.proofs.ShelfLemmas.{first-key, on-shelf, on-no-shelf}
use Rattle.bp_shelves.proofs.stocking.shelf_of.Goals as goal

pub returns-then-place-shelves : goal.returns-then-place-shelves
returns-then-place-shelves g c =
    let span = g.T.Shelved.span in
    c.as_slice.ensures.value
    ∙ rw (first-key span c.args.doc.0) at
    (on-shelf g.T.Keyed.key_of span 0 c.args.shelves.now c.args.doc.0 c.index-shelves-place.result
    c.requires c.if-place-shelves.true c.index-shelves-place.is)

pub returns-else-place-shelves : goal.returns-else-place-shelves
returns-else-place-shelves g c =
    let span = g.T.Shelved.span in
    rw (first-key span c.args.doc.0) at
    (on-no-shelf g.T.Keyed.key_of span 0 c.args.shelves.now c.args.doc.0 c.requires (omega arith))
