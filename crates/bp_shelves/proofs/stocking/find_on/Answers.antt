use Rattle.std.proofs.Common.{arith, ◌∙◌}
use Rattle.bp_shelves.proofs.ShelfLemmas.{find-no-shelf, find-shelf, first-key, shelf-ascends}
use Rattle.bp_shelves.proofs.stocking.find_on.Goals as goal

pub find_row-requires : goal.find_row-requires
find_row-requires g c =
    rw c.deref.ensures.value
    (shelf-ascends g.T.Keyed.key_of g.T.Shelved.span c.args.shelves.now c.args.doc.0
    c.index-shelves-place.result c.requires.shelved c.if-place-shelves.true
    c.index-shelves-place.is)

pub returns-then-place-shelves : goal.returns-then-place-shelves
returns-then-place-shelves g c =
    let span = g.T.Shelved.span in
    let first = first-key span c.args.doc.0 in
    c.find_row.ensures
    ∙ rw c.deref.ensures.value
    (find-shelf g.T.Keyed.key_of span 0 c.args.key c.args.shelves.now c.args.doc.0
    c.index-shelves-place.result c.requires.shelved c.if-place-shelves.true
    c.index-shelves-place.is (omega (arith, c.requires.low)) (omega (arith, c.requires.high)))

pub returns-else-place-shelves : goal.returns-else-place-shelves
returns-else-place-shelves g c =
    let span = g.T.Shelved.span in
    let first = first-key span c.args.doc.0 in
    find-no-shelf g.T.Keyed.key_of span 0 c.args.key c.args.shelves.now c.args.doc.0
    c.requires.shelved (omega arith) (omega (arith, c.requires.low))
