use Rattle.std.proofs.Common.{arith}
use Rattle.bp_shelves.proofs.ShelfLemmas.{first-key, shelf-ascends, shelved-without, without-no-shelf, without-shelf}
use Rattle.bp_shelves.proofs.stocking.remove_on.Goals as goal

pub remove_row-requires : goal.remove_row-requires
remove_row-requires g c =
    shelf-ascends g.T.Keyed.key_of g.T.Shelved.span c.args.shelves.now.items c.args.doc.0
    c.index_mut.result.now c.requires.shelved (omega arith) c.index_mut.ensures.value

pub returns-then-place-len-clause-rows : goal.returns-then-place-len-clause-rows
returns-then-place-len-clause-rows g c =
    let span = g.T.Shelved.span in
    let first = first-key span c.args.doc.0 in
    without-shelf g.T.Keyed.key_of span 0 c.args.key c.args.shelves.now.items c.args.doc.0
    c.index_mut.result.now c.remove_row.new.rows c.requires.shelved (omega arith)
    c.index_mut.ensures.value (omega (arith, c.requires.low)) (omega (arith, c.requires.high))
    c.remove_row.ensures.items

pub returns-then-place-len-clause-shelved : goal.returns-then-place-len-clause-shelved
returns-then-place-len-clause-shelved g c =
    shelved-without g.T.Keyed.key_of g.T.Shelved.span c.args.key c.args.shelves.now.items
    c.args.doc.0 c.index_mut.result.now c.remove_row.new.rows c.requires.shelved (omega arith)
    c.index_mut.ensures.value c.remove_row.ensures.items

pub returns-else-place-len-clause-rows : goal.returns-else-place-len-clause-rows
returns-else-place-len-clause-rows g c =
    let span = g.T.Shelved.span in
    let first = first-key span c.args.doc.0 in
    without-no-shelf g.T.Keyed.key_of span 0 c.args.key c.args.shelves.now.items c.args.doc.0
    c.requires.shelved (omega arith) (omega (arith, c.requires.low))
