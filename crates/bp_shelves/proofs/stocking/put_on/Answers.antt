use Rattle.std.proofs.Common.{arith, sym}
use Rattle.bp_core.specs.Sorted.{put}
use Rattle.bp_shelves.proofs.ShelfLemmas.{first-key, put-shelf, room-of, room-there, shelf-ascends, shelved-put, with-room}
use Rattle.bp_shelves.proofs.stocking.put_on.Goals as goal

pub put_row-requires : goal.put_row-requires
put_row-requires g c =
    let shelves = c.args.shelves.now.items in
    let doc = c.doc-place.result.0 in
    let due = rw (sym c.doc-place.ensures.value) at c.requires.room in
    shelf-ascends g.T.Keyed.key_of g.T.Shelved.span shelves doc c.index_mut.result.now
    c.requires.shelved (room-there shelves doc due) c.index_mut.ensures.value

pub returns-clause-rows : goal.returns-clause-rows
returns-clause-rows g c =
    let key = g.T.Keyed.key_of in
    let span = g.T.Shelved.span in
    let shelves = c.args.shelves.now.items in
    let doc = c.doc-place.result.0 in
    let shelf = c.index_mut.result.now in
    let due = rw (sym c.doc-place.ensures.value) at c.requires.room in
    let there = room-there shelves doc due in
    let left = room-of shelves doc shelf there c.index_mut.ensures.value in
    let first = first-key span doc in
    let new = c.put_row.new.rows in
    let made = with-room c.put_row.result shelf new (put key c.args.row shelf.items) shelf.items c.put_row.ensures.items c.put_row.ensures.room (omega arith) in
    put-shelf key span 0 c.args.row shelves doc shelf new c.requires.shelved there
    c.index_mut.ensures.value (omega (arith, c.doc-place.ensures.low))
    (omega (arith, c.doc-place.ensures.high)) made

pub returns-clause-shelved : goal.returns-clause-shelved
returns-clause-shelved g c =
    let key = g.T.Keyed.key_of in
    let span = g.T.Shelved.span in
    let shelves = c.args.shelves.now.items in
    let doc = c.doc-place.result.0 in
    let shelf = c.index_mut.result.now in
    let due = rw (sym c.doc-place.ensures.value) at c.requires.room in
    let there = room-there shelves doc due in
    let left = room-of shelves doc shelf there c.index_mut.ensures.value in
    let first = first-key span doc in
    let new = c.put_row.new.rows in
    let made = with-room c.put_row.result shelf new (put key c.args.row shelf.items) shelf.items c.put_row.ensures.items c.put_row.ensures.room (omega arith) in
    shelved-put key span c.args.row shelves doc shelf new c.requires.shelved there
    c.index_mut.ensures.value (omega (arith, c.doc-place.ensures.low))
    (omega (arith, c.doc-place.ensures.high)) made
