use Rattle.std.proofs.Common.{◌∙◌, arith}
use Rattle.bp_shelves.proofs.ShelfLemmas.{room-set, rows_on-set, shelved-same}
use Rattle.bp_shelves.proofs.stocking.make_shelf.Goals as goal

pub returns-in_err-reserve-clause-rows : goal.returns-in_err-reserve-clause-rows
returns-in_err-reserve-clause-rows g c =
    rows_on-set c.add_shelves.new.shelves.items c.args.doc.0 c.index_mut.result.now
    c.reserve.new.self (omega (arith, c.in_ok-add_shelves.ensures.count))
    c.index_mut.ensures.value c.reserve.ensures.items
    ∙ c.add_shelves.ensures.rows

pub returns-in_err-reserve-clause-shelved : goal.returns-in_err-reserve-clause-shelved
returns-in_err-reserve-clause-shelved g c =
    shelved-same g.T.Keyed.key_of g.T.Shelved.span c.add_shelves.new.shelves.items c.args.doc.0
    c.index_mut.result.now c.reserve.new.self c.add_shelves.ensures.shelved
    (omega (arith, c.in_ok-add_shelves.ensures.count)) c.index_mut.ensures.value
    c.reserve.ensures.items

pub returns-clause-rows : goal.returns-clause-rows
returns-clause-rows g c =
    rows_on-set c.add_shelves.new.shelves.items c.args.doc.0 c.index_mut.result.now
    c.reserve.new.self (omega (arith, c.in_ok-add_shelves.ensures.count))
    c.index_mut.ensures.value c.reserve.ensures.items
    ∙ c.add_shelves.ensures.rows

pub returns-clause-shelved : goal.returns-clause-shelved
returns-clause-shelved g c =
    shelved-same g.T.Keyed.key_of g.T.Shelved.span c.add_shelves.new.shelves.items c.args.doc.0
    c.index_mut.result.now c.reserve.new.self c.add_shelves.ensures.shelved
    (omega (arith, c.in_ok-add_shelves.ensures.count)) c.index_mut.ensures.value
    c.reserve.ensures.items

pub returns-clause-room : goal.returns-clause-room
returns-clause-room g c =
    let there = c.in_ok-add_shelves.ensures.count in
    let room = room-set c.add_shelves.new.shelves.items c.args.doc.0 c.reserve.new.self (omega arith) in
    rw room (omega (arith, c.in_ok-reserve.ensures.ok))
