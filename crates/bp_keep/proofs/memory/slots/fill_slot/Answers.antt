use Rattle.std.proofs.Common.{arith}
use Rattle.bp_keep.proofs.SlotLemmas.{held-insert, in_order-insert, inserted}
use Rattle.bp_keep.proofs.memory.slots.fill_slot.Goals as goal

pub returns-clause-rows : goal.returns-clause-rows
returns-clause-rows c =
    let done = c.insert.ensures in
    let old = c.args.slots.now.entries in
    let new = c.insert.new.self.entries in
    rw (inserted c.insert.result c.args.key c.args.row old new done.entries done.absent
    c.requires.there)
    (held-insert 0 c.args.key c.args.row old c.requires.in_order c.requires.fits)

pub returns-clause-in_order : goal.returns-clause-in_order
returns-clause-in_order c =
    let done = c.insert.ensures in
    let old = c.args.slots.now.entries in
    let new = c.insert.new.self.entries in
    rw (inserted c.insert.result c.args.key c.args.row old new done.entries done.absent
    c.requires.there)
    (in_order-insert 0 c.args.key c.args.row old c.requires.in_order (omega arith) c.requires.fits)
