use Rattle.std.proofs.lemmas.Result.{on_ok_weaker}
use Rattle.bp_t6.proofs.RowLemmas.{end_bits, end_twice}
use Rattle.bp_t6.proofs.tables.put_end_of_block.Goals as goal

pub returns-clause-put : goal.returns-clause-put
returns-clause-put c =
    on_ok_weaker c.put-2.result (end_twice c.args.out.now c.put.new.self c.put-2.new.self (record { bits = 1; len = 12 }) end_bits c.in_ok-put.ensures.ok)
    c.put-2.ensures.ok
