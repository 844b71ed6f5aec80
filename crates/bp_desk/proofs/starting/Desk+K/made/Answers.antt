use Rattle.std.proofs.Common.{rules, arith}
use Rattle.bp_desk.proofs.StartLemmas.{begins_made}
use Rattle.bp_desk.proofs.starting.Desk+K.made.Goals as goal

pub new-requires : goal.new-requires
new-requires g c =
    begins_made _ c.args.book c.faults-base.result _ (search rules) (search rules)
    c.faults-base.ensures c.requires.room (let s = c.requires.seats.0 in omega arith) c.requires.empty
