use Rattle.bp_doors.proofs.ServingLemmas.{serves_closed, serves_one, serves_unaccepted}
use Rattle.bp_doors.proofs.accepts.serve_next.Goals as goal

pub returns-in-Ok-true-clause-serves : goal.returns-in-Ok-true-clause-serves
returns-in-Ok-true-clause-serves g c =
    let came = rw c.in-Ok-true.field-0-test at c.in-Ok-true.ensures in
    serves_one (g.H.Handler.Deals c.args.handler.now) _ _ _ _ _ _ _ came c.converse-made.ensures.talks
    c.hang_up.ensures

pub returns-in-Ok-false-clause-serves : goal.returns-in-Ok-false-clause-serves
returns-in-Ok-false-clause-serves g c =
    let shut = rw c.in-Ok-false.field-0-test at c.in-Ok-false.ensures in
    serves_closed (g.H.Handler.Deals c.args.handler.now) _ _ _ shut

pub returns-in-Err-clause-serves : goal.returns-in-Err-clause-serves
returns-in-Err-clause-serves g c =
    serves_unaccepted (g.H.Handler.Deals c.args.handler.now) _ _ _ _ c.in-Err.ensures
