use Rattle.bp_doors.proofs.ServingLemmas.{serves_left}
use Rattle.bp_doors.proofs.accepts.serve.Goals as goal

pub returns-clause-served : goal.returns-clause-served
returns-clause-served g c =
    serves_left (g.H.Handler.Deals c.args.handler.now) _ _ _ _ _ _ _
    c.serve_peers-count.ensures.served c.leave.ensures

pub returns-clause-knocks : goal.returns-clause-knocks
returns-clause-knocks g c =
    record {
      knocked = c.serve_peers-count.new.door;
      tries = c.serve_peers-count.ensures.tries;
      left = c.leave.ensures;
    }
