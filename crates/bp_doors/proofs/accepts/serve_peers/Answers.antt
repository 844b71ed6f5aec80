use Rattle.std.proofs.Common.{◌≡◌, ◌+◌, arith, refl}
use Rattle.std.specs.Prelude.{None}
use Rattle.bp_doors.specs.Serving.Tries.{found_closed}
use Rattle.bp_doors.specs.Serving.LeftOpen.{untried}
use Rattle.bp_doors.proofs.KnockLemmas.{left_open, tries_all}
use Rattle.bp_doors.proofs.ServingLemmas.{serves_none, serves_counted, serves_shut}
use Rattle.bp_doors.proofs.accepts.serve_peers.Goals as goal

pub serving-init : goal.serving-init
serving-init g c =
    record {
      few = omega arith;
      serves = serves_none (g.H.Handler.Deals c.args.handler.now) 0 _ _ _ refl refl;
      opens = untried;
      keeps = c.requires;
    }

pub serving-preserved : goal.serving-preserved
serving-preserved g c =
    record {
      few = omega arith;
      serves = serves_counted (g.H.Handler.Deals c.args.handler.now) _ _ _ _ _ _ _ _ _ _ _
          c.serving.invariant.serves c.serve_next.ensures.serves c.in-Some.is c.counted-count.ensures;
      opens = left_open g.D.Door.shows _ _ _ _ _ _ c.serving.invariant.opens
          c.serve_next.ensures.serves.accepts c.serve_next.ensures.opened c.in-Some.is;
      keeps = c.serve_next.ensures.keeps;
    }

pub returns-in-None-clause-served : goal.returns-in-None-clause-served
returns-in-None-clause-served g c =
    serves_shut (g.H.Handler.Deals c.args.handler.now) _ _ _ _ _ _ _ _ _ _ c.serving.invariant.serves
    c.serve_next.ensures.serves c.in-None.is (omega arith) (c.serve_next.ensures.closed c.in-None.is)

pub returns-in-None-clause-tries : goal.returns-in-None-clause-tries
returns-in-None-clause-tries g c =
    found_closed _ _ (omega arith) c.serving.invariant.opens c.serve_next.ensures.serves.accepts
    (c.serve_next.ensures.closed c.in-None.is)

pub returns-clause-tries : goal.returns-clause-tries
returns-clause-tries g c =
    tries_all g.D.Door.shows _ _ _ _ c.serving.invariant.opens (omega arith)
