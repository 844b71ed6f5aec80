use Rattle.std.proofs.Common.{◌-◌, ◌≤◌}
use Rattle.bp_doors.specs.Serving.{LeftOpen, Serves}
use Rattle.bp_doors.proofs.accepts.serve_peers.Given as goal

abbrev pub invariant-serving : goal.invariant-serving
invariant-serving g l =
    record {
      few : l.tried ≤ l.connections;
      serves : Serves (g.H.Handler.Deals l.handler) l.tried (l.initial.at, l.initial.by)
          (g.D.Door.shows l.initial.door) l.count (l.at, l.by) (g.D.Door.shows l.door);
      opens : LeftOpen g.D.Door.shows l.initial.door l.tried l.door;
      keeps : g.H.Handler.Keeps l.handler (l.at, l.by);
    }

abbrev pub decreases-serving : goal.decreases-serving
decreases-serving g l = l.connections - l.tried
