use Rattle.std.proofs.Common.{◌≡◌, ◌-◌, ◌<◌, ◌≤◌, flat_map, length}
use Rattle.std.specs.Prelude.{slice_range}
use Rattle.bp_press.specs.Batches.{jobs_by}
use Rattle.bp_press.proofs.batches.next_batch.Given as goal

-- the jobs so far are those of the files up to here, and not too many
abbrev pub invariant-loop-end : goal.invariant-loop-end
invariant-loop-end l = record {
  onward : l.from < l.end;
  within : l.end ≤ length l.list;
  few : length l.jobs.items ≤ 16;
  jobs : l.jobs.items ≡ flat_map (jobs_by l.production) (slice_range l.list l.from l.end);
}

abbrev pub decreases-loop-end : goal.decreases-loop-end
decreases-loop-end l = length l.list - l.end
