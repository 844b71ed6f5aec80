use Rattle.std.proofs.Common.{rules, ◌≡◌, ◌<◌, true, [], length, arith}
use Rattle.bp_press.specs.declared.volume_files.VolumeFile.TheVariants.{Dat}
use Rattle.bp_press.proofs.BatchLemmas.{jobs_begin, jobs_few, jobs_more}
use Rattle.bp_press.proofs.batches.next_batch.Goals as goal

pub loop-end-init : goal.loop-end-init
loop-end-init c = record {
  onward = omega arith;
  within = omega (arith, c.requires.some);
  few = jobs_few c.args.production.now _ [] c.in_ok-jobs.jobs.items (c.in_ok-jobs.ensures Dat) (omega arith) (λ yes. omega arith);
  jobs = jobs_begin c.args.production.now c.args.list.now c.args.from Dat c.in_ok-jobs.jobs.items c.requires.some (c.in_ok-jobs.ensures Dat);
}

pub loop-end-preserved : goal.loop-end-preserved
loop-end-preserved c =
    let less : c.loop-end.end < length c.args.list.now = search rules in
    let goes : c.goes_on.result ≡ true = search rules in
    record {
      onward = omega (arith, c.loop-end.invariant.onward);
      within = omega (arith, less);
      few = jobs_few c.args.production.now _ c.loop-end.jobs.items _ (c.in_ok-add_job_at.ensures Dat) c.loop-end.invariant.few (c.goes_on.ensures Dat goes);
      jobs =
          jobs_more c.args.production.now c.args.list.now c.args.from c.loop-end.end Dat c.loop-end.jobs.items _ (omega (arith, c.loop-end.invariant.onward)) less c.loop-end.invariant.jobs
          (c.in_ok-add_job_at.ensures Dat);
    }
