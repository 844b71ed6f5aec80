use Rattle.std.proofs.Common.{rules, ◌≡◌, ◌<◌, ℕ, [], Ok, length, subst, sym}
use denote.Param.Send.{sendable}
use Rattle.std.proofs.Crossing.{crosses}
use Rattle.bp_press.specs.Jobs.{strip_by}
use Rattle.bp_press.proofs.JobLemmas.{all_done, on_ok}
use Rattle.bp_press.proofs.ThreadLemmas.{bytes_send, covered_jobs_sync}
use Rattle.bp_press.proofs.strips.covered_strips.Goals as goal

pub map_indices-requires-send-X : goal.map_indices-requires-send-X
map_indices-requires-send-X g c κs within = search (bytes_send, sendable, crosses) depth 40 fits 20000

pub map_indices-requires-sync-F : goal.map_indices-requires-sync-F
map_indices-requires-sync-F g c κs within =
    let r = c.type_bounds.sync-R in
    let gate = c.type_bounds.sync-G in search (covered_jobs_sync, sendable, crosses) depth 40 fits 20000

pub returns-clause-strips : goal.returns-clause-strips
returns-clause-strips g c =
    let m = c.args.images.now.tables.now.matter in
    let jobs = c.args.images.now.jobs.now in
    let made = c.in_ok-made.made.items in
    let long : length made ≡ length jobs = search rules in
    all_done (strip_by m) jobs made c.all_strips.result c.all_strips.ensures long (λ k d e less. (c.in_ok-made.ensures.each k e (subst (λ (n : ℕ). k < n) (sym c.len.ensures) less)).1.met.0 d)

pub returns-clause-entered : goal.returns-clause-entered
returns-clause-entered g c =
    on_ok c.all_strips.result (λ job less. (c.in_ok-made.ensures.each job (Ok []) (subst (λ (n : ℕ). job < n) (sym c.len.ensures) less)).1.met.1)
