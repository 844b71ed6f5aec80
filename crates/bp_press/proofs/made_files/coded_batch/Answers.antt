use Rattle.std.proofs.Common.{All, subst, sym}
use Rattle.std.proofs.lemmas.List.Elements.{All-same}
use Rattle.std.specs.Prelude.{slice_range}
use Rattle.bp_matter.specs.declared.rows.Production.{Production}
use Rattle.bp_press.specs.Jobs.{IsCodable}
use Rattle.bp_press.specs.Shown.{IsOwnJob}
use Rattle.bp_press.proofs.BatchLemmas.{codable, have_jobs, own_all, piece_made}
use Rattle.bp_press.proofs.made_files.coded_batch.Goals as goal

pub next_batch-requires-clause-jobs : goal.next_batch-requires-clause-jobs
next_batch-requires-clause-jobs g c =
    have_jobs c.args.maker.now.production.now (g.P.Shows.matter c.args.maker.now.shown.now) c.args.maker.now.list.now c.requires.made

pub strips_or_none-requires-clause-codable : goal.strips_or_none-requires-clause-codable
strips_or_none-requires-clause-codable g c κs within =
    let f = c.args.maker.now.production.now in
    let m = (g.P.Shows.matter c.args.maker.now.shown.now) in
    let list = c.args.maker.now.list.now in
    let piece = slice_range list c.args.from c.in_ok-batch.batch.end in
    All-same (IsCodable m) c.in_ok-batch.batch.jobs _ c.in_ok-batch.ensures.jobs (codable f m piece (piece_made f m list c.args.from c.in_ok-batch.batch.end c.requires.made))

pub strips_or_none-requires-clause-own : goal.strips_or_none-requires-clause-own
strips_or_none-requires-clause-own g c κs within =
    let f = c.args.maker.now.production.now in
    let m = (g.P.Shows.matter c.args.maker.now.shown.now) in
    let list = c.args.maker.now.list.now in
    let piece = slice_range list c.args.from c.in_ok-batch.batch.end in
    subst (λ (own : Production). All (IsOwnJob own) c.in_ok-batch.batch.jobs) (sym c.requires.same)
    (All-same (IsOwnJob f) c.in_ok-batch.batch.jobs _ c.in_ok-batch.ensures.jobs (own_all f m piece (piece_made f m list c.args.from c.in_ok-batch.batch.end c.requires.made)))

pub returns : goal.returns
returns g c =
    record {
      onward = c.in_ok-batch.ensures.onward;
      within = c.in_ok-batch.ensures.within;
      jobs = c.in_ok-batch.ensures.jobs;
      strips = c.in_ok-strips.ensures;
    }
