use Rattle.std.proofs.Common.{All, subst, sym, ◌∙◌}
use Rattle.bp_matter.specs.declared.rows.Production.{Production}
use Rattle.bp_press.specs.Shown.{IsOwnJob}
use Rattle.bp_press.proofs.BatchLemmas.{has_job, own_codable, own_images, own_own}
use Rattle.bp_press.proofs.file_rows.file_bytes.Goals as goal

pub own_jobs-requires : goal.own_jobs-requires
own_jobs-requires g c = has_job c.args.production.now (g.P.Shows.matter c.args.shown.now) c.args.file.now c.requires.made

pub strips_in_turn-requires-clause-own : goal.strips_in_turn-requires-clause-own
strips_in_turn-requires-clause-own g c =
    subst (λ (f : Production). All (IsOwnJob f) c.as_slice.result.now) (sym c.requires.same)
    (own_own c.args.production.now (g.P.Shows.matter c.args.shown.now) c.args.file.now c.as_slice.result.now c.requires.made (c.as_slice.ensures.value ∙ c.in_ok-jobs.ensures))

pub strips_in_turn-requires-clause-codable : goal.strips_in_turn-requires-clause-codable
strips_in_turn-requires-clause-codable g c =
    own_codable c.args.production.now (g.P.Shows.matter c.args.shown.now) c.args.file.now c.as_slice.result.now c.requires.made (c.as_slice.ensures.value ∙ c.in_ok-jobs.ensures)

pub bytes_with-requires-clause-images : goal.bytes_with-requires-clause-images
bytes_with-requires-clause-images g c =
    own_images c.args.production.now (g.P.Shows.matter c.args.shown.now) c.args.file.now c.as_slice.result.now c.as_slice-2.result.now c.in_ok-strips.strips.items c.as_slice-3.result.now c.requires.made
    (c.as_slice.ensures.value ∙ c.in_ok-jobs.ensures) (c.as_slice-2.ensures.value ∙ sym c.as_slice.ensures.value) c.in_ok-strips.ensures c.as_slice-3.ensures.value
