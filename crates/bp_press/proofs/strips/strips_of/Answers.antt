use Rattle.std.proofs.Common.{◌≡◌, ◌<◌, ℕ, List, length, map, All, subst, sym, ◌∙◌}
use Rattle.std.specs.Prelude.{IfOk, OnOk}
use Rattle.bp_matter.specs.Matter.{Shown}
use Rattle.bp_press.specs.Jobs.{IsCodable, strip_by}
use Rattle.bp_press.specs.declared.jobs.Job.{Job}
use Rattle.bp_press.proofs.strips.strips_of.Goals as goal

pub covered_strips-requires-clause-codable : goal.covered_strips-requires-clause-codable
covered_strips-requires-clause-codable g c κs within =
    subst (λ (tables : Shown). All (IsCodable tables.matter) c.of-images.result.jobs.now) (sym c.of-images.ensures.tables)
    (subst (λ (jobs : List Job). All (IsCodable c.args.tables.now.matter) jobs) (sym (c.of-images.ensures.jobs ∙ c.as_slice.ensures)) c.requires.codable)

pub returns-clause-strips : goal.returns-clause-strips
returns-clause-strips g c =
    subst (λ (jobs : List Job). IfOk c.covered_strips.result (λ strips. strips ≡ map (strip_by c.args.tables.now.matter) jobs)) (c.of-images.ensures.jobs ∙ c.as_slice.ensures)
    (subst (λ (tables : Shown). IfOk c.covered_strips.result (λ strips. strips ≡ map (strip_by tables.matter) c.of-images.result.jobs.now)) c.of-images.ensures.tables c.covered_strips.ensures.strips)

pub returns-clause-entered : goal.returns-clause-entered
returns-clause-entered g c =
    subst (λ (jobs : List Job). OnOk c.covered_strips.result ((job : ℕ) → job < length jobs → g.G.Gate.entered c.args.gate.now job))
    (c.of-images.ensures.jobs ∙ c.as_slice.ensures) c.covered_strips.ensures.entered
