use Rattle.std.proofs.Common.{◌≡◌, ℕ, ap, subst, ◌∙◌}
use Rattle.bp_demo.specs.Demo.{demo_freeze, demo_matter}
use Rattle.bp_demo.specs.Frozen.{demo_request}
use Rattle.bp_cli.specs.Demo.{DemoAsked}
use Rattle.bp_cli.specs.DemoSteps.{DrawsDemo}
use Rattle.bp_cli.proofs.LeadLemmas.{drawing_refused}
use Rattle.bp_cli.proofs.demo.drawn_demo.Goals as goal

pub returns-in_err-production : goal.returns-in_err-production
returns-in_err-production g c =
    let residual = c.from_residual-in_err-production in
    let m = c.in_ok-tables.tables.matter in
    let asked : DemoAsked = record { seed = c.asked.inside.seed; pages = c.asked.inside.pages } in
    let drawn : m ≡ demo_matter asked.seed asked.pages = c.in_ok-tables.ensures ∙ ap (λ (n : ℕ). demo_matter n asked.pages) c.from.ensures in
    let whole : c.in_ok-request.request ≡ demo_freeze m = c.in_ok-request.ensures ∙ ap demo_request c.documents.ensures in
    subst (λ (a : DemoAsked). DrawsDemo a residual.result) c.asked.view_is
    (drawing_refused asked m c.in_ok-request.request c.in_err-production.field-0.0 residual.result c.freeze_here.new.tables.matter
    drawn whole c.in_err-production.ensures residual.ensures.0 residual.ensures.1)
