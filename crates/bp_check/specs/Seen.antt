-- What the check holds, as the definitions see it.
use Rattle.std.specs.Prelude.{map}
use Rattle.std.specs.Option.{option_map}
use Rattle.bp_check.specs.Check.{CheckPlan}
use Rattle.bp_check.specs.Manifest.{Listed}
use Rattle.bp_check.specs.declared.manifest.ListedFile.{ListedFile}
use Rattle.bp_check.specs.declared.plans.Planned.{Planned}

-- a listed file
abbrev pub listed_seen : ListedFile → Listed
listed_seen file = record { digest = file.digest; path = file.path }

-- what the load files and the manifest say
abbrev pub plan_seen : Planned → CheckPlan
plan_seen plan = record {
  paths = plan.paths.items;
  docs = plan.docs.items;
  lines = plan.lines;
  listed = option_map (λ rows. map listed_seen rows.items) plan.listed;
}
