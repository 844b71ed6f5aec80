-- What the steps of `demo` leave, one behind the other.
use Rattle.std.specs.Prelude.{◌≡◌, ◌⊎◌, ◌==◌, not, Bool, List, length, map, Result, Ok, Err}
use Rattle.bp_core.specs.declared.kept.Row.{Row}
use Rattle.bp_core.specs.declared.refusals.Refusal.{Refusal}
use Rattle.bp_core.specs.declared.refusals.Refusal.TheVariants as refusals
use Rattle.bp_keep.specs.Keeper.{Commits, KeeperView, Loads}
use Rattle.bp_keep.specs.declared.refusals.KeepRefusal.{KeepRefusal}
use Rattle.bp_keep.specs.declared.refusals.KeepRefusal.TheVariants as keepers
use Rattle.bp_matter.specs.KeptRows.{rows_of}
use Rattle.bp_matter.specs.Matter.{Matter}
use Rattle.bp_matter.specs.declared.rows.Production.{Production}
use Rattle.bp_matter.specs.declared.rows.Request.{Request}
use Rattle.bp_freeze.specs.Freezing.{freeze_of}
use Rattle.bp_freeze.specs.Keeping.{frozen_matter}
use Rattle.bp_rules.specs.Changes.{put_of}
use Rattle.bp_demo.specs.Demo.{demo_freeze, demo_matter}
use Rattle.bp_cli.specs.Demo.{DemoAsked}
use Rattle.bp_cli.specs.declared.demo.Drawn.{Drawn}

-- the rows were loaded, and there are some or none
pub record LoadsSome (before : KeeperView) (some : Bool) (after : KeeperView) : Type 0 where
  pub rows : List Row
  pub loads : Loads before (Ok rows) after
  pub are : some ≡ not (length rows == 0)

-- whether a keeper has rows, or how it refused to load them
abbrev pub HasRows : KeeperView → Result Bool KeepRefusal → KeeperView → Type 0
HasRows before (Ok some) after = LoadsSome before some after
HasRows before (Err refusal) after = Loads before (Err refusal) after

-- a production, and the matter that keeps it
pub record FrozeHere (m : Matter) (q : Request) (f : Production) (m' : Matter) : Type 0 where
  pub answer : freeze_of m q ≡ Ok f
  pub matter : m' ≡ frozen_matter f m

-- what freezing in tables gives that no keeper has the rows of
abbrev pub FreezesHere : Matter → Request → Result Production Refusal → Matter → Type 0
FreezesHere m q (Ok f) m' = FrozeHere m q f m'
FreezesHere m q (Err (refusals.Rule rule)) m' = freeze_of m q ≡ Err rule
FreezesHere m q (Err refusals.OutOfMemory) m' = Unit {0}

-- what drawing a matter and freezing all its documents gives
abbrev pub DrawsDemo : DemoAsked → Result Drawn Refusal → Type 0
DrawsDemo asked (Ok drawn) =
    let m = demo_matter asked.seed asked.pages in
    FrozeHere m (demo_freeze m) drawn.production drawn.tables.matter
DrawsDemo asked (Err (refusals.Rule rule)) =
    let m = demo_matter asked.seed asked.pages in freeze_of m (demo_freeze m) ≡ Err rule
DrawsDemo asked (Err refusals.OutOfMemory) = Unit {0}

-- all rows of a matter were committed at once, or refused so; or memory to make the puts lacked
abbrev pub KeepsFirst : Matter → KeeperView → Result (Unit {0}) KeepRefusal → KeeperView → Type 0
KeepsFirst m keeper result after =
    Commits keeper (map put_of (rows_of m)) result after
    ⊎ ((result ≡ Err keepers.OutOfMemory) × (after ≡ keeper))
