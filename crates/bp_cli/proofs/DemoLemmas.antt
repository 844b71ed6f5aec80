-- Lemmas of demo: from what drawing its matter, keeping it and putting its volume gave to how it ends.
use Rattle.std.proofs.Common.{ℕ, ◌≡◌, eqb, not, Bool, true, false, length, List, [], ◌∷◌, map, Option, Some, Result, Ok, Err, refl, sym, ap, subst, ◌∙◌, inl, inr}
use Rattle.std.specs.Result.{IsErr, IsErrAnd}
use Rattle.bp_core.specs.Rules.{bare_rule}
use Rattle.bp_core.specs.Sorted.{ascends, row_key}
use Rattle.bp_core.specs.declared.kept.Row.{Row}
use Rattle.bp_core.specs.declared.refusals.Refusal.{Refusal}
use Rattle.bp_core.specs.declared.refusals.Refusal.TheVariants as refusals
use Rattle.bp_core.specs.declared.rules.Rule.{Rule}
use Rattle.bp_core.specs.declared.rules.RuleKind.TheVariants.{MatterThere}
use Rattle.bp_outside.specs.Folder.{FolderView}
use Rattle.bp_keep.specs.Keeper.{KeeperView, Loads, Commits}
use Rattle.bp_keep.specs.declared.refusals.KeepRefusal.{KeepRefusal}
use Rattle.bp_keep.specs.declared.refusals.KeepRefusal.TheVariants as keepers
use Rattle.bp_matter.specs.KeptRows.{rows_of}
use Rattle.bp_matter.specs.Matter.{Matter}
use Rattle.bp_matter.specs.declared.rows.Production.{Production}
use Rattle.bp_freeze.specs.Freezing.{freeze_of}
use Rattle.bp_press.specs.Volume.{volume_of}
use Rattle.bp_rules.specs.Changes.{put_of}
use Rattle.bp_demo.specs.Demo.{demo_freeze, demo_matter}
use Rattle.bp_cli.specs.declared.stops.Stop.{Stop}
use Rattle.bp_cli.specs.declared.stops.Stop.TheVariants as stops
use Rattle.bp_cli.specs.Demo.{DemoAsked, demo_gives}
use Rattle.bp_cli.specs.DemoSteps.{DrawsDemo, FrozeHere, KeepsFirst, LoadsSome}
use Rattle.bp_cli.specs.Endings.{Ending}
use Rattle.bp_cli.specs.Produce.{frozen_gives, volume_done}
use Rattle.bp_cli.specs.ProduceSteps.{PutsVolume}
use Rattle.bp_cli.specs.Stops.{StopsFor, StopsForKeeper}
use Rattle.bp_cli.proofs.CalmLemmas.{freeze_calm}
use Rattle.bp_cli.proofs.FirstLemmas.{FirstEnds, RefusesRows, commit_failed, lacked, matter_there, no_rows, puts_alone, rule_met, volume_kept}
use Rattle.bp_cli.proofs.KeptLemmas.{by_stop}

rows_refused : (asked : DemoAsked) → RefusesRows (demo_gives asked)
rows_refused asked = λ row rows. refl

not_true : (b there : Bool) → there ≡ not b → there ≡ true → b ≡ false
not_true true there is some = let no : false ≡ true = sym is ∙ some in absurd cc
not_true false there is some = refl

not_false : (b there : Bool) → there ≡ not b → there ≡ false → b ≡ true
not_false true there is none = refl
not_false false there is none = let no : true ≡ false = sym is ∙ none in absurd cc

-- there is a matter
pub demo_refused : (asked : DemoAsked) (before mid : KeeperView) (folder : FolderView) (there : Bool) → LoadsSome before there mid → there ≡ true → FirstEnds (demo_gives asked) before folder (Err (stops.Broken (bare_rule MatterThere))) mid folder
demo_refused asked before mid folder there some is =
    matter_there (demo_gives asked) (rows_refused asked) before mid folder some.rows some.loads (not_true (eqb (length some.rows) 0) there some.are is)

-- there is none
pub none_there : (before mid : KeeperView) (there : Bool) → LoadsSome before there mid → there ≡ false → Loads before (Ok []) mid
none_there before mid there some is =
    subst (λ (l : List Row). Loads before (Ok l) mid) (no_rows some.rows (not_false (eqb (length some.rows) 0) there some.are is)) some.loads

-- drawing it stopped
pub drawing_stopped : (asked : DemoAsked) (before mid : KeeperView) (folder : FolderView) (rows : List Row) (refusal : Refusal) (r : Ending) → rows ≡ [] → Loads before (Ok rows) mid → DrawsDemo asked (Err refusal) → IsErr r → IsErrAnd r (StopsFor refusal) → FirstEnds (demo_gives asked) before folder r mid folder
drawing_stopped asked before mid folder rows (refusals.Rule rule) r none loads refused is stop =
    let m = demo_matter asked.seed asked.pages in
    let empty : Loads before (Ok []) mid = subst (λ (l : List Row). Loads before (Ok l) mid) none loads in
    by_stop (λ e. FirstEnds (demo_gives asked) before folder e mid folder) (StopsFor (refusals.Rule rule)) r is stop
    (λ s same. subst (λ (x : Stop). FirstEnds (demo_gives asked) before folder (Err x) mid folder) (sym same)
    (rule_met (demo_gives asked) before mid folder [] rule empty (ap (frozen_gives m) refused) (freeze_calm m (demo_freeze m) rule refused)))
drawing_stopped asked before mid folder rows refusals.OutOfMemory r none loads refused is stop = lacked (demo_gives asked) before mid folder rows r loads is stop

-- keeping its rows stopped
not_failed : let failed : Result (Unit {0}) KeepRefusal = Err keepers.Failed in failed ≡ Err keepers.OutOfMemory → ⊥
not_failed is = cc

keeping_lacked : (asked : DemoAsked) (before mid after : KeeperView) (folder : FolderView) (rows : List Row) (refusal : KeepRefusal) (r : Ending) → Loads before (Ok rows) mid → (let result : Result (Unit {0}) KeepRefusal = Err refusal in result ≡ Err keepers.OutOfMemory) → after ≡ mid → IsErr r → IsErrAnd r (StopsForKeeper refusal)
    → FirstEnds (demo_gives asked) before folder r after folder
keeping_lacked asked before mid after folder rows keepers.Failed r loads lack same is stop = absurd (not_failed lack)
keeping_lacked asked before mid after folder rows keepers.OutOfMemory r loads lack same is stop =
    subst (λ (k : KeeperView). FirstEnds (demo_gives asked) before folder r k folder) (sym same) (lacked (demo_gives asked) before mid folder rows r loads is stop)

pub keeping_stopped : (asked : DemoAsked) (m : Matter) (before mid after : KeeperView) (folder : FolderView) (rows : List Row) (refusal : KeepRefusal) (r : Ending) → Loads before (Ok rows) mid → KeepsFirst m mid (Err refusal) after → IsErr r → IsErrAnd r (StopsForKeeper refusal) → FirstEnds (demo_gives asked) before folder r after folder
keeping_stopped asked m before mid after folder rows refusal r loads (inl commits) is stop = commit_failed (demo_gives asked) before mid after folder rows (map put_of (rows_of m)) refusal r loads commits is stop
keeping_stopped asked m before mid after folder rows refusal r loads (inr lack) is stop = keeping_lacked asked before mid after folder rows refusal r loads lack.0 lack.1 is stop

-- its rows were kept, and its volume was put
made_lacks : let made : Result (Unit {0}) KeepRefusal = Ok tt in made ≡ Err keepers.OutOfMemory → ⊥
made_lacks is = cc

all_kept : (m : Matter) (mid after : KeeperView) → KeepsFirst m mid (Ok tt) after → Commits mid (map put_of (rows_of m)) (Ok tt) after
all_kept m mid after (inl commits) = commits
all_kept m mid after (inr lack) = absurd (made_lacks lack.0)

demo_done : (asked : DemoAsked) (f : Production) (m' : Matter) → (let m = demo_matter asked.seed asked.pages in FrozeHere m (demo_freeze m) f m') → demo_gives asked [] ≡ volume_done f (volume_of f m') (Some (rows_of m'))
demo_done asked f m' froze =
    ap (frozen_gives (demo_matter asked.seed asked.pages)) froze.answer
    ∙ ap (λ (k : Matter). volume_done f (volume_of f k) (Some (rows_of k))) (sym froze.matter)

pub demo_put : (asked : DemoAsked) (before mid after : KeeperView) (folder folder' : FolderView) (rows : List Row) (f : Production) (m' : Matter) (e : Ending) → ascends row_key 0 (rows_of m') ≡ true → rows ≡ [] → Loads before (Ok rows) mid
    → (let m = demo_matter asked.seed asked.pages in FrozeHere m (demo_freeze m) f m') → KeepsFirst m' mid (Ok tt) after → PutsVolume f (volume_of f m') folder e folder' → FirstEnds (demo_gives asked) before folder e after folder'
demo_put asked before mid after folder folder' rows f m' e up none loads froze kept put =
    volume_kept (demo_gives asked) before mid after folder folder' rows (rows_of m') (map put_of (rows_of m')) f (volume_of f m') e none loads
    (puts_alone (rows_of m') up) (all_kept m' mid after kept) (demo_done asked f m' froze) put
