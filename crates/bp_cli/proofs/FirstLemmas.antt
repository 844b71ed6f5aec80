-- Lemmas of the commands that begin a matter, `init` and `demo`: from what loading the rows and
-- committing the first ones gave to how they end.
use Rattle.std.proofs.Common.{ℕ, ◌≡◌, ◌+◌, ◌≤◌, eqb, not, Bool, true, false, List, [], ◌∷◌, length, map, Option, Some, None, Result, Ok, Err, refl, sym, ap, subst, ◌∙◌, arith, inl, inr, ◌⊎◌}
use Rattle.std.specs.Prelude.{IfSome}
use Rattle.std.specs.Option.{option_map}
use Rattle.std.specs.Result.{IsErr, IsErrAnd}
use Rattle.std.proofs.lemmas.Bool.{eqb-true}
use Rattle.bp_core.specs.Counts.{risen}
use Rattle.bp_core.specs.Rules.{bare_rule}
use Rattle.bp_core.specs.Sorted.{ascends, row_key}
use Rattle.bp_core.specs.declared.kept.Row.{Row}
use Rattle.bp_core.specs.declared.kept.Put.{Put}
use Rattle.bp_core.specs.declared.rules.Rule.{Rule}
use Rattle.bp_core.specs.declared.rules.RuleKind.TheVariants.{MatterThere}
use Rattle.bp_outside.specs.Source.{SourceView}
use Rattle.bp_outside.specs.Folder.{FolderView}
use Rattle.bp_outside.specs.declared.files.FileRow.{FileRow}
use Rattle.bp_keep.specs.Keeper.{KeeperView, Loads, Commits, faults_after}
use Rattle.bp_keep.specs.Puts.{put_all}
use Rattle.bp_keep.specs.declared.refusals.KeepRefusal.{KeepRefusal}
use Rattle.bp_keep.specs.declared.refusals.KeepRefusal.TheVariants as keepers
use Rattle.bp_matter.specs.declared.rows.Production.{Production}
use Rattle.bp_rules.specs.Changes.{put_of}
use Rattle.bp_rules.specs.Steps.{never, once}
use Rattle.bp_rules.proofs.PutLemmas.{Weaves, new, weaves-put}
use Rattle.bp_cli.specs.declared.stops.Stop.{Stop}
use Rattle.bp_cli.specs.declared.stops.Stop.TheVariants as stops
use Rattle.bp_cli.specs.Commands.{ReadsRows}
use Rattle.bp_cli.specs.Endings.{Ending, Outcome, world, done, refused, CallsKeeper, KeeperLeft, RowsRead, Ends, untouched}
use Rattle.bp_cli.specs.Kept.{FirstOutcome}
use Rattle.bp_cli.specs.Produce.{volume_done}
use Rattle.bp_cli.specs.ProduceSteps.{PutsVolume}
use Rattle.bp_cli.specs.Stops.{StopsForKeeper}
use Rattle.bp_cli.proofs.CalmLemmas.{IsCalm}
use Rattle.bp_cli.proofs.KeptLemmas.{as_loaded, by_stop, read_itself, read_left, rows_itself, rows_left, told_then}
use Rattle.bp_cli.proofs.RowsLemmas.{rows_used, volume_works}

-- a command that gives this of the rows, and the source that it doesn't use, where the rows from
-- before are those that were loaded
abbrev FirstWork : (List Row → Outcome) → KeeperView → KeeperView → FolderView → Ending → KeeperView → FolderView → Type 0
FirstWork gives before mid f e k' f' = (source : SourceView)
    → Ends (rows_used true) (FirstOutcome gives mid.rows) (world source (as_loaded before mid) f) e (world source k' f')

-- the same where it reads them
abbrev pub FirstEnds : (List Row → Outcome) → KeeperView → FolderView → Ending → KeeperView → FolderView → Type 0
FirstEnds gives k f e k' f' = (source : SourceView)
    → ReadsRows (rows_used true) (λ b. Ends (rows_used true) (FirstOutcome gives b.keeper.rows) b e (world source k' f')) (world source k f) (world source k' f')

-- a row that is there is refused
abbrev pub RefusesRows : (List Row → Outcome) → Type 0
RefusesRows gives = (row : Row) (rows : List Row) → gives (row ∷ rows) ≡ refused (bare_rule MatterThere)

first_reads : (gives : List Row → Outcome) (before mid k' : KeeperView) (f f' : FolderView) (e : Ending) → RowsRead before.rows mid.rows k'.rows → CallsKeeper (rows_used true) before k' → FirstWork gives before mid f e k' f' → FirstEnds gives before f e k' f'
first_reads gives before mid k' f f' e reads calls work = λ source. record { read = mid.rows; rows = reads; left = work source; calls = calls }

-- it was asked for its rows, and then to commit, or not
load_called : (before mid : KeeperView) (r : Result (List Row) KeepRefusal) → Loads before r mid → CallsKeeper (rows_used true) before mid
load_called before mid r loads = record { loads = once loads.loads; commits = never loads.commits }

commit_called : (before mid after : KeeperView) (r : Result (List Row) KeepRefusal) (puts : List Put) (made : Result (Unit {0}) KeepRefusal) → Loads before r mid → Commits mid puts made after → CallsKeeper (rows_used true) before after
commit_called before mid after r puts made loads commits = record { loads = once (commits.loads ∙ loads.loads); commits = once (commits.commits ∙ ap risen loads.commits) }

-- what the loaded rows give is an outcome
first_outcome : (gives : List Row → Outcome) (before mid : KeeperView) (rows : List Row) (outcome : Outcome) → Loads before (Ok rows) mid → gives rows ≡ outcome → FirstOutcome gives mid.rows outcome
first_outcome gives before mid rows outcome loads is = record { rows = rows; same = loads.told_after; given = is }

-- ---- loading stopped

mid_left : (before mid : KeeperView) (r : Result (List Row) KeepRefusal) → Loads before r mid → KeeperLeft None (faults_after before.faults r) (as_loaded before mid) mid
mid_left before mid r loads = record { rows = rows_itself mid.rows; faults = loads.faults; sure = loads.sure }

load_stops : (gives : List Row → Outcome) (before mid : KeeperView) (folder : FolderView) (refusal : KeepRefusal) → Loads before (Err refusal) mid → (stop : Stop) → StopsForKeeper refusal stop → FirstWork gives before mid folder (Err stop) mid folder
load_stops gives before mid folder keepers.Failed loads stop is =
    subst (λ (x : Stop). FirstWork gives before mid folder (Err x) mid folder) (sym is)
    (λ source. record { used = refl; source = refl; keeper = mid_left before mid (Err keepers.Failed) loads; folder = refl })
load_stops gives before mid folder keepers.OutOfMemory loads stop is =
    subst (λ (x : Stop). FirstWork gives before mid folder (Err x) mid folder) (sym is)
    (λ source. untouched refl (mid_left before mid (Err keepers.OutOfMemory) loads) refl)

pub load_failed : (gives : List Row → Outcome) (before mid : KeeperView) (folder : FolderView) (refusal : KeepRefusal) (r : Ending) → Loads before (Err refusal) mid → IsErr r → IsErrAnd r (StopsForKeeper refusal) → FirstEnds gives before folder r mid folder
load_failed gives before mid folder refusal r loads is stop =
    first_reads gives before mid mid folder folder r (read_itself before mid loads.same) (load_called before mid (Err refusal) loads)
    (by_stop (λ e. FirstWork gives before mid folder e mid folder) (StopsForKeeper refusal) r is stop (load_stops gives before mid folder refusal loads))

-- ---- the rows were loaded

-- and a rule was met
pub rule_met : (gives : List Row → Outcome) (before mid : KeeperView) (folder : FolderView) (rows : List Row) (rule : Rule) → Loads before (Ok rows) mid → gives rows ≡ refused rule → IsCalm rule → FirstEnds gives before folder (Err (stops.Broken rule)) mid folder
rule_met gives before mid folder rows rule loads is calm =
    first_reads gives before mid mid folder folder (Err (stops.Broken rule)) (read_itself before mid loads.same) (load_called before mid (Ok rows) loads)
    (λ source. record {
      outcome = first_outcome gives before mid rows (refused rule) loads is;
      source = calm source;
      keeper = mid_left before mid (Ok rows) loads;
      quiet = loads.commits;
      folder = refl;
    })

-- there is a matter
pub matter_there : (gives : List Row → Outcome) → RefusesRows gives → (before mid : KeeperView) (folder : FolderView) (rows : List Row) → Loads before (Ok rows) mid → eqb (length rows) 0 ≡ false → FirstEnds gives before folder (Err (stops.Broken (bare_rule MatterThere))) mid folder
matter_there gives refuses before mid folder [] loads some = cc
matter_there gives refuses before mid folder (row ∷ rows) loads some = rule_met gives before mid folder (row ∷ rows) (bare_rule MatterThere) loads (refuses row rows) (λ source. refl)

-- memory ran out before the commit
pub lacked : (gives : List Row → Outcome) (before mid : KeeperView) (folder : FolderView) (rows : List Row) (r : Ending) → Loads before (Ok rows) mid → IsErr r → IsErrAnd r (λ x. x ≡ stops.OutOfMemory) → FirstEnds gives before folder r mid folder
lacked gives before mid folder rows r loads is stop =
    first_reads gives before mid mid folder folder r (read_itself before mid loads.same) (load_called before mid (Ok rows) loads)
    (by_stop (λ e. FirstWork gives before mid folder e mid folder) (λ x. x ≡ stops.OutOfMemory) r is stop
    (λ x same. subst (λ (y : Stop). FirstWork gives before mid folder (Err y) mid folder) (sym same)
    (λ source. untouched refl (mid_left before mid (Ok rows) loads) refl)))

-- none is there
pub no_rows : (rows : List Row) → eqb (length rows) 0 ≡ true → rows ≡ []
no_rows [] none = refl
no_rows (row ∷ rows) none = let no : length (row ∷ rows) ≡ 0 = eqb-true (length (row ∷ rows)) 0 none in absurd (omega arith)

-- ---- the commit stopped

commit_left : (before mid after : KeeperView) (rows : List Row) (puts : List Put) (refusal : KeepRefusal) → Loads before (Ok rows) mid → Commits mid puts (Err refusal) after → KeeperLeft None (let failed : Result (Unit {0}) KeepRefusal = Err refusal in faults_after before.faults failed) (as_loaded before mid) after
commit_left before mid after rows puts keepers.Failed loads commits = record { rows = rows_left mid.rows after.rows commits.rows; faults = commits.faults ∙ ap risen loads.faults; sure = commits.sure ∙ loads.sure }
commit_left before mid after rows puts keepers.OutOfMemory loads commits = record { rows = rows_left mid.rows after.rows commits.rows; faults = commits.faults ∙ loads.faults; sure = commits.sure ∙ loads.sure }

commit_stops : (gives : List Row → Outcome) (before mid after : KeeperView) (folder : FolderView) (rows : List Row) (puts : List Put) (refusal : KeepRefusal) → Loads before (Ok rows) mid → Commits mid puts (Err refusal) after → (stop : Stop) → StopsForKeeper refusal stop → FirstWork gives before mid folder (Err stop) after folder
commit_stops gives before mid after folder rows puts keepers.Failed loads commits stop is =
    subst (λ (x : Stop). FirstWork gives before mid folder (Err x) after folder) (sym is)
    (λ source. record { used = refl; source = refl; keeper = commit_left before mid after rows puts keepers.Failed loads commits; folder = refl })
commit_stops gives before mid after folder rows puts keepers.OutOfMemory loads commits stop is =
    subst (λ (x : Stop). FirstWork gives before mid folder (Err x) after folder) (sym is)
    (λ source. untouched refl (commit_left before mid after rows puts keepers.OutOfMemory loads commits) refl)

pub commit_failed : (gives : List Row → Outcome) (before mid after : KeeperView) (folder : FolderView) (rows : List Row) (puts : List Put) (refusal : KeepRefusal) (r : Ending) → Loads before (Ok rows) mid → Commits mid puts (Err refusal) after → IsErr r → IsErrAnd r (StopsForKeeper refusal) → FirstEnds gives before folder r after folder
commit_failed gives before mid after folder rows puts refusal r loads commits is stop =
    first_reads gives before mid after folder folder r (read_left before mid after loads.same commits.rows) (commit_called before mid after (Ok rows) puts (Err refusal) loads commits)
    (by_stop (λ e. FirstWork gives before mid folder e after folder) (StopsForKeeper refusal) r is stop (commit_stops gives before mid after folder rows puts refusal loads commits))

-- ---- the first rows were committed

-- rows that are all new
all_new : (rows : List Row) → Weaves [] rows rows
all_new [] = record { strands = []; is_old = refl; is_new = refl; is_all = refl }
all_new (row ∷ rows) =
    let rest = all_new rows in
    record {
      strands = new row ∷ rest.strands;
      is_old = rest.is_old;
      is_new = ap (λ (l : List Row). row ∷ l) rest.is_new;
      is_all = ap (λ (l : List Row). row ∷ l) rest.is_all;
    }

-- the puts of rows in order, in a keeper without rows, leave them
pub puts_alone : (rows : List Row) → ascends row_key 0 rows ≡ true → put_all (map put_of rows) [] ≡ rows
puts_alone rows up = weaves-put [] rows rows (all_new rows) up

rows_made : (first : List Row) (mid after : Option (List Row)) (puts : List Put) → put_all puts [] ≡ first → IfSome mid (λ rows. [] ≡ rows) → IfSome after (λ now. option_map (put_all puts) mid ≡ Some now) → IfSome after (λ now. now ≡ first)
rows_made first mid None puts are empty kept = tt
rows_made first None (Some now) puts are empty kept = cc
rows_made first (Some rows) (Some now) puts are empty kept =
    let e : put_all puts rows ≡ now = cc in
    sym e ∙ ap (put_all puts) (sym empty) ∙ are

first_left : (first : List Row) (before mid after : KeeperView) (puts : List Put) → put_all puts [] ≡ first → Loads before (Ok []) mid → Commits mid puts (Ok tt) after → KeeperLeft (Some first) before.faults (as_loaded before mid) after
first_left first before mid after puts are loads commits =
    record { rows = rows_made first mid.rows after.rows puts are loads.told_after commits.rows; faults = commits.faults ∙ loads.faults; sure = commits.sure ∙ loads.sure }

first_kept : (gives : List Row → Outcome) (before mid after : KeeperView) (folder folder' : FolderView) (puts : List Put) (e : Ending) → Loads before (Ok []) mid → Commits mid puts (Ok tt) after → FirstWork gives before mid folder e after folder' → FirstEnds gives before folder e after folder'
first_kept gives before mid after folder folder' puts e loads commits work =
    first_reads gives before mid after folder folder' e (record { same = loads.same; told = told_then (put_all puts) mid.rows after.rows commits.rows })
    (commit_called before mid after (Ok []) puts (Ok tt) loads commits) work

-- and that is all
pub rows_kept : (gives : List Row → Outcome) (before mid after : KeeperView) (folder : FolderView) (rows first : List Row) (puts : List Put) (line : List ℕ) → rows ≡ [] → Loads before (Ok rows) mid → put_all puts [] ≡ first → Commits mid puts (Ok tt) after
    → gives [] ≡ done line [] (Some first) → FirstEnds gives before folder (Ok line) after folder
rows_kept gives before mid after folder rows first puts line none loads are commits given =
    let empty : Loads before (Ok []) mid = subst (λ (l : List Row). Loads before (Ok l) mid) none loads in
    first_kept gives before mid after folder folder puts (Ok line) empty commits (λ source. record {
      files = [];
      rows = Some first;
      outcome = first_outcome gives before mid [] (done line [] (Some first)) empty given;
      source = refl;
      keeper = first_left first before mid after puts are empty commits;
      folder = refl;
    })

-- and a volume was put
pub volume_kept : (gives : List Row → Outcome) (before mid after : KeeperView) (folder folder' : FolderView) (rows first : List Row) (puts : List Put) (f : Production) (volume : List FileRow) (e : Ending) → rows ≡ [] → Loads before (Ok rows) mid → put_all puts [] ≡ first → Commits mid puts (Ok tt) after
    → gives [] ≡ volume_done f volume (Some first) → PutsVolume f volume folder e folder' → FirstEnds gives before folder e after folder'
volume_kept gives before mid after folder folder' rows first puts f volume e none loads are commits given put =
    let empty : Loads before (Ok []) mid = subst (λ (l : List Row). Loads before (Ok l) mid) none loads in
    first_kept gives before mid after folder folder' puts e empty commits
    (volume_works (rows_used true) (FirstOutcome gives mid.rows) (as_loaded before mid) after folder folder' f volume (Some first) e
    (first_outcome gives before mid [] (volume_done f volume (Some first)) empty given) (first_left first before mid after puts are empty commits) put)
