-- Lemmas of the commands that read rows and no files: from what loading the tables gave, and from
-- the work behind it, to how the command ends.
use Rattle.std.proofs.Common.{ℕ, ◌≡◌, Bool, true, false, List, [], Option, Some, None, Result, Ok, Err, refl, sym, ap, subst, inl, inr, ◌∙◌}
use Rattle.std.specs.Prelude.{IfSome}
use Rattle.std.specs.Result.{IsErr, IsErrAnd}
use Rattle.bp_core.specs.Counts.{risen}
use Rattle.bp_core.specs.declared.kept.Row.{Row}
use Rattle.bp_core.specs.declared.rules.Rule.{Rule}
use Rattle.bp_outside.specs.Source.{SourceView}
use Rattle.bp_outside.specs.Folder.{FolderView}
use Rattle.bp_outside.specs.declared.files.FileRow.{FileRow}
use Rattle.bp_keep.specs.Keeper.{KeeperView}
use Rattle.bp_matter.specs.KeptRows.{rows_of}
use Rattle.bp_matter.specs.Matter.{Matter, Shown}
use Rattle.bp_matter.specs.Valid.{IsValid}
use Rattle.bp_matter.specs.declared.rows.Production.{Production}
use Rattle.bp_matter.specs.declared.rows.Request.{Request}
use Rattle.bp_freeze.specs.Keeping.{frozen_matter}
use Rattle.bp_press.specs.Pressed.{pressed_of}
use Rattle.bp_press.specs.Volume.{volume_of}
use Rattle.bp_rules.specs.Loading.{LoadsTables}
use Rattle.bp_rules.specs.declared.refusals.MatterRefusal.{MatterRefusal}
use Rattle.bp_rules.specs.declared.refusals.MatterRefusal.TheVariants as refusals
use Rattle.bp_cli.specs.declared.stops.Stop.{Stop}
use Rattle.bp_cli.specs.declared.stops.Stop.TheVariants as stops
use Rattle.bp_cli.specs.Commands.{ReadsRows}
use Rattle.bp_cli.specs.Endings.{Ending, Outcome, Uses, world, done, refused, CallsKeeper, KeeperLeft, RowsRead, Ends, untouched, partly, wholly}
use Rattle.bp_cli.specs.Kept.{RowsOutcome}
use Rattle.bp_cli.specs.Produce.{frozen_gives, produce_gives, volume_done, volume_line}
use Rattle.bp_cli.specs.ProduceSteps.{Freezes, Froze, PutsVolume}
use Rattle.bp_cli.specs.Stops.{StopsForMatter}
use Rattle.bp_cli.proofs.CalmLemmas.{IsCalm, freeze_calm}
use Rattle.bp_cli.proofs.KeptLemmas.{as_loaded, by_stop, count_left, keeps_matter, kept_matter, kept_rule, load_calls, load_calm, load_left, quiet_calls, read_itself, read_left, read_same, stays_left, step_calls}

abbrev pub rows_used : Bool → Uses
rows_used commits = record { files = false; rows = true; commits = commits }

-- a command whose outcome is this one of the matter, and the source that it doesn't use, where the
-- rows from before are those that were loaded
abbrev RowsWork : Bool → (Result Matter Rule → Outcome) → KeeperView → KeeperView → FolderView → Ending → KeeperView → FolderView → Type 0
RowsWork may gives before mid f e k' f' = (source : SourceView)
    → Ends (rows_used may) (RowsOutcome gives mid.rows) (world source (as_loaded before mid) f) e (world source k' f')

-- the same where it reads them; and it may commit rows, or not
abbrev pub RowsEnds : Bool → (Result Matter Rule → Outcome) → KeeperView → FolderView → Ending → KeeperView → FolderView → Type 0
RowsEnds may gives k f e k' f' = (source : SourceView)
    → ReadsRows (rows_used may) (λ b. Ends (rows_used may) (RowsOutcome gives b.keeper.rows) b e (world source k' f')) (world source k f) (world source k' f')

rows_read : (may : Bool) (gives : Result Matter Rule → Outcome) (before mid k' : KeeperView) (f f' : FolderView) (e : Ending) → RowsRead before.rows mid.rows k'.rows → CallsKeeper (rows_used may) before k' → RowsWork may gives before mid f e k' f' → RowsEnds may gives before f e k' f'
rows_read may gives before mid k' f f' e reads calls work = λ source. record { read = mid.rows; rows = reads; left = work source; calls = calls }

-- a rule of the rows is its outcome
abbrev pub HandsOn : (Result Matter Rule → Outcome) → Type 0
HandsOn gives = (rule : Rule) → gives (Err rule) ≡ refused rule

-- ---- loading stopped

load_stops : (may : Bool) (gives : Result Matter Rule → Outcome) → HandsOn gives → (before mid : KeeperView) (folder : FolderView) (refusal : MatterRefusal) → LoadsTables before (Err refusal) mid → (stop : Stop) → StopsForMatter refusal stop → RowsWork may gives before mid folder (Err stop) mid folder
load_stops may gives hands before mid folder (refusals.Rule rule) loaded stop is = λ source.
    subst (λ (x : Stop). Ends (rows_used may) (RowsOutcome gives mid.rows) (world source (as_loaded before mid) folder) (Err x) (world source mid folder)) (sym is)
    (record {
      outcome = record { tables = Err rule; loaded = loaded.rule; kept = kept_rule mid.rows rule loaded.told_after; given = hands rule };
      source = load_calm source rule.kind loaded.rule;
      keeper = load_left before mid (Err (refusals.Rule rule)) before.faults loaded loaded.faults;
      quiet = loaded.commits;
      folder = refl;
    })
load_stops may gives hands before mid folder refusals.KeeperFault loaded stop is = λ source.
    subst (λ (x : Stop). Ends (rows_used may) (RowsOutcome gives mid.rows) (world source (as_loaded before mid) folder) (Err x) (world source mid folder)) (sym is)
    (record { used = refl; source = refl; keeper = load_left before mid (Err refusals.KeeperFault) (risen before.faults) loaded loaded.faults; folder = refl })
load_stops may gives hands before mid folder refusals.OutOfMemory loaded stop is = λ source.
    subst (λ (x : Stop). Ends (rows_used may) (RowsOutcome gives mid.rows) (world source (as_loaded before mid) folder) (Err x) (world source mid folder)) (sym is)
    (untouched refl (load_left before mid (Err refusals.OutOfMemory) before.faults loaded loaded.faults) refl)

pub rows_refused : (may : Bool) (gives : Result Matter Rule → Outcome) → HandsOn gives → (before mid : KeeperView) (folder : FolderView) (refusal : MatterRefusal) (r : Ending) → LoadsTables before (Err refusal) mid → IsErr r → IsErrAnd r (StopsForMatter refusal) → RowsEnds may gives before folder r mid folder
rows_refused may gives hands before mid folder refusal r loaded is stop =
    rows_read may gives before mid mid folder folder r (read_itself before mid loaded.same) (load_calls (rows_used may) before mid (Err refusal) refl loaded)
    (by_stop (λ e. RowsWork may gives before mid folder e mid folder) (StopsForMatter refusal) r is stop (load_stops may gives hands before mid folder refusal loaded))

-- ---- the tables were loaded

-- what their matter gives is an outcome
pub matter_outcome : (gives : Result Matter Rule → Outcome) (before mid : KeeperView) (tables : Shown) (outcome : Outcome) → IsValid tables.matter → LoadsTables before (Ok tables) mid → gives (Ok tables.matter) ≡ outcome → RowsOutcome gives mid.rows outcome
matter_outcome gives before mid tables outcome valid loaded given =
    record { tables = Ok tables.matter; loaded = valid; kept = kept_matter mid.rows tables valid loaded.told_after; given = given }

-- and memory ran out
pub rows_lacked : (may : Bool) (gives : Result Matter Rule → Outcome) (before mid : KeeperView) (folder : FolderView) (tables : Shown) (r : Ending) → LoadsTables before (Ok tables) mid → IsErr r → IsErrAnd r (λ x. x ≡ stops.OutOfMemory) → RowsEnds may gives before folder r mid folder
rows_lacked may gives before mid folder tables r loaded is stop =
    rows_read may gives before mid mid folder folder r (read_itself before mid loaded.same) (load_calls (rows_used may) before mid (Ok tables) refl loaded)
    (by_stop (λ e. RowsWork may gives before mid folder e mid folder) (λ x. x ≡ stops.OutOfMemory) r is stop
    (λ x same. subst (λ (y : Stop). RowsWork may gives before mid folder (Err y) mid folder) (sym same)
    (λ source. untouched refl (load_left before mid (Ok tables) before.faults loaded loaded.faults) refl)))

-- and a rule was met
rule_works : (may : Bool) (gives : Result Matter Rule → Outcome) (before mid : KeeperView) (folder : FolderView) (tables : Shown) (rule : Rule) → IsValid tables.matter → LoadsTables before (Ok tables) mid → gives (Ok tables.matter) ≡ refused rule → IsCalm rule → RowsWork may gives before mid folder (Err (stops.Broken rule)) mid folder
rule_works may gives before mid folder tables rule valid loaded given calm = λ source. record {
  outcome = matter_outcome gives before mid tables (refused rule) valid loaded given;
  source = calm source;
  keeper = load_left before mid (Ok tables) before.faults loaded loaded.faults;
  quiet = loaded.commits;
  folder = refl;
}

pub rows_rule : (may : Bool) (gives : Result Matter Rule → Outcome) (before mid : KeeperView) (folder : FolderView) (tables : Shown) (rule : Rule) → IsValid tables.matter → LoadsTables before (Ok tables) mid → gives (Ok tables.matter) ≡ refused rule → IsCalm rule → RowsEnds may gives before folder (Err (stops.Broken rule)) mid folder
rows_rule may gives before mid folder tables rule valid loaded given calm =
    rows_read may gives before mid mid folder folder (Err (stops.Broken rule)) (read_itself before mid loaded.same) (load_calls (rows_used may) before mid (Ok tables) refl loaded) (rule_works may gives before mid folder tables rule valid loaded given calm)

-- and a text is printed, and nothing else
pub rows_told : (may : Bool) (gives : Result Matter Rule → Outcome) (before mid : KeeperView) (folder : FolderView) (tables : Shown) (text : List ℕ) → IsValid tables.matter → LoadsTables before (Ok tables) mid → gives (Ok tables.matter) ≡ done text [] None → RowsEnds may gives before folder (Ok text) mid folder
rows_told may gives before mid folder tables text valid loaded given = rows_read may gives before mid mid folder folder (Ok text) (read_itself before mid loaded.same) (load_calls (rows_used may) before mid (Ok tables) refl loaded) (λ source. record {
  files = [];
  rows = None;
  outcome = matter_outcome gives before mid tables (done text [] None) valid loaded given;
  source = refl;
  keeper = load_left before mid (Ok tables) before.faults loaded loaded.faults;
  folder = refl;
})

-- and a volume was put, which these rows go with
pub volume_works : (uses : Uses) (Comes : Outcome → Type 0) (before k' : KeeperView) (folder folder' : FolderView) (f : Production) (volume : List FileRow) (rows : Option (List Row)) (e : Ending) → Comes (volume_done f volume rows) → KeeperLeft rows before.faults before k' → PutsVolume f volume folder e folder'
    → (source : SourceView) → Ends uses Comes (world source before folder) e (world source k' folder')
volume_works uses Comes before k' folder folder' f volume rows (Ok line) outcome left put = λ source. record {
  files = volume;
  rows = rows;
  outcome = subst (λ (l : List ℕ). Comes (done l volume rows)) (sym put.0) outcome;
  source = refl;
  keeper = left;
  folder = put.1;
}
volume_works uses Comes before k' folder folder' f volume rows (Err stops.FolderFault) outcome left put = λ source.
    record { line = volume_line f (pressed_of volume); files = volume; rows = rows; outcome = outcome; source = refl; keeper = left; folder = put }
volume_works uses Comes before k' folder folder' f volume rows (Err stops.OutOfMemory) outcome left put = λ source. elim put [
  | inl part ↦ partly (volume_line f (pressed_of volume)) volume rows outcome refl left part
  | inr whole ↦ wholly (volume_line f (pressed_of volume)) volume rows outcome refl left whole
]
volume_works uses Comes before k' folder folder' f volume rows (Err (stops.Broken rule)) outcome left put = absurd put
volume_works uses Comes before k' folder folder' f volume rows (Err stops.WordsRefused) outcome left put = absurd put
volume_works uses Comes before k' folder folder' f volume rows (Err stops.SourceFault) outcome left put = absurd put
volume_works uses Comes before k' folder folder' f volume rows (Err stops.KeeperFault) outcome left put = absurd put

pub rows_volume : (may : Bool) (gives : Result Matter Rule → Outcome) (before mid k' : KeeperView) (folder folder' : FolderView) (f : Production) (volume : List FileRow) (rows : Option (List Row)) (e : Ending) → RowsRead before.rows mid.rows k'.rows → CallsKeeper (rows_used may) before k' → RowsOutcome gives mid.rows (volume_done f volume rows) → KeeperLeft rows before.faults (as_loaded before mid) k' → PutsVolume f volume folder e folder' → RowsEnds may gives before folder e k' folder'
rows_volume may gives before mid k' folder folder' f volume rows e reads calls outcome left put =
    rows_read may gives before mid k' folder folder' e reads calls (volume_works (rows_used may) (RowsOutcome gives mid.rows) (as_loaded before mid) k' folder folder' f volume rows e outcome left put)

-- ---- the lead was to freeze

-- it stopped
froze_stops : (q : Request) (before mid k' : KeeperView) (folder : FolderView) (tables : Shown) (m' : Matter) (stop : Stop) → IsValid tables.matter → LoadsTables before (Ok tables) mid → Freezes tables.matter q mid (Err stop) m' k' → RowsWork true (produce_gives q) before mid folder (Err stop) k' folder
froze_stops q before mid k' folder tables m' (stops.Broken rule) valid loaded stopped =
    subst (λ (k : KeeperView). RowsWork true (produce_gives q) before mid folder (Err (stops.Broken rule)) k folder) (sym stopped.1)
    (rule_works true (produce_gives q) before mid folder tables rule valid loaded (ap (frozen_gives tables.matter) stopped.0) (freeze_calm tables.matter q rule stopped.0))
froze_stops q before mid k' folder tables m' stops.KeeperFault valid loaded stopped = λ source. record {
  used = refl;
  source = refl;
  keeper = count_left (as_loaded before mid) k' (risen mid.faults) (risen before.faults) (ap risen loaded.faults) (stays_left before mid k' tables tables.matter m' (risen mid.faults) loaded stopped);
  folder = refl;
}
froze_stops q before mid k' folder tables m' stops.OutOfMemory valid loaded stopped = λ source.
    untouched refl (count_left (as_loaded before mid) k' mid.faults before.faults loaded.faults (stays_left before mid k' tables tables.matter m' mid.faults loaded stopped)) refl
froze_stops q before mid k' folder tables m' stops.WordsRefused valid loaded stopped = absurd stopped
froze_stops q before mid k' folder tables m' stops.SourceFault valid loaded stopped = absurd stopped
froze_stops q before mid k' folder tables m' stops.FolderFault valid loaded stopped = absurd stopped

stopped_reads : (q : Request) (before mid k' : KeeperView) (tables : Shown) (m' : Matter) (stop : Stop) → LoadsTables before (Ok tables) mid → Freezes tables.matter q mid (Err stop) m' k' → RowsRead before.rows mid.rows k'.rows
stopped_reads q before mid k' tables m' (stops.Broken rule) loaded stopped = read_same before mid k' loaded.same stopped.1
stopped_reads q before mid k' tables m' stops.KeeperFault loaded stopped = read_left before mid k' loaded.same stopped.rows
stopped_reads q before mid k' tables m' stops.OutOfMemory loaded stopped = read_left before mid k' loaded.same stopped.rows
stopped_reads q before mid k' tables m' stops.WordsRefused loaded stopped = absurd stopped
stopped_reads q before mid k' tables m' stops.SourceFault loaded stopped = absurd stopped
stopped_reads q before mid k' tables m' stops.FolderFault loaded stopped = absurd stopped

stopped_calls : (q : Request) (before mid k' : KeeperView) (tables : Shown) (m' : Matter) (stop : Stop) → LoadsTables before (Ok tables) mid → Freezes tables.matter q mid (Err stop) m' k' → CallsKeeper (rows_used true) before k'
stopped_calls q before mid k' tables m' (stops.Broken rule) loaded stopped = quiet_calls (rows_used true) before mid k' tables refl refl loaded stopped.1
stopped_calls q before mid k' tables m' stops.KeeperFault loaded stopped = step_calls (rows_used true) before mid k' tables refl refl loaded stopped.loads stopped.commits
stopped_calls q before mid k' tables m' stops.OutOfMemory loaded stopped = step_calls (rows_used true) before mid k' tables refl refl loaded stopped.loads stopped.commits
stopped_calls q before mid k' tables m' stops.WordsRefused loaded stopped = absurd stopped
stopped_calls q before mid k' tables m' stops.SourceFault loaded stopped = absurd stopped
stopped_calls q before mid k' tables m' stops.FolderFault loaded stopped = absurd stopped

pub freeze_refused : (q : Request) (before mid k' : KeeperView) (folder : FolderView) (tables : Shown) (m' : Matter) (stop : Stop) (r : Ending) → IsValid tables.matter → LoadsTables before (Ok tables) mid → Freezes tables.matter q mid (Err stop) m' k'
    → IsErr r → IsErrAnd r (λ s. s ≡ stop) → RowsEnds true (produce_gives q) before folder r k' folder
freeze_refused q before mid k' folder tables m' stop r valid loaded stopped is same =
    rows_read true (produce_gives q) before mid k' folder folder r (stopped_reads q before mid k' tables m' stop loaded stopped) (stopped_calls q before mid k' tables m' stop loaded stopped)
    (by_stop (λ e. RowsWork true (produce_gives q) before mid folder e k' folder) (λ s. s ≡ stop) r is same
    (λ s e. subst (λ (x : Stop). RowsWork true (produce_gives q) before mid folder (Err x) k' folder) (sym e) (froze_stops q before mid k' folder tables m' stop valid loaded stopped)))

-- the rows of the matter after the freeze stand
froze_left : (q : Request) (before mid k' : KeeperView) (tables : Shown) (f : Production) (m' : Matter) → LoadsTables before (Ok tables) mid → Froze tables.matter q mid f m' k' → KeeperLeft (Some (rows_of (frozen_matter f tables.matter))) before.faults (as_loaded before mid) k'
froze_left q before mid k' tables f m' loaded froze = record {
  rows = subst (λ (m : Matter). IfSome k'.rows (λ now. now ≡ rows_of m)) froze.matter (froze.kept (keeps_matter mid.rows tables loaded.told_after));
  faults = froze.faults ∙ loaded.faults;
  sure = froze.sure ∙ loaded.sure;
}

-- and its volume was put
pub produced_ends : (q : Request) (before mid k' : KeeperView) (folder folder' : FolderView) (tables : Shown) (f : Production) (m' : Matter) (e : Ending) → IsValid tables.matter → LoadsTables before (Ok tables) mid → Froze tables.matter q mid f m' k'
    → PutsVolume f (volume_of f m') folder e folder' → RowsEnds true (produce_gives q) before folder e k' folder'
produced_ends q before mid k' folder folder' tables f m' e valid loaded froze put =
    let after : Matter = frozen_matter f tables.matter in
    rows_volume true (produce_gives q) before mid k' folder folder' f (volume_of f after) (Some (rows_of after)) e (record { same = loaded.same; told = froze.told })
    (step_calls (rows_used true) before mid k' tables refl refl loaded froze.loads froze.commits)
    (matter_outcome (produce_gives q) before mid tables (volume_done f (volume_of f after) (Some (rows_of after))) valid loaded (ap (frozen_gives tables.matter) froze.answer))
    (froze_left q before mid k' tables f m' loaded froze)
    (subst (λ (m : Matter). PutsVolume f (volume_of f m) folder e folder') froze.matter put)
