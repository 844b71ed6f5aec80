-- Lemmas of import: from what loading the tables, reading the batch and the step gave to the outcome
-- of the command.
use Rattle.std.proofs.Common.{ℕ, ◌≡◌, Bool, true, false, cond, List, [], Option, Some, None, Result, Ok, Err, refl, sym, ap, subst, ◌∙◌}
use Rattle.std.specs.Prelude.{IfSome, nat_lt, not}
use Rattle.std.specs.Result.{IsErr, IsErrAnd}
use Rattle.std.specs.Str.{bytes_eq, chars}
use Rattle.bp_core.specs.Counts.{risen}
use Rattle.bp_core.specs.Rules.{bare_rule}
use Rattle.bp_core.specs.declared.kept.Row.{Row}
use Rattle.bp_core.specs.declared.rules.Rule.{Rule}
use Rattle.bp_core.specs.declared.rules.RuleKind.TheVariants as kinds
use Rattle.bp_outside.specs.Source.{FileMap, SourceView}
use Rattle.bp_outside.specs.Folder.{FolderView}
use Rattle.bp_import.specs.Batch.{BatchAnswers}
use Rattle.bp_import.specs.Importing.{Comes, after_kind, after_step}
use Rattle.bp_import.specs.declared.refusals.ImportRefusal.{ImportRefusal}
use Rattle.bp_import.specs.declared.refusals.ImportRefusal.TheVariants as imports
use Rattle.bp_keep.specs.Keeper.{KeeperView}
use Rattle.bp_keep.specs.Puts.{put_all}
use Rattle.bp_matter.specs.Batches.{BatchShown}
use Rattle.bp_matter.specs.KeptRows.{rows_of}
use Rattle.bp_matter.specs.Matter.{Matter, Shown}
use Rattle.bp_matter.specs.Valid.{IsValid}
use Rattle.bp_matter.specs.ValidPages.{strips_fit}
use Rattle.bp_rules.specs.Changes.{after, puts_of}
use Rattle.bp_rules.specs.Importing.{import_of, import_by, batch_with, unless_full}
use Rattle.bp_matter.specs.declared.limits.TheConstants.{MAX_BATCHES, MAX_DOCUMENTS, MAX_FIELDS, MAX_PAGES, MAX_PIXELS}
use Rattle.bp_rules.specs.Limits.{limit_passed, full_rule, documents_limit, pages_limit, pixels_limit, strip_bytes_limit, fields_limit, batches_limit, documents_after, pages_after, pixels_after, strip_bytes_after, fields_after, batches_after}
use Rattle.bp_rules.specs.Loading.{LoadsTables}
use Rattle.bp_rules.specs.Steps.{StepsImport, ImportMade}
use Rattle.bp_rules.specs.declared.decide_imports.Imported.{Imported}
use Rattle.bp_rules.specs.declared.refusals.MatterRefusal.{MatterRefusal}
use Rattle.bp_rules.specs.declared.refusals.MatterRefusal.TheVariants as refusals
use Rattle.bp_rules.specs.declared.steps.Counted.{Counted}
use Rattle.bp_cli.specs.declared.stops.Stop.{Stop}
use Rattle.bp_cli.specs.declared.stops.Stop.TheVariants as stops
use Rattle.bp_cli.specs.Commands.{import, uses_of, IsOutcome, ReadsAndWorks}
use Rattle.bp_cli.specs.Endings.{Ending, world, done, CallsKeeper, KeeperLeft, RowsRead, Ends, untouched, kept}
use Rattle.bp_cli.specs.Import.{ImportOutcome, imported_line, step_gives}
use Rattle.bp_cli.specs.Stops.{StopsForBatch, StopsForMatter}
use Rattle.bp_cli.proofs.KeptLemmas.{as_loaded, by_stop, calm_by, count_left, keeps_matter, kept_matter, kept_rule, load_calls, load_calm, load_left, quiet_calls, read_itself, read_left, read_same, stays_left, step_calls, told_then}

-- import, and the folder that it doesn't use
abbrev pub ImportEnds : List ℕ → SourceView → KeeperView → Ending → SourceView → KeeperView → Type 0
ImportEnds name s k r s' k' = (folder : FolderView)
    → ReadsAndWorks (Some (import name)) (world s k folder) r (world s' k' folder)

-- the same where the rows from before are those that were loaded
abbrev ImportWorks : List ℕ → SourceView → KeeperView → KeeperView → Ending → SourceView → KeeperView → Type 0
ImportWorks name s before mid r s' k' = (folder : FolderView)
    → Ends (uses_of (import name)) (IsOutcome (import name) (world s (as_loaded before mid) folder)) (world s (as_loaded before mid) folder) r (world s' k' folder)

import_reads : (name : List ℕ) (s : SourceView) (before mid : KeeperView) (r : Ending) (s' : SourceView) (k' : KeeperView) → RowsRead before.rows mid.rows k'.rows → CallsKeeper (uses_of (import name)) before k' → ImportWorks name s before mid r s' k' → ImportEnds name s before r s' k'
import_reads name s before mid r s' k' reads calls works = λ folder. record { read = mid.rows; rows = reads; left = works folder; calls = calls }

-- ---- which rules raise no count

pick : (t : Bool) (r rule : Rule) (rest : Option Rule) → r.kind ≡ kinds.MatterFull → (rest ≡ Some rule → rule.kind ≡ kinds.MatterFull) → cond t (Some r) rest ≡ Some rule → rule.kind ≡ kinds.MatterFull
pick true r rule rest own others is = let same : r ≡ rule = cc in ap (λ (x : Rule). x.kind) (sym same) ∙ own
pick false r rule rest own others is = others is

no_limit : (rule : Rule) → let none : Option Rule = None in none ≡ Some rule → rule.kind ≡ kinds.MatterFull
no_limit rule is = cc

-- the tests of the limits from each one on
abbrev from_batches : Matter → Option Rule
from_batches m = cond (nat_lt MAX_BATCHES (batches_after m)) (Some (full_rule batches_limit (batches_after m))) None

abbrev from_fields : Matter → BatchShown → Option Rule
from_fields m b = cond (nat_lt MAX_FIELDS (fields_after m b)) (Some (full_rule fields_limit (fields_after m b))) (from_batches m)

abbrev from_strips : Matter → BatchShown → Option Rule
from_strips m b = cond (not (strips_fit (pixels_after m b) (strip_bytes_after m b))) (Some (full_rule strip_bytes_limit (strip_bytes_after m b))) (from_fields m b)

abbrev from_pixels : Matter → BatchShown → Option Rule
from_pixels m b = cond (nat_lt MAX_PIXELS (pixels_after m b)) (Some (full_rule pixels_limit (pixels_after m b))) (from_strips m b)

abbrev from_pages : Matter → BatchShown → Option Rule
from_pages m b = cond (nat_lt MAX_PAGES (pages_after m b)) (Some (full_rule pages_limit (pages_after m b))) (from_pixels m b)

limit_kind : (m : Matter) (b : BatchShown) (rule : Rule) → limit_passed m b ≡ Some rule → rule.kind ≡ kinds.MatterFull
limit_kind m b rule is =
    pick (nat_lt MAX_DOCUMENTS (documents_after m b)) (full_rule documents_limit (documents_after m b)) rule (from_pages m b) refl
    (pick (nat_lt MAX_PAGES (pages_after m b)) (full_rule pages_limit (pages_after m b)) rule (from_pixels m b) refl
    (pick (nat_lt MAX_PIXELS (pixels_after m b)) (full_rule pixels_limit (pixels_after m b)) rule (from_strips m b) refl
    (pick (not (strips_fit (pixels_after m b) (strip_bytes_after m b))) (full_rule strip_bytes_limit (strip_bytes_after m b)) rule (from_fields m b) refl
    (pick (nat_lt MAX_FIELDS (fields_after m b)) (full_rule fields_limit (fields_after m b)) rule (from_batches m) refl
    (pick (nat_lt MAX_BATCHES (batches_after m)) (full_rule batches_limit (batches_after m)) rule None refl (no_limit rule)))))) is

full_calm : (source : SourceView) (m : Matter) (b : BatchShown) (o : Option Rule) (rule : Rule) → limit_passed m b ≡ o → unless_full m b o ≡ Err rule → source ≡ after_kind source rule.kind
full_calm source m b None rule passed is = cc
full_calm source m b (Some r) rule passed is =
    let same : r ≡ rule = cc in
    calm_by source rule.kind kinds.MatterFull (sym (limit_kind m b r passed) ∙ ap (λ (x : Rule). x.kind) same) refl

differs_calm : (source : SourceView) (t : Bool) (x : Imported) (rule : Rule) → let other : Result Imported Rule = Err (bare_rule kinds.BatchDiffers) in cond t (Ok x) other ≡ Err rule → source ≡ after_kind source rule.kind
differs_calm source true x rule is = cc
differs_calm source false x rule is =
    let same : bare_rule kinds.BatchDiffers ≡ rule = cc in
    calm_by source rule.kind kinds.BatchDiffers (ap (λ (y : Rule). y.kind) same) refl

step_calm : (source : SourceView) (m : Matter) (b : BatchShown) (rule : Rule) → import_of m b ≡ Err rule → source ≡ after_kind source rule.kind
unfolding import_of
step_calm source m b rule is = elim (batch_with b.name m) as (λ o. import_by m b o ≡ Err rule → source ≡ after_kind source rule.kind) [
  | None ↦ λ at. full_calm source m b (limit_passed m b) rule refl at
  | Some row ↦ λ at. differs_calm source (bytes_eq row.digest b.digest) _ rule at
] is

-- ---- what was told of the rows and of the batch

abbrev pub SomeBatch : Type 0
SomeBatch = (files : FileMap) (name : List ℕ) → (answer : Result BatchShown Rule) × BatchAnswers files name answer

some_found : SomeBatch → (told : Option FileMap) (name : List ℕ) → (answer : Result BatchShown Rule) × IfSome told (λ there. BatchAnswers there name answer)
some_found some None name = (Err (bare_rule kinds.NoMatter), tt)
some_found some (Some files) name = some files name

-- ---- loading stopped

load_stops : SomeBatch → (name : List ℕ) (s : SourceView) (before mid : KeeperView) (refusal : MatterRefusal) → LoadsTables before (Err refusal) mid → (stop : Stop) → StopsForMatter refusal stop → ImportWorks name s before mid (Err stop) s mid
load_stops some name s before mid (refusals.Rule rule) loaded stop is = λ folder.
    subst (λ (x : Stop). Ends (uses_of (import name)) (IsOutcome (import name) (world s (as_loaded before mid) folder)) (world s (as_loaded before mid) folder) (Err x) (world s mid folder)) (sym is)
    (let found = some_found some s.files (chars name) in
    record {
      outcome = record { tables = Err rule; loaded = loaded.rule; kept = kept_rule mid.rows rule loaded.told_after; batch = found.0; found = found.1; gives = refl };
      source = load_calm s rule.kind loaded.rule;
      keeper = load_left before mid (Err (refusals.Rule rule)) before.faults loaded loaded.faults;
      quiet = loaded.commits;
      folder = refl;
    })
load_stops some name s before mid refusals.KeeperFault loaded stop is = λ folder.
    subst (λ (x : Stop). Ends (uses_of (import name)) (IsOutcome (import name) (world s (as_loaded before mid) folder)) (world s (as_loaded before mid) folder) (Err x) (world s mid folder)) (sym is)
    (record { used = refl; source = refl; keeper = load_left before mid (Err refusals.KeeperFault) (risen before.faults) loaded loaded.faults; folder = refl })
load_stops some name s before mid refusals.OutOfMemory loaded stop is = λ folder.
    subst (λ (x : Stop). Ends (uses_of (import name)) (IsOutcome (import name) (world s (as_loaded before mid) folder)) (world s (as_loaded before mid) folder) (Err x) (world s mid folder)) (sym is)
    (untouched refl (load_left before mid (Err refusals.OutOfMemory) before.faults loaded loaded.faults) refl)

pub load_refused : SomeBatch → (name : List ℕ) (s : SourceView) (before mid : KeeperView) (refusal : MatterRefusal) (r : Ending) → LoadsTables before (Err refusal) mid → IsErr r → IsErrAnd r (StopsForMatter refusal) → ImportEnds name s before r s mid
load_refused some name s before mid refusal r loaded is stop =
    import_reads name s before mid r s mid (read_itself before mid loaded.same) (load_calls (uses_of (import name)) before mid (Err refusal) refl loaded)
    (by_stop (λ e. ImportWorks name s before mid e s mid) (StopsForMatter refusal) r is stop (load_stops some name s before mid refusal loaded))

-- ---- the tables were loaded, and memory ran out

lacks : (name : List ℕ) (s : SourceView) (before mid : KeeperView) (tables : Shown) → LoadsTables before (Ok tables) mid → ImportWorks name s before mid (Err stops.OutOfMemory) s mid
lacks name s before mid tables loaded = λ folder. untouched refl (load_left before mid (Ok tables) before.faults loaded loaded.faults) refl

pub lacked : (name : List ℕ) (s : SourceView) (before mid : KeeperView) (tables : Shown) (r : Ending) → LoadsTables before (Ok tables) mid → IsErr r → IsErrAnd r (λ x. x ≡ stops.OutOfMemory) → ImportEnds name s before r s mid
lacked name s before mid tables r loaded is stop =
    import_reads name s before mid r s mid (read_itself before mid loaded.same) (load_calls (uses_of (import name)) before mid (Ok tables) refl loaded)
    (by_stop (λ e. ImportWorks name s before mid e s mid) (λ x. x ≡ stops.OutOfMemory) r is stop
    (λ x same. subst (λ (y : Stop). ImportWorks name s before mid (Err y) s mid) (sym same) (lacks name s before mid tables loaded)))

-- ---- reading the batch stopped

told_rule : (told : Option FileMap) (name : List ℕ) (rule : Rule) → IfSome told (λ files. Comes {X = BatchShown} (λ b. b) (BatchAnswers files name) (Err (imports.Rule rule))) → IfSome told (λ there. BatchAnswers there name (Err rule))
told_rule None name rule is = tt
told_rule (Some files) name rule is = is

read_stops : (name text : List ℕ) (s s' : SourceView) (before mid : KeeperView) (tables : Shown) (refusal : ImportRefusal) → text ≡ chars name → IsValid tables.matter → LoadsTables before (Ok tables) mid
    → IfSome s.files (λ files. Comes {X = BatchShown} (λ b. b) (BatchAnswers files text) (Err refusal)) → s' ≡ after_step {X = BatchShown} s (Err refusal)
    → (stop : Stop) → StopsForBatch refusal stop → ImportWorks name s before mid (Err stop) s' mid
read_stops name text s s' before mid tables (imports.Rule rule) named valid loaded told now stop is = λ folder.
    subst (λ (x : Stop). Ends (uses_of (import name)) (IsOutcome (import name) (world s (as_loaded before mid) folder)) (world s (as_loaded before mid) folder) (Err x) (world s' mid folder)) (sym is)
    (record {
      outcome = record {
        tables = Ok tables.matter;
        loaded = valid;
        kept = kept_matter mid.rows tables valid loaded.told_after;
        batch = Err rule;
        found = subst (λ (t : List ℕ). IfSome s.files (λ there. BatchAnswers there t (Err rule))) named (told_rule s.files text rule told);
        gives = refl;
      };
      source = now;
      keeper = load_left before mid (Ok tables) before.faults loaded loaded.faults;
      quiet = loaded.commits;
      folder = refl;
    })
read_stops name text s s' before mid tables imports.SourceFault named valid loaded told now stop is = λ folder.
    subst (λ (x : Stop). Ends (uses_of (import name)) (IsOutcome (import name) (world s (as_loaded before mid) folder)) (world s (as_loaded before mid) folder) (Err x) (world s' mid folder)) (sym is)
    (record { used = refl; source = now; keeper = load_left before mid (Ok tables) before.faults loaded loaded.faults; folder = refl })
read_stops name text s s' before mid tables imports.OutOfMemory named valid loaded told now stop is = λ folder.
    subst (λ (x : Stop). Ends (uses_of (import name)) (IsOutcome (import name) (world s (as_loaded before mid) folder)) (world s (as_loaded before mid) folder) (Err x) (world s' mid folder)) (sym is)
    (untouched now (load_left before mid (Ok tables) before.faults loaded loaded.faults) refl)

pub read_refused : (name text : List ℕ) (s s' : SourceView) (before mid : KeeperView) (tables : Shown) (refusal : ImportRefusal) (r : Ending) → text ≡ chars name → IsValid tables.matter → LoadsTables before (Ok tables) mid
    → IfSome s.files (λ files. Comes {X = BatchShown} (λ b. b) (BatchAnswers files text) (Err refusal)) → s' ≡ after_step {X = BatchShown} s (Err refusal)
    → IsErr r → IsErrAnd r (StopsForBatch refusal) → ImportEnds name s before r s' mid
read_refused name text s s' before mid tables refusal r named valid loaded told now is stop =
    import_reads name s before mid r s' mid (read_itself before mid loaded.same) (load_calls (uses_of (import name)) before mid (Ok tables) refl loaded)
    (by_stop (λ e. ImportWorks name s before mid e s' mid) (StopsForBatch refusal) r is stop (read_stops name text s s' before mid tables refusal named valid loaded told now))

-- ---- the step stopped

told_batch : (told : Option FileMap) (name : List ℕ) (b : BatchShown) → IfSome told (λ files. Comes {X = BatchShown} (λ x. x) (BatchAnswers files name) (Ok b)) → IfSome told (λ there. BatchAnswers there name (Ok b))
told_batch None name b is = tt
told_batch (Some files) name b is = is

-- the outcome, by what the import of the batch comes to
outcome_of : (name text : List ℕ) (s : SourceView) (before mid : KeeperView) (tables : Shown) (b : BatchShown) (answer : Result Imported Rule) → text ≡ chars name → IsValid tables.matter → LoadsTables before (Ok tables) mid
    → IfSome s.files (λ files. Comes {X = BatchShown} (λ x. x) (BatchAnswers files text) (Ok b)) → import_of tables.matter b ≡ answer → ImportOutcome name s.files mid.rows (step_gives name tables.matter answer)
outcome_of name text s before mid tables b answer named valid loaded told is = record {
  tables = Ok tables.matter;
  loaded = valid;
  kept = kept_matter mid.rows tables valid loaded.told_after;
  batch = Ok b;
  found = subst (λ (t : List ℕ). IfSome s.files (λ there. BatchAnswers there t (Ok b))) named (told_batch s.files text b told);
  gives = ap (step_gives name tables.matter) is;
}

step_stops : (name text : List ℕ) (s s' : SourceView) (before mid k' : KeeperView) (tables : Shown) (b : BatchShown) (m' : Matter) (refusal : MatterRefusal) → text ≡ chars name → IsValid tables.matter → LoadsTables before (Ok tables) mid
    → IfSome s.files (λ files. Comes {X = BatchShown} (λ x. x) (BatchAnswers files text) (Ok b)) → s' ≡ s → StepsImport tables.matter b mid (Err refusal) m' k'
    → (stop : Stop) → StopsForMatter refusal stop → ImportWorks name s before mid (Err stop) s' k'
step_stops name text s s' before mid k' tables b m' (refusals.Rule rule) named valid loaded told now step stop is = λ folder.
    subst (λ (x : Stop). Ends (uses_of (import name)) (IsOutcome (import name) (world s (as_loaded before mid) folder)) (world s (as_loaded before mid) folder) (Err x) (world s' k' folder)) (sym is)
    (record {
      outcome = outcome_of name text s before mid tables b (Err rule) named valid loaded told step.0;
      source = now ∙ step_calm s tables.matter b rule step.0;
      keeper = subst (λ (k : KeeperView). KeeperLeft None before.faults (as_loaded before mid) k) (sym step.2) (load_left before mid (Ok tables) before.faults loaded loaded.faults);
      quiet = ap (λ (k : KeeperView). k.commits) step.2 ∙ loaded.commits;
      folder = refl;
    })
step_stops name text s s' before mid k' tables b m' refusals.KeeperFault named valid loaded told now step stop is = λ folder.
    subst (λ (x : Stop). Ends (uses_of (import name)) (IsOutcome (import name) (world s (as_loaded before mid) folder)) (world s (as_loaded before mid) folder) (Err x) (world s' k' folder)) (sym is)
    (record {
      used = refl;
      source = now;
      keeper = count_left (as_loaded before mid) k' (risen mid.faults) (risen before.faults) (ap risen loaded.faults) (stays_left before mid k' tables tables.matter m' (risen mid.faults) loaded step.1);
      folder = refl;
    })
step_stops name text s s' before mid k' tables b m' refusals.OutOfMemory named valid loaded told now step stop is = λ folder.
    subst (λ (x : Stop). Ends (uses_of (import name)) (IsOutcome (import name) (world s (as_loaded before mid) folder)) (world s (as_loaded before mid) folder) (Err x) (world s' k' folder)) (sym is)
    (untouched now (count_left (as_loaded before mid) k' mid.faults before.faults loaded.faults (stays_left before mid k' tables tables.matter m' mid.faults loaded step)) refl)

step_reads : (before mid k' : KeeperView) (tables : Shown) (b : BatchShown) (m' : Matter) (refusal : MatterRefusal) → LoadsTables before (Ok tables) mid → StepsImport tables.matter b mid (Err refusal) m' k' → RowsRead before.rows mid.rows k'.rows
step_reads before mid k' tables b m' (refusals.Rule rule) loaded step = read_same before mid k' loaded.same step.2
step_reads before mid k' tables b m' refusals.KeeperFault loaded step = read_left before mid k' loaded.same step.1.rows
step_reads before mid k' tables b m' refusals.OutOfMemory loaded step = read_left before mid k' loaded.same step.rows

stopped_calls : (name : List ℕ) (before mid k' : KeeperView) (tables : Shown) (b : BatchShown) (m' : Matter) (refusal : MatterRefusal) → LoadsTables before (Ok tables) mid → StepsImport tables.matter b mid (Err refusal) m' k' → CallsKeeper (uses_of (import name)) before k'
stopped_calls name before mid k' tables b m' (refusals.Rule rule) loaded step = quiet_calls (uses_of (import name)) before mid k' tables refl refl loaded step.2
stopped_calls name before mid k' tables b m' refusals.KeeperFault loaded step = step_calls (uses_of (import name)) before mid k' tables refl refl loaded step.1.loads step.1.commits
stopped_calls name before mid k' tables b m' refusals.OutOfMemory loaded step = step_calls (uses_of (import name)) before mid k' tables refl refl loaded step.loads step.commits

pub step_refused : (name text : List ℕ) (s s' : SourceView) (before mid k' : KeeperView) (tables : Shown) (b : BatchShown) (m' : Matter) (refusal : MatterRefusal) (r : Ending) → text ≡ chars name → IsValid tables.matter → LoadsTables before (Ok tables) mid
    → IfSome s.files (λ files. Comes {X = BatchShown} (λ x. x) (BatchAnswers files text) (Ok b)) → s' ≡ s → StepsImport tables.matter b mid (Err refusal) m' k'
    → IsErr r → IsErrAnd r (StopsForMatter refusal) → ImportEnds name s before r s' k'
step_refused name text s s' before mid k' tables b m' refusal r named valid loaded told now step is stop =
    import_reads name s before mid r s' k' (step_reads before mid k' tables b m' refusal loaded step) (stopped_calls name before mid k' tables b m' refusal loaded step)
    (by_stop (λ e. ImportWorks name s before mid e s' k') (StopsForMatter refusal) r is stop (step_stops name text s s' before mid k' tables b m' refusal named valid loaded told now step))

-- ---- the step was made

made_reads : (before mid k' : KeeperView) (tables : Shown) (b : BatchShown) (counted : Counted) (m' : Matter) → LoadsTables before (Ok tables) mid → ImportMade tables.matter b mid counted m' k' → RowsRead before.rows mid.rows k'.rows
made_reads before mid k' tables b counted m' loaded made = record { same = loaded.same; told = told_then (put_all (puts_of made.imported.change)) mid.rows k'.rows made.made.puts }

made_calls : (name : List ℕ) (before mid k' : KeeperView) (tables : Shown) (b : BatchShown) (counted : Counted) (m' : Matter) → LoadsTables before (Ok tables) mid → ImportMade tables.matter b mid counted m' k' → CallsKeeper (uses_of (import name)) before k'
made_calls name before mid k' tables b counted m' loaded made = step_calls (uses_of (import name)) before mid k' tables refl refl loaded made.made.loads made.made.commits

-- the rows of the matter after the import stand
made_left : (before mid k' : KeeperView) (tables : Shown) (b : BatchShown) (counted : Counted) (m' : Matter) → LoadsTables before (Ok tables) mid → (made : ImportMade tables.matter b mid counted m' k') → KeeperLeft (Some (rows_of (after tables.matter made.imported.change))) before.faults (as_loaded before mid) k'
made_left before mid k' tables b counted m' loaded made = record {
  rows = subst (λ (m : Matter). IfSome k'.rows (λ now. now ≡ rows_of m)) made.made.matter (made.made.kept (keeps_matter mid.rows tables loaded.told_after));
  faults = made.made.faults ∙ loaded.faults;
  sure = made.made.sure ∙ loaded.sure;
}

made_outcome : (name text : List ℕ) (s : SourceView) (before mid k' : KeeperView) (tables : Shown) (b : BatchShown) (counted : Counted) (m' : Matter) → text ≡ chars name → IsValid tables.matter → LoadsTables before (Ok tables) mid
    → IfSome s.files (λ files. Comes {X = BatchShown} (λ x. x) (BatchAnswers files text) (Ok b)) → (made : ImportMade tables.matter b mid counted m' k')
    → ImportOutcome name s.files mid.rows (done (imported_line name counted) [] (Some (rows_of (after tables.matter made.imported.change))))
made_outcome name text s before mid k' tables b counted m' named valid loaded told made =
    subst (λ (n : Counted). ImportOutcome name s.files mid.rows (done (imported_line name n) [] (Some (rows_of (after tables.matter made.imported.change))))) (sym made.numbers)
    (outcome_of name text s before mid tables b (Ok made.imported) named valid loaded told made.answer)

pub imports_made : (name text : List ℕ) (s s' : SourceView) (before mid k' : KeeperView) (tables : Shown) (b : BatchShown) (counted : Counted) (m' : Matter) (line : List ℕ) → text ≡ chars name → IsValid tables.matter → LoadsTables before (Ok tables) mid
    → IfSome s.files (λ files. Comes {X = BatchShown} (λ x. x) (BatchAnswers files text) (Ok b)) → s' ≡ s → ImportMade tables.matter b mid counted m' k' → line ≡ imported_line name counted → ImportEnds name s before (Ok line) s' k'
imports_made name text s s' before mid k' tables b counted m' line named valid loaded told now made printed = import_reads name s before mid (Ok line) s' k' (made_reads before mid k' tables b counted m' loaded made) (made_calls name before mid k' tables b counted m' loaded made) (λ folder.
    let rows : List Row = rows_of (after tables.matter made.imported.change) in
    record {
      files = [];
      rows = Some rows;
      outcome = subst (λ (l : List ℕ). ImportOutcome name s.files mid.rows (done l [] (Some rows))) (sym printed)
          (made_outcome name text s before mid k' tables b counted m' named valid loaded told made);
      source = now;
      keeper = made_left before mid k' tables b counted m' loaded made;
      folder = refl;
    })

-- and memory for the line ran out
pub line_lacked : (name text : List ℕ) (s s' : SourceView) (before mid k' : KeeperView) (tables : Shown) (b : BatchShown) (counted : Counted) (m' : Matter) (r : Ending) → text ≡ chars name → IsValid tables.matter → LoadsTables before (Ok tables) mid
    → IfSome s.files (λ files. Comes {X = BatchShown} (λ x. x) (BatchAnswers files text) (Ok b)) → s' ≡ s → ImportMade tables.matter b mid counted m' k' → IsErr r → IsErrAnd r (λ x. x ≡ stops.OutOfMemory) → ImportEnds name s before r s' k'
line_lacked name text s s' before mid k' tables b counted m' r named valid loaded told now made is stop =
    import_reads name s before mid r s' k' (made_reads before mid k' tables b counted m' loaded made) (made_calls name before mid k' tables b counted m' loaded made)
    (by_stop (λ e. ImportWorks name s before mid e s' k') (λ x. x ≡ stops.OutOfMemory) r is stop
    (λ x same. subst (λ (y : Stop). ImportWorks name s before mid (Err y) s' k') (sym same)
    (λ folder. kept (imported_line name counted) [] (Some (rows_of (after tables.matter made.imported.change)))
    (made_outcome name text s before mid k' tables b counted m' named valid loaded told made) now (made_left before mid k' tables b counted m' loaded made) refl)))
