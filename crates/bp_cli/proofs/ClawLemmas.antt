-- Lemmas of claw: from what loading the tables, reading the notice and replacing gave to the outcome of
-- the command.
use Rattle.std.proofs.Common.{ℕ, ◌≡◌, ◌≤◌, ◌+◌, Bool, true, false, cond, not, List, [], ◌∷◌, ◌++◌, length, Option, Some, None, Result, Ok, Err, refl, sym, ap, subst, ◌∙◌, inl, inr}
use Rattle.std.specs.FinMap as map
use Rattle.std.specs.Prelude.{IfSome}
use Rattle.std.specs.Result.{IsErr, IsErrAnd}
use Rattle.bp_core.specs.Counts.{risen}
use Rattle.bp_core.specs.InTurn.{first_then, read_each}
use Rattle.bp_core.specs.Paths.{path_in}
use Rattle.bp_core.specs.Rules.{bare_rule, not_produced_rule, notice_twice_rule, rule_at_line}
use Rattle.bp_core.specs.declared.kept.Row.{Row}
use Rattle.bp_core.specs.declared.rules.Rule.{Rule}
use Rattle.bp_core.specs.declared.rules.RuleKind.TheVariants as kinds
use Rattle.csv.specs.Reading.{default_config, records, strip_bom}
use Rattle.bp_outside.specs.Folder.{FolderView}
use Rattle.bp_outside.specs.Source.{FileMap, ReadOver, SourceView, after_read}
use Rattle.bp_outside.specs.declared.refusals.ReadRefusal.{ReadRefusal}
use Rattle.bp_outside.specs.declared.refusals.ReadRefusal.TheVariants as reads
use Rattle.bp_import.specs.Importing.{after_kind}
use Rattle.bp_keep.specs.Keeper.{KeeperView}
use Rattle.bp_matter.specs.KeptRows.{rows_of}
use Rattle.bp_matter.specs.Matter.{Matter, Shown}
use Rattle.bp_matter.specs.Texts.{is_volume}
use Rattle.bp_matter.specs.Valid.{IsValid}
use Rattle.bp_matter.specs.declared.rows.Production.{Production}
use Rattle.bp_freeze.specs.Freezing.{kept_production}
use Rattle.bp_freeze.specs.Refusals.{first_rule, is_taken, unless}
use Rattle.bp_rules.specs.Loading.{LoadsTables}
use Rattle.bp_rules.specs.declared.refusals.MatterRefusal.{MatterRefusal}
use Rattle.bp_rules.specs.declared.refusals.MatterRefusal.TheVariants as refusals
use Rattle.bp_claw.specs.Claims.{is_named}
use Rattle.bp_claw.specs.NoticeFiles.{claim_of, claims_by, claims_of, notice_of, some_claims}
use Rattle.bp_claw.specs.Refusing.{claim_rule, claims_rule, is_shown, replace_rule, rule_or, volume_rule}
use Rattle.bp_claw.specs.Replacement.{replacement_of}
use Rattle.bp_claw.specs.declared.notices.Claim.{Claim}
use Rattle.bp_claw.proofs.AgreeLemmas.{replacement-same}
use Rattle.bp_cli.specs.declared.stops.Stop.{Stop}
use Rattle.bp_cli.specs.declared.stops.Stop.TheVariants as stops
use Rattle.bp_cli.specs.declared.burn.TheConstants.{FILE_LIMIT}
use Rattle.bp_cli.specs.Claw.{ClawAsked, ClawOutcome, ShowSameBut, claw_gives, file_gives, notice_gives, replaced_unless, replacement_done}
use Rattle.bp_cli.specs.ClawSteps.{PutsReplacement, ReadsFile, ReplacesAfter, ReplacesBy, StopsAtNotice, all_added, none_added, some_added}
use Rattle.bp_cli.specs.Commands.{claw, uses_of, IsOutcome, ReadsAndWorks}
use Rattle.bp_cli.specs.Endings.{Ending, Ends, Outcome, World, done, partly, refused, untouched, wholly, world}
use Rattle.bp_cli.specs.Kept.{MatterAnswers, OfTwo}
use Rattle.bp_cli.specs.NamedFiles.{NamedFileAnswers}
use Rattle.bp_cli.specs.Press.{kept_gives}
use Rattle.bp_cli.specs.Stops.{StopsForMatter, read_stop}
use Rattle.bp_cli.proofs.KeptLemmas.{as_loaded, by_stop, kept_matter, kept_rule, load_calls, load_calm, load_left, read_itself}
use Rattle.bp_cli.proofs.NamedFileLemmas.{absent_at, at_path, bytes_at, long_at, one_file, some_file}

-- claw over what is known, with the rows as they were loaded
abbrev known : SourceView → KeeperView → KeeperView → FolderView → World
known s before mid folder = world s (as_loaded before mid) folder

abbrev pub ClawWorks : ClawAsked → SourceView → KeeperView → KeeperView → FolderView → Ending → SourceView → FolderView → Type 0
ClawWorks asked s before mid folder r s' folder' =
    Ends (uses_of (claw asked)) (IsOutcome (claw asked) (known s before mid folder)) (known s before mid folder) r (world s' mid folder')

abbrev pub ClawEnds : ClawAsked → SourceView → KeeperView → KeeperView → FolderView → Ending → SourceView → FolderView → Type 0
ClawEnds asked s before mid folder r s' folder' = ReadsAndWorks (Some (claw asked)) (world s before folder) r (world s' mid folder')

-- the keeper is asked for its rows alone
pub claw_reads : (asked : ClawAsked) (s s' : SourceView) (before mid : KeeperView) (folder folder' : FolderView) (loads : Result Shown MatterRefusal) (r : Ending) → LoadsTables before loads mid
    → ClawWorks asked s before mid folder r s' folder' → ClawEnds asked s before mid folder r s' folder'
claw_reads asked s s' before mid folder folder' loads r loaded works = record {
  read = mid.rows;
  rows = read_itself before mid loaded.same;
  left = works;
  calls = load_calls (uses_of (claw asked)) before mid loads refl loaded;
}

-- ---- the file of the notice

pub file_came : (named path : List ℕ) (before after : SourceView) (bytes : List ℕ) → path_in named ≡ Some path → length bytes ≤ FILE_LIMIT → IfSome before.files (λ files. map.get files path ≡ Some bytes) → after ≡ before → ReadsFile named before (Ok bytes) after
file_came named path before after bytes is short there stays = (at_path before.files named path (Ok bytes) is (bytes_at before.files path bytes short there), stays)

pub file_unread : (named path : List ℕ) (before after : SourceView) (refusal : ReadRefusal) → path_in named ≡ Some path → IfSome before.files (ReadOver path FILE_LIMIT (Err refusal)) → after ≡ after_read before (Err refusal) → ReadsFile named before (Err (read_stop refusal)) after
file_unread named path before after reads.Absent is there left = (at_path before.files named path (Err (bare_rule kinds.FileAbsent)) is (absent_at before.files path there), left)
file_unread named path before after reads.TooLong is there left = (at_path before.files named path (Err (bare_rule kinds.FileTooLong)) is (long_at before.files path there), left)
file_unread named path before after reads.Failed is there left = left
file_unread named path before after reads.OutOfMemory is there left = left

-- ---- rules that raise no count

same_rule : (r rule : Rule) → Some r ≡ Some rule → r ≡ rule
same_rule r rule is = cc

calm_of : (source : SourceView) (r rule : Rule) → source ≡ after_kind source r.kind → Some r ≡ Some rule → source ≡ after_kind source rule.kind
calm_of source r rule calm is = calm ∙ ap (λ (x : Rule). after_kind source x.kind) (same_rule r rule is)

shape_kind : (source : SourceView) (number : ℕ) (pieces : List (List (List ℕ))) (rule : Rule) → read_each claim_of (rule_at_line kinds.NoticeShape) number pieces ≡ Err rule → source ≡ after_kind source rule.kind
shape_kind source number [] rule is = absurd cc
shape_kind source number (piece ∷ pieces) rule is = by_first (claim_of piece) (read_each claim_of (rule_at_line kinds.NoticeShape) (number + 1) pieces) (shape_kind source (number + 1) pieces rule) is
  where
    by_first : (found : Option Claim) (rest : Result (List Claim) Rule) → (rest ≡ Err rule → source ≡ after_kind source rule.kind)
        → first_then found (rule_at_line kinds.NoticeShape number) rest ≡ Err rule → source ≡ after_kind source rule.kind
    by_first None rest more at =
        let same : rule_at_line kinds.NoticeShape number ≡ rule = cc in
        ap (λ (x : Rule). after_kind source x.kind) same
    by_first (Some claim) (Ok others) more at = absurd cc
    by_first (Some claim) (Err other) more at =
        let same : other ≡ rule = cc in
        more (ap (λ (x : Rule). Err x) same)

empty_kind : (source : SourceView) (claims : List Claim) (rule : Rule) → some_claims claims ≡ Err rule → source ≡ after_kind source rule.kind
empty_kind source [] rule is =
    let same : bare_rule kinds.NoticeEmpty ≡ rule = cc in
    ap (λ (x : Rule). after_kind source x.kind) same
empty_kind source (claim ∷ claims) rule is = absurd cc

notice_by : (source : SourceView) (read : Result (List Claim) Rule) (rule : Rule) → (read ≡ Err rule → source ≡ after_kind source rule.kind) → claims_by read ≡ Err rule → source ≡ after_kind source rule.kind
notice_by source (Ok claims) rule calm is = empty_kind source claims rule is
notice_by source (Err other) rule calm is =
    let same : other ≡ rule = cc in
    calm (ap (λ (x : Rule). Err x) same)

notice_calm : (source : SourceView) (bytes : List ℕ) (rule : Rule) → notice_of bytes ≡ Err rule → source ≡ after_kind source rule.kind
notice_calm source bytes rule is = notice_by source (claims_of bytes) rule (shape_kind source 1 (records default_config (strip_bom bytes)) rule) is

claim_calm : (source : SourceView) (place : ℕ) (claim : Claim) (rule : Rule) (twice shown : Bool) → cond twice (Some (notice_twice_rule place claim.doc.0)) (unless shown (not_produced_rule place claim.doc.0)) ≡ Some rule → source ≡ after_kind source rule.kind
claim_calm source place claim rule true shown is = calm_of source (notice_twice_rule place claim.doc.0) rule refl is
claim_calm source place claim rule false true is = absurd cc
claim_calm source place claim rule false false is = calm_of source (not_produced_rule place claim.doc.0) rule refl is

or_calm : (source : SourceView) (one other : Option Rule) (rule : Rule) → (one ≡ Some rule → source ≡ after_kind source rule.kind) → (other ≡ Some rule → source ≡ after_kind source rule.kind)
    → rule_or one other ≡ Some rule → source ≡ after_kind source rule.kind
or_calm source None other rule first second is = second is
or_calm source (Some r) other rule first second is = first is

claims_calm : (source : SourceView) (f : Production) (before : List Claim) (place : ℕ) (claims : List Claim) (rule : Rule) → claims_rule f before place claims ≡ Some rule → source ≡ after_kind source rule.kind
claims_calm source f before place [] rule is = absurd cc
claims_calm source f before place (claim ∷ claims) rule is =
    or_calm source (claim_rule f before place claim) _ rule (claim_calm source place claim rule (is_named before claim.doc.0) (is_shown f claim.doc.0))
    (claims_calm source f (before ++ claim ∷ []) (place + 1) claims rule) is

volume_calm : (source : SourceView) (rule : Rule) (named free : Bool) → first_rule (unless named (bare_rule kinds.BadVolume) ∷ unless free (bare_rule kinds.VolumeTaken) ∷ []) ≡ Some rule → source ≡ after_kind source rule.kind
volume_calm source rule false free is = calm_of source (bare_rule kinds.BadVolume) rule refl is
volume_calm source rule true false is = calm_of source (bare_rule kinds.VolumeTaken) rule refl is
volume_calm source rule true true is = absurd cc

replace_calm : (source : SourceView) (m : Matter) (f : Production) (volume : List ℕ) (notice : List Claim) (rule : Rule) → replace_rule m f volume notice ≡ Some rule → source ≡ after_kind source rule.kind
replace_calm source m f volume notice rule is =
    or_calm source (volume_rule m volume) (claims_rule f [] 1 notice) rule (volume_calm source rule (is_volume volume) (not (is_taken m.productions volume)))
    (claims_calm source f [] 1 notice rule) is

-- ---- loading stopped

load_stops : (asked : ClawAsked) (s : SourceView) (before mid : KeeperView) (folder : FolderView) (refusal : MatterRefusal) → LoadsTables before (Err refusal) mid → (stop : Stop) → StopsForMatter refusal stop
    → ClawWorks asked s before mid folder (Err stop) s folder
load_stops asked s before mid folder (refusals.Rule rule) loaded stop is =
    subst (λ (x : Stop). ClawWorks asked s before mid folder (Err x) s folder) (sym is)
    (let found = some_file s.files asked.notice in
    record {
      outcome = record { tables = Err rule; loaded = loaded.rule; kept = kept_rule mid.rows rule loaded.told_after; file = found.0; found = found.1; gives = refl };
      source = load_calm s rule.kind loaded.rule;
      keeper = load_left before mid (Err (refusals.Rule rule)) before.faults loaded loaded.faults;
      quiet = loaded.commits;
      folder = refl;
    })
load_stops asked s before mid folder refusals.KeeperFault loaded stop is =
    subst (λ (x : Stop). ClawWorks asked s before mid folder (Err x) s folder) (sym is)
    (record { used = refl; source = refl; keeper = load_left before mid (Err refusals.KeeperFault) (risen before.faults) loaded loaded.faults; folder = refl })
load_stops asked s before mid folder refusals.OutOfMemory loaded stop is =
    subst (λ (x : Stop). ClawWorks asked s before mid folder (Err x) s folder) (sym is)
    (untouched refl (load_left before mid (Err refusals.OutOfMemory) before.faults loaded loaded.faults) refl)

pub load_refused : (asked : ClawAsked) (s : SourceView) (before mid : KeeperView) (folder : FolderView) (refusal : MatterRefusal) (r : Ending) → LoadsTables before (Err refusal) mid → IsErr r → IsErrAnd r (StopsForMatter refusal)
    → ClawEnds asked s before mid folder r s folder
load_refused asked s before mid folder refusal r loaded is stop =
    claw_reads asked s s before mid folder folder (Err refusal) r loaded
    (by_stop (λ e. ClawWorks asked s before mid folder e s folder) (StopsForMatter refusal) r is stop (load_stops asked s before mid folder refusal loaded))

-- ---- the tables were loaded

-- memory ran out before a file was added
lacks : (asked : ClawAsked) (s s' : SourceView) (before mid : KeeperView) (folder : FolderView) (tables : Shown) → LoadsTables before (Ok tables) mid → s' ≡ s → ClawWorks asked s before mid folder (Err stops.OutOfMemory) s' folder
lacks asked s s' before mid folder tables loaded now = untouched now (load_left before mid (Ok tables) before.faults loaded loaded.faults) refl

pub lacked : (asked : ClawAsked) (s s' : SourceView) (before mid : KeeperView) (folder : FolderView) (tables : Shown) (r : Ending) → LoadsTables before (Ok tables) mid → s' ≡ s → IsErr r → IsErrAnd r (λ x. x ≡ stops.OutOfMemory)
    → ClawEnds asked s before mid folder r s' folder
lacked asked s s' before mid folder tables r loaded now is stop =
    claw_reads asked s s' before mid folder folder (Ok tables) r loaded
    (by_stop (λ e. ClawWorks asked s before mid folder e s' folder) (λ x. x ≡ stops.OutOfMemory) r is stop
    (λ x same. subst (λ (y : Stop). ClawWorks asked s before mid folder (Err y) s' folder) (sym same) (lacks asked s s' before mid folder tables loaded now)))

-- the outcome, by the file that was read
outcome_of : (asked : ClawAsked) (s : SourceView) (before mid : KeeperView) (tables : Shown) (file : Result (List ℕ) Rule) (outcome : Outcome) → IsValid tables.matter → LoadsTables before (Ok tables) mid
    → NamedFileAnswers s.files asked.notice file → file_gives asked tables.matter file ≡ outcome → ClawOutcome asked s.files mid.rows outcome
outcome_of asked s before mid tables file outcome valid loaded found gives = record {
  tables = Ok tables.matter;
  loaded = valid;
  kept = kept_matter mid.rows tables valid loaded.told_after;
  file = file;
  found = found;
  gives = gives;
}

file_stops : (asked : ClawAsked) (s s' : SourceView) (before mid : KeeperView) (folder : FolderView) (tables : Shown) (stop : Stop) → IsValid tables.matter → LoadsTables before (Ok tables) mid → ReadsFile asked.notice s (Err stop) s'
    → ClawWorks asked s before mid folder (Err stop) s' folder
file_stops asked s s' before mid folder tables (stops.Broken rule) valid loaded read = record {
  outcome = outcome_of asked s before mid tables (Err rule) (refused rule) valid loaded read.0 refl;
  source = read.1;
  keeper = load_left before mid (Ok tables) before.faults loaded loaded.faults;
  quiet = loaded.commits;
  folder = refl;
}
file_stops asked s s' before mid folder tables stops.SourceFault valid loaded read =
    record { used = refl; source = read; keeper = load_left before mid (Ok tables) before.faults loaded loaded.faults; folder = refl }
file_stops asked s s' before mid folder tables stops.OutOfMemory valid loaded read = lacks asked s s' before mid folder tables loaded read
file_stops asked s s' before mid folder tables stops.WordsRefused valid loaded read = absurd read
file_stops asked s s' before mid folder tables stops.FolderFault valid loaded read = absurd read
file_stops asked s s' before mid folder tables stops.KeeperFault valid loaded read = absurd read

pub file_refused : (asked : ClawAsked) (s s' : SourceView) (before mid : KeeperView) (folder : FolderView) (tables : Shown) (stop : Stop) (r : Ending) → IsValid tables.matter → LoadsTables before (Ok tables) mid → ReadsFile asked.notice s (Err stop) s'
    → IsErr r → IsErrAnd r (λ x. x ≡ stop) → ClawEnds asked s before mid folder r s' folder
file_refused asked s s' before mid folder tables stop r valid loaded read is same =
    claw_reads asked s s' before mid folder folder (Ok tables) r loaded
    (by_stop (λ e. ClawWorks asked s before mid folder e s' folder) (λ x. x ≡ stop) r is same
    (λ x at. subst (λ (y : Stop). ClawWorks asked s before mid folder (Err y) s' folder) (sym at) (file_stops asked s s' before mid folder tables stop valid loaded read)))

-- ---- the file was read

-- a rule that raises no count is met
met : (asked : ClawAsked) (s s' : SourceView) (before mid : KeeperView) (folder : FolderView) (tables : Shown) (bytes : List ℕ) (rule : Rule) → IsValid tables.matter → LoadsTables before (Ok tables) mid → ReadsFile asked.notice s (Ok bytes) s'
    → file_gives asked tables.matter (Ok bytes) ≡ refused rule → s ≡ after_kind s rule.kind → ClawWorks asked s before mid folder (Err (stops.Broken rule)) s' folder
met asked s s' before mid folder tables bytes rule valid loaded read gives calm = record {
  outcome = outcome_of asked s before mid tables (Ok bytes) (refused rule) valid loaded read.0 gives;
  source = read.1 ∙ calm;
  keeper = load_left before mid (Ok tables) before.faults loaded loaded.faults;
  quiet = loaded.commits;
  folder = refl;
}

pub not_kept : (asked : ClawAsked) (s s' : SourceView) (before mid : KeeperView) (folder : FolderView) (tables : Shown) (bytes : List ℕ) → IsValid tables.matter → LoadsTables before (Ok tables) mid → ReadsFile asked.notice s (Ok bytes) s'
    → kept_production tables.matter.productions asked.id ≡ None → ClawEnds asked s before mid folder (Err (stops.Broken (bare_rule kinds.NoProduction))) s' folder
not_kept asked s s' before mid folder tables bytes valid loaded read none =
    claw_reads asked s s' before mid folder folder (Ok tables) (Err (stops.Broken (bare_rule kinds.NoProduction))) loaded
    (met asked s s' before mid folder tables bytes (bare_rule kinds.NoProduction) valid loaded read (ap (kept_gives (λ f. notice_gives asked.volume tables.matter f (notice_of bytes))) none) refl)

-- what the replacement of a production comes to
abbrev due : ClawAsked → Matter → Production → List Claim → Outcome
due asked m f notice = replacement_done asked.volume f (replacement_of f notice asked.volume m)

files_work : (asked : ClawAsked) (s s' : SourceView) (before mid : KeeperView) (folder folder' : FolderView) (tables : Shown) (bytes : List ℕ) (f : Production) (notice : List Claim) (r : Ending)
    → IsValid tables.matter → LoadsTables before (Ok tables) mid → ReadsFile asked.notice s (Ok bytes) s'
    → file_gives asked tables.matter (Ok bytes) ≡ replaced_unless (replace_rule tables.matter f asked.volume notice) asked.volume f (replacement_of f notice asked.volume tables.matter)
    → PutsReplacement asked.volume tables.matter f notice folder r folder' → ClawWorks asked s before mid folder r s' folder'
files_work asked s s' before mid folder folder' tables bytes f notice (Ok line) valid loaded read gives puts =
    let files = replacement_of f notice asked.volume tables.matter in
    record {
      files = files;
      rows = None;
      outcome = outcome_of asked s before mid tables (Ok bytes) (done line files None) valid loaded read.0
          (gives ∙ ap (λ (o : Option Rule). replaced_unless o asked.volume f files) puts.0 ∙ ap (λ (l : List ℕ). done l files None) (sym puts.1));
      source = read.1;
      keeper = load_left before mid (Ok tables) before.faults loaded loaded.faults;
      folder = puts.2;
    }
files_work asked s s' before mid folder folder' tables bytes f notice (Err (stops.Broken rule)) valid loaded read gives puts =
    let files = replacement_of f notice asked.volume tables.matter in
    subst (λ (view : FolderView). ClawWorks asked s before mid folder (Err (stops.Broken rule)) s' view) (sym puts.1)
    (met asked s s' before mid folder tables bytes rule valid loaded read (gives ∙ ap (λ (o : Option Rule). replaced_unless o asked.volume f files) puts.0)
    (replace_calm s tables.matter f asked.volume notice rule puts.0))
files_work asked s s' before mid folder folder' tables bytes f notice (Err stops.FolderFault) valid loaded read gives puts =
    let files = replacement_of f notice asked.volume tables.matter in
    record {
      line = _;
      files = files;
      rows = None;
      outcome = outcome_of asked s before mid tables (Ok bytes) (due asked tables.matter f notice) valid loaded read.0 (gives ∙ ap (λ (o : Option Rule). replaced_unless o asked.volume f files) puts.0);
      source = read.1;
      keeper = load_left before mid (Ok tables) before.faults loaded loaded.faults;
      folder = puts.1;
    }
files_work asked s s' before mid folder folder' tables bytes f notice (Err stops.OutOfMemory) valid loaded read gives puts =
    let files = replacement_of f notice asked.volume tables.matter in
    let left = load_left before mid (Ok tables) before.faults loaded loaded.faults in
    let comes : replace_rule tables.matter f asked.volume notice ≡ None → ClawOutcome asked s.files mid.rows (due asked tables.matter f notice) = λ none. outcome_of asked s before mid tables (Ok bytes) (due asked tables.matter f notice) valid loaded read.0 (gives ∙ ap (λ (o : Option Rule). replaced_unless o asked.volume f files) none) in
    elim puts [
      | none_added same ↦ untouched read.1 left same
      | some_added none part ↦ partly _ files None (comes none) read.1 left part
      | all_added none whole ↦ wholly _ files None (comes none) read.1 left whole
    ]
files_work asked s s' before mid folder folder' tables bytes f notice (Err stops.WordsRefused) valid loaded read gives puts = absurd puts
files_work asked s s' before mid folder folder' tables bytes f notice (Err stops.SourceFault) valid loaded read gives puts = absurd puts
files_work asked s s' before mid folder folder' tables bytes f notice (Err stops.KeeperFault) valid loaded read gives puts = absurd puts

rule_works : (asked : ClawAsked) (s s' : SourceView) (before mid : KeeperView) (folder folder' : FolderView) (tables : Shown) (bytes : List ℕ) (rule : Rule) (r : Ending)
    → IsValid tables.matter → LoadsTables before (Ok tables) mid → ReadsFile asked.notice s (Ok bytes) s'
    → file_gives asked tables.matter (Ok bytes) ≡ refused rule → s ≡ after_kind s rule.kind → StopsAtNotice rule folder r folder' → ClawWorks asked s before mid folder r s' folder'
rule_works asked s s' before mid folder folder' tables bytes rule (Ok line) valid loaded read gives calm stops = absurd stops
rule_works asked s s' before mid folder folder' tables bytes rule (Err stop) valid loaded read gives calm at =
    subst (λ (view : FolderView). ClawWorks asked s before mid folder (Err stop) s' view) (sym at.1)
    (elim at.0 [
      | inl broken ↦ subst (λ (x : Stop). ClawWorks asked s before mid folder (Err x) s' folder) (sym broken) (met asked s s' before mid folder tables bytes rule valid loaded read gives calm)
      | inr memory ↦ subst (λ (x : Stop). ClawWorks asked s before mid folder (Err x) s' folder) (sym memory) (lacks asked s s' before mid folder tables loaded read.1)
    ])

notice_works : (asked : ClawAsked) (s s' : SourceView) (before mid : KeeperView) (folder folder' : FolderView) (tables : Shown) (bytes : List ℕ) (f : Production) (answer : Result (List Claim) Rule) (r : Ending)
    → notice_of bytes ≡ answer → IsValid tables.matter → LoadsTables before (Ok tables) mid → ReadsFile asked.notice s (Ok bytes) s'
    → file_gives asked tables.matter (Ok bytes) ≡ notice_gives asked.volume tables.matter f answer
    → ReplacesBy asked.volume tables.matter f answer folder r folder' → ClawWorks asked s before mid folder r s' folder'
notice_works asked s s' before mid folder folder' tables bytes f (Ok notice) r is valid loaded read gives puts = files_work asked s s' before mid folder folder' tables bytes f notice r valid loaded read gives puts
notice_works asked s s' before mid folder folder' tables bytes f (Err rule) r is valid loaded read gives puts = rule_works asked s s' before mid folder folder' tables bytes rule r valid loaded read gives (notice_calm s bytes rule is) puts

pub replaced_ends : (asked : ClawAsked) (s s' : SourceView) (before mid : KeeperView) (folder folder' : FolderView) (tables : Shown) (bytes : List ℕ) (f : Production) (r : Ending)
    → IsValid tables.matter → LoadsTables before (Ok tables) mid → ReadsFile asked.notice s (Ok bytes) s' → kept_production tables.matter.productions asked.id ≡ Some f
    → ReplacesAfter asked.volume tables.matter f bytes folder r folder' → ClawEnds asked s before mid folder r s' folder'
replaced_ends asked s s' before mid folder folder' tables bytes f r valid loaded read kept puts =
    claw_reads asked s s' before mid folder folder' (Ok tables) r loaded
    (notice_works asked s s' before mid folder folder' tables bytes f (notice_of bytes) r refl valid loaded read (ap (kept_gives (λ g. notice_gives asked.volume tables.matter g (notice_of bytes))) kept) puts)

-- ---- one outcome, and the same over two matters that differ in what a notice names alone

pub claw_one : (asked : ClawAsked) (files : FileMap) (rows : List Row) (o o' : Outcome) → ((a b : Result Matter Rule) → MatterAnswers rows a → MatterAnswers rows b → a ≡ b)
    → ClawOutcome asked (Some files) (Some rows) o → ClawOutcome asked (Some files) (Some rows) o' → o ≡ o'
claw_one asked files rows o o' one x y =
    sym x.gives ∙ ap (λ (t : Result Matter Rule). claw_gives asked t x.file) (one x.tables y.tables x.kept y.kept)
    ∙ ap (claw_gives asked y.tables) (one_file files asked.notice x.file y.file x.found y.found) ∙ y.gives

same_notice : (asked : ClawAsked) (files : FileMap) (m n : Matter) (f : Production) (bytes : List ℕ) (answer : Result (List Claim) Rule) → notice_of bytes ≡ answer → kept_production m.productions asked.id ≡ Some f
    → NamedFileAnswers (Some files) asked.notice (Ok bytes) → ShowSameBut asked files m n → notice_gives asked.volume m f answer ≡ notice_gives asked.volume n f answer
same_notice asked files m n f bytes (Err rule) is kept found same = refl
same_notice asked files m n f bytes (Ok notice) is kept found same =
    let v = asked.volume in
    ap (λ (t : Bool). replaced_unless (rule_or (first_rule (unless (is_volume v) (bare_rule kinds.BadVolume) ∷ unless (not t) (bare_rule kinds.VolumeTaken) ∷ [])) (claims_rule f [] 1 notice)) v f (replacement_of f notice v m)) same.taken
    ∙ ap (replaced_unless (replace_rule n f v notice) v f) (replacement-same f notice v m n (same.shown f bytes notice kept found is))

same_kept : (asked : ClawAsked) (files : FileMap) (m n : Matter) (bytes : List ℕ) (kept : Option Production) → kept_production m.productions asked.id ≡ kept → NamedFileAnswers (Some files) asked.notice (Ok bytes) → ShowSameBut asked files m n
    → kept_gives (λ f. notice_gives asked.volume m f (notice_of bytes)) kept ≡ kept_gives (λ f. notice_gives asked.volume n f (notice_of bytes)) kept
same_kept asked files m n bytes None is found same = refl
same_kept asked files m n bytes (Some f) is found same = same_notice asked files m n f bytes (notice_of bytes) refl is found same

pub same_clawed : (asked : ClawAsked) (files : FileMap) (m n : Matter) (file : Result (List ℕ) Rule) → NamedFileAnswers (Some files) asked.notice file → ShowSameBut asked files m n → file_gives asked m file ≡ file_gives asked n file
same_clawed asked files m n (Err rule) found same = refl
same_clawed asked files m n (Ok bytes) found same =
    same_kept asked files m n bytes (kept_production m.productions asked.id) refl found same
    ∙ ap (kept_gives (λ f. notice_gives asked.volume n f (notice_of bytes))) same.production

pub claw_alike : (asked : ClawAsked) (files : FileMap) (rows rows' : List Row) (other : Outcome) → ((a b : Result Matter Rule) → MatterAnswers rows' a → MatterAnswers rows' b → a ≡ b)
    → ((there : List Row) (m : Matter) → IsValid m → there ≡ rows_of m → MatterAnswers there (Ok m))
    → OfTwo (ShowSameBut asked files) rows rows' → ClawOutcome asked (Some files) (Some rows') other → ClawOutcome asked (Some files) (Some rows) other
claw_alike asked files rows rows' other one answers both comes =
    let tables : comes.tables ≡ Ok both.two = one comes.tables (Ok both.two) comes.kept (answers rows' both.two both.valid' both.kept') in
    record {
      tables = Ok both.one;
      loaded = both.valid;
      kept = answers rows both.one both.valid both.kept;
      file = comes.file;
      found = comes.found;
      gives = same_clawed asked files both.one both.two comes.file comes.found both.holds ∙ ap (λ (t : Result Matter Rule). claw_gives asked t comes.file) (sym tables) ∙ comes.gives;
    }
