-- Lemmas of delivering: from what loading the tables, reading the file of grants, opening the desk and
-- serving the door gave to how the work of deliver ends.
use Rattle.std.proofs.Common.{ℕ, ◌≡◌, ◌≤◌, ◌+◌, ◌++◌, ◌==◌, if◌then◌else◌, Bool, true, false, List, [], ◌∷◌, length, Option, Some, None, Result, Ok, Err, refl, sym, ap, subst, ◌∙◌, arith}
use Rattle.std.specs.Prelude.{IfSome, IsTrue, not, is_none, is_some, nat_le}
use Rattle.std.specs.FinMap as map
use Rattle.std.specs.List.{list_any}
use Rattle.std.specs.Result.{IsErr, IsErrAnd}
use Rattle.csv.specs.Reading.{default_config, records, strip_bom}
use Rattle.bp_core.specs.Answers.{Answers}
use Rattle.bp_core.specs.Counts.{risen}
use Rattle.bp_core.specs.InTurn.{first_then, onto, read_each}
use Rattle.bp_core.specs.Paths.{path_in}
use Rattle.bp_core.specs.Rules.{bare_rule, rule_at_line}
use Rattle.bp_core.specs.declared.refusals.Refusal.{Refusal}
use Rattle.bp_core.specs.declared.refusals.Refusal.TheVariants as refusals
use Rattle.bp_core.specs.declared.rules.Rule.{Rule}
use Rattle.bp_core.specs.declared.rules.RuleKind.{RuleKind}
use Rattle.bp_core.specs.declared.rules.RuleKind.TheVariants as kinds
use Rattle.bp_core.specs.Sorted.{find_key}
use Rattle.bp_core.specs.RuleSteps.{◌>>=◌}
use Rattle.bp_import.specs.Importing.{after_kind}
use Rattle.bp_keep.specs.Keeper.{KeeperView}
use Rattle.bp_matter.specs.KeptRows.{rows_of}
use Rattle.bp_matter.specs.Matter.{Matter, Shown, staff_key}
use Rattle.bp_matter.specs.Valid.{IsValid}
use Rattle.bp_freeze.specs.Freezing.{kept_production}
use Rattle.bp_outside.specs.Door.{DoorView}
use Rattle.bp_outside.specs.Out.{OutView}
use Rattle.bp_outside.specs.Source.{ReadOver, SourceView, after_read}
use Rattle.bp_outside.specs.declared.refusals.ReadRefusal.{ReadRefusal}
use Rattle.bp_outside.specs.declared.refusals.ReadRefusal.TheVariants as reads
use Rattle.bp_receiver.specs.EventServing.{DeliversDoor, desk_view}
use Rattle.bp_receiver.specs.Events.{Holding}
use Rattle.bp_receiver.specs.GrantFiles.{grant_of_record, grants_in}
use Rattle.bp_receiver.specs.Granting.{at_record, grant_each, grant_of, grants_full, is_receiver_row}
use Rattle.bp_receiver.specs.Laws.{EventsLaw, WantLaw}
use Rattle.bp_receiver.specs.Receiving.{is_granted}
use Rattle.bp_receiver.specs.declared.grants.Grant.{Grant}
use Rattle.bp_receiver.specs.declared.grants.TheConstants.{MAX_GRANTS}
use Rattle.bp_rules.specs.Loading.{LoadsTables}
use Rattle.bp_rules.specs.Refusing.{refused}
use Rattle.bp_rules.specs.Steps.{KeepsRows, once}
use Rattle.bp_rules.specs.declared.refusals.MatterRefusal.{MatterRefusal}
use Rattle.bp_rules.specs.declared.refusals.MatterRefusal.TheVariants as matters
use Rattle.bp_cli.specs.declared.burn.TheConstants.{FILE_LIMIT}
use Rattle.bp_cli.specs.declared.stops.Stop.{Stop}
use Rattle.bp_cli.specs.declared.stops.Stop.TheVariants as stops
use Rattle.bp_cli.specs.Burn.{path_refused}
use Rattle.bp_cli.specs.BurnSteps.{NamesPath}
use Rattle.bp_cli.specs.Words.{is_bad_word, word_of}
use Rattle.bp_cli.specs.declared.deliver.TheConstants.{DELIVER_WORDS}
use Rattle.bp_cli.specs.Deliver.{DeliverAsked, DeliverEnds, DeliversEvents, DeliversNothing, deliver_named, deliver_of, deliver_with, delivered_line, desk_with, nobody, office, opened_by, unsaid, with_opened}
use Rattle.bp_cli.specs.DeliverSteps.{DeliversAnyhow, DeliversWith, HoldsGrants, ReadsGrants, touched}
use Rattle.bp_cli.specs.Endings.{Ending, KeeperLeft}
use Rattle.bp_cli.specs.NamedFiles.{FileNamed}
use Rattle.bp_cli.specs.Stops.{StopsFor, StopsForMatter, read_stop}
use Rattle.bp_cli.proofs.KeptLemmas.{as_loaded, by_stop, keeps_matter, kept_matter, kept_rule, load_calm, load_left, told_itself}
use Rattle.bp_cli.proofs.NamedFileLemmas.{absent_at, at_path, bytes_at, long_at, some_file}

-- a fact that doesn't depend on what is there
pub if_some : {A : Type 0} (found : Option A) (P : Type 0) → P → IfSome found (λ _. P)
if_some None P fact = tt
if_some (Some a) P fact = fact

-- ---- its line

-- whatever else it says, a line with a bad word is none
abbrev unless_bad : ℕ → List (List ℕ) → Bool → Option DeliverAsked
unless_bad doors words bad =
    if bad then None
    else (if doors == 0 then None
    else deliver_named (word_of words 0) (word_of words 1) (word_of words 2))

either_none : (b : Bool) (asked : Option DeliverAsked) → asked ≡ None → None ≡ (if b then asked else None)
either_none true asked is = sym is
either_none false asked is = refl

pub bad_line : (doors : ℕ) (words : List (List ℕ)) → list_any is_bad_word words ≡ true → None ≡ deliver_of doors words
bad_line doors words bad = either_none (length words == DELIVER_WORDS) (deliver_with doors words) (ap (unless_bad doors words) bad)

-- ---- rules of grants raise no count

-- the rules that grants and their file may break
abbrev IsGrantRule : RuleKind → Type 0
IsGrantRule kinds.GrantShape = Unit {0}
IsGrantRule kinds.NotReceiver = Unit {0}
IsGrantRule kinds.NoProduction = Unit {0}
IsGrantRule kinds.MatterFull = Unit {0}
IsGrantRule _ = ⊥

grant_rule_calm : (source : SourceView) (kind : RuleKind) → IsGrantRule kind → source ≡ after_kind source kind
grant_rule_calm source kinds.GrantShape is = refl
grant_rule_calm source kinds.NotReceiver is = refl
grant_rule_calm source kinds.NoProduction is = refl
grant_rule_calm source kinds.MatterFull is = refl
grant_rule_calm source _ is = absurd is

abbrev HasGrantRule : Result (List Grant) Rule → Type 0
HasGrantRule (Ok grants) = Unit {0}
HasGrantRule (Err rule) = IsGrantRule rule.kind

onto_rule : (grant : Grant) (r : Result (List Grant) Rule) → HasGrantRule r → HasGrantRule (onto grant r)
onto_rule grant (Ok grants) is = tt
onto_rule grant (Err rule) is = is

first_rule : (o : Option Grant) (n : ℕ) (others : Result (List Grant) Rule) → HasGrantRule others → HasGrantRule (first_then o (rule_at_line kinds.GrantShape n) others)
first_rule None n others is = tt
first_rule (Some grant) n others is = onto_rule grant others is

each_rule : (n : ℕ) (records : List (List (List ℕ))) → HasGrantRule (read_each grant_of_record (rule_at_line kinds.GrantShape) n records)
each_rule n [] = tt
each_rule n (fields ∷ records) =
    first_rule (grant_of_record fields) n (read_each grant_of_record (rule_at_line kinds.GrantShape) (n + 1) records) (each_rule (n + 1) records)

either_rule : (test : Bool) (a b : Result (List Grant) Rule) → HasGrantRule a → HasGrantRule b → HasGrantRule (if test then a else b)
either_rule true a b is other = is
either_rule false a b is other = other

one_rule : (m : Matter) (grants : List Grant) (new : Grant) → HasGrantRule (grant_of m grants new)
one_rule m grants new =
    let full : Result (List Grant) Rule = Err (grants_full (length grants)) in
    let none : Result (List Grant) Rule = refused kinds.NoProduction in
    let other : Result (List Grant) Rule = refused kinds.NotReceiver in
    either_rule (not (is_receiver_row (find_key staff_key new.staff.0 m.staff))) other _ tt
    (either_rule (is_none (kept_production m.productions new.id)) none _ tt
    (either_rule (is_granted grants new.staff.0 new.id) (Ok grants) _ tt
    (either_rule (nat_le MAX_GRANTS (length grants)) full (Ok (grants ++ new ∷ [])) tt tt)))

record_rule : (n : ℕ) (r : Result (List Grant) Rule) → HasGrantRule r → HasGrantRule (at_record n r)
record_rule n (Ok grants) is = tt
record_rule n (Err rule) is = is

then_rule : (r : Result (List Grant) Rule) (next : List Grant → Result (List Grant) Rule) → HasGrantRule r → ((grants : List Grant) → HasGrantRule (next grants)) → HasGrantRule (r >>= next)
then_rule (Ok grants) next is others = others grants
then_rule (Err rule) next is others = is

turn_rule : (m : Matter) (grants : List Grant) (n : ℕ) (rows : List Grant) → HasGrantRule (grant_each m grants n rows)
turn_rule m grants n [] = tt
turn_rule m grants n (new ∷ rows) =
    then_rule (at_record n (grant_of m grants new)) (λ standing. grant_each m standing (n + 1) rows)
    (record_rule n (grant_of m grants new) (one_rule m grants new))
    (λ standing. turn_rule m standing (n + 1) rows)

calm_of : (r : Result (List Grant) Rule) (rule : Rule) → HasGrantRule r → r ≡ Err rule → (source : SourceView) → source ≡ after_kind source rule.kind
calm_of r rule is broken = λ source. grant_rule_calm source rule.kind (subst HasGrantRule broken is)

-- ---- reading it

-- the word names no path, or memory lacked
pub unnamed : (named : List ℕ) (source : SourceView) (stop : Stop) → NamesPath (path_in named) (Err stop) → ReadsGrants named source (Err stop) source
unnamed named source (stops.Broken rule) is = record {
  file = Err path_refused;
  found = subst (λ (o : Option (List ℕ)). FileNamed source.files o (Err path_refused)) (sym is.0) refl;
  records = ap (λ (r : Rule). Err r) (sym is.1);
  source = subst (λ (r : Rule). source ≡ after_kind source r.kind) (sym is.1) refl;
}
unnamed named source stops.OutOfMemory is = refl
unnamed named source stops.WordsRefused is = absurd is
unnamed named source stops.SourceFault is = absurd is
unnamed named source stops.FolderFault is = absurd is
unnamed named source stops.KeeperFault is = absurd is

-- the same by the result that a `?` hands on
pub unnamed_stops : (named : List ℕ) (source : SourceView) (stop : Stop) (r : Result (List Grant) Stop) → IsErr r → IsErrAnd r (λ s. s ≡ stop) → NamesPath (path_in named) (Err stop) → ReadsGrants named source r source
unnamed_stops named source stop (Ok rows) is same named_none = absurd same
unnamed_stops named source stop (Err s) is same named_none =
    subst (λ (t : Stop). ReadsGrants named source (Err t) source) (sym same) (unnamed named source stop named_none)

-- a refusal of the records
pub rows_stop : (bytes : List ℕ) (refusal : Refusal) (stop : Stop) → Answers (λ (rows : List Grant). rows) (Err refusal) (grants_in bytes) → StopsFor refusal stop → HoldsGrants bytes (Err stop)
rows_stop bytes (refusals.Rule rule) stop answer is = subst (λ (s : Stop). HoldsGrants bytes (Err s)) (sym is) answer
rows_stop bytes refusals.OutOfMemory stop answer is = subst (λ (s : Stop). HoldsGrants bytes (Err s)) (sym is) tt

-- the file was read, and its records or not
pub rows_read : (named path : List ℕ) (before after : SourceView) (bytes : List ℕ) (r : Result (List Grant) Stop) → path_in named ≡ Some path → length bytes ≤ FILE_LIMIT → IfSome before.files (λ files. map.get files path ≡ Some bytes) → after ≡ before → HoldsGrants bytes r → ReadsGrants named before r after
rows_read named path before after bytes (Ok rows) is short there stays holds = (
  record {
    file = Ok bytes;
    found = at_path before.files named path (Ok bytes) is (bytes_at before.files path bytes short there);
    records = holds.0;
    source = stays;
  },
  omega (arith, short, holds.1),
)
rows_read named path before after bytes (Err (stops.Broken rule)) is short there stays holds = record {
  file = Ok bytes;
  found = at_path before.files named path (Ok bytes) is (bytes_at before.files path bytes short there);
  records = holds;
  source = stays ∙ calm_of (grants_in bytes) rule (each_rule 1 (records default_config (strip_bom bytes))) holds before;
}
rows_read named path before after bytes (Err stops.OutOfMemory) is short there stays holds = stays
rows_read named path before after bytes (Err stops.WordsRefused) is short there stays holds = absurd holds
rows_read named path before after bytes (Err stops.SourceFault) is short there stays holds = absurd holds
rows_read named path before after bytes (Err stops.FolderFault) is short there stays holds = absurd holds
rows_read named path before after bytes (Err stops.KeeperFault) is short there stays holds = absurd holds

-- or it was not
pub file_refused : (named path : List ℕ) (before after : SourceView) (refusal : ReadRefusal) → path_in named ≡ Some path → IfSome before.files (ReadOver path FILE_LIMIT (Err refusal)) → after ≡ after_read before (Err refusal) → ReadsGrants named before (Err (read_stop refusal)) after
file_refused named path before after reads.Absent is there left = record {
  file = Err (bare_rule kinds.FileAbsent);
  found = at_path before.files named path (Err (bare_rule kinds.FileAbsent)) is (absent_at before.files path there);
  records = refl;
  source = left;
}
file_refused named path before after reads.TooLong is there left = record {
  file = Err (bare_rule kinds.FileTooLong);
  found = at_path before.files named path (Err (bare_rule kinds.FileTooLong)) is (long_at before.files path there);
  records = refl;
  source = left;
}
file_refused named path before after reads.Failed is there left = left
file_refused named path before after reads.OutOfMemory is there left = left

-- ---- nobody was served

-- the work of deliver, from what it was given to what it hands back
abbrev DeliverWork : DeliverAsked → SourceView → KeeperView → KeeperView → DoorView → OutView → Ending → SourceView → KeeperView → DoorView → OutView → Type 0
DeliverWork asked s before mid d out e s' k' d' out' = DeliverEnds asked (with_opened mid.rows (office s before d out)) e (office s' k' d' out')

left_nothing : (due : SourceView) (s s' : SourceView) (before mid : KeeperView) (d : DoorView) (out out' : OutView) (count : ℕ) → s' ≡ due → KeeperLeft None count (as_loaded before mid) mid → mid.commits ≡ before.commits → DeliversNothing due count (with_opened mid.rows (office s before d out)) (office s' mid d out')
left_nothing due s s' before mid d out out' count source keeper quiet = record { source = source; door = refl; keeper = keeper; quiet = quiet }

-- loading stopped
load_ends : (asked : DeliverAsked) (s : SourceView) (before mid : KeeperView) (d : DoorView) (out out' : OutView) (why : MatterRefusal) → LoadsTables before (Err why) mid → (stop : Stop) → StopsForMatter why stop → DeliverWork asked s before mid d out (Err stop) s mid d out'
load_ends asked s before mid d out out' (matters.Rule rule) loaded stop is =
    let file = some_file s.files asked.grants in
    subst (λ (x : Stop). DeliverWork asked s before mid d out (Err x) s mid d out') (sym is)
    (record {
      opens = record {
        tables = Err rule;
        loaded = loaded.rule;
        kept = kept_rule mid.rows rule loaded.told_after;
        file = file.0;
        found = file.1;
        gives = refl;
      };
      left = left_nothing (after_kind s rule.kind) s s before mid d out out' before.faults (load_calm s rule.kind loaded.rule)
          (load_left before mid (Err (matters.Rule rule)) before.faults loaded loaded.faults) loaded.commits;
    })
load_ends asked s before mid d out out' matters.KeeperFault loaded stop is =
    subst (λ (x : Stop). DeliverWork asked s before mid d out (Err x) s mid d out') (sym is)
    (left_nothing s s s before mid d out out' (risen before.faults) refl
    (load_left before mid (Err matters.KeeperFault) (risen before.faults) loaded loaded.faults) loaded.commits)
load_ends asked s before mid d out out' matters.OutOfMemory loaded stop is =
    subst (λ (x : Stop). DeliverWork asked s before mid d out (Err x) s mid d out') (sym is)
    (nobody (left_nothing s s s before mid d out out' before.faults refl
    (load_left before mid (Err matters.OutOfMemory) before.faults loaded loaded.faults) loaded.commits))

over_rows : (asked : DeliverAsked) (s s' : SourceView) (before mid k' : KeeperView) (d d' : DoorView) (out out' : OutView) (loadeds : Result Shown MatterRefusal) (e : Ending) → LoadsTables before loadeds mid → IfSome k'.rows (λ _. IsTrue (is_some mid.rows)) → k'.loads ≡ mid.loads → DeliverWork asked s before mid d out e s' k' d' out' → DeliversWith asked (office s before d out) e (office s' k' d' out')
over_rows asked s s' before mid k' d d' out out' loadeds e loaded told same ends =
    record { read = mid.rows; rows = record { same = loaded.same; told = told }; ends = ends; loads = once (same ∙ loaded.loads) }

pub load_stops : (asked : DeliverAsked) (s : SourceView) (before mid : KeeperView) (d : DoorView) (why : MatterRefusal) (r : Ending) → LoadsTables before (Err why) mid → IsErr r → IsErrAnd r (StopsForMatter why) → DeliversAnyhow asked (touched s before d) r (touched s mid d)
load_stops asked s before mid d why r loaded is stop = λ out out'.
    over_rows asked s s before mid mid d d out out' (Err why) r loaded (told_itself mid.rows) refl
    (by_stop (λ e. DeliverWork asked s before mid d out e s mid d out') (StopsForMatter why) r is stop
    (load_ends asked s before mid d out out' why loaded))

-- the tables were loaded, and reading the file stopped
read_ends : (asked : DeliverAsked) (s s' : SourceView) (before mid : KeeperView) (d : DoorView) (out out' : OutView) (tables : Shown) (stop : Stop) → IsValid tables.matter → LoadsTables before (Ok tables) mid → ReadsGrants asked.grants s (Err stop) s' → DeliverWork asked s before mid d out (Err stop) s' mid d out'
read_ends asked s s' before mid d out out' tables (stops.Broken rule) valid loaded read = record {
  opens = record {
    tables = Ok tables.matter;
    loaded = valid;
    kept = kept_matter mid.rows tables valid loaded.told_after;
    file = read.file;
    found = read.found;
    gives = ap (opened_by tables.matter) read.records;
  };
  left = left_nothing (after_kind s rule.kind) s s' before mid d out out' before.faults read.source
      (load_left before mid (Ok tables) before.faults loaded loaded.faults) loaded.commits;
}
read_ends asked s s' before mid d out out' tables stops.SourceFault valid loaded read =
    left_nothing _ s s' before mid d out out' before.faults read
    (load_left before mid (Ok tables) before.faults loaded loaded.faults) loaded.commits
read_ends asked s s' before mid d out out' tables stops.OutOfMemory valid loaded read =
    nobody (left_nothing s s s' before mid d out out' before.faults read
    (load_left before mid (Ok tables) before.faults loaded loaded.faults) loaded.commits)
read_ends asked s s' before mid d out out' tables stops.WordsRefused valid loaded read = absurd read
read_ends asked s s' before mid d out out' tables stops.FolderFault valid loaded read = absurd read
read_ends asked s s' before mid d out out' tables stops.KeeperFault valid loaded read = absurd read

read_with : (asked : DeliverAsked) (s s' : SourceView) (before mid : KeeperView) (d : DoorView) (tables : Shown) (stop : Stop) → IsValid tables.matter → LoadsTables before (Ok tables) mid → ReadsGrants asked.grants s (Err stop) s' → DeliversAnyhow asked (touched s before d) (Err stop) (touched s' mid d)
read_with asked s s' before mid d tables stop valid loaded read = λ out out'.
    over_rows asked s s' before mid mid d d out out' (Ok tables) (Err stop) loaded (told_itself mid.rows) refl
    (read_ends asked s s' before mid d out out' tables stop valid loaded read)

pub read_stops : (asked : DeliverAsked) (s s' : SourceView) (before mid : KeeperView) (d : DoorView) (tables : Shown) (stop : Stop) (r : Ending) → IsErr r → IsErrAnd r (λ x. x ≡ stop) → IsValid tables.matter → LoadsTables before (Ok tables) mid → ReadsGrants asked.grants s (Err stop) s' → DeliversAnyhow asked (touched s before d) r (touched s' mid d)
read_stops asked s s' before mid d tables stop (Ok line) is same valid loaded read = absurd same
read_stops asked s s' before mid d tables stop (Err x) is same valid loaded read =
    subst (λ (t : Stop). DeliversAnyhow asked (touched s before d) (Err t) (touched s' mid d)) (sym same)
    (read_with asked s s' before mid d tables stop valid loaded read)

-- the records were read, and a grant was refused
grants_end : (asked : DeliverAsked) (s s' : SourceView) (before mid : KeeperView) (d : DoorView) (out out' : OutView) (tables : Shown) (rows : List Grant) (refusal : Refusal) → IsValid tables.matter → LoadsTables before (Ok tables) mid → ReadsGrants asked.grants s (Ok rows) s' → Answers (λ (desk : Holding). desk.grants) (Err refusal) (grant_each tables.matter [] 1 rows) → (stop : Stop) → StopsFor refusal stop → DeliverWork asked s before mid d out (Err stop) s' mid d out'
grants_end asked s s' before mid d out out' tables rows (refusals.Rule rule) valid loaded read broken stop is =
    subst (λ (x : Stop). DeliverWork asked s before mid d out (Err x) s' mid d out') (sym is)
    (record {
      opens = record {
        tables = Ok tables.matter;
        loaded = valid;
        kept = kept_matter mid.rows tables valid loaded.told_after;
        file = read.0.file;
        found = read.0.found;
        gives = ap (opened_by tables.matter) read.0.records ∙ ap (desk_with tables.matter) broken;
      };
      left = left_nothing (after_kind s rule.kind) s s' before mid d out out' before.faults
          (read.0.source ∙ calm_of (grant_each tables.matter [] 1 rows) rule (turn_rule tables.matter [] 1 rows) broken s)
          (load_left before mid (Ok tables) before.faults loaded loaded.faults) loaded.commits;
    })
grants_end asked s s' before mid d out out' tables rows refusals.OutOfMemory valid loaded read broken stop is =
    subst (λ (x : Stop). DeliverWork asked s before mid d out (Err x) s' mid d out') (sym is)
    (nobody (left_nothing s s s' before mid d out out' before.faults read.0.source
    (load_left before mid (Ok tables) before.faults loaded loaded.faults) loaded.commits))

pub grants_stop : (asked : DeliverAsked) (s s' : SourceView) (before mid : KeeperView) (d : DoorView) (tables : Shown) (rows : List Grant) (refusal : Refusal) (r : Ending) → IsErr r → IsErrAnd r (StopsFor refusal) → IsValid tables.matter → LoadsTables before (Ok tables) mid → ReadsGrants asked.grants s (Ok rows) s' → Answers (λ (desk : Holding). desk.grants) (Err refusal) (grant_each tables.matter [] 1 rows) → DeliversAnyhow asked (touched s before d) r (touched s' mid d)
grants_stop asked s s' before mid d tables rows refusal r is stop valid loaded read broken = λ out out'.
    over_rows asked s s' before mid mid d d out out' (Ok tables) r loaded (told_itself mid.rows) refl
    (by_stop (λ e. DeliverWork asked s before mid d out e s' mid d out') (StopsFor refusal) r is stop
    (grants_end asked s s' before mid d out out' tables rows refusal valid loaded read broken))

-- ---- the door was served

abbrev opening_with : List Grant → Matter → Result Holding Rule
opening_with grants m = Ok (record { matter = m; grants = grants })

module _ (asked : DeliverAsked) (s s' : SourceView) (before mid k' : KeeperView) (d d' : DoorView) (tables : Shown) (rows : List Grant) (desk closing : Holding) (count : ℕ) (valid : IsValid tables.matter) (loaded : LoadsTables before (Ok tables) mid) (read : ReadsGrants asked.grants s (Ok rows) s') (granted : Answers (λ (x : Holding). x.grants) (Ok desk) (grant_each tables.matter [] 1 rows)) (over : desk.matter ≡ tables.matter) (served : DeliversDoor asked.connections (desk_view desk mid) d count (desk_view closing k') d') (wants : WantLaw) (events : EventsLaw) where
  keeps_opening : KeepsRows mid desk.matter
  keeps_opening = subst (λ (m : Matter). IfSome mid.rows (λ there. there ≡ rows_of m)) (sym over) (keeps_matter mid.rows tables loaded.told_after)

  delivers : (out out' : OutView) → DeliversEvents asked (with_opened mid.rows (office s before d out)) count (office s' k' d' out')
  delivers out out' = record {
    opening = desk;
    opens = record {
      tables = Ok tables.matter;
      loaded = valid;
      kept = kept_matter mid.rows tables valid loaded.told_after;
      file = read.0.file;
      found = read.0.found;
      gives = ap (opened_by tables.matter) read.0.records ∙ ap (desk_with tables.matter) granted
          ∙ ap (opening_with desk.grants) (sym over);
    };
    valid = subst IsValid (sym over) valid;
    keeper = mid;
    loaded = record { rows = refl; faults = loaded.faults; commits = loaded.commits; sure = loaded.sure };
    closing = closing;
    served = served;
    kept = served.delivers.keeps.kept keeps_opening;
    source = read.0.source;
    wants_alike = wants;
    events_alike = events;
  }

  same_loads : k'.loads ≡ mid.loads
  same_loads = served.delivers.keeps.loads

  pub door_served : (line : List ℕ) → line ≡ delivered_line count → DeliversAnyhow asked (touched s before d) (Ok line) (touched s' k' d')
  door_served line said = λ out out'.
      over_rows asked s s' before mid k' d d' out out' (Ok tables) (Ok line) loaded served.delivers.keeps.told same_loads
      (record { count = count; delivers = delivers out out'; said = said })

  pub line_lacks : (r : Ending) → IsErr r → IsErrAnd r (λ x. x ≡ stops.OutOfMemory) → DeliversAnyhow asked (touched s before d) r (touched s' k' d')
  line_lacks r is stop = λ out out'.
      over_rows asked s s' before mid k' d d' out out' (Ok tables) r loaded served.delivers.keeps.told same_loads
      (by_stop (λ e. DeliverWork asked s before mid d out e s' k' d' out') (λ x. x ≡ stops.OutOfMemory) r is stop
      (λ x same. subst (λ (y : Stop). DeliverWork asked s before mid d out (Err y) s' k' d' out') (sym same) (unsaid count (delivers out out'))))
