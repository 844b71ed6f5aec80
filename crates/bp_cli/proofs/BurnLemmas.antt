-- Lemmas of burn: from what a read of IN and the putting of the file gave to the outcome of the
-- command.
use Rattle.std.proofs.Common.{ℕ, ◌≡◌, ◌<◌, ◌≤◌, ◌+◌, Bool, true, false, cond, not, List, [], ◌∷◌, length, replicate, Option, Some, None, Result, Ok, Err, refl, sym, ap, subst, ◌∙◌, arith}
use Rattle.std.specs.Prelude.{IfSome, IsSomeAnd}
use Rattle.std.specs.Result.{IsErr, IsErrAnd}
use Rattle.std.specs.Ordering.{nat_cmp, eq_by_cmp}
use Rattle.std.specs.Cmp.Lexicographic.{slice_cmp, texts_ties, nat_list_cmp_total}
use Rattle.std.specs.FinMap as map
use Rattle.std.proofs.lemmas.Bool.{lt-ltb, le-ltb}
use Rattle.std.proofs.lemmas.Slice.Eq.{bytes_eq-Decides}
use Rattle.std.proofs.lemmas.List.{length-replicate}
use Rattle.bp_core.specs.declared.rules.Rule.{Rule}
use Rattle.bp_core.specs.declared.rules.RuleKind.TheVariants as kinds
use Rattle.bp_core.specs.Rectangle.{lies_inside}
use Rattle.bp_core.specs.Rules.{bare_rule, page_limit_rule}
use Rattle.bp_rows.specs.Image.{Image}
use Rattle.bp_rows.specs.Burned.{burned}
use Rattle.bp_tiff.specs.PageRules.{IsPageRule}
use Rattle.bp_tiff.specs.PageRules as page
use Rattle.bp_tiff.specs.Read.{TiffFault, TiffAnswers}
use Rattle.bp_tiff.specs.Tiff.{tiff_of}
use Rattle.std.specs.Option.{ok_or}
use Rattle.bp_core.specs.Answers.{Answers, IfRule}
use Rattle.bp_outside.specs.Source.{FileMap, SourceView, ReadOver, after_read}
use Rattle.bp_outside.specs.Folder.{FolderView, PutsPart, after_refusal, file}
use Rattle.bp_outside.specs.declared.refusals.ReadRefusal.{ReadRefusal}
use Rattle.bp_outside.specs.declared.refusals.ReadRefusal.TheVariants as reads
use Rattle.bp_outside.specs.declared.refusals.FolderRefusal.{FolderRefusal}
use Rattle.bp_outside.specs.declared.refusals.FolderRefusal.TheVariants as folders
use Rattle.bp_import.specs.Importing.{after_kind}
use Rattle.bp_cli.specs.declared.stops.Stop.{Stop}
use Rattle.bp_cli.specs.declared.stops.Stop.TheVariants as stops
use Rattle.bp_cli.specs.declared.burn.TheConstants.{FILE_LIMIT}
use Rattle.bp_keep.specs.Keeper.{KeeperView}
use Rattle.bp_press.specs.Writing.{AddsPart}
use Rattle.bp_cli.specs.Endings.{Outcome, done, refused, Ending, World, world, failed_folder, KeeperLeft, Ends, partly, untouched}
use Rattle.bp_core.specs.declared.rules.RuleKind.{RuleKind}
use Rattle.bp_core.specs.declared.refusals.Refusal.{Refusal}
use Rattle.bp_core.specs.declared.refusals.Refusal.TheVariants as refusals
use Rattle.bp_rows.specs.Limits.{sides_are_imported}
use Rattle.bp_cli.specs.Burn.{BurnLine, BurnPaths, burn_paths, path_refused, lacks_a_side, burn_page, burn_read, PageFileAnswers, PathAnswers, BurnsAt, BurnComes, BurnOutcome, burn_done, burn_gives, counted_line}
use Rattle.bp_cli.specs.BurnSteps.{AnswersAt, ReadsPageAt, AnswersPage, NamesPath, NamesPaths, PutsPage}
use Rattle.bp_cli.specs.Commands.{burn, uses_of, IsOutcome, ReadsAndWorks}
use Rattle.bp_cli.specs.Stops.{StopsFor, StopsForFolder, read_stop}
use Rattle.bp_cli.proofs.KeptLemmas.{rows_itself, told_itself}

-- ---- files that a source doesn't tell

-- a map with this at a path
one_file : List ℕ → Option (List ℕ) → FileMap
one_file path None = map.from_entries []
one_file path (Some bytes) = map.from_entries ((path, bytes) ∷ [])

same_path : (path : List ℕ) → eq_by_cmp (slice_cmp nat_cmp) path path ≡ true
same_path path = sym (texts_ties path path) ∙ (bytes_eq-Decides path path).1 refl

get-one_file : (path : List ℕ) (found : Option (List ℕ)) → map.get (one_file path found) path ≡ found
unfolding one_file
get-one_file path None = map.get-from_entries nat_list_cmp_total [] path
get-one_file path (Some bytes) =
    map.get-from_entries nat_list_cmp_total ((path, bytes) ∷ []) path ∙ ap (λ b. cond b (Some bytes) None) (same_path path)

-- what comes of an answer at IN, where the line names its paths
comes_of : (b : BurnLine) (paths : BurnPaths) (files : FileMap) (outcome : Outcome) → burn_paths b ≡ Some paths → BurnsAt b paths files outcome → BurnComes b files outcome
comes_of b paths files outcome named at =
    let P : Option BurnPaths → Type 0 = λ o. elim o [ None ↦ outcome ≡ refused path_refused | Some ps ↦ BurnsAt b ps files outcome ] in
    subst P (sym named) at

outcome_at : (b : BurnLine) (paths : BurnPaths) (told : Option FileMap) (found : Option (List ℕ)) (answer : Result Image Rule) → burn_paths b ≡ Some paths → PathAnswers found answer → IfSome told (λ files. map.get files paths.from ≡ found) → BurnOutcome b told (burn_gives b.form paths.to (burn_read b.area answer))
outcome_at b paths (Some files) found answer named answers there = record {
  files = files;
  same = refl;
  comes = comes_of b paths files _ named (record { answer = answer; found = subst (λ (f : Option (List ℕ)). PathAnswers f answer) (sym there) answers; gives = refl });
}
outcome_at b paths None found answer named answers there = record {
  files = one_file paths.from found;
  same = tt;
  comes = comes_of b paths (one_file paths.from found) _ named (record { answer = answer; found = subst (λ (f : Option (List ℕ)). PathAnswers f answer) (sym (get-one_file paths.from found)) answers; gives = refl });
}

-- the outcome over what stands at IN, by its answer
outcome_is : (b : BurnLine) (paths : BurnPaths) (told : Option FileMap) (found : Option (List ℕ)) (answer : Result Image Rule) (outcome : Outcome) → burn_paths b ≡ Some paths → PathAnswers found answer → IfSome told (λ files. map.get files paths.from ≡ found) → burn_gives b.form paths.to (burn_read b.area answer) ≡ outcome → BurnOutcome b told outcome
outcome_is b paths told found answer outcome named answers there is =
    subst (BurnOutcome b told) is (outcome_at b paths told found answer named answers there)

-- ---- a word that names no path

no_path_over : (b : BurnLine) (files : FileMap) → burn_paths b ≡ None → BurnComes b files (refused path_refused)
no_path_over b files none =
    let P : Option BurnPaths → Type 0 = λ o. elim o [ None ↦ refused path_refused ≡ refused path_refused | Some ps ↦ BurnsAt b ps files (refused path_refused) ] in
    subst P (sym none) refl

no_path_outcome : (b : BurnLine) (told : Option FileMap) → burn_paths b ≡ None → BurnOutcome b told (refused path_refused)
no_path_outcome b (Some files) none = record { files = files; same = refl; comes = no_path_over b files none }
no_path_outcome b None none = record { files = one_file [] None; same = tt; comes = no_path_over b (one_file [] None) none }

-- ---- what the burned page, or its rule, comes from

-- the rules of a page file raise no count
page_rule_calm : (source : SourceView) (kind : RuleKind) → IsPageRule kind → after_kind source kind ≡ source
page_rule_calm source kind page.sides = refl
page_rule_calm source kind page.short_data = refl
page_rule_calm source kind page.early_end = refl
page_rule_calm source kind page.extension = refl
page_rule_calm source kind page.bad_code = refl
page_rule_calm source kind page.bad_place = refl
page_rule_calm source kind page.head = refl
page_rule_calm source kind page.bounds = refl
page_rule_calm source kind page.missing = refl
page_rule_calm source kind page.type = refl
page_rule_calm source kind page.compression = refl
page_rule_calm source kind page.meaning = refl
page_rule_calm source kind page.many_pages = refl
page_rule_calm source kind page.strips = refl

same_kind : (source : SourceView) (known rule : Rule) → known ≡ rule → after_kind source known.kind ≡ source → after_kind source rule.kind ≡ source
same_kind source known rule same kept = ap (λ (r : Rule). after_kind source r.kind) (sym same) ∙ kept

same_rule : (r s : Rule) → let left : Result Image Rule = Err r in left ≡ Err s → r ≡ s
same_rule r s same = cc

-- nor do those that the page and its box meet
box_rule : (source : SourceView) (r s t : Bool) (limit : Rule) (x : Image) (rule : Rule) → after_kind source limit.kind ≡ source → cond r (Err limit) (cond s (Err (bare_rule kinds.BoxShape)) (cond t (Ok x) (Err (bare_rule kinds.BoxOutside)))) ≡ Err rule → after_kind source rule.kind ≡ source
box_rule source true s t limit x rule calm broken = same_kind source limit rule (same_rule limit rule broken) calm
box_rule source false true t limit x rule calm broken = same_kind source (bare_rule kinds.BoxShape) rule (same_rule (bare_rule kinds.BoxShape) rule broken) refl
box_rule source false false true limit x rule calm broken = cc
box_rule source false false false limit x rule calm broken = same_kind source (bare_rule kinds.BoxOutside) rule (same_rule (bare_rule kinds.BoxOutside) rule broken) refl

-- a file was refused
pub file_refused : (bytes : List ℕ) (refusal : Refusal) (stop : Stop) → IfRule (TiffFault bytes) refusal → IfRule (λ rule. IsPageRule rule.kind) refusal → StopsFor refusal stop → AnswersPage bytes (Err stop)
file_refused bytes (refusals.Rule rule) stop fault kind is =
    subst (λ (s : Stop). AnswersPage bytes (Err s)) (sym is)
    (record { answers = fault; calm = λ source. page_rule_calm source rule.kind kind })
file_refused bytes refusals.OutOfMemory stop fault kind is =
    subst (λ (s : Stop). AnswersPage bytes (Err s)) (sym is) tt

-- a file answers by its length and its bytes
abbrev too_long_rule : Rule
too_long_rule = bare_rule kinds.FileTooLong

abbrev FileAnswersIf : Bool → List ℕ → Result Image Rule → Type 0
FileAnswersIf long bytes answer = elim long [ true ↦ answer ≡ Err too_long_rule | false ↦ TiffAnswers bytes answer ]

short_answers : (bytes : List ℕ) (answer : Result Image Rule) → length bytes ≤ FILE_LIMIT → TiffAnswers bytes answer → PageFileAnswers bytes answer
short_answers bytes answer short is =
    subst (λ (long : Bool). FileAnswersIf long bytes answer) (sym (le-ltb FILE_LIMIT (length bytes) short)) is

long_answers : (bytes : List ℕ) (answer : Result Image Rule) → FILE_LIMIT < length bytes → answer ≡ Err too_long_rule → PageFileAnswers bytes answer
long_answers bytes answer long is =
    subst (λ (b : Bool). FileAnswersIf b bytes answer) (sym (lt-ltb FILE_LIMIT (length bytes) long)) is

-- the page was read, or the rule met, where a file was read
pub page_read : (from : List ℕ) (before after : SourceView) (bytes : List ℕ) (r : Result Image Stop) → length bytes ≤ FILE_LIMIT → IfSome before.files (λ files. map.get files from ≡ Some bytes) → after ≡ before → AnswersPage bytes r → ReadsPageAt from before r after
page_read from before after bytes (Ok p) short there stays it =
    (record { found = Some bytes; there = there; answers = short_answers bytes (Ok p) short it }, stays)
page_read from before after bytes (Err (stops.Broken rule)) short there stays it =
    (record { found = Some bytes; there = there; answers = short_answers bytes (Err rule) short it.answers }, stays ∙ sym (it.calm before))
page_read from before after bytes (Err stops.OutOfMemory) short there stays it = stays
page_read from before after bytes (Err stops.WordsRefused) short there stays it = it
page_read from before after bytes (Err stops.SourceFault) short there stays it = absurd it
page_read from before after bytes (Err stops.FolderFault) short there stays it = it
page_read from before after bytes (Err stops.KeeperFault) short there stays it = it

-- a list longer than a number
pub longer : (n : ℕ) → (bytes : List ℕ) × (n < length bytes)
longer n = let zero_byte : ℕ = 0 in (replicate (n + 1) zero_byte, omega (arith, length-replicate (n + 1) zero_byte))

long_path : (found : Option (List ℕ)) → IsSomeAnd found (λ bytes. FILE_LIMIT < length bytes) → PathAnswers found (Err too_long_rule)
long_path None long = elim long [ ]
long_path (Some bytes) long = long_answers bytes (Err too_long_rule) long refl

too_long : (from : List ℕ) (told : Option FileMap) → IfSome told (λ files. IsSomeAnd (map.get files from) (λ bytes. FILE_LIMIT < length bytes)) → AnswersAt from told (Err too_long_rule)
too_long from (Some files) long = record { found = map.get files from; there = refl; answers = long_path (map.get files from) long }
too_long from None long = record {
  found = Some (longer FILE_LIMIT).0;
  there = tt;
  answers = long_answers (longer FILE_LIMIT).0 (Err too_long_rule) (longer FILE_LIMIT).1 refl;
}

-- the read was refused
pub read_refused : (from : List ℕ) (before after : SourceView) (refusal : ReadRefusal) → IfSome before.files (ReadOver from FILE_LIMIT (Err refusal)) → after ≡ after_read before (Err refusal) → ReadsPageAt from before (Err (read_stop refusal)) after
read_refused from before after reads.Absent there is = (record { found = None; there = there; answers = refl }, is)
read_refused from before after reads.TooLong there is = (too_long from before.files there, is)
read_refused from before after reads.Failed there is = is
read_refused from before after reads.OutOfMemory there is = is

-- ---- what the putting of the file leaves

-- burn, and the keeper that it doesn't use
abbrev pub BurnEnds : BurnLine → World → Ending → World → Type 0
BurnEnds b before r after = Ends (uses_of (burn b)) (IsOutcome (burn b) before) before r after

pub unused : (keeper : KeeperView) → KeeperLeft None keeper.faults keeper keeper
unused keeper = record { rows = rows_itself keeper.rows; faults = refl; sure = refl }

only_part : (to : List ℕ) (folder folder' : FolderView) (bytes : List ℕ) → PutsPart folder to bytes folder' → AddsPart folder (file to bytes ∷ []) folder'
only_part to folder folder' bytes part = record { before = []; next = file to bytes; rest = []; files_are = refl; part = part }

-- the file was put, or a part of it, or nothing
pub put_ends : (b : BurnLine) (to : List ℕ) (before : World) (source' : SourceView) (folder' : FolderView) (bytes : List ℕ) (r : Ending) → BurnOutcome b before.source.files (burn_done to bytes) → source' ≡ before.source → PutsPage to bytes before.folder r folder' → BurnEnds b before r (world source' before.keeper folder')
put_ends b to before source' folder' bytes (Ok line) outcome stays put = record {
  files = file to bytes ∷ [];
  rows = None;
  outcome = subst (λ (l : List ℕ). BurnOutcome b before.source.files (done l (file to bytes ∷ []) None)) (sym put.0) outcome;
  source = stays;
  keeper = unused before.keeper;
  folder = put.1;
}
put_ends b to before source' folder' bytes (Err stops.FolderFault) outcome stays put = record {
  line = counted_line (length bytes);
  files = file to bytes ∷ [];
  rows = None;
  outcome = outcome;
  source = stays;
  keeper = unused before.keeper;
  folder = only_part to (failed_folder before.folder) folder' bytes put;
}
put_ends b to before source' folder' bytes (Err stops.OutOfMemory) outcome stays put =
    partly (counted_line (length bytes)) (file to bytes ∷ []) None outcome stays (unused before.keeper) (only_part to before.folder folder' bytes put)
put_ends b to before source' folder' bytes (Err stops.WordsRefused) outcome stays put = put
put_ends b to before source' folder' bytes (Err (stops.Broken rule)) outcome stays put = absurd put
put_ends b to before source' folder' bytes (Err stops.SourceFault) outcome stays put = absurd put
put_ends b to before source' folder' bytes (Err stops.KeeperFault) outcome stays put = absurd put

-- what putting a file in two parts gives
pub put_refused : (to bytes : List ℕ) (folder folder' : FolderView) (refusal : FolderRefusal) (stop : Stop) → StopsForFolder refusal stop → PutsPart (after_refusal folder refusal) to bytes folder' → PutsPage to bytes folder (Err stop) folder'
put_refused to bytes folder folder' folders.Failed stop is part = subst (λ (s : Stop). PutsPage to bytes folder (Err s) folder') (sym is) part
put_refused to bytes folder folder' folders.OutOfMemory stop is part = subst (λ (s : Stop). PutsPage to bytes folder (Err s) folder') (sym is) part

-- ---- where the steps before the file stopped

-- what stands at IN gives this outcome
answered : (b : BurnLine) (paths : BurnPaths) (told : Option FileMap) (answer : Result Image Rule) (outcome : Outcome) → burn_paths b ≡ Some paths → AnswersAt paths.from told answer → burn_gives b.form paths.to (burn_read b.area answer) ≡ outcome → BurnOutcome b told outcome
answered b paths told answer outcome named at is = outcome_is b paths told at.found answer outcome named at.answers at.there is

read_stop_ends : (b : BurnLine) (paths : BurnPaths) (before : World) (source' : SourceView) (stop : Stop) → burn_paths b ≡ Some paths → ReadsPageAt paths.from before.source (Err stop) source' → BurnEnds b before (Err stop) (world source' before.keeper before.folder)
read_stop_ends b paths before source' stops.WordsRefused named read = absurd read
read_stop_ends b paths before source' (stops.Broken rule) named read = record {
  outcome = answered b paths before.source.files (Err rule) (refused rule) named read.0 refl;
  source = read.1;
  keeper = unused before.keeper;
  quiet = refl;
  folder = refl;
}
read_stop_ends b paths before source' stops.SourceFault named read = record { used = refl; source = read; keeper = unused before.keeper; folder = refl }
read_stop_ends b paths before source' stops.FolderFault named read = absurd read
read_stop_ends b paths before source' stops.KeeperFault named read = absurd read
read_stop_ends b paths before source' stops.OutOfMemory named read = untouched read (unused before.keeper) refl

-- the same, by the result that a `?` hands on
pub read_stops : (b : BurnLine) (paths : BurnPaths) (before : World) (source' : SourceView) (stop : Stop) (r : Ending) → IsErr r → IsErrAnd r (λ s. s ≡ stop) → burn_paths b ≡ Some paths → ReadsPageAt paths.from before.source (Err stop) source' → BurnEnds b before r (world source' before.keeper before.folder)
read_stops b paths before source' stop (Ok line) is same named read = absurd same
read_stops b paths before source' stop (Err s) is same named read =
    subst (λ (t : Stop). BurnEnds b before (Err t) (world source' before.keeper before.folder)) (sym same) (read_stop_ends b paths before source' stop named read)

-- a page was read, and a rule met by it or by the box
pub box_refused : (b : BurnLine) (paths : BurnPaths) (before : World) (source' : SourceView) (p : Image) (rule : Rule) → burn_paths b ≡ Some paths → ReadsPageAt paths.from before.source (Ok p) source' → Err rule ≡ burn_page b.area p → BurnEnds b before (Err (stops.Broken rule)) (world source' before.keeper before.folder)
box_refused b paths before source' p rule named read met = record {
  outcome = answered b paths before.source.files (Ok p) (refused rule) named read.0 (ap (burn_gives b.form paths.to) (sym met));
  source = read.1
      ∙ sym (box_rule before.source (not (sides_are_imported p.width p.height)) (lacks_a_side b.area) (lies_inside b.area p.width p.height)
      (page_limit_rule p.width p.height) (burned p (b.area ∷ [])) rule refl (sym met));
  keeper = unused before.keeper;
  quiet = refl;
  folder = refl;
}

-- or the box burned, and the file of the burned page put
pub burned_ends : (b : BurnLine) (paths : BurnPaths) (before : World) (source' : SourceView) (folder' : FolderView) (p q : Image) (e : Ending) → burn_paths b ≡ Some paths → ReadsPageAt paths.from before.source (Ok p) source' → Ok q ≡ burn_page b.area p → PutsPage paths.to (tiff_of b.form q) before.folder e folder' → BurnEnds b before e (world source' before.keeper folder')
burned_ends b paths before source' folder' p q e named read is put =
    put_ends b paths.to before source' folder' (tiff_of b.form q) e
    (answered b paths before.source.files (Ok p) (burn_done paths.to (tiff_of b.form q)) named read.0 (ap (burn_gives b.form paths.to) (sym is))) read.1 put

-- ---- a word that names a path, or none

not_named : (o : Option (List ℕ)) (rule : Rule) → ok_or o path_refused ≡ Err rule → (o ≡ None) × (rule ≡ path_refused)
not_named None rule same = (refl, cc)
not_named (Some path) rule same = cc

pub path_refusal : (o : Option (List ℕ)) (refusal : Refusal) (stop : Stop) → Answers {X = List ℕ} (λ path. path) (Err refusal) (ok_or o path_refused) → StopsFor refusal stop → NamesPath o (Err stop)
path_refusal o (refusals.Rule rule) stop answered is = subst (λ (s : Stop). NamesPath o (Err s)) (sym is) (not_named o rule answered)
path_refusal o refusals.OutOfMemory stop answered is = subst (λ (s : Stop). NamesPath o (Err s)) (sym is) tt

pub path_answer : (o : Option (List ℕ)) (path : List ℕ) → ok_or o path_refused ≡ Ok path → o ≡ Some path
path_answer None path same = cc
path_answer (Some p) path same = cc

-- a word named no path
path_stop : (b : BurnLine) (before : World) (stop : Stop) → NamesPaths b (Err stop) → BurnEnds b before (Err stop) before
path_stop b before stops.WordsRefused named = absurd named
path_stop b before (stops.Broken rule) named = record {
  outcome = subst (λ (r : Rule). BurnOutcome b before.source.files (refused r)) (sym named.1) (no_path_outcome b before.source.files named.0);
  source = sym (same_kind before.source path_refused rule (sym named.1) refl);
  keeper = unused before.keeper;
  quiet = refl;
  folder = refl;
}
path_stop b before stops.SourceFault named = absurd named
path_stop b before stops.FolderFault named = absurd named
path_stop b before stops.KeeperFault named = absurd named
path_stop b before stops.OutOfMemory named = untouched refl (unused before.keeper) refl

pub path_stops : (b : BurnLine) (before : World) (stop : Stop) (r : Ending) → IsErr r → IsErrAnd r (λ s. s ≡ stop) → NamesPaths b (Err stop) → BurnEnds b before r before
path_stops b before stop (Ok line) is same named = absurd same
path_stops b before stop (Err s) is same named =
    subst (λ (t : Stop). BurnEnds b before (Err t) before) (sym same) (path_stop b before stop named)

-- ---- the keeper that burn leaves

pub burn_reads : (b : BurnLine) (s s' : SourceView) (k : KeeperView) (f f' : FolderView) (r : Ending) → BurnEnds b (world s k f) r (world s' k f') → ReadsAndWorks (Some (burn b)) (world s k f) r (world s' k f')
burn_reads b s s' k f f' r ends = record {
  read = k.rows;
  rows = record { same = rows_itself k.rows; told = told_itself k.rows };
  left = ends;
  calls = record { loads = refl; commits = refl };
}
