-- Lemmas of outcomes: a command comes to one over a matter, and to the same over two that differ
-- only in what it withholds.
use Rattle.std.proofs.Common.{ℕ, ◌≡◌, ◌≤◌, Bool, true, false, cond, nat_lt, List, [], ◌∷◌, not, length, Option, Some, None, Result, Ok, Err, refl, sym, ap, subst, ◌∙◌}
use Rattle.std.specs.FinMap as map
use Rattle.std.proofs.lemmas.Bool.{le-ltb}
use Rattle.bp_core.specs.declared.rectangle.Rect.{Rect}
use Rattle.bp_core.specs.declared.rules.Rule.{Rule}
use Rattle.bp_core.specs.declared.rules.RuleKind.TheVariants as kinds
use Rattle.bp_core.specs.Paths.{path_in}
use Rattle.bp_core.specs.Rectangle.{lies_inside}
use Rattle.bp_core.specs.Rules.{bare_rule, page_limit_rule}
use Rattle.bp_outside.specs.Source.{FileMap}
use Rattle.bp_rows.specs.Image.{Image}
use Rattle.bp_rows.specs.Burned.{burned, AgreeOutside}
use Rattle.bp_rows.specs.Limits.{sides_are_imported}
use Rattle.bp_rows.proofs.BurnedLemmas.{burned-AgreeOutside}
use Rattle.bp_tiff.specs.Read.{TiffReads, TiffAnswers}
use Rattle.bp_tiff.proofs.OneAnswerLemmas.{OneAnswer}
use Rattle.bp_cli.specs.declared.burn.TheConstants.{FILE_LIMIT}
use Rattle.std.specs.Prelude.{IfSome}
use Rattle.bp_core.specs.declared.kept.Row.{Row}
use Rattle.bp_cli.specs.Endings.{Outcome, World, done, refused}
use Rattle.std.specs.Str.{chars}
use Rattle.bp_import.specs.Batch.{BatchAnswers}
use Rattle.bp_matter.specs.Batches.{BatchShown}
use Rattle.bp_matter.specs.KeptRows.{rows_of}
use Rattle.bp_matter.specs.Matter.{Matter}
use Rattle.bp_matter.specs.Valid.{IsValid}
use Rattle.bp_cli.specs.Import.{ImportOutcome, import_gives}
use Rattle.bp_cli.specs.Kept.{FirstOutcome, MatterAnswers, OfTwo, RowsOutcome}
use Rattle.bp_cli.specs.Press.{KeepSame, ShowSame, log_gives, press_gives}
use Rattle.bp_cli.specs.Produce.{FrozenAlike, produce_gives}
use Rattle.bp_cli.specs.Init.{init_gives}
use Rattle.bp_cli.proofs.ImportLemmas.{SomeBatch}
use Rattle.bp_cli.specs.Runs.{Tells}
use Rattle.bp_cli.specs.Words.{◌>>=◌}
use Rattle.bp_cli.specs.Check.{CheckOutcome}
use Rattle.bp_cli.specs.Burn.{BurnLine, BurnPaths, HoldsPageAt, BurnAlike, lacks_a_side, burn_page, burn_read, burn_gives, burn_paths, path_refused, PageFileAnswers, PathAnswers, BurnsAt, BurnComes}
use Rattle.bp_cli.specs.Commands.{CommandLine, Inputs, burn, init, import, produce, press, log, check, claw, demo, uses_of, AreKnown, AlikeFor, ComesTo, IsOutcome, RowsAlike, ShowAlike}
use Rattle.bp_cli.specs.Claw.{ClawOutcome, claw_gives}
use Rattle.bp_cli.specs.Demo.{demo_gives}
use Rattle.bp_cli.proofs.CheckLemmas.{check_one, some_check}
use Rattle.bp_cli.proofs.ClawLemmas.{claw_alike, claw_one}
use Rattle.bp_cli.proofs.KeptLemmas.{answers_loaded}
use Rattle.bp_cli.proofs.NamedFileLemmas.{some_file as some_named_file}
use Rattle.bp_cli.proofs.ProduceLemmas.{same_frozen, same_logged, same_pressed, some_rows}
use Rattle.bp_cli.proofs.RunLemmas.{AlikeOutcome}

-- each file is read as a page, or breaks a rule
abbrev pub SomeAnswer : Type 0
SomeAnswer = (bytes : List ℕ) → (answer : Result Image Rule) × TiffAnswers bytes answer

-- ---- one outcome

abbrev ComesWith : BurnLine → Option BurnPaths → FileMap → Outcome → Type 0
ComesWith b paths files o = elim paths [ None ↦ o ≡ refused path_refused | Some ps ↦ BurnsAt b ps files o ]

abbrev FileAnswersIf : Bool → List ℕ → Result Image Rule → Type 0
FileAnswersIf long bytes answer = elim long [ true ↦ answer ≡ Err (bare_rule kinds.FileTooLong) | false ↦ TiffAnswers bytes answer ]

file_one : OneAnswer → (long : Bool) (bytes : List ℕ) (a b : Result Image Rule) → FileAnswersIf long bytes a → FileAnswersIf long bytes b → a ≡ b
file_one one true bytes a b x y = x ∙ sym y
file_one one false bytes a b x y = one bytes a b x y

path_one : OneAnswer → (found : Option (List ℕ)) (a b : Result Image Rule) → PathAnswers found a → PathAnswers found b → a ≡ b
path_one one None a b x y = x ∙ sym y
path_one one (Some bytes) a b x y = file_one one (nat_lt FILE_LIMIT (length bytes)) bytes a b x y

burns_one : OneAnswer → (b : BurnLine) (paths : BurnPaths) (files : FileMap) (o o' : Outcome) → BurnsAt b paths files o → BurnsAt b paths files o' → o ≡ o'
burns_one one b paths files o o' x y =
    sym x.gives ∙ ap (λ (a : Result Image Rule). burn_gives b.form paths.to (burn_read b.area a)) (path_one one (map.get files paths.from) x.answer y.answer x.found y.found) ∙ y.gives

comes_one : OneAnswer → (b : BurnLine) (paths : Option BurnPaths) (files : FileMap) (o o' : Outcome) → ComesWith b paths files o → ComesWith b paths files o' → o ≡ o'
comes_one one b None files o o' x y = x ∙ sym y
comes_one one b (Some paths) files o o' x y = burns_one one b paths files o o' x y

-- kept rows are of one matter, or break one rule
abbrev pub RowsLaw : Type 0
RowsLaw = (m n : Matter) → IsValid m → IsValid n → rows_of m ≡ rows_of n → m ≡ n

pub matter_one : RowsLaw → (rows : List Row) (a b : Result Matter Rule) → MatterAnswers rows a → MatterAnswers rows b → a ≡ b
matter_one law [] a b x y = x ∙ sym y
matter_one law (row ∷ rows) (Ok m) (Ok n) x y = ap (λ (k : Matter). Ok k) (law m n x.0 y.0 (sym x.1 ∙ y.1))
matter_one law (row ∷ rows) (Ok m) (Err r) x y = absurd (y.1 m x.0 x.1)
matter_one law (row ∷ rows) (Err r) (Ok n) x y = absurd (x.1 n y.0 y.1)
matter_one law (row ∷ rows) (Err r) (Err t) x y = ap (λ (k : Rule). Err k) (x.0 ∙ sym y.0)

-- a folder comes to one batch, or breaks one rule
abbrev pub OneBatch : Type 0
OneBatch = (files : FileMap) (name : List ℕ) (a b : Result BatchShown Rule) → BatchAnswers files name a → BatchAnswers files name b → a ≡ b

-- what other crates say of their answers
pub record Laws : Type 0 where
  pub one : OneAnswer
  pub some : SomeAnswer
  pub rows : RowsLaw
  pub one_batch : OneBatch
  pub some_batch : SomeBatch

import_one : Laws → (name : List ℕ) (inputs : Inputs) (o o' : Outcome) → ImportOutcome name (Some inputs.files) (Some inputs.rows) o → ImportOutcome name (Some inputs.files) (Some inputs.rows) o' → o ≡ o'
import_one laws name inputs o o' x y =
    sym x.gives ∙ ap (λ (t : Result Matter Rule). import_gives name t x.batch) (matter_one laws.rows inputs.rows x.tables y.tables x.kept y.kept)
    ∙ ap (import_gives name y.tables) (laws.one_batch inputs.files (chars name) x.batch y.batch x.found y.found) ∙ y.gives

-- kept rows give one outcome
rows_one : RowsLaw → (gives : Result Matter Rule → Outcome) (rows : List Row) (o o' : Outcome) → RowsOutcome gives (Some rows) o → RowsOutcome gives (Some rows) o' → o ≡ o'
rows_one law gives rows o o' x y = sym x.given ∙ ap gives (matter_one law rows x.tables y.tables x.kept y.kept) ∙ y.given

pub one_outcome : Laws → (c : CommandLine) (inputs : Inputs) (o o' : Outcome) → ComesTo c inputs o → ComesTo c inputs o' → o ≡ o'
one_outcome laws (burn b) inputs o o' x y = comes_one laws.one b (burn_paths b) inputs.files o o' x y
one_outcome laws (init digest) inputs o o' x y = sym x ∙ y
one_outcome laws (import name) inputs o o' x y = import_one laws name inputs o o' x y
one_outcome laws (produce q) inputs o o' x y = rows_one laws.rows (produce_gives q) inputs.rows o o' x y
one_outcome laws (press id) inputs o o' x y = rows_one laws.rows (press_gives id) inputs.rows o o' x y
one_outcome laws (log id) inputs o o' x y = rows_one laws.rows (log_gives id) inputs.rows o o' x y
one_outcome laws (check asked) inputs o o' x y = check_one laws.one asked inputs.files o o' x y
one_outcome laws (claw asked) inputs o o' x y = claw_one asked inputs.files inputs.rows o o' (matter_one laws.rows inputs.rows) x y
one_outcome laws (demo asked) inputs o o' x y = sym x ∙ y

-- ---- and there is one

some_file : SomeAnswer → (long : Bool) (bytes : List ℕ) → (answer : Result Image Rule) × FileAnswersIf long bytes answer
some_file some true bytes = (Err (bare_rule kinds.FileTooLong), refl)
some_file some false bytes = some bytes

some_path : SomeAnswer → (found : Option (List ℕ)) → (answer : Result Image Rule) × PathAnswers found answer
some_path some None = (Err (bare_rule kinds.FileAbsent), refl)
some_path some (Some bytes) = some_file some (nat_lt FILE_LIMIT (length bytes)) bytes

some_comes : SomeAnswer → (b : BurnLine) (paths : Option BurnPaths) (files : FileMap) → (o : Outcome) × ComesWith b paths files o
some_comes some b None files = (refused path_refused, refl)
some_comes some b (Some paths) files =
    let found = some_path some (map.get files paths.from) in
    (burn_gives b.form paths.to (burn_read b.area found.0), record { answer = found.0; found = found.1; gives = refl })

rows_known : (gives : Result Matter Rule → Outcome) (rows : List Row) (answer : Result Matter Rule) → MatterAnswers rows answer → RowsOutcome gives (Some rows) (gives answer)
rows_known gives rows answer is = record { tables = answer; loaded = answers_loaded rows answer is; kept = is; given = refl }

pub some_outcome : Laws → (c : CommandLine) (inputs : Inputs) → AreKnown c inputs → (o : Outcome) × ComesTo c inputs o
some_outcome laws (burn b) inputs known = some_comes laws.some b (burn_paths b) inputs.files
some_outcome laws (init digest) inputs known = (init_gives digest inputs.rows, refl)
some_outcome laws (import name) inputs known =
    let found = laws.some_batch inputs.files (chars name) in
    (import_gives name known.0 found.0, record { tables = known.0; loaded = answers_loaded inputs.rows known.0 known.1; kept = known.1; batch = found.0; found = found.1; gives = refl })
some_outcome laws (produce q) inputs known = (produce_gives q known.0, rows_known (produce_gives q) inputs.rows known.0 known.1)
some_outcome laws (press id) inputs known = (press_gives id known.0, rows_known (press_gives id) inputs.rows known.0 known.1)
some_outcome laws (log id) inputs known = (log_gives id known.0, rows_known (log_gives id) inputs.rows known.0 known.1)
some_outcome laws (check asked) inputs known = some_check laws.some asked inputs.files
some_outcome laws (claw asked) inputs known =
    let found = some_named_file (Some inputs.files) asked.notice in
    (claw_gives asked known.0 found.0, record { tables = known.0; loaded = answers_loaded inputs.rows known.0 known.1; kept = known.1; file = found.0; found = found.1; gives = refl })
some_outcome laws (demo asked) inputs known = (demo_gives asked inputs.rows, refl)

-- ---- two matters

-- what the sides of a page and its burned page give
burn_by : Rect → ℕ → ℕ → Image → Result Image Rule
burn_by area width height p =
    cond (not (sides_are_imported width height)) (Err (page_limit_rule width height))
    (cond (lacks_a_side area) (Err (bare_rule kinds.BoxShape))
    (cond (lies_inside area width height) (Ok p) (Err (bare_rule kinds.BoxOutside))))

pages_alike : (area : Rect) (p q : Image) → AgreeOutside (area ∷ []) p q → burn_page area p ≡ burn_page area q
unfolding burn_by
pages_alike area p q agree =
    ap (λ w. burn_by area w p.height (burned p (area ∷ []))) agree.width
    ∙ ap (λ h. burn_by area q.width h (burned p (area ∷ []))) agree.height
    ∙ ap (burn_by area q.width q.height) (burned-AgreeOutside (area ∷ []) p q agree)

-- a file that is short enough answers with its page
page_found : (bytes : List ℕ) (p : Image) → length bytes ≤ FILE_LIMIT → TiffReads bytes p → PageFileAnswers bytes (Ok p)
page_found bytes p short reads =
    let P : Bool → Type 0 = λ long. elim long [ true ↦ Ok p ≡ Err (bare_rule kinds.FileTooLong) | false ↦ TiffAnswers bytes (Ok p) ] in
    subst P (sym (le-ltb FILE_LIMIT (length bytes) short)) reads

path_found : (files : FileMap) (from : List ℕ) (text : List ℕ) (p : Image) → path_in text ≡ Some from → HoldsPageAt files text p → PathAnswers (map.get files from) (Ok p)
path_found files from text p named has =
    let same : Some has.path ≡ Some from = sym has.named ∙ named in
    let path : has.path ≡ from = cc in
    let there : map.get files from ≡ Some has.bytes = ap (map.get files) (sym path) ∙ has.there in
    subst (λ (found : Option (List ℕ)). PathAnswers found (Ok p)) (sym there) (page_found has.bytes p has.short has.reads)

burns_alike : OneAnswer → (b : BurnLine) (paths : BurnPaths) (files files' : FileMap) (o : Outcome) → path_in b.from ≡ Some paths.from → BurnAlike b files files' → BurnsAt b paths files' o → BurnsAt b paths files o
burns_alike one b paths files files' o named alike at =
    let there = path_found files' paths.from b.from alike.page' named alike.has' in
    let answer : at.answer ≡ Ok alike.page' = path_one one (map.get files' paths.from) at.answer (Ok alike.page') at.found there in
    record {
      answer = Ok alike.page;
      found = path_found files paths.from b.from alike.page named alike.has;
      gives = ap (burn_gives b.form paths.to) (pages_alike b.area alike.page alike.page' alike.agree)
          ∙ ap (λ (a : Result Image Rule). burn_gives b.form paths.to (burn_read b.area a)) (sym answer)
          ∙ at.gives;
    }

abbrev paths_with : Option (List ℕ) → Option (List ℕ) → Option BurnPaths
paths_with from to = from >>= λ f. to >>= λ t. Some (record { from = f; to = t })

comes_alike : OneAnswer → (b : BurnLine) (from to : Option (List ℕ)) (files files' : FileMap) (o : Outcome) → path_in b.from ≡ from → BurnAlike b files files' → ComesWith b (paths_with from to) files' o → ComesWith b (paths_with from to) files o
comes_alike one b None to files files' o named alike comes = comes
comes_alike one b (Some f) None files files' o named alike comes = comes
comes_alike one b (Some f) (Some t) files files' o named alike comes =
    burns_alike one b (record { from = f; to = t }) files files' o named alike comes

-- the same outcome shows the same
shows_itself : (c : CommandLine) (o : Outcome) → ((rows : Option (List Row)) → RowsAlike c rows rows) → ShowAlike c o o
shows_itself c (done line files rows) same = (refl, refl, same rows)
shows_itself c (refused rule) same = refl

same_comes : (c : CommandLine) (inputs : Inputs) (other : Outcome) → ((rows : Option (List Row)) → RowsAlike c rows rows) → ComesTo c inputs other → AlikeOutcome c inputs other
same_comes c inputs other same comes = record { outcome = other; comes = comes; same = shows_itself c other same }

-- rows of a valid matter are known to be its
pub rows_answer : (rows : List Row) (m : Matter) → IsValid m → rows ≡ rows_of m → MatterAnswers rows (Ok m)
rows_answer [] m valid is = absurd (some_rows m valid is)
rows_answer (row ∷ rows) m valid is = (valid, is)

-- rows of two matters, which show the same, give outcomes that show the same
rows_alike : RowsLaw → (c : CommandLine) (P : Matter → Matter → Type 0) (gives : Result Matter Rule → Outcome) (rows rows' : List Row) (other : Outcome) (both : OfTwo P rows rows') → RowsOutcome gives (Some rows') other
    → ShowAlike c (gives (Ok both.one)) (gives (Ok both.two)) → (o : Outcome) × (RowsOutcome gives (Some rows) o × ShowAlike c o other)
rows_alike law c P gives rows rows' other both comes shows =
    let is : gives (Ok both.two) ≡ other = rows_one law gives rows' (gives (Ok both.two)) other (rows_known gives rows' (Ok both.two) (rows_answer rows' both.two both.valid' both.kept')) comes in
    (gives (Ok both.one), (rows_known gives rows (Ok both.one) (rows_answer rows both.one both.valid both.kept), subst (λ (o : Outcome). ShowAlike c (gives (Ok both.one)) o) is shows))

pub outcome_alike : Laws → (c : CommandLine) (inputs inputs' : Inputs) (other : Outcome) → AlikeFor c inputs inputs' → ComesTo c inputs' other → AlikeOutcome c inputs other
outcome_alike laws (burn b) inputs inputs' other alike comes =
    same_comes (burn b) inputs other (λ rows. refl) (comes_alike laws.one b (path_in b.from) (path_in b.to) inputs.files inputs'.files other refl alike comes)
outcome_alike laws (init digest) inputs inputs' other alike comes =
    same_comes (init digest) inputs other (λ rows. refl) (ap (init_gives digest) alike ∙ comes)
outcome_alike laws (import name) inputs inputs' other alike comes =
    same_comes (import name) inputs other (λ rows. refl)
    (subst (λ (files : FileMap). ImportOutcome name (Some files) (Some inputs.rows) other) (sym alike.0)
    (subst (λ (rows : List Row). ImportOutcome name (Some inputs'.files) (Some rows) other) (sym alike.1) comes))
outcome_alike laws (produce q) inputs inputs' other both comes =
    let there = rows_alike laws.rows (produce q) (FrozenAlike q) (produce_gives q) inputs.rows inputs'.rows other both comes (same_frozen q both.one both.two both.valid both.valid' both.holds) in
    record { outcome = there.0; comes = there.1.0; same = there.1.1 }
outcome_alike laws (press id) inputs inputs' other both comes =
    let there = rows_alike laws.rows (press id) (ShowSame id) (press_gives id) inputs.rows inputs'.rows other both comes (same_pressed (press id) id both.one both.two both.holds refl) in
    record { outcome = there.0; comes = there.1.0; same = there.1.1 }
outcome_alike laws (log id) inputs inputs' other both comes =
    let there = rows_alike laws.rows (log id) (KeepSame id) (log_gives id) inputs.rows inputs'.rows other both comes (same_logged (log id) id both.one both.two both.holds refl) in
    record { outcome = there.0; comes = there.1.0; same = there.1.1 }
outcome_alike laws (check asked) inputs inputs' other alike comes =
    same_comes (check asked) inputs other (λ rows. refl) (subst (λ (files : FileMap). CheckOutcome asked (Some files) other) (sym alike) comes)
outcome_alike laws (claw asked) inputs inputs' other alike comes =
    same_comes (claw asked) inputs other (λ rows. refl)
    (claw_alike asked inputs.files inputs.rows inputs'.rows other (matter_one laws.rows inputs'.rows) rows_answer alike.matters
    (subst (λ (files : FileMap). ClawOutcome asked (Some files) (Some inputs'.rows) other) (sym alike.same) comes))
outcome_alike laws (demo asked) inputs inputs' other alike comes =
    same_comes (demo asked) inputs other (λ rows. refl) (ap (demo_gives asked) alike ∙ comes)

-- ---- what is told

-- what told rows give
told_first : (gives : List Row → Outcome) (told : Option (List Row)) (rows : List Row) (outcome : Outcome) → told ≡ Some rows → FirstOutcome gives told outcome → gives rows ≡ outcome
told_first gives told rows outcome there is =
    let P : Option (List Row) → Type 0 = λ o. IfSome o (λ t. is.rows ≡ t) in
    let same : is.rows ≡ rows = subst P there is.same in
    ap gives (sym same) ∙ is.given

-- the outcome over a told matter
pub told_outcome : (c : CommandLine) (before : World) (inputs : Inputs) (outcome : Outcome) → Tells (uses_of c).files before.source.files inputs.files → Tells (uses_of c).rows before.keeper.rows inputs.rows → IsOutcome c before outcome → ComesTo c inputs outcome
told_outcome (burn b) before inputs outcome files rows is =
    let P : Option FileMap → Type 0 = λ o. IfSome o (λ t. t ≡ is.files) in
    let same : inputs.files ≡ is.files = subst P files is.same in
    subst (λ (fs : FileMap). BurnComes b fs outcome) (sym same) is.comes
told_outcome (init digest) before inputs outcome files rows is = told_first (init_gives digest) before.keeper.rows inputs.rows outcome rows is
told_outcome (import name) before inputs outcome files rows is =
    subst (λ (o : Option FileMap). ImportOutcome name o (Some inputs.rows) outcome) files
    (subst (λ (o : Option (List Row)). ImportOutcome name before.source.files o outcome) rows is)
told_outcome (produce q) before inputs outcome files rows is = subst (λ (o : Option (List Row)). RowsOutcome (produce_gives q) o outcome) rows is
told_outcome (press id) before inputs outcome files rows is = subst (λ (o : Option (List Row)). RowsOutcome (press_gives id) o outcome) rows is
told_outcome (log id) before inputs outcome files rows is = subst (λ (o : Option (List Row)). RowsOutcome (log_gives id) o outcome) rows is
told_outcome (check asked) before inputs outcome files rows is = subst (λ (o : Option FileMap). CheckOutcome asked o outcome) files is
told_outcome (claw asked) before inputs outcome files rows is =
    subst (λ (o : Option FileMap). ClawOutcome asked o (Some inputs.rows) outcome) files
    (subst (λ (o : Option (List Row)). ClawOutcome asked before.source.files o outcome) rows is)
told_outcome (demo asked) before inputs outcome files rows is = told_first (demo_gives asked) before.keeper.rows inputs.rows outcome rows is
