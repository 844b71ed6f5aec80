-- What the steps of an import refuse, and what they leave in the source.
use Rattle.std.proofs.Common.{◌≡◌, ℕ, ◌+◌, Bool, true, false, cond, Option, Some, None, Result, Ok, Err, List, [], ◌∷◌, ◌++◌, refl, sym, ap, ◌∙◌, subst}
use Rattle.std.specs.Prelude.{IfSome}
use Rattle.std.specs.Option.{ok_or}
use Rattle.std.specs.Result.{IfErr, IsErrAnd}
use Rattle.csv.specs.Reading.{default_config, records, strip_bom}
use Rattle.bp_core.specs.Answers.{Answers}
use Rattle.bp_core.specs.InTurn.{first_then, onto, read_each}
use Rattle.bp_core.specs.Rules.{rule_at_line}
use Rattle.bp_core.specs.declared.refusals.Refusal.{Refusal}
use Rattle.bp_core.specs.declared.refusals.Refusal.TheVariants as calls
use Rattle.bp_core.specs.declared.rules.Rule.{Rule}
use Rattle.bp_core.specs.declared.rules.RuleKind.TheVariants.{DatShape, DocBreaks, FamilyBroken, OptShape, WordOutside, WordShape, WordsPage}
use Rattle.bp_load.specs.Dat.{after_header, columns_in, dat_columns, dat_of, row_of_values, values_of_line, table_with_rows, table_of as table_in}
use Rattle.bp_load.specs.Lines.{each_line, filled_lines, without_mark}
use Rattle.bp_load.specs.Opt.{opt_line_of, opt_of}
use Rattle.bp_load.specs.declared.opt.OptLine.{OptLine}
use Rattle.bp_outside.specs.Source.{FileMap, SourceView}
use Rattle.bp_rows.specs.Image.{Image}
use Rattle.bp_text.specs.WordFiles.{word_row as word_of, words_of}
use Rattle.bp_text.specs.declared.words.WordRow.{WordRow}
use Rattle.bp_import.specs.Breaks.{breaks_behind, breaks_of, broken_behind, is_broken, place_of}
use Rattle.bp_import.specs.Columns.{tested_table}
use Rattle.bp_import.specs.Families.{family_of, is_family, parents_from, parents_of}
use Rattle.bp_import.specs.Importing.{IsCalm, after_kind, after_step}
use Rattle.bp_import.specs.Planned.{PlanRefuses}
use Rattle.bp_import.specs.Refusals.{BecomesRefusal}
use Rattle.bp_core.specs.RuleSteps.{◌>>=◌}
use Rattle.bp_import.specs.Steps.{demanded}
use Rattle.bp_import.specs.WordPages.{places_of, row_inside, words_inside}
use Rattle.bp_import.specs.declared.records.Record.{Record}
use Rattle.bp_import.specs.declared.refusals.ImportRefusal.{ImportRefusal}
use Rattle.bp_import.specs.declared.refusals.ImportRefusal.TheVariants as refusals
use Rattle.bp_load.specs.Documents.{docs_after}

-- ---- rules that come from no read

abbrev pub Calm : Rule → Type 0
Calm rule = (source : SourceView) → after_kind source rule.kind ≡ source

-- whatever rule it is, it comes from no read
abbrev pub AllCalm : {V : Type 0} → Result V Rule → Type 0
AllCalm answer = (rule : Rule) → answer ≡ Err rule → Calm rule

calm_err : {V : Type 0} (rule : Rule) → Calm rule → AllCalm {V = V} (Err rule)
calm_err rule calm other e = let same : rule ≡ other = cc in subst Calm same calm

calm_ok : {V : Type 0} (value : V) → AllCalm (Ok value)
calm_ok value rule e = cc

calm_cond : {V : Type 0} (b : Bool) (r s : Result V Rule) → AllCalm r → AllCalm s → AllCalm (cond b r s)
calm_cond true r s one other = one
calm_cond false r s one other = other

calm_demand : (passes : Bool) (rule : Rule) → Calm rule → AllCalm (demanded passes rule)
calm_demand true rule calm = calm_ok tt
calm_demand false rule calm = calm_err rule calm

calm_ok_or : {V : Type 0} (o : Option V) (rule : Rule) → Calm rule → AllCalm (ok_or o rule)
calm_ok_or None rule calm = calm_err rule calm
calm_ok_or (Some v) rule calm = calm_ok v

calm_next : {A B : Type 0} (r : Result A Rule) (next : A → Result B Rule) → AllCalm r → ((a : A) → AllCalm (next a)) → AllCalm (r >>= next)
calm_next (Ok a) next one others = others a
calm_next (Err rule) next one others = calm_err rule (one rule refl)

calm_onto : {V : Type 0} (value : V) (r : Result (List V) Rule) → AllCalm r → AllCalm (onto value r)
calm_onto value (Ok values) calm = calm_ok (value ∷ values)
calm_onto value (Err rule) calm = calm_err rule (calm rule refl)

calm_first : {V : Type 0} (o : Option V) (rule : Rule) (r : Result (List V) Rule) → Calm rule → AllCalm r → AllCalm (first_then o rule r)
calm_first None rule r calm others = calm_err rule calm
calm_first (Some value) rule r calm others = calm_onto value r others

calm_each : {X V : Type 0} (read : X → Option V) (rule : ℕ → Rule) → ((n : ℕ) → Calm (rule n)) → (n : ℕ) (pieces : List X) → AllCalm (read_each read rule n pieces)
calm_each read rule calm n [] = calm_ok []
calm_each read rule calm n (piece ∷ pieces) = calm_first (read piece) (rule n) (read_each read rule (n + 1) pieces) (calm n) (calm_each read rule calm (n + 1) pieces)

-- ---- each step

calm_rows : (columns : List (List ℕ)) (r : Result (List (List (List ℕ))) Rule) → AllCalm r → AllCalm (table_with_rows columns r)
calm_rows columns (Ok rows) calm = calm_ok _
calm_rows columns (Err rule) calm = calm_err rule (calm rule refl)

calm_header : (o : Option (List (List ℕ))) (records : List (List ℕ)) → AllCalm (after_header o records)
calm_header None records = calm_err _ (λ source. refl)
calm_header (Some columns) records = calm_rows columns _ (calm_each (row_of_values _) (rule_at_line DatShape) (λ n source. refl) 2 records)

calm_lines : (lines : List (List ℕ)) → AllCalm (table_in lines)
calm_lines [] = calm_err _ (λ source. refl)
calm_lines (header ∷ records) = calm_header (values_of_line header) records

calm_first_line : (lines : List (List ℕ)) → AllCalm (columns_in lines)
calm_first_line [] = calm_err _ (λ source. refl)
calm_first_line (line ∷ lines) = calm_ok_or (values_of_line line) _ (λ source. refl)

pub table_calm : (bytes : List ℕ) → AllCalm (tested_table bytes)
table_calm bytes =
    calm_next (dat_columns bytes) _
    (calm_cond _ _ _ (calm_first_line (filled_lines (without_mark bytes))) (calm_err _ (λ source. refl)))
    (λ columns. calm_next _ (λ _. dat_of bytes) (calm_demand _ _ (λ source. refl)) (λ _. calm_cond _ _ _ (calm_lines (filled_lines (without_mark bytes))) (calm_err _ (λ source. refl))))

pub opt_calm : (bytes : List ℕ) → AllCalm (opt_of bytes)
opt_calm bytes = calm_each opt_line_of (rule_at_line OptShape) (λ n source. refl) 1 (filled_lines (without_mark bytes))

pub words_calm : (bytes : List ℕ) → AllCalm (words_of bytes)
words_calm bytes = calm_each word_of (rule_at_line WordShape) (λ n source. refl) 1 (records default_config (strip_bom bytes))

calm_breaks : (before : List OptLine) (docs : List Record) (lines : List OptLine) → AllCalm (breaks_behind before docs lines)
calm_breaks before docs [] = calm_demand _ _ (λ source. refl)
calm_breaks before docs (line ∷ lines) = calm_cond (is_broken before docs line) _ _ (calm_err _ (λ source. refl)) (calm_breaks (before ++ line ∷ []) (docs_after docs line) lines)

pub breaks_calm : (docs : List Record) (lines : List OptLine) → AllCalm (breaks_of docs lines)
breaks_calm docs lines = calm_breaks [] docs lines

calm_parents : (n : ℕ) (before : Option (List ℕ)) (parent : ℕ) (docs : List Record) → AllCalm (parents_from n before parent docs)
calm_parents n before parent [] = calm_ok []
calm_parents n before parent (doc ∷ docs) =
    calm_cond _ _ _ (calm_onto n _ (calm_parents (n + 1) (Some (family_of doc)) n docs))
    (calm_cond _ _ _ (calm_onto parent _ (calm_parents (n + 1) (Some (family_of doc)) parent docs)) (calm_err _ (λ source. refl)))

pub parents_calm : (docs : List Record) → AllCalm (parents_of docs)
parents_calm docs = calm_parents 1 None 0 docs

pub places_calm : (lines : List OptLine) (rows : List WordRow) → AllCalm (places_of lines rows)
places_calm lines rows = calm_each (λ row. place_of row.image lines) (rule_at_line WordsPage) (λ n source. refl) 1 rows

pub inside_calm : (lines : List OptLine) (pages : List Image) (rows : List WordRow) → AllCalm (words_inside lines pages rows)
inside_calm lines pages rows = calm_each (row_inside lines pages) (rule_at_line WordOutside) (λ n source. refl) 1 rows

-- ---- what a `?` hands on

-- the source stays where a step that reads nothing is refused
after_bad : {Y V : Type 0} (view : Y → V) (refusal : Refusal) (given : ImportRefusal) (answer : Result V Rule) (source : SourceView)
    → AllCalm answer → BecomesRefusal refusal given → Answers view (Err refusal) answer
    → (X : Type 0) → source ≡ after_step {X = X} source (Err given)
after_bad view (calls.Rule rule) given answer source calm is said X =
    sym (ap (λ g. after_step {X = X} source (Err g)) is ∙ calm rule said source)
after_bad view calls.OutOfMemory given answer source calm is said X =
    sym (ap (λ g. after_step {X = X} source (Err g)) is)

pub bad_after : {X Y V : Type 0} (view : Y → V) (r : Result X ImportRefusal) (refusal : Refusal) (answer : Result V Rule) (source : SourceView)
    → AllCalm answer → IsErrAnd r (BecomesRefusal refusal) → Answers view (Err refusal) answer
    → source ≡ after_step source r
bad_after {X} view (Ok x) refusal answer source calm is said = absurd is
bad_after {X} view (Err given) refusal answer source calm is said = after_bad view refusal given answer source calm is said X

-- a refusal of what a call says is the refusal that is handed on
refuses_said : {Y V : Type 0} (view : Y → V) (refusal : Refusal) (given : ImportRefusal) (answer : Result V Rule)
    → BecomesRefusal refusal given → Answers view (Err refusal) answer → PlanRefuses given answer
refuses_said view (calls.Rule rule) given answer is said = subst (λ g. PlanRefuses g answer) (sym is) said
refuses_said view calls.OutOfMemory given answer is said = subst (λ g. PlanRefuses g answer) (sym is) tt

-- what stops at its first step stops
pub refuses_first : {A B : Type 0} (given : ImportRefusal) (r : Result A Rule) (next : A → Result B Rule) → PlanRefuses given r → PlanRefuses given (r >>= next)
refuses_first (refusals.Rule rule) r next e = ap (λ s. s >>= next) e
refuses_first refusals.SourceFault r next e = tt
refuses_first refusals.OutOfMemory r next e = tt

pub refuses_after : {A B : Type 0} (given : ImportRefusal) (r : Result A Rule) (a : A) (next : A → Result B Rule) → r ≡ Ok a → PlanRefuses given (next a) → PlanRefuses given (r >>= next)
refuses_after given r a next is e = subst (λ s. PlanRefuses given (s >>= next)) (sym is) e

pub bad_said : {X Y V W : Type 0} (view : Y → V) (r : Result X ImportRefusal) (refusal : Refusal) (answer : Result V Rule) (shown : Option FileMap) (whole : FileMap → Result W Rule)
    → IsErrAnd r (BecomesRefusal refusal) → Answers view (Err refusal) answer
    → ((given : ImportRefusal) → PlanRefuses given answer → IfSome shown (λ files. PlanRefuses given (whole files)))
    → IfErr r (λ given. IfSome shown (λ files. PlanRefuses given (whole files)))
bad_said view (Ok x) refusal answer shown whole is said then = absurd is
bad_said view (Err given) refusal answer shown whole is said then = then given (refuses_said view refusal given answer is said)

-- ---- the same where files are told

pub told_and : (shown : Option FileMap) (P Q R : FileMap → Type 0) → IfSome shown P → IfSome shown Q → ((files : FileMap) → P files → Q files → R files) → IfSome shown R
told_and None P Q R p q both = tt
told_and (Some files) P Q R p q both = both files p q

pub told_then : (shown : Option FileMap) (P R : FileMap → Type 0) → IfSome shown P → ((files : FileMap) → P files → R files) → IfSome shown R
told_then None P R p then = tt
told_then (Some files) P R p then = then files p

pub told_all : (shown : Option FileMap) (R : FileMap → Type 0) → ((files : FileMap) → R files) → IfSome shown R
told_all None R all = tt
told_all (Some files) R all = all files
