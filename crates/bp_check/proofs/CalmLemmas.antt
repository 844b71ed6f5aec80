-- Rules that come from no read leave the source as it was.
use Rattle.std.proofs.Common.{◌≡◌, ℕ, ◌+◌, ◌==◌, Bool, true, false, cond, Option, Some, None, Result, Ok, Err, List, [], ◌∷◌, length, refl, sym, ap, ◌∙◌, subst}
use Rattle.std.specs.Option.{ok_or}
use Rattle.std.specs.Result.{IsErrAnd}
use Rattle.bp_core.specs.Answers.{Answers}
use Rattle.bp_core.specs.InTurn.{first_then, onto, read_each}
use Rattle.bp_core.specs.RuleSteps.{◌>>=◌}
use Rattle.bp_core.specs.Rules.{rule_at_line}
use Rattle.bp_core.specs.declared.refusals.Refusal.{Refusal}
use Rattle.bp_core.specs.declared.refusals.Refusal.TheVariants as calls
use Rattle.bp_core.specs.declared.rules.Rule.{Rule}
use Rattle.bp_core.specs.declared.rules.RuleKind.TheVariants.{DatShape, ManifestShape, OptShape}
use Rattle.bp_load.specs.Dat.{after_header, dat_of, row_of_values, values_of_line, table_with_rows, table_of}
use Rattle.bp_load.specs.Lines.{filled_lines, without_mark}
use Rattle.bp_load.specs.Opt.{opt_line_of, opt_of}
use Rattle.bp_load.specs.declared.opt.OptLine.{OptLine}
use Rattle.bp_outside.specs.Source.{SourceView}
use Rattle.bp_check.specs.Breaks.{breaks_from, breaks_hold, fits}
use Rattle.bp_check.specs.Check.{agrees}
use Rattle.bp_check.specs.Checking.{after_rule, after_check_step}
use Rattle.bp_check.specs.Counts.{counts_from, is_counted}
use Rattle.bp_check.specs.Labels.{Label, gap_rule, is_next, label_at, labels_from, labels_of}
use Rattle.bp_check.specs.Listing.{listed_all, lists}
use Rattle.bp_check.specs.Manifest.{Listed, between_newlines, listed_from, listed_in, listed_files}
use Rattle.bp_check.specs.Refusals.{BecomesCheckRefusal}
use Rattle.bp_check.specs.Steps.{must_pass}
use Rattle.bp_check.specs.declared.records.Record.{Record}
use Rattle.bp_check.specs.declared.refusals.ImportRefusal.{ImportRefusal}
use Rattle.bp_load.specs.Documents.{docs_after}

abbrev pub Calm : Rule → Type 0
Calm rule = (source : SourceView) → after_rule source rule.kind ≡ source

-- whatever rule it is, it comes from no read
abbrev pub AllCalm : {V : Type 0} → Result V Rule → Type 0
AllCalm answer = (rule : Rule) → answer ≡ Err rule → Calm rule

calm_err : {V : Type 0} (rule : Rule) → Calm rule → AllCalm {V = V} (Err rule)
calm_err rule calm other e = let same : rule ≡ other = cc in subst Calm same calm

calm_ok : {V : Type 0} (value : V) → AllCalm (Ok value)
calm_ok value rule e = cc

calm_cond : {V : Type 0} (b : Bool) (r s : Result V Rule) → AllCalm r → AllCalm s → AllCalm (cond b r s)
calm_cond true r s one other = one
calm_cond false r s one other = other

calm_demand : (passes : Bool) (rule : Rule) → Calm rule → AllCalm (must_pass passes rule)
calm_demand true rule calm = calm_ok tt
calm_demand false rule calm = calm_err rule calm

calm_ok_or : {V : Type 0} (o : Option V) (rule : Rule) → Calm rule → AllCalm (ok_or o rule)
calm_ok_or None rule calm = calm_err rule calm
calm_ok_or (Some v) rule calm = calm_ok v

calm_next : {A B : Type 0} (r : Result A Rule) (next : A → Result B Rule) → AllCalm r → ((a : A) → AllCalm (next a)) → AllCalm (r >>= next)
calm_next (Ok a) next one others = others a
calm_next (Err rule) next one others = calm_err rule (one rule refl)

calm_onto : {V : Type 0} (value : V) (r : Result (List V) Rule) → AllCalm r → AllCalm (onto value r)
calm_onto value (Ok values) calm = calm_ok (value ∷ values)
calm_onto value (Err rule) calm = calm_err rule (calm rule refl)

calm_first : {V : Type 0} (o : Option V) (rule : Rule) (r : Result (List V) Rule) → Calm rule → AllCalm r → AllCalm (first_then o rule r)
calm_first None rule r calm others = calm_err rule calm
calm_first (Some value) rule r calm others = calm_onto value r others

calm_each : {X V : Type 0} (read : X → Option V) (rule : ℕ → Rule) → ((n : ℕ) → Calm (rule n)) → (n : ℕ) (pieces : List X) → AllCalm (read_each read rule n pieces)
calm_each read rule calm n [] = calm_ok []
calm_each read rule calm n (piece ∷ pieces) = calm_first (read piece) (rule n) (read_each read rule (n + 1) pieces) (calm n) (calm_each read rule calm (n + 1) pieces)

-- ---- each step

calm_rows : (columns : List (List ℕ)) (r : Result (List (List (List ℕ))) Rule) → AllCalm r → AllCalm (table_with_rows columns r)
calm_rows columns (Ok rows) calm = calm_ok _
calm_rows columns (Err rule) calm = calm_err rule (calm rule refl)

calm_header : (o : Option (List (List ℕ))) (records : List (List ℕ)) → AllCalm (after_header o records)
calm_header None records = calm_err _ (λ source. refl)
calm_header (Some columns) records = calm_rows columns _ (calm_each (row_of_values _) (rule_at_line DatShape) (λ n source. refl) 2 records)

calm_table : (lines : List (List ℕ)) → AllCalm (table_of lines)
calm_table [] = calm_err _ (λ source. refl)
calm_table (header ∷ records) = calm_header (values_of_line header) records

pub dat_calm : (bytes : List ℕ) → AllCalm (dat_of bytes)
dat_calm bytes = calm_cond _ _ _ (calm_table (filled_lines (without_mark bytes))) (calm_err _ (λ source. refl))

pub opt_calm : (bytes : List ℕ) → AllCalm (opt_of bytes)
opt_calm bytes = calm_each opt_line_of (rule_at_line OptShape) (λ n source. refl) 1 (filled_lines (without_mark bytes))

calm_listed : (n : ℕ) (lines : List (List ℕ)) → AllCalm (listed_from n lines)
calm_listed n [] = calm_ok []
calm_listed n (line ∷ []) = calm_cond (length line == 0) _ _ (calm_ok []) (calm_err _ (λ source. refl))
calm_listed n (line ∷ next ∷ lines) = calm_first (listed_in line) (rule_at_line ManifestShape n) (listed_from (n + 1) (next ∷ lines)) (λ source. refl) (calm_listed (n + 1) (next ∷ lines))

pub manifest_calm : (bytes : List ℕ) → AllCalm (listed_files bytes)
manifest_calm bytes = calm_listed 1 (between_newlines bytes)

calm_label : (n : ℕ) (before : Option Label) (line : OptLine) → AllCalm (label_at n before line)
calm_label n before line =
    calm_next (ok_or _ _) _ (calm_ok_or _ _ (λ source. refl))
    (λ label. calm_next (must_pass (is_next before label) (gap_rule n before label)) _ (calm_demand _ _ (λ source. refl)) (λ _. calm_ok label))

calm_labels : (n : ℕ) (before : Option Label) (lines : List OptLine) → AllCalm (labels_from n before lines)
calm_labels n before [] = calm_ok tt
calm_labels n before (line ∷ lines) = calm_next (label_at n before line) _ (calm_label n before line) (λ label. calm_labels (n + 1) (Some label) lines)

calm_breaks : (n : ℕ) (docs : List Record) (lines : List OptLine) → AllCalm (breaks_from n docs lines)
calm_breaks n docs [] = calm_demand _ _ (λ source. refl)
calm_breaks n docs (line ∷ lines) = calm_cond (fits n docs line lines) _ _ (calm_breaks (n + 1) (docs_after docs line) lines) (calm_err _ (λ source. refl))

calm_counts : (n : ℕ) (docs : List Record) (lines : List OptLine) → AllCalm (counts_from n docs lines)
calm_counts n docs [] = calm_ok tt
calm_counts n docs (line ∷ lines) = calm_cond (is_counted docs line lines) _ _ (calm_counts (n + 1) (docs_after docs line) lines) (calm_err _ (λ source. refl))

pub agrees_calm : (docs : List Record) (lines : List OptLine) → AllCalm (agrees docs lines)
agrees_calm docs lines =
    calm_next (labels_of lines) _ (calm_labels 1 None lines)
    (λ _. calm_next (breaks_hold docs lines) _ (calm_breaks 1 docs lines) (λ _. calm_counts 1 docs lines))

pub listed_calm : (listed : List Listed) (place : ℕ) (paths : List (List ℕ)) → AllCalm (listed_all listed place paths)
listed_calm listed place [] = calm_ok tt
listed_calm listed place (path ∷ paths) = calm_cond (lists listed path) _ _ (listed_calm listed (place + 1) paths) (calm_err _ (λ source. refl))

-- ---- what a `?` hands on

-- the source stays where a step that reads nothing is refused
after_bad : {Y V : Type 0} (view : Y → V) (refusal : Refusal) (given : ImportRefusal) (answer : Result V Rule) (source : SourceView)
    → AllCalm answer → BecomesCheckRefusal refusal given → Answers view (Err refusal) answer
    → (X : Type 0) → source ≡ after_check_step {X = X} source (Err given)
after_bad view (calls.Rule rule) given answer source calm is said X =
    sym (ap (λ g. after_check_step {X = X} source (Err g)) is ∙ calm rule said source)
after_bad view calls.OutOfMemory given answer source calm is said X =
    sym (ap (λ g. after_check_step {X = X} source (Err g)) is)

pub bad_after : {X Y V : Type 0} (view : Y → V) (r : Result X ImportRefusal) (refusal : Refusal) (answer : Result V Rule) (source : SourceView)
    → AllCalm answer → IsErrAnd r (BecomesCheckRefusal refusal) → Answers view (Err refusal) answer
    → source ≡ after_check_step source r
bad_after {X} view (Ok x) refusal answer source calm is said = absurd is
bad_after {X} view (Err given) refusal answer source calm is said = after_bad view refusal given answer source calm is said X
