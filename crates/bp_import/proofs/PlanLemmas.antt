-- What the three files of a folder come to, step by step.
use Rattle.std.proofs.Common.{◌≡◌, ◌+◌, ◌≤◌, ℕ, Bool, true, false, Option, Some, None, Result, Ok, Err, List, [], ◌∷◌, ◌++◌, length, refl, sym, ap, ◌∙◌, subst, arith}
use Rattle.std.specs.Prelude.{IfSome}
use Rattle.bp_core.specs.Rules.{bare_rule}
use Rattle.bp_core.specs.declared.rules.Rule.{Rule}
use Rattle.bp_core.specs.declared.rules.RuleKind.TheVariants.{PathRefused}
use Rattle.bp_load.specs.Opt.{opt_of}
use Rattle.bp_load.specs.Table.{Table}
use Rattle.bp_load.specs.declared.opt.OptLine.{OptLine}
use Rattle.bp_matter.specs.Texts.{is_batch_name}
use Rattle.bp_outside.specs.Source.{FileMap}
use Rattle.bp_text.specs.WordFiles.{words_of}
use Rattle.bp_text.specs.declared.words.WordRow.{WordRow}
use Rattle.bp_import.specs.Batch.{Plan, plan_of}
use Rattle.bp_import.specs.Breaks.{breaks_of}
use Rattle.bp_import.specs.Columns.{tested_table}
use Rattle.bp_import.specs.Families.{parents_of}
use Rattle.bp_import.specs.Files.{dat_path, batch_file_at, opt_path, words_path}
use Rattle.bp_import.specs.Planned.{AreFiles, PlanRefuses, placing_of, file_said_at}
use Rattle.bp_import.specs.Records.{fields_of, records_of}
use Rattle.bp_core.specs.RuleSteps.{◌>>=◌}
use Rattle.bp_import.specs.Steps.{demanded}
use Rattle.bp_import.specs.WordPages.{places_of}
use Rattle.bp_import.specs.declared.files.TheConstants.{DAT, OPT, WORDS}
use Rattle.bp_import.specs.declared.records.Record.{Record}
use Rattle.bp_import.specs.declared.refusals.ImportRefusal.{ImportRefusal}
use Rattle.bp_import.specs.declared.refusals.ImportRefusal.TheVariants as refusals
use Rattle.bp_import.proofs.StepLemmas.{refuses_after}

-- ---- the rest of a plan, behind each of its steps

abbrev pub plan_with : List ℕ → List ℕ → List ℕ → List ℕ → Table → List OptLine → List ℕ → List WordRow → Plan
plan_with name dat opt csv table lines parents words = record {
  name = name;
  files = dat ∷ opt ∷ csv ∷ [];
  fields = fields_of table.columns;
  docs = records_of table;
  parents = parents;
  lines = lines;
  words = words;
}

abbrev behind_words : List ℕ → List ℕ → List ℕ → Table → List OptLine → List ℕ → List ℕ → List WordRow → Result Plan Rule
behind_words name dat opt table lines parents csv words = places_of lines words >>= (λ _. Ok (plan_with name dat opt csv table lines parents words))

abbrev behind_csv : List ℕ → List ℕ → List ℕ → Table → List OptLine → List ℕ → List ℕ → Result Plan Rule
behind_csv name dat opt table lines parents csv = words_of csv >>= behind_words name dat opt table lines parents csv

abbrev behind_parents : FileMap → List ℕ → List ℕ → List ℕ → Table → List OptLine → List ℕ → Result Plan Rule
behind_parents files name dat opt table lines parents = batch_file_at files (words_path name) WORDS 0 >>= behind_csv name dat opt table lines parents

abbrev behind_breaks : FileMap → List ℕ → List ℕ → List ℕ → Table → List OptLine → Result Plan Rule
behind_breaks files name dat opt table lines = parents_of (records_of table) >>= behind_parents files name dat opt table lines

abbrev behind_lines : FileMap → List ℕ → List ℕ → List ℕ → Table → List OptLine → Result Plan Rule
behind_lines files name dat opt table lines = breaks_of (records_of table) lines >>= (λ _. behind_breaks files name dat opt table lines)

abbrev behind_opt : FileMap → List ℕ → List ℕ → Table → List ℕ → Result Plan Rule
behind_opt files name dat table opt = opt_of opt >>= behind_lines files name dat opt table

abbrev behind_table : FileMap → List ℕ → List ℕ → Table → Result Plan Rule
behind_table files name dat table = batch_file_at files (opt_path name) OPT 0 >>= behind_opt files name dat table

abbrev behind_dat : FileMap → List ℕ → List ℕ → Result Plan Rule
behind_dat files name dat = tested_table dat >>= behind_table files name dat

abbrev behind_name : FileMap → List ℕ → Result Plan Rule
behind_name files name = batch_file_at files (dat_path name) DAT 0 >>= behind_dat files name

step : {A B : Type 0} (r : Result A Rule) (a : A) (next : A → Result B Rule) → r ≡ Ok a → (r >>= next) ≡ next a
step r a next is = ap (λ s. s >>= next) is

-- ---- refusals

-- a rule that one step breaks is broken, whatever comes behind it
bad_either : (A B : Type 0) (given : ImportRefusal) (rule : Rule) → PlanRefuses {V = A} given (Err rule) → PlanRefuses {V = B} given (Err rule)
bad_either A B (refusals.Rule other) rule bad = let same : rule ≡ other = cc in ap Err same
bad_either A B refusals.SourceFault rule bad = tt
bad_either A B refusals.OutOfMemory rule bad = tt

bad_then : {B C : Type 0} (given : ImportRefusal) (r : Result B Rule) (next : B → Result C Rule) → PlanRefuses given r → PlanRefuses given (r >>= next)
bad_then (refusals.Rule rule) r next bad = ap (λ s. s >>= next) bad
bad_then refusals.SourceFault r next bad = tt
bad_then refusals.OutOfMemory r next bad = tt

-- what two steps refuse is refused by them one after the other
two_bad : {A B C : Type 0} (given : ImportRefusal) (r : Result A Rule) (f : A → Result B Rule) (next : A → B → Result C Rule)
    → PlanRefuses given (r >>= f) → PlanRefuses given (r >>= (λ a. f a >>= next a))
two_bad given (Err rule) f next bad = bad_either _ _ given rule bad
two_bad given (Ok a) f next bad = bad_then given (f a) (next a) bad

named_then : (files : FileMap) (name : List ℕ) → is_batch_name name ≡ true → plan_of files name ≡ behind_name files name
named_then files name named = ap (λ b. demanded b (bare_rule PathRefused) >>= (λ _. behind_name files name)) named

table_then : (files : FileMap) (name dat : List ℕ) (table : Table) → is_batch_name name ≡ true
    → batch_file_at files (dat_path name) DAT 0 ≡ Ok dat → tested_table dat ≡ Ok table
    → plan_of files name ≡ behind_table files name dat table
table_then files name dat table named at says =
    named_then files name named ∙ step (batch_file_at files (dat_path name) DAT 0) dat (behind_dat files name) at ∙ step (tested_table dat) table (behind_table files name dat) says

lines_then : (files : FileMap) (name dat opt : List ℕ) (table : Table) (lines : List OptLine) → is_batch_name name ≡ true
    → batch_file_at files (dat_path name) DAT 0 ≡ Ok dat → tested_table dat ≡ Ok table
    → batch_file_at files (opt_path name) OPT 0 ≡ Ok opt → opt_of opt ≡ Ok lines
    → plan_of files name ≡ behind_lines files name dat opt table lines
lines_then files name dat opt table lines named at says at' says' =
    table_then files name dat table named at says
    ∙ step (batch_file_at files (opt_path name) OPT 0) opt (behind_opt files name dat table) at'
    ∙ step (opt_of opt) lines (behind_lines files name dat opt table) says'

pub dat_refused : (files : FileMap) (name : List ℕ) (given : ImportRefusal) → is_batch_name name ≡ true
    → PlanRefuses given (file_said_at tested_table files (dat_path name) DAT) → PlanRefuses given (plan_of files name)
dat_refused files name given named bad =
    subst (PlanRefuses given) (sym (named_then files name named))
    (two_bad given (batch_file_at files (dat_path name) DAT 0) tested_table (behind_table files name) bad)

pub opt_refused : (files : FileMap) (name dat : List ℕ) (table : Table) (given : ImportRefusal) → is_batch_name name ≡ true
    → batch_file_at files (dat_path name) DAT 0 ≡ Ok dat → tested_table dat ≡ Ok table
    → PlanRefuses given (file_said_at opt_of files (opt_path name) OPT) → PlanRefuses given (plan_of files name)
opt_refused files name dat table given named at says bad =
    subst (PlanRefuses given) (sym (table_then files name dat table named at says))
    (two_bad given (batch_file_at files (opt_path name) OPT 0) opt_of (λ opt. behind_lines files name dat opt table) bad)

-- the steps behind the lines, up to the places of the words
placing_bad : (given : ImportRefusal) (files : FileMap) (name dat opt : List ℕ) (table : Table) (lines : List OptLine)
    (breaks : Result (Unit {0}) Rule) (parents : Result (List ℕ) Rule) (file : Result (List ℕ) Rule)
    → PlanRefuses given (breaks >>= (λ _. parents >>= (λ ps. (file >>= words_of) >>= (λ ws. places_of lines ws))))
    → PlanRefuses given (breaks >>= (λ _. parents >>= (λ ps. file >>= (λ csv. words_of csv >>= behind_words name dat opt table lines ps csv))))
placing_bad given files name dat opt table lines (Err rule) parents file bad = bad_either _ _ given rule bad
placing_bad given files name dat opt table lines (Ok done) (Err rule) file bad = bad_either _ _ given rule bad
placing_bad given files name dat opt table lines (Ok done) (Ok ps) (Err rule) bad = bad_either _ _ given rule bad
placing_bad given files name dat opt table lines (Ok done) (Ok ps) (Ok csv) bad =
    two_bad given (words_of csv) (places_of lines) (λ words _. Ok (plan_with name dat opt csv table lines ps words)) bad

pub placing_refused : (files : FileMap) (name dat opt : List ℕ) (table : Table) (lines : List OptLine) (docs : List Record) (given : ImportRefusal) → is_batch_name name ≡ true
    → batch_file_at files (dat_path name) DAT 0 ≡ Ok dat → tested_table dat ≡ Ok table
    → batch_file_at files (opt_path name) OPT 0 ≡ Ok opt → opt_of opt ≡ Ok lines
    → docs ≡ records_of table
    → PlanRefuses given (placing_of files name docs lines) → PlanRefuses given (plan_of files name)
placing_refused files name dat opt table lines docs given named at says at' says' are bad =
    subst (PlanRefuses given) (sym (lines_then files name dat opt table lines named at says at' says'))
    (placing_bad given files name dat opt table lines (breaks_of (records_of table) lines) (parents_of (records_of table)) (batch_file_at files (words_path name) WORDS 0)
    (subst (λ ds. PlanRefuses given (placing_of files name ds lines)) are bad))

-- ---- all steps

pub plan_told : (files : FileMap) (name dat opt csv : List ℕ) (table : Table) (lines : List OptLine) (docs : List Record) (parents : List ℕ) (words : List WordRow) (places : List ℕ)
    → is_batch_name name ≡ true → AreFiles files name dat opt csv
    → tested_table dat ≡ Ok table → opt_of opt ≡ Ok lines → docs ≡ records_of table
    → breaks_of docs lines ≡ Ok tt → parents_of docs ≡ Ok parents → words_of csv ≡ Ok words → places_of lines words ≡ Ok places
    → plan_of files name ≡ Ok (plan_with name dat opt csv table lines parents words)
plan_told files name dat opt csv table lines docs parents words places named are says says' of breaks families says'' placed =
    lines_then files name dat opt table lines named are.at_dat says are.at_opt says'
    ∙ step (breaks_of (records_of table) lines) tt (λ _. behind_breaks files name dat opt table lines) (ap (λ ds. breaks_of ds lines) (sym of) ∙ breaks)
    ∙ step (parents_of (records_of table)) parents (behind_parents files name dat opt table lines) (ap parents_of (sym of) ∙ families)
    ∙ step (batch_file_at files (words_path name) WORDS 0) csv (behind_csv name dat opt table lines parents) are.at_words
    ∙ step (words_of csv) words (behind_words name dat opt table lines parents csv) says''
    ∙ step (places_of lines words) places (λ _. Ok (plan_with name dat opt csv table lines parents words)) placed

-- the same where files are told
pub opt_refused_told : (shown : Option FileMap) (name dat : List ℕ) (table : Table) (given : ImportRefusal) → is_batch_name name ≡ true
    → IfSome shown (λ files. batch_file_at files (dat_path name) DAT 0 ≡ Ok dat) → tested_table dat ≡ Ok table
    → IfSome shown (λ files. PlanRefuses given (file_said_at opt_of files (opt_path name) OPT))
    → IfSome shown (λ files. PlanRefuses given (plan_of files name))
opt_refused_told None name dat table given named at says bad = tt
opt_refused_told (Some files) name dat table given named at says bad = opt_refused files name dat table given named at says bad

pub placing_refused_told : (shown : Option FileMap) (name dat opt : List ℕ) (table : Table) (lines : List OptLine) (docs : List Record) (given : ImportRefusal) → is_batch_name name ≡ true
    → IfSome shown (λ files. batch_file_at files (dat_path name) DAT 0 ≡ Ok dat) → tested_table dat ≡ Ok table
    → IfSome shown (λ files. batch_file_at files (opt_path name) OPT 0 ≡ Ok opt) → opt_of opt ≡ Ok lines
    → docs ≡ records_of table
    → IfSome shown (λ files. PlanRefuses given (placing_of files name docs lines))
    → IfSome shown (λ files. PlanRefuses given (plan_of files name))
placing_refused_told None name dat opt table lines docs given named at says at' says' are bad = tt
placing_refused_told (Some files) name dat opt table lines docs given named at says at' says' are bad =
    placing_refused files name dat opt table lines docs given named at says at' says' are bad

pub files_told : (shown : Option FileMap) (name dat opt csv : List ℕ)
    → IfSome shown (λ files. batch_file_at files (dat_path name) DAT 0 ≡ Ok dat)
    → IfSome shown (λ files. batch_file_at files (opt_path name) OPT 0 ≡ Ok opt)
    → IfSome shown (λ files. batch_file_at files (words_path name) WORDS 0 ≡ Ok csv)
    → IfSome shown (λ files. AreFiles files name dat opt csv)
files_told None name dat opt csv one two three = tt
files_told (Some files) name dat opt csv one two three = record { at_dat = one; at_opt = two; at_words = three }
