-- What an import reads: the batch of a folder, or the first rule that it breaks.
use Rattle.std.specs.Prelude.{ℕ, ◌≡◌, List, [], ◌∷◌, ◌++◌, map, Result, Ok, Err}
use Rattle.bp_core.specs.Rules.{bare_rule}
use Rattle.bp_core.specs.declared.rules.Rule.{Rule}
use Rattle.bp_core.specs.declared.rules.RuleKind.TheVariants.{PathRefused}
use Rattle.bp_load.specs.Opt.{opt_of}
use Rattle.bp_load.specs.declared.opt.OptLine.{OptLine}
use Rattle.bp_matter.specs.Batches.{BatchShown}
use Rattle.bp_matter.specs.Texts.{is_batch_name}
use Rattle.bp_matter.specs.declared.batches.BatchDoc.{BatchDoc}
use Rattle.bp_matter.specs.declared.batches.BatchPage.{BatchPage}
use Rattle.bp_outside.specs.Source.{FileMap}
use Rattle.bp_text.specs.WordFiles.{words_of}
use Rattle.bp_text.specs.declared.words.WordRow.{WordRow}
use Rattle.bp_import.specs.Breaks.{breaks_of, cut, page_counts}
use Rattle.bp_import.specs.Columns.{tested_table}
use Rattle.bp_import.specs.Digest.{digest_of}
use Rattle.bp_import.specs.Families.{parents_of}
use Rattle.bp_import.specs.Files.{dat_path, batch_file_at, opt_path, words_path}
use Rattle.bp_import.specs.Records.{fields_of, records_of}
use Rattle.bp_import.specs.Scans.{LinesAnswer, Scan}
use Rattle.bp_core.specs.RuleSteps.{◌>>=◌}
use Rattle.bp_import.specs.Steps.{demanded}
use Rattle.bp_import.specs.WordPages.{places_of, words_inside, words_on}
use Rattle.bp_import.specs.declared.files.TheConstants.{DAT, OPT, WORDS}
use Rattle.bp_import.specs.declared.records.Record.{Record}

-- what is known of a batch before its images are read
pub record Plan : Type 0 where
  pub name : List ℕ
  pub files : List (List ℕ)
  pub fields : List (List ℕ)
  pub docs : List Record
  pub parents : List ℕ
  pub lines : List OptLine
  pub words : List WordRow

-- the steps before the images, in the order of their rules, where `read` says what is read of the
-- file of that number at a path
abbrev pub plan_by : (ℕ → List ℕ → Result (List ℕ) Rule) → List ℕ → Result Plan Rule
plan_by read name = do
  _ ← demanded (is_batch_name name) (bare_rule PathRefused)
  dat ← read DAT (dat_path name)
  table ← tested_table dat
  opt ← read OPT (opt_path name)
  lines ← opt_of opt
  _ ← breaks_of (records_of table) lines
  parents ← parents_of (records_of table)
  csv ← read WORDS (words_path name)
  words ← words_of csv
  _ ← places_of lines words
  Ok (record {
    name = name;
    files = dat ∷ opt ∷ csv ∷ [];
    fields = fields_of table.columns;
    docs = records_of table;
    parents = parents;
    lines = lines;
    words = words;
  })

-- the same of these files
abbrev pub plan_of : FileMap → List ℕ → Result Plan Rule
plan_of files name = plan_by (λ which path. batch_file_at files path which 0) name

-- the page of each line, with its words
abbrev pub pages_of_lines : List WordRow → List OptLine → List Scan → List BatchPage
pages_of_lines words [] scans = []
pages_of_lines words (line ∷ lines) [] = []
pages_of_lines words (line ∷ lines) (scan ∷ scans) =
    record { page = scan.page; words = words_on line.image words }
    ∷ pages_of_lines words lines scans

-- each record with its parent and its pages
abbrev pub docs_of : List Record → List ℕ → List (List BatchPage) → List BatchDoc
docs_of [] parents pages = []
docs_of (doc ∷ docs) [] pages = []
docs_of (doc ∷ docs) (parent ∷ parents) [] = []
docs_of (doc ∷ docs) (parent ∷ parents) (own ∷ pages) =
    record { id = doc.id; parent = parent; values = doc.values; pages = own }
    ∷ docs_of docs parents pages

-- the batch of these images
abbrev pub batch_of_images : Plan → List Scan → BatchShown
batch_of_images plan scans =
    let pages = pages_of_lines plan.words plan.lines scans in
    record {
      name = plan.name;
      digest = digest_of (plan.files ++ map (λ scan. scan.bytes) scans);
      fields = plan.fields;
      docs = docs_of plan.docs plan.parents (cut (page_counts plan.lines) pages);
    }

-- each word lies inside its page
abbrev pub batch_by : Plan → List Scan → Result BatchShown Rule
batch_by plan scans = do
  _ ← words_inside plan.lines (map (λ scan. scan.page) scans) plan.words
  Ok (batch_of_images plan scans)

-- the plan comes to this once its images are read
pub record ImagesAnswer (files : FileMap) (plan : Plan) (answer : Result BatchShown Rule) :
    Type 0 where
  pub scans : Result (List Scan) Rule
  pub read : LinesAnswer files plan.name 1 plan.lines scans
  pub gives : answer ≡ scans >>= batch_by plan

-- the batch of a plan and its images, or the rule of the plan
abbrev pub PlanAnswers : FileMap → Result Plan Rule → Result BatchShown Rule → Type 0
PlanAnswers files (Ok plan) answer = ImagesAnswer files plan answer
PlanAnswers files (Err rule) answer = answer ≡ Err rule

-- the folder `name` of these files comes to this batch, or to this rule as the first that is broken
abbrev pub BatchAnswers : FileMap → List ℕ → Result BatchShown Rule → Type 0
BatchAnswers files name answer = PlanAnswers files (plan_of files name) answer
