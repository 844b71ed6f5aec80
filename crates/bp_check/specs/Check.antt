-- What the check of a volume comes to: three numbers, or the first rule that the volume breaks. The
-- steps stand in their order.
use Rattle.std.specs.Prelude.{ℕ, List, [], ◌∷◌, ◌++◌, length, Option, Some, None, Result, Ok}
use Rattle.std.specs.Option.{ok_or}
use Rattle.bp_core.specs.Paths.{path_in}
use Rattle.bp_core.specs.RuleSteps.{◌>>=◌}
use Rattle.bp_core.specs.Rules.{bare_rule}
use Rattle.bp_core.specs.declared.rules.Rule.{Rule}
use Rattle.bp_core.specs.declared.rules.RuleKind.TheVariants.{CheckColumns, PathRefused}
use Rattle.bp_load.specs.Dat.{dat_of}
use Rattle.bp_load.specs.Opt.{opt_of}
use Rattle.bp_load.specs.Table.{Table}
use Rattle.bp_load.specs.declared.opt.OptLine.{OptLine}
use Rattle.bp_outside.specs.Source.{FileMap}
use Rattle.bp_check.specs.Breaks.{breaks_hold}
use Rattle.bp_check.specs.Columns.{are_columns}
use Rattle.bp_check.specs.Counts.{counts_of}
use Rattle.bp_check.specs.Files.{file_there}
use Rattle.bp_check.specs.Images.{Judging, Reading, images_of, texts_there}
use Rattle.bp_check.specs.Labels.{labels_of}
use Rattle.bp_check.specs.Listing.{digest_text, digests_by, listed_all}
use Rattle.bp_check.specs.Manifest.{Listed, listed_files}
use Rattle.bp_check.specs.Records.{records_of}
use Rattle.bp_check.specs.Steps.{must_pass}
use Rattle.bp_check.specs.declared.checked.Checked.{Checked}
use Rattle.bp_check.specs.declared.files.TheConstants.{DAT, MANIFEST, OPT}
use Rattle.bp_check.specs.declared.paths.Paths.{Paths}
use Rattle.bp_check.specs.declared.records.Record.{Record}

-- the operands of a check: the texts that name its DAT, its OPT and, where one is asked for, its
-- manifest
pub record Operands : Type 0 where
  pub dat : List ℕ
  pub opt : List ℕ
  pub manifest : Option (List ℕ)

-- the path that an operand names
abbrev pub operand : List ℕ → Result (List ℕ) Rule
operand text = ok_or (path_in text) (bare_rule PathRefused)

-- the same of one that may be left out
abbrev pub optional_operand : Option (List ℕ) → Result (Option (List ℕ)) Rule
optional_operand None = Ok None
optional_operand (Some text) = operand text >>= (λ path. Ok (Some path))

-- the operands name paths, in their order
abbrev pub paths_of : Operands → Result Paths Rule
paths_of operands = do
  dat ← operand operands.dat
  opt ← operand operands.opt
  manifest ← optional_operand operands.manifest
  Ok (record { dat = dat; opt = opt; manifest = manifest })

-- the DAT is read
abbrev pub table_at : Reading → List ℕ → Result Table Rule
table_at read path = do
  bytes ← read DAT 0 path
  dat_of bytes

-- the OPT is read
abbrev pub lines_at : Reading → List ℕ → Result (List OptLine) Rule
lines_at read path = do
  bytes ← read OPT 0 path
  opt_of bytes

-- the manifest is read
abbrev pub manifest_at : Reading → List ℕ → Result (List Listed) Rule
manifest_at read path = do
  bytes ← read MANIFEST 0 path
  listed_files bytes

-- the manifest is read where one is asked for
abbrev pub listing_at : Reading → Option (List ℕ) → Result (Option (List Listed)) Rule
listing_at read None = Ok None
listing_at read (Some path) = manifest_at read path >>= (λ listed. Ok (Some listed))

-- what the load files and the manifest of a volume say
pub record CheckPlan : Type 0 where
  -- the paths of DAT and OPT
  pub paths : List (List ℕ)
  pub docs : List Record
  pub lines : List OptLine
  pub listed : Option (List Listed)

-- the DAT has the columns of a check
abbrev pub plan_with : Paths → Table → List OptLine → Option (List Listed) → Result CheckPlan Rule
plan_with paths table lines listed = do
  _ ← must_pass (are_columns table.columns) (bare_rule CheckColumns)
  Ok (record {
    paths = paths.dat ∷ paths.opt ∷ [];
    docs = records_of table;
    lines = lines;
    listed = listed;
  })

-- the load files and the manifest are read
abbrev pub plan_at : Reading → Paths → Result CheckPlan Rule
plan_at read paths = do
  table ← table_at read paths.dat
  lines ← lines_at read paths.opt
  listed ← listing_at read paths.manifest
  plan_with paths table lines listed

-- the first steps, up to the columns
abbrev pub check_plan_by : Reading → Operands → Result CheckPlan Rule
check_plan_by read operands = do
  paths ← paths_of operands
  plan_at read paths

-- the load files go together: each line's label, the documents, the counts
abbrev pub agrees : List Record → List OptLine → Result (Unit {0}) Rule
agrees docs lines = do
  _ ← labels_of lines
  _ ← breaks_hold docs lines
  counts_of docs lines

-- all paths are listed, and each listed file has its digest; how many are listed
abbrev pub listing_by : (List ℕ → List ℕ) → Reading → Option (List Listed) → List (List ℕ)
    → Result ℕ Rule
listing_by digest read None paths = Ok 0
listing_by digest read (Some listed) paths = do
  _ ← listed_all listed 0 paths
  _ ← digests_by digest read 1 listed
  Ok (length listed)

-- the files that are named are there and whole: each line's image, each record's text, the listing
abbrev pub files_by : (List ℕ → List ℕ) → Reading → Judging → CheckPlan → Result ℕ Rule
files_by digest read tiff plan = do
  images ← images_of read tiff plan.lines
  texts ← texts_there read plan.docs
  listing_by digest read plan.listed (plan.paths ++ images ++ texts)

-- the three numbers of a volume whose load files are read
abbrev pub checked_by : (List ℕ → List ℕ) → Reading → Judging → CheckPlan → Result Checked Rule
checked_by digest read tiff plan = do
  _ ← agrees plan.docs plan.lines
  files ← files_by digest read tiff plan
  Ok (record { documents = length plan.docs; images = length plan.lines; files = files })

-- all steps, where `read` says what is read of a file, `tiff` what an image is, and `digest` what
-- the digest of a file is
abbrev pub check_by : (List ℕ → List ℕ) → Reading → Judging → Operands → Result Checked Rule
check_by digest read tiff operands = do
  plan ← check_plan_by read operands
  checked_by digest read tiff plan

-- CheckOf: the check of these files
abbrev pub check_of : FileMap → Judging → Operands → Result Checked Rule
check_of files tiff operands = check_by digest_text (file_there files) tiff operands
