-- What is known of a batch in memory before its images are read.
use Rattle.std.specs.Prelude.{ℕ, ◌≡◌, ◌≤◌, true, List, [], ◌∷◌, ◌++◌, length, Option, IfSome, Result, Ok, Err}
use Rattle.bp_core.specs.declared.rules.Rule.{Rule}
use Rattle.bp_load.specs.Opt.{opt_of}
use Rattle.bp_load.specs.Table.{Table}
use Rattle.bp_load.specs.declared.opt.OptLine.{OptLine}
use Rattle.bp_matter.specs.Texts.{is_batch_name}
use Rattle.bp_outside.specs.Source.{FileMap}
use Rattle.bp_text.specs.WordFiles.{words_of}
use Rattle.bp_import.specs.Breaks.{breaks_of}
use Rattle.bp_import.specs.Columns.{tested_table}
use Rattle.bp_import.specs.Digest.{HasTaken}
use Rattle.bp_import.specs.Families.{parents_of}
use Rattle.bp_import.specs.Files.{dat_path, batch_file_at, opt_path, words_path}
use Rattle.bp_import.specs.Records.{fields_of, records_of}
use Rattle.bp_core.specs.RuleSteps.{◌>>=◌}
use Rattle.bp_import.specs.WordPages.{places_of}
use Rattle.bp_import.specs.declared.digest.FilesDigest.{FilesDigest}
use Rattle.bp_import.specs.declared.files.TheConstants.{DAT, FILE_LIMIT, OPT, WORDS}
use Rattle.bp_import.specs.declared.plans.Placed.{Placed}
use Rattle.bp_import.specs.declared.plans.Planned.{Planned}
use Rattle.bp_import.specs.declared.records.Record.{Record}
use Rattle.bp_import.specs.declared.refusals.ImportRefusal.{ImportRefusal}
use Rattle.bp_import.specs.declared.refusals.ImportRefusal.TheVariants as refusals

-- a refusal by a rule is the defined one; of a failed source and of want of memory nothing is said
abbrev pub PlanRefuses : {V : Type 0} → ImportRefusal → Result V Rule → Type 0
PlanRefuses (refusals.Rule rule) answer = answer ≡ Err rule
PlanRefuses refusals.SourceFault answer = Unit {0}
PlanRefuses refusals.OutOfMemory answer = Unit {0}

-- these bytes are the file, if it is told; they are within the limit, and the digest took them
pub record TakesFile (shown : Option FileMap) (path : List ℕ) (which : ℕ)
    (before after : FilesDigest) (bytes : List ℕ) : Type 0 where
  pub told : IfSome shown (λ files. batch_file_at files path which 0 ≡ Ok bytes)
  pub short : length bytes ≤ FILE_LIMIT
  pub taken : (files : List (List ℕ)) → HasTaken before files → HasTaken after (files ++ bytes ∷ [])

-- a file was taken, and this is what it says
pub record PlanReads {V : Type 0} (said : List ℕ → Result V Rule) (shown : Option FileMap)
    (path : List ℕ) (which : ℕ) (before after : FilesDigest) (value : V) : Type 0 where
  pub bytes : List ℕ
  pub file : TakesFile shown path which before after bytes
  pub says : said bytes ≡ Ok value

-- what a told file says, or the rule where it can't be read
abbrev pub file_said_at : {V : Type 0} → (List ℕ → Result V Rule) → FileMap → List ℕ → ℕ
    → Result V Rule
file_said_at said files path which = batch_file_at files path which 0 >>= said

-- the steps from the document breaks on, up to the lines of the words
abbrev pub placing_of : FileMap → List ℕ → List Record → List OptLine → Result (List ℕ) Rule
placing_of files name docs lines = do
  _ ← breaks_of docs lines
  parents ← parents_of docs
  words ← file_said_at words_of files (words_path name) WORDS
  places_of lines words

-- breaks and families fit, and each word of the words file has its line
pub record IsPlaced (shown : Option FileMap) (name : List ℕ) (docs : List Record)
    (lines : List OptLine) (before after : FilesDigest) (placed : Placed) : Type 0 where
  pub breaks : breaks_of docs lines ≡ Ok tt
  pub parents : parents_of docs ≡ Ok placed.parents.items
  pub words : PlanReads words_of shown (words_path name) WORDS before after placed.words
  pub places : places_of lines placed.words ≡ Ok placed.places.items

-- the three files of the folder are these
pub record AreFiles (files : FileMap) (name dat opt csv : List ℕ) : Type 0 where
  pub at_dat : batch_file_at files (dat_path name) DAT 0 ≡ Ok dat
  pub at_opt : batch_file_at files (opt_path name) OPT 0 ≡ Ok opt
  pub at_words : batch_file_at files (words_path name) WORDS 0 ≡ Ok csv

-- the three files of the folder of that name, if they are told, and what they say
pub record IsPlanned (shown : Option FileMap) (name : List ℕ) (planned : Planned) : Type 0 where
  pub dat : List ℕ
  pub opt : List ℕ
  pub csv : List ℕ
  pub table : Table
  pub told : IfSome shown (λ files. AreFiles files name dat opt csv)
  pub digest : HasTaken planned.digest (dat ∷ opt ∷ csv ∷ [])
  pub short_dat : length dat ≤ FILE_LIMIT
  pub short_opt : length opt ≤ FILE_LIMIT
  pub short_csv : length csv ≤ FILE_LIMIT
  pub named : is_batch_name name ≡ true
  pub tabled : tested_table dat ≡ Ok table
  pub fields : planned.fields ≡ fields_of table.columns
  pub docs : planned.docs.items ≡ records_of table
  pub lines : opt_of opt ≡ Ok planned.lines
  pub breaks : breaks_of planned.docs.items planned.lines ≡ Ok tt
  pub parents : parents_of planned.docs.items ≡ Ok planned.placed.parents.items
  pub words : words_of csv ≡ Ok planned.placed.words
  pub places : places_of planned.lines planned.placed.words ≡ Ok planned.placed.places.items
