-- The files of a batch, and the rules where one can't be read.
use Rattle.std.specs.Prelude.{ℕ, ◌∷◌, ◌++◌, List, length, nat_lt, Option, Some, None, Result, Ok, Err, codes, if◌then◌else◌}
use Rattle.std.specs.FinMap as map
use Rattle.bp_core.specs.Characters.{solidus}
use Rattle.bp_core.specs.Rules.{rule_at_line}
use Rattle.bp_core.specs.declared.rules.Rule.{Rule}
use Rattle.bp_core.specs.declared.rules.RuleKind.{RuleKind}
use Rattle.bp_core.specs.declared.rules.RuleKind.TheVariants.{FileAbsent, FileTooLong}
use Rattle.bp_outside.specs.Source.{FileMap}
use Rattle.bp_import.specs.declared.files.TheConstants.{FILE_LIMIT}

-- the path of a file in the folder of a batch
abbrev pub below : List ℕ → List ℕ → List ℕ
below name path = name ++ solidus ∷ path

-- the path of the DAT file of a batch
abbrev pub dat_path : List ℕ → List ℕ
dat_path name = below name (codes "load.dat")

-- the path of the OPT file of a batch
abbrev pub opt_path : List ℕ → List ℕ
opt_path name = below name (codes "load.opt")

-- the path of the words file of a batch
abbrev pub words_path : List ℕ → List ℕ
words_path name = below name (codes "words.csv")

-- a file of a batch couldn't be read: which one, and the OPT line of an image
abbrev pub file_rule : RuleKind → ℕ → ℕ → Rule
file_rule kind which line = record (rule_at_line kind line) { a = which }

-- what is read of a file that is there or not
abbrev pub file_read : ℕ → ℕ → Option (List ℕ) → Result (List ℕ) Rule
file_read which line None = Err (file_rule FileAbsent which line)
file_read which line (Some bytes) =
    if nat_lt FILE_LIMIT (length bytes) then Err (file_rule FileTooLong which line) else Ok bytes

-- what is read at a path
abbrev pub batch_file_at : FileMap → List ℕ → ℕ → ℕ → Result (List ℕ) Rule
batch_file_at files path which line = file_read which line (map.get files path)
