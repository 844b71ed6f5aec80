-- Lemmas of the file that a word names: it has an answer over told files and over others, and one where
-- files are told; and what a read of it answers.
use Rattle.std.proofs.Common.{ℕ, ◌≡◌, ◌≤◌, ◌<◌, if◌then◌else◌, Bool, List, length, Option, Some, None, Result, Ok, Err, refl, sym, ap, subst, ◌∙◌}
use Rattle.std.proofs.lemmas.Bool.{le-ltb, lt-ltb}
use Rattle.std.specs.Prelude.{IfSome, IsSomeAnd}
use Rattle.std.specs.FinMap as map
use Rattle.bp_core.specs.Paths.{path_in}
use Rattle.bp_core.specs.Rules.{bare_rule}
use Rattle.bp_core.specs.declared.rules.Rule.{Rule}
use Rattle.bp_core.specs.declared.rules.RuleKind.TheVariants as kinds
use Rattle.bp_outside.specs.Source.{FileMap}
use Rattle.bp_cli.specs.declared.burn.TheConstants.{FILE_LIMIT}
use Rattle.bp_cli.specs.Burn.{path_refused}
use Rattle.bp_cli.specs.NamedFiles.{NamedFileAnswers, FileAt, FileNamed, named_file_read}
use Rattle.bp_cli.proofs.BurnLemmas.{longer}

-- what some file answers
some_file_at : (told : Option FileMap) (named : Option (List ℕ)) → (file : Result (List ℕ) Rule) × FileNamed told named file
some_file_at told None = (Err path_refused, refl)
some_file_at None (Some path) = (Err (bare_rule kinds.FileAbsent), record { found = None; there = tt; read = refl })
some_file_at (Some files) (Some path) = (named_file_read (map.get files path), record { found = map.get files path; there = refl; read = refl })

pub some_file : (told : Option FileMap) (named : List ℕ) → (file : Result (List ℕ) Rule) × NamedFileAnswers told named file
some_file told named = some_file_at told (path_in named)

-- over told files there is one answer
one_file_at : (files : FileMap) (named : Option (List ℕ)) (a b : Result (List ℕ) Rule) → FileNamed (Some files) named a → FileNamed (Some files) named b → a ≡ b
one_file_at files None a b x y = x ∙ sym y
one_file_at files (Some path) a b x y = sym x.read ∙ ap named_file_read (sym x.there ∙ y.there) ∙ y.read

pub one_file : (files : FileMap) (named : List ℕ) (a b : Result (List ℕ) Rule) → NamedFileAnswers (Some files) named a → NamedFileAnswers (Some files) named b → a ≡ b
one_file files named a b x y = one_file_at files (path_in named) a b x y

abbrev file_or : List ℕ → Bool → Result (List ℕ) Rule
file_or bytes long = if long then Err (bare_rule kinds.FileTooLong) else Ok bytes

-- the bytes of a file that is short enough
short_read : (bytes : List ℕ) → length bytes ≤ FILE_LIMIT → named_file_read (Some bytes) ≡ Ok bytes
short_read bytes short =
    ap (file_or bytes) (le-ltb FILE_LIMIT (length bytes) short)

long_read : (found : Option (List ℕ)) → IsSomeAnd found (λ bytes. FILE_LIMIT < length bytes) → named_file_read found ≡ Err (bare_rule kinds.FileTooLong)
long_read None long = absurd long
long_read (Some bytes) long =
    ap (file_or bytes) (lt-ltb FILE_LIMIT (length bytes) long)

-- the answer at a path that a word names
pub at_path : (told : Option FileMap) (named path : List ℕ) (answer : Result (List ℕ) Rule) → path_in named ≡ Some path → FileAt path told answer → NamedFileAnswers told named answer
at_path told named path answer is file = subst (λ (o : Option (List ℕ)). FileNamed told o answer) (sym is) file

pub bytes_at : (told : Option FileMap) (path bytes : List ℕ) → length bytes ≤ FILE_LIMIT → IfSome told (λ files. map.get files path ≡ Some bytes) → FileAt path told (Ok bytes)
bytes_at told path bytes short there = record { found = Some bytes; there = there; read = short_read bytes short }

pub absent_at : (told : Option FileMap) (path : List ℕ) → IfSome told (λ files. map.get files path ≡ None) → FileAt path told (Err (bare_rule kinds.FileAbsent))
absent_at told path there = record { found = None; there = there; read = refl }

pub long_at : (told : Option FileMap) (path : List ℕ) → IfSome told (λ files. IsSomeAnd (map.get files path) (λ bytes. FILE_LIMIT < length bytes)) → FileAt path told (Err (bare_rule kinds.FileTooLong))
long_at None path long = record { found = Some (longer FILE_LIMIT).0; there = tt; read = long_read (Some (longer FILE_LIMIT).0) (longer FILE_LIMIT).1 }
long_at (Some files) path long = record { found = map.get files path; there = refl; read = long_read (map.get files path) long }
