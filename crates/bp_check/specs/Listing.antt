-- What a manifest lists, held against the files of the volume.
use Rattle.std.specs.Prelude.{ℕ, ◌+◌, Bool, List, [], ◌∷◌, Result, Ok, Err, if◌then◌else◌}
use Rattle.std.specs.List.{list_any}
use Rattle.std.specs.Str.{bytes_eq}
use Rattle.hex.specs.Hex.{encode_lower}
use Rattle.sha2.specs.Sha256.{sha256}
use Rattle.bp_core.specs.Rules.{not_listed_rule, rule_at_line}
use Rattle.bp_core.specs.declared.rules.Rule.{Rule}
use Rattle.bp_check.specs.Images.{Reading}
use Rattle.bp_core.specs.declared.rules.RuleKind.TheVariants.{DigestDiffers}
use Rattle.bp_check.specs.Manifest.{Listed}
use Rattle.bp_core.specs.RuleSteps.{◌>>=◌}
use Rattle.bp_check.specs.Steps.{must_pass}
use Rattle.bp_check.specs.declared.files.TheConstants.{LISTED}

-- a manifest lists a path
abbrev pub lists : List Listed → List ℕ → Bool
lists listed path = list_any (λ row. bytes_eq row.path path) listed

-- the paths from that place on are listed, or the first that isn't
abbrev pub listed_all : List Listed → ℕ → List (List ℕ) → Result (Unit {0}) Rule
listed_all listed place [] = Ok tt
listed_all listed place (path ∷ paths) =
    if lists listed path
    then listed_all listed (place + 1) paths
    else Err (not_listed_rule place)

-- the SHA-256 (FIPS 180-4) of bytes in lower case hex (RFC 4648, section 8)
abbrev pub digest_text : List ℕ → List ℕ
digest_text bytes = encode_lower (sha256 bytes)

-- the file of line n is there, with its digest
abbrev pub digest_at : (List ℕ → List ℕ) → Reading → ℕ → Listed → Result (Unit {0}) Rule
digest_at digest read n row = do
  bytes ← read LISTED n row.path
  must_pass (bytes_eq row.digest (digest bytes)) (rule_at_line DigestDiffers n)

-- the files from line n on are there, each with its digest; or the first that isn't
abbrev pub digests_by : (List ℕ → List ℕ) → Reading → ℕ → List Listed → Result (Unit {0}) Rule
digests_by digest read n [] = Ok tt
digests_by digest read n (row ∷ rows) = do
  _ ← digest_at digest read n row
  digests_by digest read (n + 1) rows

-- all listed files are there, each with its SHA-256
abbrev pub digests_of : Reading → List Listed → Result (Unit {0}) Rule
digests_of read rows = digests_by digest_text read 1 rows
