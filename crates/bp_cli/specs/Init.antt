-- The command `init`: its line, and what it comes to.
use Rattle.std.specs.Prelude.{ℕ, ◌==◌, ◌&&◌, ◌||◌, nat_le, Bool, Option}
use Rattle.std.specs.Prelude.{Some, None, List, [], ◌∷◌, length, codes, if◌then◌else◌}
use Rattle.std.specs.Char.{is_ascii_digit}
use Rattle.std.specs.List.{list_all}
use Rattle.std.specs.Result.{result_ok}
use Rattle.hex.specs.Hex.{decode_sized}
use Rattle.bp_core.specs.declared.kept.Row.{Row}
use Rattle.bp_core.specs.declared.rules.RuleKind.TheVariants as kinds
use Rattle.bp_core.specs.Rules.{bare_rule}
use Rattle.bp_matter.specs.KeptRows.{rows_of}
use Rattle.bp_rules.specs.Beginning.{begun}
use Rattle.bp_cli.specs.declared.init.TheConstants.{DIGEST_BYTES}
use Rattle.bp_cli.specs.Words.{word_of}
use Rattle.bp_cli.specs.Endings.{Outcome, done, refused, line_of}
use Rattle.bp_cli.specs.Kept.{FirstOutcome}

-- ---- its line

-- 0 to 9 and a to f
abbrev pub is_low_hex : ℕ → Bool
is_low_hex c = is_ascii_digit c || (nat_le 97 c && nat_le c 102)

-- KEYDIGEST: 64 such characters, the high four bits of each of 32 bytes first
abbrev pub key_digest_of : List ℕ → Option (List ℕ)
key_digest_of word =
    if list_all is_low_hex word then result_ok (decode_sized word DIGEST_BYTES) else None

-- init KEYDIGEST: the one operand is the SHA-256 of the lead's key
abbrev pub init_of : List (List ℕ) → Option (List ℕ)
init_of operands = if length operands == 1 then key_digest_of (word_of operands 0) else None

-- ---- what it comes to

-- the matter is made where no row is kept: then its rows stand
abbrev pub init_gives : List ℕ → List Row → Outcome
init_gives digest [] = done (line_of (codes "matter made")) [] (Some (rows_of (begun digest)))
init_gives digest (row ∷ rows) = refused (bare_rule kinds.MatterThere)

-- the outcome over the rows that a keeper tells, or over some where it tells none
abbrev pub InitOutcome : List ℕ → Option (List Row) → Outcome → Type 0
InitOutcome digest told outcome = FirstOutcome (init_gives digest) told outcome
