-- How many files a manifest lists at most.
use Rattle.std.proofs.Common.{◌≡◌, ℕ, ◌+◌, ◌≤◌, ◌==◌, Bool, true, false, cond, Result, Ok, Err, List, [], ◌∷◌, length, ap, sym, arith}
use Rattle.bp_core.specs.Characters.{newline}
use Rattle.bp_core.specs.Rules.{rule_at_line}
use Rattle.bp_core.specs.declared.rules.Rule.{Rule}
use Rattle.bp_core.specs.declared.rules.RuleKind.TheVariants.{ManifestShape}
use Rattle.bp_load.proofs.CountLemmas.{one_more, parts_few}
use Rattle.bp_check.specs.Manifest.{Listed, between_newlines, listed_from, listed_in, listed_files}

none_few : (empty : Bool) (rule : Rule) (found : List Listed) → cond empty (Ok []) (Err rule) ≡ Ok found → length found ≤ 1
none_few true rule found e = let none : [] ≡ found = cc in omega (arith, sym (ap length none))
none_few false rule found e = absurd cc

listed_few : (n : ℕ) (parts : List (List ℕ)) (found : List Listed) → listed_from n parts ≡ Ok found → length found ≤ length parts
listed_few n [] found e = let none : [] ≡ found = cc in omega (arith, sym (ap length none))
listed_few n (line ∷ []) found e = none_few (length line == 0) (rule_at_line ManifestShape n) found e
listed_few n (line ∷ next ∷ parts) found e =
    omega (arith, one_more (listed_in line) (rule_at_line ManifestShape n) (listed_from (n + 1) (next ∷ parts)) found (length (next ∷ parts)) (λ rest is. listed_few (n + 1) (next ∷ parts) rest is) e)

pub manifest_few : (bytes : List ℕ) (found : List Listed) → listed_files bytes ≡ Ok found → length found ≤ length bytes + 1
manifest_few bytes found is = omega (arith, parts_few (λ c. c == newline) bytes, listed_few 1 (between_newlines bytes) found is)
