-- The lines of a manifest, one after the other.
use Rattle.std.proofs.Common.{◌≡◌, ℕ, ◌+◌, ◌<◌, ◌==◌, Option, Some, None, Result, Ok, Err, List, [], ◌∷◌, ◌++◌, length, refl, sym, ap, ◌∙◌, arith, append_assoc}
use Rattle.std.proofs.lemmas.List.Splits.{length-slice_split}
use Rattle.std.specs.Option.{ok_or}
use Rattle.bp_core.specs.Answers.{Answers}
use Rattle.bp_core.specs.Characters.{newline}
use Rattle.bp_core.specs.InTurn.{first_then, onto}
use Rattle.bp_core.specs.Rules.{rule_at_line}
use Rattle.bp_core.specs.declared.refusals.Refusal.{Refusal}
use Rattle.bp_core.specs.declared.refusals.Refusal.TheVariants as refusals
use Rattle.bp_core.specs.declared.rules.Rule.{Rule}
use Rattle.bp_core.specs.declared.rules.RuleKind.TheVariants.{ManifestShape}
use Rattle.bp_check.specs.Manifest.{Listed, between_newlines, listed_from, listed_in}
use Rattle.bp_check.specs.Steps.{behind}

-- a line before others
lines_then : (n : ℕ) (line : List ℕ) (lines : List (List ℕ)) → 0 < length lines
    → listed_from n (line ∷ lines) ≡ first_then (listed_in line) (rule_at_line ManifestShape n) (listed_from (n + 1) lines)
lines_then n line [] some = absurd (omega arith)
lines_then n line (next ∷ lines) some = refl

-- the first line of bytes that have an LF
pub first_then_rest : (n : ℕ) (bytes line after : List ℕ)
    → between_newlines bytes ≡ line ∷ between_newlines after
    → listed_from n (between_newlines bytes) ≡ first_then (listed_in line) (rule_at_line ManifestShape n) (listed_from (n + 1) (between_newlines after))
first_then_rest n bytes line after cut =
    ap (listed_from n) cut ∙ lines_then n line (between_newlines after) (omega (arith, length-slice_split (λ c. c == newline) after))

front_onto : (front : List Listed) (value : Listed) (r : Result (List Listed) Rule) → behind (front ++ value ∷ []) r ≡ behind front (onto value r)
front_onto front value (Ok values) = ap Ok (append_assoc front (value ∷ []) values)
front_onto front value (Err rule) = refl

some_of : {V : Type 0} (o : Option V) (rule : Rule) (value : V) → ok_or o rule ≡ Ok value → o ≡ Some value
some_of None rule value e = cc
some_of (Some other) rule value e = cc

none_of : {V : Type 0} (o : Option V) (rule broken : Rule) → ok_or o rule ≡ Err broken → (o ≡ None) × (rule ≡ broken)
none_of None rule broken e = (refl, cc)
none_of (Some value) rule broken e = cc

-- a line that lists a file
pub line_listed : (n : ℕ) (front : List Listed) (bytes line after : List ℕ) (file : Listed)
    → between_newlines bytes ≡ line ∷ between_newlines after
    → ok_or (listed_in line) (rule_at_line ManifestShape n) ≡ Ok file
    → behind (front ++ file ∷ []) (listed_from (n + 1) (between_newlines after)) ≡ behind front (listed_from n (between_newlines bytes))
line_listed n front bytes line after file cut is =
    front_onto front file (listed_from (n + 1) (between_newlines after))
    ∙ sym (ap (λ o. behind front (first_then o (rule_at_line ManifestShape n) (listed_from (n + 1) (between_newlines after)))) (some_of (listed_in line) (rule_at_line ManifestShape n) file is))
    ∙ sym (ap (behind front) (first_then_rest n bytes line after cut))

-- a line that lists none
line_bad : (n : ℕ) (front : List Listed) (bytes line after : List ℕ) (rule : Rule)
    → between_newlines bytes ≡ line ∷ between_newlines after
    → ok_or (listed_in line) (rule_at_line ManifestShape n) ≡ Err rule
    → behind front (listed_from n (between_newlines bytes)) ≡ Err rule
line_bad n front bytes line after rule cut is =
    let none = none_of (listed_in line) (rule_at_line ManifestShape n) rule is in
    ap (behind front) (first_then_rest n bytes line after cut)
    ∙ ap (λ o. behind front (first_then o (rule_at_line ManifestShape n) (listed_from (n + 1) (between_newlines after)))) none.0
    ∙ ap Err none.1

pub line_refused : {X Y : Type 0} (view : X → Listed) (views : Y → List Listed) (n : ℕ) (front : List Listed) (bytes line after : List ℕ) (all : Result (List Listed) Rule) (refusal : Refusal)
    → between_newlines bytes ≡ line ∷ between_newlines after
    → Answers view (Err refusal) (ok_or (listed_in line) (rule_at_line ManifestShape n))
    → behind front (listed_from n (between_newlines bytes)) ≡ all
    → Answers views (Err refusal) all
line_refused view views n front bytes line after all (refusals.Rule rule) cut is told = sym told ∙ line_bad n front bytes line after rule cut is
line_refused view views n front bytes line after all refusals.OutOfMemory cut is told = tt
