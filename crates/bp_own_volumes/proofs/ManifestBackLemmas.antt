-- A manifest that is written is read back.
use Rattle.std.proofs.Common.{◌≡◌, ℕ, ◌+◌, ◌==◌, Bool, true, cond, not, inl, inr, Some, None, Ok, List, [], ◌∷◌, ◌++◌, length, take, drop, refl, sym, ap, ◌∙◌, arith, append_assoc, length-append, encode_utf8_all, nat_le}
use Rattle.std.specs.List.{AllByRecursion, flat_map, list_all}
use Rattle.std.specs.Option.{option_map}
use Rattle.std.specs.Str.{all_scalars, chars}
use Rattle.std.proofs.lemmas.Bool.{and_from, cases_Bool, eqb-true, false≢true, le-leb, not-true, not_from_false}
use Rattle.std.proofs.lemmas.List.{drop_at, take_at}
use Rattle.std.proofs.lemmas.List.Folds.{list_all-append}
use Rattle.std.proofs.lemmas.List.Splits.{slice_split_at}
use Rattle.std.proofs.lemmas.Str.{chars-encodes, is_utf8-from_IsUtf8}
use Rattle.bp_core.specs.Characters.{newline, space}
use Rattle.bp_core.specs.InTurn.{first_then, onto}
use Rattle.bp_core.specs.Paths.{path_in}
use Rattle.bp_core.specs.Rules.{rule_at_line}
use Rattle.bp_core.specs.declared.rules.RuleKind.TheVariants.{ManifestShape}
use Rattle.bp_load.proofs.JoinLemmas.{none_of}
use Rattle.bp_load.proofs.TextLemmas.{weaker}
use Rattle.bp_check.specs.Manifest.{Listed, between_newlines, is_lower_hex, listed_at, listed_behind, listed_from, listed_in, listed_files}
use Rattle.bp_check.proofs.ManifestLemmas.{first_then_rest}

-- the line of a file, without its end
abbrev pub line_text : Listed → List ℕ
line_text file = file.digest ++ space ∷ space ∷ encode_utf8_all file.path

-- with its end
abbrev pub listed_line : Listed → List ℕ
listed_line file = line_text file ++ newline ∷ []

abbrev pub stays_on_line : ℕ → Bool
stays_on_line c = not (c == newline)

-- a file that a line can list
pub record CanBeListed (file : Listed) : Type 0 where
  pub long : length file.digest ≡ 64
  pub hex : list_all is_lower_hex file.digest ≡ true
  pub scalars : all_scalars file.path ≡ true
  pub named : path_in file.path ≡ Some file.path
  pub one_line : list_all stays_on_line (encode_utf8_all file.path) ≡ true

-- ---- a line

digit_stays : (c : ℕ) → is_lower_hex c ≡ true → stays_on_line c ≡ true
digit_stays c digit =
    elim (cases_Bool (c == newline)) [
      | inl is ↦ absurd (false≢true (ap is_lower_hex (sym (eqb-true c newline is)) ∙ digit))
      | inr other ↦ not_from_false (c == newline) other
    ]

line_stays : (file : Listed) → CanBeListed file → list_all stays_on_line (line_text file) ≡ true
line_stays file fits =
    list_all-append stays_on_line file.digest (space ∷ space ∷ encode_utf8_all file.path)
    ∙ and_from _ _ (weaker is_lower_hex stays_on_line digit_stays file.digest fits.hex)
    (and_from _ _ refl (and_from _ _ refl fits.one_line))

-- a line lists its file
line_back : (file : Listed) → CanBeListed file → listed_in (line_text file) ≡ Some file
line_back file fits =
    let digest = file.digest in
    let path = encode_utf8_all file.path in
    let rest = space ∷ space ∷ path in
    let line = line_text file in
    let front : take 64 line ≡ digest = take_at digest rest 64 fits.long in
    let back : drop 64 line ≡ rest = drop_at digest rest 64 fits.long in
    let enough : nat_le 64 (length line) ≡ true = le-leb 64 (length line) (omega (arith, length-append digest rest, fits.long)) in
    ap (λ b. cond b (listed_behind (take 64 line) (drop 64 line)) None)
    (and_from (nat_le 64 (length line)) (list_all is_lower_hex (take 64 line)) enough (ap (list_all is_lower_hex) front ∙ fits.hex))
    ∙ ap (λ d. listed_behind d (drop 64 line)) front
    ∙ ap (listed_behind digest) back
    ∙ ap (λ b. cond b (listed_at digest (chars path)) None) (is_utf8-from_IsUtf8 path (file.path, (fits.scalars, refl)))
    ∙ ap (listed_at digest) (chars-encodes file.path fits.scalars)
    ∙ ap (option_map (λ named. record { digest = digest; path = named })) fits.named

-- ---- the lines

files_back : (n : ℕ) (files : List Listed)
    → AllByRecursion CanBeListed files
    → listed_from n (between_newlines (flat_map listed_line files)) ≡ Ok files
files_back n [] all = refl
files_back n (file ∷ files) all =
    let line = line_text file in
    let after = flat_map listed_line files in
    let cut : between_newlines (listed_line file ++ after) ≡ line ∷ between_newlines after =
    ap between_newlines (append_assoc line (newline ∷ []) after)
    ∙ slice_split_at (λ c. c == newline) line newline after
    (none_of (λ c. c == newline) stays_on_line (λ c. not-true (c == newline)) line (line_stays file all.0)) refl in
    first_then_rest n (listed_line file ++ after) line after cut
    ∙ ap (λ o. first_then o (rule_at_line ManifestShape n) (listed_from (n + 1) (between_newlines after))) (line_back file all.0)
    ∙ ap (onto file) (files_back (n + 1) files all.1)

-- what is written is read back
pub manifest_back : (files : List Listed)
    → AllByRecursion CanBeListed files
    → listed_files (flat_map listed_line files) ≡ Ok files
manifest_back files all = files_back 1 files all
