-- The paths of a volume: their parts may stand, so each is named by its text in the load files and by itself.
use Rattle.std.proofs.Common.{◌≡◌, ℕ, ◌<◌, ◌≤◌, ◌==◌, ◌||◌, Bool, true, false, Some, List, [], ◌∷◌, ◌++◌, length, encode_utf8_all, ltb, refl, ap, ◌∙◌, arith}
use Rattle.std.specs.Char.{is_ascii_digit}
use Rattle.std.specs.List.{join_with_byte, list_all}
use Rattle.std.specs.Str.{all_scalars}
use Rattle.std.proofs.lemmas.Bool.{and_from, and_parts, leb-true, lt-ltb, ltb-true, ne_eqb}
use Rattle.std.proofs.lemmas.Bool.Decides.{nat_tests}
use Rattle.std.proofs.lemmas.List.Folds.{list_all-append}
use Rattle.std.proofs.lemmas.Str.{encode_ascii}
use Rattle.bp_core.specs.Characters.{full_stop, solidus}
use Rattle.bp_core.specs.Paths.{is_slash, path_in}
use Rattle.bp_load.proofs.JoinLemmas.{joined}
use Rattle.bp_load.proofs.TextLemmas.{weaker}
use Rattle.bp_bates.specs.Labels.{bates_label, padded}
use Rattle.bp_bates.specs.Prefixes.{is_allowed, is_good_prefix}
use Rattle.bp_matter.specs.Texts.{is_volume, is_volume_character}
use Rattle.bp_own_volumes.proofs.LabelBackLemmas.{all_allowed, digits_all}
use Rattle.bp_own_volumes.proofs.ManifestBackLemmas.{stays_on_line}
use Rattle.bp_own_volumes.proofs.PathLemmas.{is_part, is_part_character, long_part, other_part, path_joined}

-- A-Z, 0-9, '-', '_' and '.': the characters of the parts of these paths
abbrev pub is_name_character : ℕ → Bool
is_name_character c = is_volume_character c || (c == full_stop)

-- a text of such characters
abbrev pub is_plain_name : List ℕ → Bool
is_plain_name text = list_all is_name_character text

-- ---- such characters

name_part : (c : ℕ) → is_name_character c ≡ true → is_part_character c ≡ true
name_part c is = grind (arith, nat_tests)

-- these characters and both slashes
abbrev is_path_character : ℕ → Bool
is_path_character c = is_name_character c || is_slash c

path_name : (c : ℕ) → is_name_character c ≡ true → is_path_character c ≡ true
path_name c is = grind (arith, nat_tests)

path_slash : (c : ℕ) → is_slash c ≡ true → is_path_character c ≡ true
path_slash c is = grind (arith, nat_tests)

path_small : (c : ℕ) → is_path_character c ≡ true → ltb c 128 ≡ true
path_small c is = grind (arith, nat_tests)

path_stays : (c : ℕ) → is_path_character c ≡ true → stays_on_line c ≡ true
path_stays c is = grind (arith, nat_tests)

volume_name : (c : ℕ) → is_volume_character c ≡ true → is_name_character c ≡ true
volume_name c is = grind (arith, nat_tests)

allowed_name : (c : ℕ) → is_allowed c ≡ true → is_name_character c ≡ true
allowed_name c is = grind (arith, nat_tests)

digit_name : (c : ℕ) → is_ascii_digit c ≡ true → is_name_character c ≡ true
digit_name c is = grind (arith, nat_tests)

-- ---- ASCII

-- ASCII characters are Unicode characters
pub ascii_scalars : (text : List ℕ) → list_all (λ c. ltb c 128) text ≡ true → all_scalars text ≡ true
ascii_scalars [] all = refl
ascii_scalars (c ∷ text) all =
    let both = and_parts (ltb c 128) (list_all (λ d. ltb d 128) text) all in
    let small : c < 128 = ltb-true c 128 both.0 in
    and_from _ (all_scalars text) (rw (lt-ltb c 55296 (omega arith)) refl) (ascii_scalars text both.1)

-- and their own UTF-8
pub ascii_bytes : (text : List ℕ) → list_all (λ c. ltb c 128) text ≡ true → encode_utf8_all text ≡ text
ascii_bytes [] all = refl
ascii_bytes (c ∷ text) all =
    let both = and_parts (ltb c 128) (list_all (λ d. ltb d 128) text) all in
    ap (λ bytes. bytes ++ encode_utf8_all text) (encode_ascii c (ltb-true c 128 both.0)) ∙ ap (λ bytes. c ∷ bytes) (ascii_bytes text both.1)

-- ---- parts

plain_part : (text : List ℕ) → is_plain_name text ≡ true → list_all is_part_character text ≡ true
plain_part text plain = weaker is_name_character is_part_character name_part text plain

-- a plain name of three characters or more
pub long_name : (text : List ℕ) → is_plain_name text ≡ true → 3 ≤ length text → is_part text ≡ true
long_name text plain long = long_part text (plain_part text plain) long

no_stop : (c : ℕ) → is_volume_character c ≡ true → (c == full_stop) ≡ false
no_stop c is = ne_eqb c full_stop (λ same. grind (arith, nat_tests))

pub volume_plain : (volume : List ℕ) → is_volume volume ≡ true → is_plain_name volume ≡ true
volume_plain volume is =
    weaker is_volume_character is_name_character volume_name volume (and_parts _ (list_all is_volume_character volume) is).1

pub volume_long : (volume : List ℕ) → is_volume volume ≡ true → 1 ≤ length volume
volume_long volume is = leb-true 1 (length volume) (and_parts _ _ (and_parts _ (list_all is_volume_character volume) is).0).0

volume_begins : (volume : List ℕ)
    → list_all is_volume_character volume ≡ true
    → 1 ≤ length volume
    → is_part volume ≡ true
volume_begins [] all some = absurd (omega arith)
volume_begins (c ∷ volume) all some =
    other_part c volume (plain_part (c ∷ volume) (weaker is_volume_character is_name_character volume_name (c ∷ volume) all))
    (no_stop c (and_parts (is_volume_character c) _ all).0)

-- the name of a volume
pub volume_part : (volume : List ℕ) → is_volume volume ≡ true → is_part volume ≡ true
volume_part volume is = volume_begins volume (and_parts _ (list_all is_volume_character volume) is).1 (volume_long volume is)

pub plain_both : (xs ys : List ℕ)
    → is_plain_name xs ≡ true
    → is_plain_name ys ≡ true
    → is_plain_name (xs ++ ys) ≡ true
plain_both xs ys one two = list_all-append is_name_character xs ys ∙ and_from _ _ one two

pub label_plain : (text : List ℕ) (width n : ℕ)
    → is_good_prefix text width ≡ true
    → is_plain_name (bates_label text width n) ≡ true
label_plain text width n good = weaker is_allowed is_name_character allowed_name (bates_label text width n) (all_allowed text width n good)

pub folder_plain : (width n : ℕ) → is_plain_name (padded width n) ≡ true
folder_plain width n = weaker is_ascii_digit is_name_character digit_name (padded width n) (digits_all width n)

-- ---- paths

-- a plain part that may stand
pub record IsStep (part : List ℕ) : Type 0 where
  pub plain : is_plain_name part ≡ true
  pub stands : is_part part ≡ true

-- parts of a path
abbrev pub AreSteps : List (List ℕ) → Type 0
AreSteps [] = Unit {0}
AreSteps (part ∷ parts) = IsStep part × AreSteps parts

pub are_parts : (parts : List (List ℕ)) → AreSteps parts → list_all is_part parts ≡ true
are_parts [] steps = refl
are_parts (part ∷ parts) steps = and_from _ _ steps.0.stands (are_parts parts steps.1)

are_plain : (parts : List (List ℕ)) → AreSteps parts → list_all (list_all is_path_character) parts ≡ true
are_plain [] steps = refl
are_plain (part ∷ parts) steps =
    and_from _ _ (weaker is_name_character is_path_character path_name part steps.0.plain) (are_plain parts steps.1)

joined_plain : (s : ℕ) (parts : List (List ℕ))
    → is_slash s ≡ true
    → AreSteps parts
    → list_all is_path_character (join_with_byte s parts) ≡ true
joined_plain s parts slash steps = joined s is_path_character (path_slash s slash) parts (are_plain parts steps)

-- a path is named by the text that joins its parts with either slash
pub steps_named : (s : ℕ) (parts : List (List ℕ))
    → is_slash s ≡ true
    → 0 < length parts
    → AreSteps parts
    → path_in (join_with_byte s parts) ≡ Some (join_with_byte solidus parts)
steps_named s parts slash some steps = path_joined s slash parts some (are_parts parts steps)

pub steps_scalars : (s : ℕ) (parts : List (List ℕ))
    → is_slash s ≡ true
    → AreSteps parts
    → all_scalars (join_with_byte s parts) ≡ true
steps_scalars s parts slash steps =
    ascii_scalars (join_with_byte s parts)
    (weaker is_path_character (λ c. ltb c 128) path_small (join_with_byte s parts) (joined_plain s parts slash steps))

-- its UTF-8 stands on one line
pub steps_one_line : (s : ℕ) (parts : List (List ℕ))
    → is_slash s ≡ true
    → AreSteps parts
    → list_all stays_on_line (encode_utf8_all (join_with_byte s parts)) ≡ true
steps_one_line s parts slash steps =
    let text = join_with_byte s parts in
    let plain = joined_plain s parts slash steps in
    ap (list_all stays_on_line) (ascii_bytes text (weaker is_path_character (λ c. ltb c 128) path_small text plain))
    ∙ weaker is_path_character stays_on_line path_stays text plain

-- a plain name is of Unicode characters
pub plain_scalars : (text : List ℕ) → is_plain_name text ≡ true → all_scalars text ≡ true
plain_scalars text plain = ascii_scalars text (weaker is_name_character (λ c. ltb c 128) (λ c is. path_small c (path_name c is)) text plain)
