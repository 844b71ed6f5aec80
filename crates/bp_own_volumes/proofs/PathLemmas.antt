-- A path whose parts may stand is named by the text that joins them, whichever slash stands between.
use Rattle.std.proofs.Common.{◌≡◌, ℕ, ◌<◌, ◌≤◌, ◌==◌, ◌&&◌, Bool, true, false, cond, not, Some, None, List, [], ◌∷◌, length, filter, get_or, refl, sym, ap, ◌∙◌, arith, All}
use Rattle.std.specs.List.{join_with_byte, list_all, list_any, slice_split}
use Rattle.std.specs.Str.{bytes_eq}
use Rattle.std.proofs.lemmas.Bool.{and_from, and_left, and_parts, false_from_ne_true, ne_eqb, not-true, not_from_false, or_from}
use Rattle.std.proofs.lemmas.Bool.Decides.{nat_tests}
use Rattle.std.proofs.lemmas.List.Sums.{AllPass-from_list_all}
use Rattle.std.proofs.lemmas.List.Splits.{slice_split_at, slice_split_none}
use Rattle.std.proofs.lemmas.Slice.Eq.{bytes_eq-Decides}
use Rattle.bp_core.specs.Characters.{colon, full_stop, solidus}
use Rattle.bp_load.proofs.JoinLemmas.{joined}
use Rattle.bp_load.proofs.TextLemmas.{weaker}
use Rattle.bp_core.specs.Paths.{is_dot, is_path, is_refused_part, is_slash, path_in, path_parts}

-- a character of a part: no slash and no colon
abbrev pub is_part_character : ℕ → Bool
is_part_character c = not (is_slash c) && not (c == colon)

-- a part that may stand: it isn't empty, nor `.` or `..`
abbrev pub is_part : List ℕ → Bool
is_part part = list_all is_part_character part && not (is_dot part) && not (is_refused_part part)

-- ---- the parts of the text

no_slash : (part : List ℕ) → is_part part ≡ true → All (λ c. is_slash c ≡ false) part
no_slash part fits k d l =
    let all = (and_parts _ _ (and_parts _ _ fits).0).0 in
    not-true (is_slash (get_or part k d)) (and_parts _ _ (AllPass-from_list_all is_part_character part all k d l)).0

split_parts : (s : ℕ)
    → is_slash s ≡ true
    → (parts : List (List ℕ))
    → 0 < length parts
    → list_all is_part parts ≡ true
    → slice_split is_slash (join_with_byte s parts) ≡ parts
split_parts s slash [] some fit = absurd (omega arith)
split_parts s slash (part ∷ []) some fit = slice_split_none is_slash part (no_slash part (and_parts _ _ fit).0)
split_parts s slash (part ∷ next ∷ parts) some fit =
    let both = and_parts (is_part part) (list_all is_part (next ∷ parts)) fit in
    slice_split_at is_slash part s (join_with_byte s (next ∷ parts)) (no_slash part both.0) slash
    ∙ ap (λ more. part ∷ more) (split_parts s slash (next ∷ parts) (omega arith) both.1)

-- none of them is `.`
no_dots : (parts : List (List ℕ))
    → list_all is_part parts ≡ true
    → filter (λ part. not (is_dot part)) parts ≡ parts
no_dots [] fit = refl
no_dots (part ∷ parts) fit =
    let both = and_parts (is_part part) (list_all is_part parts) fit in
    ap (λ b. cond b (part ∷ filter (λ part. not (is_dot part)) parts) (filter (λ part. not (is_dot part)) parts))
    (and_parts _ _ (and_parts _ _ both.0).0).1
    ∙ ap (λ more. part ∷ more) (no_dots parts both.1)

none_refused : (parts : List (List ℕ))
    → list_all is_part parts ≡ true
    → list_any is_refused_part parts ≡ false
none_refused [] fit = refl
none_refused (part ∷ parts) fit =
    let both = and_parts (is_part part) (list_all is_part parts) fit in
    or_from (is_refused_part part) (list_any is_refused_part parts) (not-true _ (and_parts _ _ both.0).1) (none_refused parts both.1)

-- ---- no colon stands in the text

none_of : (text : List ℕ)
    → list_all (λ c. not (c == colon)) text ≡ true
    → list_any (λ c. c == colon) text ≡ false
none_of [] all = refl
none_of (c ∷ text) all =
    let both = and_parts (not (c == colon)) (list_all (λ c. not (c == colon)) text) all in
    or_from (c == colon) (list_any (λ c. c == colon) text) (not-true _ both.0) (none_of text both.1)

is_no_colon : (c : ℕ) → is_part_character c ≡ true → not (c == colon) ≡ true
is_no_colon c fits = (and_parts (not (is_slash c)) (not (c == colon)) fits).1

parts_without : (parts : List (List ℕ))
    → list_all is_part parts ≡ true
    → list_all (list_all (λ c. not (c == colon))) parts ≡ true
parts_without [] fit = refl
parts_without (part ∷ parts) fit =
    let both = and_parts (is_part part) (list_all is_part parts) fit in
    and_from (list_all (λ c. not (c == colon)) part) (list_all (list_all (λ c. not (c == colon))) parts)
    (weaker is_part_character (λ c. not (c == colon)) is_no_colon part (and_parts _ _ (and_parts _ _ both.0).0).0) (parts_without parts both.1)

slash_no_colon : (s : ℕ) → is_slash s ≡ true → not (s == colon) ≡ true
slash_no_colon s slash = grind (arith, nat_tests)

-- ---- the path

some_there : (parts : List (List ℕ)) → 0 < length parts → not (length parts == 0) ≡ true
some_there [] some = absurd (omega arith)
some_there (part ∷ parts) some = grind (arith, nat_tests)

-- parts that may stand are the path of the text that joins them
pub path_joined : (s : ℕ)
    → is_slash s ≡ true
    → (parts : List (List ℕ))
    → 0 < length parts
    → list_all is_part parts ≡ true
    → path_in (join_with_byte s parts) ≡ Some (join_with_byte solidus parts)
path_joined s slash parts some fit =
    let text = join_with_byte s parts in
    let cut : path_parts text ≡ parts = ap (filter (λ part. not (is_dot part))) (split_parts s slash parts some fit) ∙ no_dots parts fit in
    let plain : not (list_any (λ c. c == colon) text) ≡ true =
    not_from_false _ (none_of text (joined s (λ c. not (c == colon)) (slash_no_colon s slash) parts (parts_without parts fit))) in
    let apart : not (list_any is_refused_part (path_parts text)) ≡ true =
    ap (λ ps. not (list_any is_refused_part ps)) cut ∙ not_from_false _ (none_refused parts fit) in
    let there : not (length (path_parts text) == 0) ≡ true =
    ap (λ (ps : List (List ℕ)). not (length ps == 0)) cut ∙ some_there parts some in
    let is : is_path text ≡ true = and_from _ _ (and_from _ _ plain apart) there in
    ap (λ b. cond b (Some (join_with_byte solidus (path_parts text))) None) is ∙ ap (λ ps. Some (join_with_byte solidus ps)) cut

-- ---- texts that are such parts

-- a part of three characters or more
pub long_part : (part : List ℕ)
    → list_all is_part_character part ≡ true
    → 3 ≤ length part
    → is_part part ≡ true
long_part part all long =
    let other : (word : List ℕ) → length word < 3 → bytes_eq part word ≡ false = λ word short.
    false_from_ne_true (bytes_eq part word) (λ same. omega (arith, ap length ((bytes_eq-Decides part word).0 same))) in
    let some : (length part == 0) ≡ false = ne_eqb (length part) 0 (λ none. omega arith) in
    and_from _ _ (and_from _ _ all (not_from_false _ (other (full_stop ∷ []) (omega arith))))
    (not_from_false _ (or_from _ _ some (other (full_stop ∷ full_stop ∷ []) (omega arith))))

-- a part that begins with no full stop
pub other_part : (c : ℕ) (part : List ℕ)
    → list_all is_part_character (c ∷ part) ≡ true
    → (c == full_stop) ≡ false
    → is_part (c ∷ part) ≡ true
other_part c part all apart =
    let other : (word : List ℕ) → bytes_eq (c ∷ part) (full_stop ∷ word) ≡ false = λ word. and_left (c == full_stop) _ apart in
    and_from _ _ (and_from _ _ all (not_from_false _ (other [])))
    (not_from_false _ (or_from _ _ (ne_eqb (length (c ∷ part)) 0 (λ none. omega arith)) (other (full_stop ∷ []))))

-- the path tells its parts
pub parts_same : (parts others : List (List ℕ))
    → 0 < length parts
    → 0 < length others
    → list_all is_part parts ≡ true
    → list_all is_part others ≡ true
    → join_with_byte solidus parts ≡ join_with_byte solidus others
    → parts ≡ others
parts_same parts others some more fit fits same =
    sym (split_parts solidus refl parts some fit) ∙ ap (slice_split is_slash) same ∙ split_parts solidus refl others more fits
