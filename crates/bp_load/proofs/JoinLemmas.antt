-- Fields joined by a separator, and the text cut at it again.
use Rattle.std.proofs.Common.{◌≡◌, ℕ, ◌<◌, ◌==◌, Bool, true, false, not, List, [], ◌∷◌, ◌++◌, length, get_or, refl, ap, arith, ◌∙◌}
use Rattle.std.specs.List.{All, AllByRecursion, list_all, slice_split, join_with_byte}
use Rattle.std.specs.Str.{IsUtf8, all_scalars}
use Rattle.std.proofs.lemmas.Bool.{and_parts, and_from, not-true}
use Rattle.std.proofs.lemmas.Str.{IsUtf8-append, IsUtf8-nil, encode_ascii}
use Rattle.std.proofs.lemmas.List.Folds.{list_all-append}
use Rattle.std.proofs.lemmas.List.Sums.{AllPass-from_list_all}
use Rattle.std.proofs.lemmas.List.Splits.{slice_split_none, slice_split_at}
use Rattle.bp_load.proofs.LineLemmas.{is_at}

-- the test that it is no separator
abbrev pub not_at : ℕ → ℕ → Bool
not_at separator c = not (c == separator)

pub none_of : (p q : ℕ → Bool) → ((c : ℕ) → q c ≡ true → p c ≡ false) → (cs : List ℕ) → list_all q cs ≡ true → All (λ c. p c ≡ false) cs
none_of p q out cs h = λ k d fits. out (get_or cs k d) (AllPass-from_list_all q cs h k d fits)

none_at : (separator : ℕ) (cs : List ℕ) → list_all (not_at separator) cs ≡ true → All (λ c. is_at separator c ≡ false) cs
none_at separator cs h = none_of (is_at separator) (not_at separator) (λ c. not-true (c == separator)) cs h

-- a test that each field passes, and the separator, the line passes
pub joined : (separator : ℕ) (p : ℕ → Bool) → p separator ≡ true → (fields : List (List ℕ)) → list_all (list_all p) fields ≡ true → list_all p (join_with_byte separator fields) ≡ true
joined separator p passes [] h = refl
joined separator p passes (x ∷ []) h = (and_parts _ _ h).0
joined separator p passes (x ∷ y ∷ fields) h =
    let parts = and_parts (list_all p x) (list_all (list_all p) (y ∷ fields)) h in
    list_all-append p x (separator ∷ join_with_byte separator (y ∷ fields)) ∙ and_from _ _ parts.0 (and_from _ _ passes (joined separator p passes (y ∷ fields) parts.1))

-- fields without a separator are what stands between the separators of their line
pub split_joined : (separator : ℕ) (fields : List (List ℕ)) → 0 < length fields → list_all (list_all (not_at separator)) fields ≡ true → (separator == separator) ≡ true → slice_split (is_at separator) (join_with_byte separator fields) ≡ fields
split_joined separator [] some h same = absurd (omega arith)
split_joined separator (x ∷ []) some h same = slice_split_none (is_at separator) x (none_at separator x (and_parts _ _ h).0)
split_joined separator (x ∷ y ∷ fields) some h same =
    let parts = and_parts (list_all (not_at separator) x) (list_all (list_all (not_at separator)) (y ∷ fields)) h in
    slice_split_at (is_at separator) x separator (join_with_byte separator (y ∷ fields)) (none_at separator x parts.0) same ∙ ap (λ more. x ∷ more) (split_joined separator (y ∷ fields) (omega arith) parts.1 same)

utf8_before : (c : ℕ) (bs : List ℕ) → c < 128 → all_scalars (c ∷ []) ≡ true → IsUtf8 bs → IsUtf8 (c ∷ bs)
utf8_before c bs small scalar text = IsUtf8-append (c ∷ []) bs (c ∷ [], (scalar, ap (λ e. e ++ []) (encode_ascii c small))) text

-- fields in UTF-8 make a line in UTF-8
pub utf8_joined : (separator : ℕ) → separator < 128 → all_scalars (separator ∷ []) ≡ true → (fields : List (List ℕ)) → AllByRecursion IsUtf8 fields → IsUtf8 (join_with_byte separator fields)
utf8_joined separator small scalar [] h = IsUtf8-nil
utf8_joined separator small scalar (x ∷ []) h = h.0
utf8_joined separator small scalar (x ∷ y ∷ fields) h =
    IsUtf8-append x (separator ∷ join_with_byte separator (y ∷ fields)) h.0
    (utf8_before separator (join_with_byte separator (y ∷ fields)) small scalar (utf8_joined separator small scalar (y ∷ fields) h.1))
