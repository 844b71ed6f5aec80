-- The set of the listed paths, and the paths that are looked up in it.
use Rattle.std.proofs.Common.{◌≡◌, ℕ, ◌+◌, Bool, true, false, cond, ◌||◌, Err, List, [], ◌∷◌, ◌++◌, Bor, nat_cmp, refl, sym, ap, ◌∙◌, encode_utf8_all}
use Rattle.std.specs.BTreeSet.{BTreeSet, contains_by}
use Rattle.std.specs.Cmp.Lexicographic.{slice_cmp}
use Rattle.std.specs.Str.{all_scalars, bytes_eq, chars}
use Rattle.std.proofs.lemmas.List.Folds.{list_any-append}
use Rattle.std.proofs.lemmas.Slice.Eq.{bytes_eq-Decides}
use Rattle.std.proofs.lemmas.Str.{chars-encodes}
use Rattle.bp_core.specs.Rules.{not_listed_rule}
use Rattle.bp_check.specs.ListedPaths.{Knows}
use Rattle.bp_check.specs.Listing.{listed_all, lists}
use Rattle.bp_check.specs.Manifest.{Listed}

same_test : (p q : Bool) → (p ≡ true → q ≡ true) → (q ≡ true → p ≡ true) → p ≡ q
same_test true q there back = sym (there refl)
same_test false true there back = back refl
same_test false false there back = refl

-- two texts have the same bytes exactly where they have the same characters
encoded_eq : (a b : List ℕ) → all_scalars a ≡ true → all_scalars b ≡ true
    → bytes_eq (encode_utf8_all a) (encode_utf8_all b) ≡ bytes_eq a b
encoded_eq a b sa sb =
    same_test _ _
    (λ same. (bytes_eq-Decides a b).1 (sym (chars-encodes a sa) ∙ ap chars ((bytes_eq-Decides (encode_utf8_all a) (encode_utf8_all b)).0 same) ∙ chars-encodes b sb))
    (λ same. (bytes_eq-Decides (encode_utf8_all a) (encode_utf8_all b)).1 (ap encode_utf8_all ((bytes_eq-Decides a b).0 same)))

cond_or : (here before : Bool) → cond here true before ≡ (before || (here || false))
cond_or true true = refl
cond_or true false = refl
cond_or false true = refl
cond_or false false = refl

-- the set has one path more
pub knows_next : (known next : BTreeSet (Bor (List ℕ))) (files : List Listed) (file : Listed) (key : List ℕ)
    → Knows known files
    → all_scalars file.path ≡ true
    → key ≡ encode_utf8_all file.path
    → ((q : List ℕ) → contains_by (λ k. slice_cmp nat_cmp q k.now) next ≡ cond (bytes_eq key q) true (contains_by (λ k. slice_cmp nat_cmp q k.now) known))
    → Knows next (files ++ file ∷ [])
knows_next known next files file key knows scalars is updates = λ path fits.
    let had : Bool = contains_by (λ k. slice_cmp nat_cmp (encode_utf8_all path) k.now) known in
    updates (encode_utf8_all path)
    ∙ ap (λ k. cond (bytes_eq k (encode_utf8_all path)) true had) is
    ∙ ap (λ b. cond b true had) (encoded_eq file.path path scalars fits)
    ∙ ap (cond (bytes_eq file.path path) true) (knows path fits)
    ∙ cond_or (bytes_eq file.path path) (lists files path)
    ∙ sym (list_any-append (λ row. bytes_eq row.path path) files (file ∷ []))

-- a path that is listed, or not, before others
pub path_listed : (listed : List Listed) (place : ℕ) (path : List ℕ) (paths : List (List ℕ))
    → lists listed path ≡ true → listed_all listed place (path ∷ paths) ≡ listed_all listed (place + 1) paths
path_listed listed place path paths is = ap (λ b. cond b (listed_all listed (place + 1) paths) (Err (not_listed_rule place))) is

pub path_missing : (listed : List Listed) (place : ℕ) (path : List ℕ) (paths : List (List ℕ))
    → lists listed path ≡ false → listed_all listed place (path ∷ paths) ≡ Err (not_listed_rule place)
path_missing listed place path paths isnt = ap (λ b. cond b (listed_all listed (place + 1) paths) (Err (not_listed_rule place))) isnt
