-- Of texts no two of which are alike there are at most as many as of those among which each stands.
use Rattle.std.proofs.Common.{◌≡◌, ℕ, ◌+◌, ◌≤◌, Bool, true, false, ◌||◌, not, cond, List, [], ◌∷◌, length, refl, sym, ap, ◌∙◌, inl, inr, arith}
use Rattle.std.specs.List.{list_all, list_any}
use Rattle.std.specs.Str.{bytes_eq}
use Rattle.std.proofs.lemmas.Bool.{and_parts, and_from, or_parts, or_cases, or_left, or_right, not-true, cases_Bool, false_from_ne_true}
use Rattle.bp_core.specs.Differing.{all_differ}
use Rattle.bp_freeze.proofs.PutRowLemmas.{same-text, text-same}

-- the list without the first that passes
abbrev without_first : {T : Type 0} → (T → Bool) → List T → List T
without_first p [] = []
without_first p (y ∷ ys) = cond (p y) ys (y ∷ without_first p ys)

one-less : {T : Type 0} (p : T → Bool) (ys : List T) → list_any p ys ≡ true → length ys ≡ length (without_first p ys) + 1
one-less p [] any = absurd cc
one-less p (y ∷ ys) any =
    elim (cases_Bool (p y)) [
      | inl here ↦ rw here (omega arith)
      | inr there ↦ (let rest = one-less p ys (sym (ap (λ (b : Bool). b || list_any p ys) there) ∙ any) in rw there (omega arith))
    ]

still-any : {T : Type 0} (p q : T → Bool) (ys : List T) → ((y : T) → p y ≡ true → q y ≡ false) → list_any q ys ≡ true → list_any q (without_first p ys) ≡ true
still-any p q [] other any = absurd cc
still-any p q (y ∷ ys) other any =
    elim (cases_Bool (p y)) [
      | inl here ↦ rw here (sym (ap (λ (b : Bool). b || list_any q ys) (other y here)) ∙ any)
      | inr there ↦
          elim (or_cases (q y) (list_any q ys) any) [
            | inl now ↦ rw there (or_left (q y) (list_any q (without_first p ys)) now)
            | inr later ↦ rw there (or_right (q y) (list_any q (without_first p ys)) (still-any p q ys other later))
          ]
    ]

-- the texts other than this one are still among the rest
still-among : {S T : Type 0} (name : S → List ℕ) (text : T → List ℕ) (x : S) (xs : List S) (ys : List T) → list_any (λ o. bytes_eq (name o) (name x)) xs ≡ false
    → list_all (λ o. list_any (λ y. bytes_eq (text y) (name o)) ys) xs ≡ true
    → list_all (λ o. list_any (λ y. bytes_eq (text y) (name o)) (without_first (λ y. bytes_eq (text y) (name x)) ys)) xs ≡ true
still-among name text x [] ys none all = refl
still-among name text x (z ∷ xs) ys none all =
    let other = or_parts (bytes_eq (name z) (name x)) (list_any (λ o. bytes_eq (name o) (name x)) xs) none in
    let parts = and_parts (list_any (λ y. bytes_eq (text y) (name z)) ys) (list_all (λ o. list_any (λ y. bytes_eq (text y) (name o)) ys) xs) all in
    and_from (list_any (λ y. bytes_eq (text y) (name z)) (without_first (λ y. bytes_eq (text y) (name x)) ys))
    (list_all (λ o. list_any (λ y. bytes_eq (text y) (name o)) (without_first (λ y. bytes_eq (text y) (name x)) ys)) xs)
    (still-any (λ y. bytes_eq (text y) (name x)) (λ y. bytes_eq (text y) (name z)) ys
    (λ y here. false_from_ne_true (bytes_eq (text y) (name z)) (λ same. (
    let yes : bytes_eq (name z) (name x) ≡ true = text-same (name z) (name x) (sym (same-text (text y) (name z) same) ∙ same-text (text y) (name x) here) in
    let no : bytes_eq (name z) (name x) ≡ false = other.0 in absurd cc))) parts.0)
    (still-among name text x xs ys other.1 parts.1)

pub at-most : {S T : Type 0} (name : S → List ℕ) (text : T → List ℕ) (xs : List S) (ys : List T) → all_differ name xs ≡ true → list_all (λ x. list_any (λ y. bytes_eq (text y) (name x)) ys) xs ≡ true → length xs ≤ length ys
at-most name text [] ys differ all = omega arith
at-most name text (x ∷ xs) ys differ all =
    let apart = and_parts (not (list_any (λ o. bytes_eq (name o) (name x)) xs)) (all_differ name xs) differ in
    let parts = and_parts (list_any (λ y. bytes_eq (text y) (name x)) ys) (list_all (λ o. list_any (λ y. bytes_eq (text y) (name o)) ys) xs) all in
    let less = one-less (λ y. bytes_eq (text y) (name x)) ys parts.0 in
    let rest = at-most name text xs (without_first (λ y. bytes_eq (text y) (name x)) ys) apart.1 (still-among name text x xs ys (not-true _ apart.0) parts.1) in
    omega arith
