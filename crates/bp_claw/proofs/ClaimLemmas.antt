-- The claims of a notice, tried one after another: as long as none breaks a rule each names another item,
-- so that there are no more of them than items.
use Rattle.std.proofs.Common.{◌≡◌, ℕ, ◌+◌, ◌≤◌, ◌<◌, ◌==◌, ◌||◌, not, Bool, true, false, List, [], ◌∷◌, ◌++◌, length, map, filter, drop, get_or, Some, None, refl, sym, ap, ◌∙◌, inl, inr, arith}
use Rattle.std.specs.Prelude.{take}
use Rattle.std.specs.List.{list_any}
use Rattle.std.proofs.lemmas.Bool.{and_parts, cases_Bool, eqb-true}
use Rattle.std.proofs.lemmas.List.{at_drop_all, at_drop_more, length-map, take_more}
use Rattle.bp_core.specs.declared.rules.Rule.{Rule}
use Rattle.bp_matter.specs.Treatments.{is_withheld}
use Rattle.bp_matter.specs.declared.rows.Item.{Item}
use Rattle.bp_matter.specs.declared.rows.Production.{Production}
use Rattle.bp_claw.specs.Claims.{is_named, names_doc}
use Rattle.bp_claw.specs.Refusing.{claim_rule, claims_rule, is_shown, rule_or, shows_doc}
use Rattle.bp_claw.specs.declared.notices.Claim.{Claim}

-- ---- numbers in a list

abbrev is_number : ℕ → ℕ → Bool
is_number n other = other == n

abbrev has : ℕ → List ℕ → Bool
has n numbers = list_any (is_number n) numbers

abbrev without : ℕ → List ℕ → List ℕ
without n numbers = filter (λ other. not (other == n)) numbers

fewer : (n : ℕ) (numbers : List ℕ) → length (without n numbers) ≤ length numbers
fewer n [] = omega arith
fewer n (other ∷ numbers) =
    elim (cases_Bool (other == n)) [
      | inl here ↦ rw here (omega (arith, fewer n numbers))
      | inr there ↦ rw there (omega (arith, fewer n numbers))
    ]

-- a number that is taken out was one of them
taken_out : (n : ℕ) (numbers : List ℕ) → has n numbers ≡ true → length (without n numbers) < length numbers
taken_out n [] is = absurd cc
taken_out n (other ∷ numbers) is =
    elim (cases_Bool (other == n)) [
      | inl here ↦ rw here (omega (arith, fewer n numbers))
      | inr there ↦ (
          let later : has n numbers ≡ true = cc in
          rw there (omega (arith, taken_out n numbers later)))
    ]

-- the others stay
stays : (n other : ℕ) (numbers : List ℕ) → (n == other) ≡ false → has other numbers ≡ true → has other (without n numbers) ≡ true
stays n other [] differ is = absurd cc
stays n other (first ∷ numbers) differ is =
    elim (cases_Bool (first == n)) [
      | inl here ↦ (
          let same : first ≡ n = eqb-true first n here in
          let no : (first == other) ≡ false = ap (λ x. x == other) same ∙ differ in
          let later : has other numbers ≡ true = cc in
          rw here (stays n other numbers differ later))
      | inr there ↦ rw there
          (elim (cases_Bool (first == other)) [
            | inl own ↦ ap (λ b. b || has other (without n numbers)) own
            | inr none ↦ (
                let later : has other numbers ≡ true = cc in
                ap (λ b. b || has other (without n numbers)) none ∙ stays n other numbers differ later)
          ])
    ]

-- ---- the documents of items

abbrev docs_of : List Item → List ℕ
docs_of items = map (λ item. item.doc.0) items

shown_there : (doc : ℕ) (items : List Item) → list_any (shows_doc doc) items ≡ true → has doc (docs_of items) ≡ true
shown_there doc [] is = absurd cc
shown_there doc (item ∷ items) is =
    elim (cases_Bool (shows_doc doc item)) [
      | inl here ↦ ap (λ b. b || has doc (docs_of items)) (and_parts (item.doc.0 == doc) (not (is_withheld item.treatment)) here).0
      | inr other ↦ (
          let later : list_any (shows_doc doc) items ≡ true = cc in
          elim (cases_Bool (item.doc.0 == doc)) [
            | inl own ↦ ap (λ b. b || has doc (docs_of items)) own
            | inr none ↦ ap (λ b. b || has doc (docs_of items)) none ∙ shown_there doc items later
          ])
    ]

-- ---- some claims were tried

-- what holds where those before this one break no rule
pub record ClaimsPass (f : Production) (notice : List Claim) (k : ℕ) : Type 0 where
  pub so_far : claims_rule f (take k notice) (k + 1) (drop k notice) ≡ claims_rule f [] 1 notice
  pub left : List ℕ
  pub covers : (doc : ℕ) → is_shown f doc ≡ true → is_named (take k notice) doc ≡ false → has doc left ≡ true
  pub room : k + length left ≤ length f.items

pub claims_begin : (f : Production) (notice : List Claim) → ClaimsPass f notice 0
claims_begin f notice = record {
  so_far = refl;
  left = docs_of f.items;
  covers = λ doc shown none. shown_there doc f.items shown;
  room = omega (arith, length-map f.items (λ item. item.doc.0));
}

-- the next claim is tried first of those that are left
next_rule : (f : Production) (notice : List Claim) (k : ℕ) (d : Claim) → k < length notice
    → claims_rule f (take k notice) (k + 1) (drop k notice)
    ≡ rule_or (claim_rule f (take k notice) (k + 1) (get_or notice k d)) (claims_rule f (take k notice ++ get_or notice k d ∷ []) (k + 1 + 1) (drop (k + 1) notice))
next_rule f notice k d less = at_drop_more (claims_rule f (take k notice) (k + 1)) notice k d less

-- it breaks none
named_more : (before : List Claim) (claim : Claim) (doc : ℕ) → is_named (before ++ claim ∷ []) doc ≡ false → (is_named before doc ≡ false) × (names_doc doc claim ≡ false)
named_more [] claim doc none =
    elim (cases_Bool (names_doc doc claim)) [
      | inl here ↦ absurd cc
      | inr other ↦ (refl, other)
    ]
named_more (first ∷ before) claim doc none =
    elim (cases_Bool (names_doc doc first)) [
      | inl here ↦ absurd cc
      | inr other ↦ (
          let later : is_named (before ++ claim ∷ []) doc ≡ false = cc in
          let parts = named_more before claim doc later in
          (ap (λ b. b || is_named before doc) other ∙ parts.0, parts.1))
    ]

passes : (f : Production) (before : List Claim) (number : ℕ) (claim : Claim) → claim_rule f before number claim ≡ None
    → (is_named before claim.doc.0 ≡ false) × (is_shown f claim.doc.0 ≡ true)
passes f before number claim none =
    elim (cases_Bool (is_named before claim.doc.0)) [
      | inl twice ↦ absurd cc
      | inr once ↦ elim (cases_Bool (is_shown f claim.doc.0)) [
        | inl shown ↦ (once, shown)
        | inr other ↦ absurd cc
      ]
    ]

pub claims_turn : (f : Production) (notice : List Claim) (k : ℕ) (claim : Claim) → k < length notice → claim ≡ get_or notice k claim
    → claim_rule f (take k notice) (k + 1) claim ≡ None → ClaimsPass f notice k → ClaimsPass f notice (k + 1)
claims_turn f notice k claim less is none h =
    let before : List Claim = take k notice in
    let more : take (k + 1) notice ≡ before ++ claim ∷ [] = take_more notice k claim less ∙ ap (λ c. before ++ c ∷ []) (sym is) in
    let fact = passes f before (k + 1) claim none in
    let there : has claim.doc.0 h.left ≡ true = h.covers claim.doc.0 fact.1 fact.0 in
    record {
      so_far =
          ap (λ some. claims_rule f some (k + 1 + 1) (drop (k + 1) notice)) more
          ∙ sym (next_rule f notice k claim less
          ∙ ap (λ c. rule_or (claim_rule f before (k + 1) c) (claims_rule f (before ++ c ∷ []) (k + 1 + 1) (drop (k + 1) notice))) (sym is)
          ∙ ap (λ r. rule_or r (claims_rule f (before ++ claim ∷ []) (k + 1 + 1) (drop (k + 1) notice))) none)
          ∙ h.so_far;
      left = without claim.doc.0 h.left;
      covers = λ doc shown free.
          let parts = named_more before claim doc (sym (ap (λ some. is_named some doc) more) ∙ free) in
          stays claim.doc.0 doc h.left parts.1 (h.covers doc shown parts.0);
      room = omega (arith, h.room, taken_out claim.doc.0 h.left there);
    }

-- it breaks one
pub claims_break : (f : Production) (notice : List Claim) (k : ℕ) (claim : Claim) (rule : Rule) → k < length notice → claim ≡ get_or notice k claim
    → claim_rule f (take k notice) (k + 1) claim ≡ Some rule → ClaimsPass f notice k → Some rule ≡ claims_rule f [] 1 notice
claims_break f notice k claim rule less is broken h =
    let before : List Claim = take k notice in
    sym (next_rule f notice k claim less
    ∙ ap (λ c. rule_or (claim_rule f before (k + 1) c) (claims_rule f (before ++ c ∷ []) (k + 1 + 1) (drop (k + 1) notice))) (sym is)
    ∙ ap (λ r. rule_or r (claims_rule f (before ++ claim ∷ []) (k + 1 + 1) (drop (k + 1) notice))) broken)
    ∙ h.so_far

-- none is left
pub claims_end : (f : Production) (notice : List Claim) (k : ℕ) → length notice ≤ k → ClaimsPass f notice k → None ≡ claims_rule f [] 1 notice
claims_end f notice k past h = sym (at_drop_all (claims_rule f (take k notice) (k + 1)) notice k past) ∙ h.so_far
