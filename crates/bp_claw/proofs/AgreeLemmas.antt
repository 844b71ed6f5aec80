-- Two matters that agree but of the documents that a notice names agree on the production after it.
use Rattle.std.proofs.Common.{◌≡◌, ℕ, ◌||◌, false, List, [], ◌∷◌, get_or, Option, Some, None, refl, ap, ◌∙◌, inl, inr}
use Rattle.std.proofs.lemmas.Bool.{cases_Bool}
use Rattle.bp_matter.specs.Matter.{Matter}
use Rattle.bp_matter.specs.Treatments.{is_withheld}
use Rattle.bp_matter.specs.declared.rows.Item.{Item}
use Rattle.bp_matter.specs.declared.rows.Production.{Production}
use Rattle.bp_freeze.specs.Agree.{Agree, ItemAgrees}
use Rattle.bp_press.proofs.SameLemmas.{volume-same}
use Rattle.bp_claw.specs.AgreeBut.{AgreeBut}
use Rattle.bp_claw.specs.Claims.{claim_for, is_named, names_doc}
use Rattle.bp_claw.specs.Replacement.{replaced, replaced_by, replaced_item, replacement_of}
use Rattle.bp_claw.specs.declared.notices.Claim.{Claim}
use Rattle.bp_claw.proofs.ReplacedLemmas.{all-map}

-- where no claim is found for a document, none names it, and back
pub unfound : (notice : List Claim) (doc : ℕ) → claim_for notice doc ≡ None → is_named notice doc ≡ false
unfound [] doc none = refl
unfound (claim ∷ notice) doc none =
    elim (cases_Bool (names_doc doc claim)) [
      | inl here ↦ absurd cc
      | inr other ↦ (
          let rest : claim_for notice doc ≡ None = cc in
          ap (λ b. b || is_named notice doc) other ∙ unfound notice doc rest)
    ]

pub unnamed : (notice : List Claim) (doc : ℕ) → is_named notice doc ≡ false → claim_for notice doc ≡ None
unnamed [] doc none = refl
unnamed (claim ∷ notice) doc none =
    elim (cases_Bool (names_doc doc claim)) [
      | inl here ↦ absurd cc
      | inr other ↦ (
          let rest : is_named notice doc ≡ false = cc in
          let found : claim_for (claim ∷ notice) doc ≡ claim_for notice doc = cc in
          found ∙ unnamed notice doc rest)
    ]

item_agrees : (f : Production) (notice : List Claim) (volume : List ℕ) (m n : Matter) (i : Item) (found : Option Claim) → claim_for notice i.doc.0 ≡ found
    → (is_withheld i.treatment ≡ false → is_named notice i.doc.0 ≡ false → ItemAgrees f m n i)
    → is_withheld (replaced_by found i).treatment ≡ false → ItemAgrees (replaced f notice volume) m n (replaced_by found i)
item_agrees f notice volume m n i None is agree shown =
    let own = agree shown (unfound notice i.doc.0 is) in
    record { counts = own.counts; pages = own.pages; values = own.values }
item_agrees f notice volume m n i (Some claim) is agree shown = absurd cc

pub agree-replaced : (f : Production) (notice : List Claim) (volume : List ℕ) (m n : Matter) → AgreeBut f notice m n → Agree (replaced f notice volume) m n
agree-replaced f notice volume m n agree = record {
  numbers = agree.numbers;
  items = all-map (replaced_item notice) (λ i. is_withheld i.treatment ≡ false → ItemAgrees (replaced f notice volume) m n i) f.items
      (λ k d l. item_agrees f notice volume m n (get_or f.items k d) (claim_for notice (get_or f.items k d).doc.0) refl (agree.items k d l));
}

pub replacement-same : (f : Production) (notice : List Claim) (volume : List ℕ) (m n : Matter) → AgreeBut f notice m n → replacement_of f notice volume m ≡ replacement_of f notice volume n
unfolding replacement_of
replacement-same f notice volume m n agree = volume-same (replaced f notice volume) m n (agree-replaced f notice volume m n agree)
