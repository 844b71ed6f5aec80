-- Families of valid documents: parents never fall, so that the neighbours of a range tell which family
-- reaches outside it.
use Rattle.std.proofs.Common.{◌≡◌, ◌⊎◌, ℕ, zero, suc, ◌+◌, ◌-◌, ◌≤◌, ◌<◌, Bool, true, false, eqb, ltb, ◌&&◌, ◌||◌, List, [], ◌∷◌, length, map, get_or, inl, inr, refl, ap, ◌∙◌, sym, arith}
use Rattle.std.proofs.lemmas.List.{length-map}
use Rattle.std.proofs.lemmas.Bool.{and_parts, and_from, or_left, or_right, eqb-true, eq-eqb, ltb-true, lt-ltb}
use Rattle.bp_matter.specs.Matter.{Matter, doc_key}
use Rattle.bp_matter.specs.Valid.{IsValid}
use Rattle.bp_matter.specs.ValidDocs.{are_families}
use Rattle.bp_matter.specs.ValidRows.{is_numbered}
use Rattle.bp_matter.specs.declared.rows.DocRow.{DocRow}
use Rattle.bp_matter.specs.declared.rows.Request.{Request}
use Rattle.bp_freeze.specs.Families.{are_parents, is_across, reaches_outside}
use Rattle.bp_freeze.specs.Seeing.{decisions_of, parent_of}

one_truth : (a b : Bool) → (a ≡ true → b ≡ true) → (b ≡ true → a ≡ true) → a ≡ b
one_truth true b f g = sym (f refl)
one_truth false true f g = g refl
one_truth false false f g = refl

or_cases : (a b : Bool) → (a || b) ≡ true → (a ≡ true) ⊎ (b ≡ true)
or_cases true b h = inl refl
or_cases false b h = inr h

-- a parent is at least the one before it, and at most the number of its document
parent_between : (n before p : ℕ) → before ≤ n → (eqb p n || eqb p before) ≡ true → (before ≤ p) × (p ≤ n + 1)
parent_between n before p low h =
    elim (or_cases (eqb p n) (eqb p before) h) [
      | inl own ↦ (let e : p ≡ n = eqb-true p n own in (omega arith, omega arith))
      | inr same ↦ (let e : p ≡ before = eqb-true p before same in (omega arith, omega arith))
    ]

-- parents never fall
risen : (n before : ℕ) (parents : List ℕ) → before ≤ n → are_parents n before parents ≡ true → (i : ℕ) → i < length parents → before ≤ get_or parents i 0
risen n before [] low h i l = absurd (omega arith)
risen n before (p ∷ ps) low h zero l = (parent_between n before p low (and_parts (eqb p n || eqb p before) (are_parents (n + 1) p ps) h).0).0
risen n before (p ∷ ps) low h (suc i) l =
    let parts = and_parts (eqb p n || eqb p before) (are_parents (n + 1) p ps) h in
    let here = parent_between n before p low parts.0 in
    omega (arith, here.0, risen (n + 1) p ps here.1 parts.1 i (omega arith))

pub ordered : (n before : ℕ) (parents : List ℕ) → before ≤ n → are_parents n before parents ≡ true → (i j : ℕ) → i ≤ j → j < length parents → get_or parents i 0 ≤ get_or parents j 0
ordered n before [] low h i j le l = absurd (omega arith)
ordered n before (p ∷ ps) low h zero zero le l = omega arith
ordered n before (p ∷ ps) low h zero (suc j) le l =
    let parts = and_parts (eqb p n || eqb p before) (are_parents (n + 1) p ps) h in
    risen (n + 1) p ps (parent_between n before p low parts.0).1 parts.1 j (omega arith)
ordered n before (p ∷ ps) low h (suc i) zero le l = absurd (omega arith)
ordered n before (p ∷ ps) low h (suc i) (suc j) le l =
    let parts = and_parts (eqb p n || eqb p before) (are_parents (n + 1) p ps) h in
    ordered (n + 1) p ps (parent_between n before p low parts.0).1 parts.1 i j (omega arith) (omega arith)

-- a document outside the range with this parent, at a place of the list
record HasOutside (q : Request) (n : ℕ) (parents : List ℕ) (parent : ℕ) : Type 0 where
  pub at : ℕ
  pub within : at < length parents
  pub is : get_or parents at 0 ≡ parent
  pub outside : (n + at < q.from.0) ⊎ (q.to.0 < n + at)

reaches_at : (q : Request) (n : ℕ) (parents : List ℕ) (parent : ℕ) → reaches_outside q n parents parent ≡ true → HasOutside q n parents parent
reaches_at q n [] parent h = absurd cc
reaches_at q n (other ∷ parents) parent h =
    elim (or_cases (eqb other parent && (ltb n q.from.0 || ltb q.to.0 n)) (reaches_outside q (n + 1) parents parent) h) [
      | inl here ↦ (
          let a = and_parts (eqb other parent) (ltb n q.from.0 || ltb q.to.0 n) here in
          record {
            at = 0;
            within = omega arith;
            is = eqb-true other parent a.0;
            outside = elim (or_cases (ltb n q.from.0) (ltb q.to.0 n) a.1) [
              | inl x ↦ inl (omega (arith, ltb-true n q.from.0 x))
              | inr x ↦ inr (omega (arith, ltb-true q.to.0 n x))
            ];
          })
      | inr there ↦ (
          let r = reaches_at q (n + 1) parents parent there in
          record {
            at = suc r.at;
            within = omega (arith, r.within);
            is = r.is;
            outside = elim r.outside [ inl x ↦ inl (omega (arith, x)) | inr x ↦ inr (omega (arith, x)) ];
          })
    ]

reaches_from : (q : Request) (n : ℕ) (parents : List ℕ) (parent at : ℕ) → at < length parents → get_or parents at 0 ≡ parent → (n + at < q.from.0) ⊎ (q.to.0 < n + at) → reaches_outside q n parents parent ≡ true
reaches_from q n [] parent at l is out = absurd (omega arith)
reaches_from q n (other ∷ parents) parent zero l is out =
    let there : (ltb n q.from.0 || ltb q.to.0 n) ≡ true =
    elim out [
      | inl x ↦ or_left (ltb n q.from.0) (ltb q.to.0 n) (lt-ltb n q.from.0 (omega arith))
      | inr x ↦ or_right (ltb n q.from.0) (ltb q.to.0 n) (lt-ltb q.to.0 n (omega arith))
    ] in
    or_left (eqb other parent && (ltb n q.from.0 || ltb q.to.0 n)) (reaches_outside q (n + 1) parents parent) (and_from _ _ (eq-eqb other parent is) there)
reaches_from q n (other ∷ parents) parent (suc at) l is out =
    or_right (eqb other parent && (ltb n q.from.0 || ltb q.to.0 n)) (reaches_outside q (n + 1) parents parent)
    (reaches_from q (n + 1) parents parent at (omega arith) is (elim out [ inl x ↦ inl (omega arith) | inr x ↦ inr (omega arith) ]))

pub across-is : (q : Request) (parents : List ℕ) (d : ℕ) → are_parents 1 1 parents ≡ true → 1 ≤ q.from.0 → q.from.0 ≤ d → d ≤ q.to.0 → q.to.0 ≤ length parents
    → reaches_outside q 1 parents (get_or parents (d - 1) 0) ≡ is_across q parents (get_or parents (d - 1) 0)
across-is q parents d h from low high to =
    let p : ℕ = get_or parents (d - 1) 0 in
    let rise : (i j : ℕ) → i ≤ j → j < length parents → get_or parents i 0 ≤ get_or parents j 0 = ordered 1 1 parents (omega arith) h in
    let left : Bool = ltb 1 q.from.0 && eqb (get_or parents (q.from.0 - 2) 0) p in
    let right : Bool = ltb q.to.0 (length parents) && eqb (get_or parents q.to.0 0) p in
    one_truth (reaches_outside q 1 parents p) (is_across q parents p)
    (λ reach. let r = reaches_at q 1 parents p reach in
    elim r.outside [
      | inl x ↦ (
          let same : get_or parents (q.from.0 - 2) 0 ≡ p = omega (arith, r.is, rise r.at (q.from.0 - 2) (omega (arith, x)) (omega arith), rise (q.from.0 - 2) (d - 1) (omega arith) (omega arith)) in
          or_left left right (and_from _ _ (lt-ltb 1 q.from.0 (omega (arith, x))) (eq-eqb _ p same)))
      | inr x ↦ (
          let within : q.to.0 < length parents = omega (arith, x, r.within) in
          let same : get_or parents q.to.0 0 ≡ p = omega (arith, r.is, rise q.to.0 r.at (omega (arith, x)) r.within, rise (d - 1) q.to.0 (omega arith) within) in
          or_right left right (and_from _ _ (lt-ltb q.to.0 (length parents) within) (eq-eqb _ p same)))
    ])
    (λ across. elim (or_cases left right across) [
      | inl x ↦ (
          let a = and_parts (ltb 1 q.from.0) (eqb (get_or parents (q.from.0 - 2) 0) p) x in
          let more : 1 < q.from.0 = ltb-true 1 q.from.0 a.0 in
          reaches_from q 1 parents p (q.from.0 - 2) (omega arith) (eqb-true _ p a.1) (inl (omega arith)))
      | inr x ↦ (
          let a = and_parts (ltb q.to.0 (length parents)) (eqb (get_or parents q.to.0 0) p) x in
          reaches_from q 1 parents p q.to.0 (ltb-true q.to.0 (length parents) a.0) (eqb-true _ p a.1) (inr (omega arith)))
    ])

-- ---- the documents of a valid matter

parents_are : (n before : ℕ) (docs : List DocRow) → is_numbered doc_key n docs ≡ true → are_families before docs ≡ true → are_parents n before (map (λ (row : DocRow). row.parent.0) docs) ≡ true
parents_are n before [] numbered families = refl
parents_are n before (row ∷ docs) numbered families =
    let number = and_parts (eqb row.doc.0 n) (is_numbered doc_key (n + 1) docs) numbered in
    let family = and_parts (eqb row.parent.0 row.doc.0 || eqb row.parent.0 before) (are_families row.parent.0 docs) families in
    and_from _ _ (ap (λ k. eqb row.parent.0 k || eqb row.parent.0 before) (sym (eqb-true row.doc.0 n number.0)) ∙ family.0)
    (parents_are (n + 1) row.parent.0 docs number.1 family.1)

pub valid-parents : (m : Matter) → IsValid m → are_parents 1 1 (decisions_of m).parents ≡ true
valid-parents m valid = parents_are 1 1 m.docs valid.docs.numbered valid.docs.families

pub many_parents : (m : Matter) → length (decisions_of m).parents ≡ length m.docs
many_parents m = length-map m.docs (λ (row : DocRow). row.parent.0)

-- a parent is at most the number of its document
pub parent_below : (n before : ℕ) (parents : List ℕ) → before ≤ n → are_parents n before parents ≡ true → (i : ℕ) → i < length parents → get_or parents i 0 ≤ n + i
parent_below n before [] low h i l = absurd (omega arith)
parent_below n before (p ∷ ps) low h zero l =
    elim (or_cases (eqb p n) (eqb p before) (and_parts (eqb p n || eqb p before) (are_parents (n + 1) p ps) h).0) [
      | inl own ↦ (let e : p ≡ n = eqb-true p n own in omega arith)
      | inr same ↦ (let e : p ≡ before = eqb-true p before same in omega arith)
    ]
parent_below n before (p ∷ ps) low h (suc i) l =
    let parts = and_parts (eqb p n || eqb p before) (are_parents (n + 1) p ps) h in
    let here = parent_between n before p low parts.0 in
    omega (arith, parent_below (n + 1) p ps here.1 parts.1 i (omega arith))

pub parent-small : (m : Matter) → IsValid m → (doc : ℕ) → 1 ≤ doc → doc ≤ length m.docs → parent_of (decisions_of m) doc ≤ length m.docs
parent-small m valid doc from to =
    let many : length (decisions_of m).parents ≡ length m.docs = many_parents m in
    omega (arith, many, parent_below 1 1 (decisions_of m).parents (omega arith) (valid-parents m valid) (doc - 1) (omega (arith, many)))

-- of a document of the range the neighbours tell
pub neighbours-tell : (m : Matter) → IsValid m → (q : Request) (doc : ℕ) → 1 ≤ q.from.0 → q.from.0 ≤ doc → doc ≤ q.to.0 → q.to.0 ≤ length m.docs
    → reaches_outside q 1 (decisions_of m).parents (parent_of (decisions_of m) doc) ≡ is_across q (decisions_of m).parents (parent_of (decisions_of m) doc)
neighbours-tell m valid q doc from low high to =
    across-is q (decisions_of m).parents doc (valid-parents m valid) from low high (omega (arith, many_parents m))
