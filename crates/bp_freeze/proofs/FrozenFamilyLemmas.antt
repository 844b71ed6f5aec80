-- A range that no family reaches out of, and of which whole families are taken, carries over to items that are whole families in
-- ascending order: `are_whole`.
use Rattle.std.proofs.Common.{◌≡◌, ◌⊎◌, ℕ, zero, suc, ◌+◌, ◌-◌, ◌<◌, ◌≤◌, Bool, true, false, cond, eqb, leb, ltb, ◌&&◌, ◌||◌, List, [], ◌∷◌, length, get_or, refl, sym, ap, subst, ◌∙◌, inl, inr, arith}
use Rattle.std.specs.List.{filter}
use Rattle.std.proofs.lemmas.Bool.{and_parts, and_from, or_cases, or_parts, cases_Bool, cases_eq, cases_lt, eqb-true, eq-eqb, ne_eqb, le-leb, lt-ltb}
use Rattle.bp_core.specs.Sorted.{find_key}
use Rattle.bp_matter.specs.Matter.{Matter, doc_key}
use Rattle.bp_matter.specs.Valid.{IsValid}
use Rattle.bp_matter.specs.ValidItems.{are_whole, due_after, is_due}
use Rattle.bp_matter.specs.declared.rows.Item.{Item}
use Rattle.bp_matter.specs.declared.rows.Request.{Request}
use Rattle.bp_freeze.specs.Families.{are_parents, is_across, is_after, is_before}
use Rattle.bp_freeze.specs.Seeing.{Seen, decisions_of, parent_of, seen_from, seen_in}
use Rattle.bp_freeze.specs.Selecting.{item_of, items_from}
use Rattle.bp_freeze.proofs.FamilyLemmas.{many_parents, neighbours-tell, valid-parents}
use Rattle.bp_freeze.proofs.FrozenRangeLemmas.{BreaksNone, past-all, row-at}

-- ---- neighbours

-- a document begins a family, or has the parent of the document before it
record Begins (n parent before : ℕ) : Type 0 where
  pub is : (parent ≡ n) ⊎ (parent ≡ before)

-- what the test of parents says of one
begins : (n parent before : ℕ) → (eqb parent n || eqb parent before) ≡ true → Begins n parent before
begins n parent before h = record {
  is = elim (or_cases (eqb parent n) (eqb parent before) h) [
    | inl own ↦ inl (eqb-true parent n own)
    | inr same ↦ inr (eqb-true parent before same)
  ];
}

-- so does each but the first, at its place of the list
begins_at : (n before : ℕ) (parents : List ℕ) → are_parents n before parents ≡ true → (i : ℕ) → suc i < length parents
    → Begins (n + suc i) (get_or parents (suc i) 0) (get_or parents i 0)
begins_at n before [] h i l = absurd (omega arith)
begins_at n before (p ∷ []) h i l = absurd (omega arith)
begins_at n before (p ∷ next ∷ parents) h zero l =
    let rest = (and_parts (eqb p n || eqb p before) (are_parents (n + 1) p (next ∷ parents)) h).1 in
    begins (n + 1) next p (and_parts (eqb next (n + 1) || eqb next p) (are_parents (n + 1 + 1) next parents) rest).0
begins_at n before (p ∷ next ∷ parents) h (suc i) l =
    let rest = (and_parts (eqb p n || eqb p before) (are_parents (n + 1) p (next ∷ parents)) h).1 in
    let it = begins_at (n + 1) p (next ∷ parents) rest i (omega arith) in
    let place : n + 1 + suc i ≡ n + suc (suc i) = omega arith in
    subst (λ k. Begins k (get_or parents i 0) (get_or (next ∷ parents) i 0)) place it

-- the parent of a document of a matter
abbrev pub parent : Matter → ℕ → ℕ
parent m doc = parent_of (decisions_of m) doc

-- of neighbours in a valid matter
neighbours : (m : Matter) → IsValid m → (doc : ℕ) → 1 ≤ doc → doc < length m.docs → Begins (doc + 1) (parent m (doc + 1)) (parent m doc)
neighbours m valid doc from to =
    let many : length (decisions_of m).parents ≡ length m.docs = many_parents m in
    let it = begins_at 1 1 (decisions_of m).parents (valid-parents m valid) (doc - 1) (omega (arith, many)) in
    let number : 1 + suc (doc - 1) ≡ doc + 1 = omega arith in
    let place : suc (doc - 1) ≡ doc + 1 - 1 = omega arith in
    subst (λ k. Begins (doc + 1) (get_or (decisions_of m).parents k 0) (parent m doc)) place
    (subst (λ k. Begins k (get_or (decisions_of m).parents (suc (doc - 1)) 0) (parent m doc)) number it)

-- the first document of a matter is the first of its family
first_own : (before : ℕ) (parents : List ℕ) → before ≡ 1 → are_parents 1 before parents ≡ true → 1 ≤ length parents → get_or parents 0 0 ≡ 1
first_own before [] e h l = absurd (omega arith)
first_own before (p ∷ parents) e h l =
    elim (begins 1 p before (and_parts (eqb p 1 || eqb p before) (are_parents 2 p parents) h).0).is [ inl own ↦ own | inr same ↦ same ∙ e ]

-- ---- the edges of the range

-- its neighbours have the parent of no document within it
not_across : (m : Matter) → IsValid m → (q : Request) → BreaksNone m q → (doc : ℕ) → q.from.0 ≤ doc → doc ≤ q.to.0 → is_across q (decisions_of m).parents (parent m doc) ≡ false
not_across m valid q passed doc low high =
    sym (neighbours-tell m valid q doc passed.range.from low high passed.range.to) ∙ passed.inside doc low high

-- not the one before it
before_apart : (m : Matter) → IsValid m → (q : Request) → BreaksNone m q → (doc : ℕ) → q.from.0 ≤ doc → doc ≤ q.to.0 → 1 < q.from.0 → parent m (q.from.0 - 1) ≡ parent m doc → ⊥
before_apart m valid q passed doc low high more same =
    let parents = (decisions_of m).parents in
    let none = (or_parts (is_before q parents (parent m doc)) (is_after q parents (parent m doc)) (not_across m valid q passed doc low high)).0 in
    let place : q.from.0 - 2 ≡ q.from.0 - 1 - 1 = omega arith in
    let there : is_before q parents (parent m doc) ≡ true =
    and_from (ltb 1 q.from.0) (eqb (get_or parents (q.from.0 - 2) 0) (parent m doc)) (lt-ltb 1 q.from.0 more) (eq-eqb (get_or parents (q.from.0 - 2) 0) (parent m doc) (ap (λ k. get_or parents k 0) place ∙ same)) in
    cc

-- nor the one after it
after_apart : (m : Matter) → IsValid m → (q : Request) → BreaksNone m q → (doc : ℕ) → q.from.0 ≤ doc → doc ≤ q.to.0 → q.to.0 < length m.docs → parent m (q.to.0 + 1) ≡ parent m doc → ⊥
after_apart m valid q passed doc low high more same =
    let parents = (decisions_of m).parents in
    let many : length parents ≡ length m.docs = many_parents m in
    let none = (or_parts (is_before q parents (parent m doc)) (is_after q parents (parent m doc)) (not_across m valid q passed doc low high)).1 in
    let place : q.to.0 ≡ q.to.0 + 1 - 1 = omega arith in
    let there : is_after q parents (parent m doc) ≡ true =
    and_from (ltb q.to.0 (length parents)) (eqb (get_or parents q.to.0 0) (parent m doc)) (lt-ltb q.to.0 (length parents) (omega (arith, many))) (eq-eqb (get_or parents q.to.0 0) (parent m doc) (ap (λ k. get_or parents k 0) place ∙ same)) in
    cc

-- the first document of the range is the first of its family
first_begins : (m : Matter) → IsValid m → (q : Request) → BreaksNone m q → parent m q.from.0 ≡ q.from.0
first_begins m valid q passed =
    let r = passed.range in
    let many : length (decisions_of m).parents ≡ length m.docs = many_parents m in
    elim (cases_eq q.from.0 1) [
      | inl one ↦ subst (λ k. parent m k ≡ k) (sym one) (first_own 1 (decisions_of m).parents refl (valid-parents m valid) (omega (arith, many, r.from, r.order, r.to)))
      | inr later ↦ (
          let before : 1 ≤ q.from.0 - 1 = omega (arith, r.from) in
          let place : q.from.0 - 1 + 1 ≡ q.from.0 = omega (arith, r.from) in
          let it = subst (λ k. Begins k (parent m k) (parent m (q.from.0 - 1))) place (neighbours m valid (q.from.0 - 1) before (omega (arith, r.order, r.to, r.from))) in
          elim it.is [
            | inl own ↦ own
            | inr same ↦ absurd (before_apart m valid q passed q.from.0 (omega arith) r.order (omega arith) (sym same))
          ])
    ]

-- ---- whole families

-- where a document of a family is due, it comes next, and its family is taken
pub record IsNext (m : Matter) (q : Request) (takes : ℕ → Bool) (n due : ℕ) : Type 0 where
  pub is : due ≡ n
  pub within : n ≤ q.to.0
  pub taken : takes (parent m n) ≡ true

-- where none is due, the next that is taken begins a family
pub record IsFree (m : Matter) (q : Request) (takes : ℕ → Bool) (n due : ℕ) : Type 0 where
  pub none : due ≡ 0
  pub own : n ≤ q.to.0 → takes (parent m n) ≡ true → parent m n ≡ n

-- a document that is due, or that begins a family
due_now : (m : Matter) (q : Request) (takes : ℕ → Bool) (n due : ℕ) (i : Item) → 1 ≤ n → n ≤ q.to.0 → takes (parent m n) ≡ true → i.doc.0 ≡ n → i.parent.0 ≡ parent m n
    → IsNext m q takes n due ⊎ IsFree m q takes n due → is_due due i ≡ true
due_now m q takes n due i from high taken number family state =
    elim state [
      | inl next ↦ (
          let some : eqb due 0 ≡ false = ne_eqb due 0 (λ e. omega (arith, next.is)) in
          rw some (eq-eqb i.doc.0 due (omega (arith, next.is))))
      | inr free ↦ (
          let none : eqb due 0 ≡ true = eq-eqb due 0 free.none in
          rw none (eq-eqb i.parent.0 i.doc.0 (omega (arith, free.own high taken))))
    ]

-- behind a document that was taken
after_taken : (m : Matter) → IsValid m → (q : Request) → BreaksNone m q → (takes : ℕ → Bool) (n : ℕ) (i : Item) → q.from.0 ≤ n → n ≤ q.to.0 → takes (parent m n) ≡ true → i.parent.0 ≡ parent m n
    → IsNext m q takes (n + 1) (due_after (find_key doc_key (n + 1) m.docs) i) ⊎ IsFree m q takes (n + 1) (due_after (find_key doc_key (n + 1) m.docs) i)
after_taken m valid q passed takes n i low high taken family =
    let r = passed.range in
    elim (cases_lt n (length m.docs)) [
      | inl more ↦ (
          let at = row-at m.docs (n + 1) valid.docs.numbered (omega arith) (omega arith) in
          let number : at.row.doc.0 ≡ n + 1 = at.number in
          let theirs : parent m (n + 1) ≡ at.row.parent.0 = at.parent in
          let due : due_after (find_key doc_key (n + 1) m.docs) i ≡ cond (eqb at.row.parent.0 i.parent.0) at.row.doc.0 0 = ap (λ o. due_after o i) at.found in
          elim (cases_Bool (eqb at.row.parent.0 i.parent.0)) [
            | inl same ↦ (
                let alike : parent m (n + 1) ≡ parent m n = theirs ∙ eqb-true at.row.parent.0 i.parent.0 same ∙ family in
                let now : due_after (find_key doc_key (n + 1) m.docs) i ≡ n + 1 = due ∙ ap (λ (b : Bool). cond b at.row.doc.0 0) same ∙ number in
                elim (cases_lt n q.to.0) [
                  | inl within ↦ inl (record { is = now; within = omega arith; taken = ap takes alike ∙ taken })
                  | inr over ↦ (
                      let last : n ≡ q.to.0 = omega arith in
                      absurd (after_apart m valid q passed n low high (omega arith) (subst (λ k. parent m (k + 1) ≡ parent m n) last alike)))
                ])
            | inr other ↦ (
                let none : due_after (find_key doc_key (n + 1) m.docs) i ≡ 0 = due ∙ ap (λ (b : Bool). cond b at.row.doc.0 0) other in
                let own : parent m (n + 1) ≡ n + 1 =
                elim (neighbours m valid n (omega (arith, r.from)) more).is [
                  | inl begins ↦ begins
                  | inr same ↦ absurd (let e : eqb at.row.parent.0 i.parent.0 ≡ true = eq-eqb at.row.parent.0 i.parent.0 (sym theirs ∙ same ∙ sym family) in cc)
                ] in
                inr (record { none = none; own = λ within passes. own }))
          ])
      | inr over ↦ inr (record {
        none = ap (λ o. due_after o i) (past-all 1 (n + 1) m.docs valid.docs.numbered (omega arith));
        own = λ within passes. absurd (omega (arith, r.to));
      })
    ]

-- behind one that was not
after_left : (m : Matter) → IsValid m → (q : Request) → BreaksNone m q → (takes : ℕ → Bool) (n due : ℕ) → q.from.0 ≤ n → takes (parent m n) ≡ false
    → IsNext m q takes n due ⊎ IsFree m q takes n due → IsFree m q takes (n + 1) due
after_left m valid q passed takes n due low left state =
    elim state [
      | inl next ↦ absurd (let passes : takes (parent m n) ≡ true = next.taken in cc)
      | inr free ↦ record {
        none = free.none;
        own = λ within passes.
            elim (neighbours m valid n (omega (arith, passed.range.from)) (omega (arith, passed.range.to))).is [
              | inl begins ↦ begins
              | inr same ↦ absurd (let fails : takes (parent m (n + 1)) ≡ false = ap takes same ∙ left in cc)
            ];
      }
    ]

-- behind the last nothing is due
none_left : (m : Matter) (q : Request) (takes : ℕ → Bool) (n due : ℕ) → q.to.0 < n → IsNext m q takes n due ⊎ IsFree m q takes n due → eqb due 0 ≡ true
none_left m q takes n due over state = elim state [ inl next ↦ absurd (omega (arith, next.within)) | inr free ↦ eq-eqb due 0 free.none ]

-- the items of the documents from n on, where a test takes whole families
pub whole-from : (m : Matter) → IsValid m → (q : Request) → BreaksNone m q → (takes : ℕ → Bool) (test : Seen → Bool) → ((doc : ℕ) → test (seen_in m doc) ≡ takes (parent m doc))
    → (count n low due first : ℕ) → n + count ≡ q.to.0 + 1 → q.from.0 ≤ n → low ≤ n → IsNext m q takes n due ⊎ IsFree m q takes n due
    → are_whole m.docs due low (items_from first (filter test (seen_from m n count))) ≡ true
whole-from m valid q passed takes test is zero n low due first end from le state = none_left m q takes n due (omega arith) state
whole-from m valid q passed takes test is (suc count) n low due first end from le state =
    elim (cases_Bool (takes (parent m n))) [
      | inl taken ↦ (
          let passes : test (seen_in m n) ≡ true = is n ∙ taken in
          let item : Item = item_of first (seen_in m n) in
          rw passes
          (and_from (leb low n && is_due due item) _
          (and_from (leb low n) (is_due due item) (le-leb low n le) (due_now m q takes n due item (omega (arith, passed.range.from)) (omega arith) taken refl refl state))
          (whole-from m valid q passed takes test is count (n + 1) (n + 1) (due_after (find_key doc_key (n + 1) m.docs) item) (first + (seen_in m n).numbers) (omega arith) (omega arith) (omega arith)
          (after_taken m valid q passed takes n item from (omega arith) taken refl))))
      | inr left ↦ (
          let fails : test (seen_in m n) ≡ false = is n ∙ left in
          rw fails (whole-from m valid q passed takes test is count (n + 1) low due first (omega arith) (omega arith) (omega arith) (inr (after_left m valid q passed takes n due from left state))))
    ]

-- those of the whole range
pub whole-range : (m : Matter) → IsValid m → (q : Request) → BreaksNone m q → (takes : ℕ → Bool) (test : Seen → Bool) → ((doc : ℕ) → test (seen_in m doc) ≡ takes (parent_of (decisions_of m) doc))
    → (first : ℕ) → are_whole m.docs 0 1 (items_from first (filter test (seen_from m q.from.0 (q.to.0 + 1 - q.from.0)))) ≡ true
whole-range m valid q passed takes test is first =
    whole-from m valid q passed takes test is (q.to.0 + 1 - q.from.0) q.from.0 1 0 first (omega (arith, passed.range.order)) (omega arith) passed.range.from
    (inr (record { none = refl; own = λ within passes. first_begins m valid q passed }))
