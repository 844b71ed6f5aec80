-- Going on from where each search stops gives every hit of every part, each once.
use Rattle.std.proofs.Common.{◌≡◌, ◌≤◌, ◌<◌, ◌+◌, ◌-◌, ℕ, zero, suc, Bool, true, false, ◌⊎◌, inl, inr, List, [], ◌∷◌, ◌++◌, length, drop, refl, sym, ap, subst, ◌∙◌, arith, append_assoc}
use Rattle.std.specs.Prelude.{◌&&◌, ◌==◌, if◌then◌else◌, nat_lt}
use Rattle.std.proofs.Math.Dec.{eqb-suc-zero}
use Rattle.std.proofs.lemmas.List.{drop-drop, nil_from_length}
use Rattle.bp_matter.specs.declared.looks.Hit.{Hit}
use Rattle.bp_looks.specs.declared.found.TheConstants.{MAX_PARTS, ENOUGH_HITS}
use Rattle.bp_looks.specs.Found.{hits_in, walk, next_doc_of, next_page_of}
use Rattle.bp_looks.specs.Going.{all_hits, going_on}
use Rattle.bp_looks.specs.Parts.{Part, PartRows, parts_of, parts_in, parts_from}

abbrev Words : Type 0
Words = List (List ℕ)

-- the hits of a walk and those of the parts that it left are the hits of all its parts
pub walk-hits : (terms : Words) (hits : List Hit) (taken : ℕ) (parts : List Part)
    → (walk terms hits taken parts).hits ++ all_hits terms (walk terms hits taken parts).rest
    ≡ hits ++ all_hits terms parts
walk-hits terms hits taken [] = refl
walk-hits terms hits taken (part ∷ more) =
    elim (nat_lt taken MAX_PARTS && nat_lt (length hits) ENOUGH_HITS) as (λ b.
    (if b then walk terms (hits ++ hits_in terms part) (taken + 1) more else (record { hits = hits; rest = part ∷ more })).hits
    ++ all_hits terms (if b then walk terms (hits ++ hits_in terms part) (taken + 1) more else (record { hits = hits; rest = part ∷ more })).rest
    ≡ hits ++ (hits_in terms part ++ all_hits terms more)) [
      | true ↦ walk-hits terms (hits ++ hits_in terms part) (taken + 1) more
          ∙ append_assoc hits (hits_in terms part) (all_hits terms more)
      | false ↦ refl
    ]

-- a walk leaves no more parts than it is given
walk-left : (terms : Words) (hits : List Hit) (taken : ℕ) (parts : List Part)
    → length (walk terms hits taken parts).rest ≤ length parts
walk-left terms hits taken [] = omega arith
walk-left terms hits taken (part ∷ more) =
    let later = walk-left terms (hits ++ hits_in terms part) (taken + 1) more in
    elim (nat_lt taken MAX_PARTS && nat_lt (length hits) ENOUGH_HITS) as (λ b.
    length (if b then walk terms (hits ++ hits_in terms part) (taken + 1) more else (record { hits = hits; rest = part ∷ more })).rest
    ≤ length (part ∷ more)) [
      | true ↦ omega (arith, later)
      | false ↦ omega arith
    ]

-- no parts, or the parts from where the first of them says, in documents numbered from `doc` on
abbrev pub IsPlaced : ℕ → List (List PartRows) → List Part → Type 0
IsPlaced doc docs rest =
    (rest ≡ [])
    ⊎ ((k : ℕ) × (next_doc_of rest ≡ doc + k) × (rest ≡ parts_in (doc + k) (next_page_of rest) (drop k docs)))

later : (doc : ℕ) (parts : List PartRows) (docs : List (List PartRows)) (rest : List Part)
    → IsPlaced (doc + 1) docs rest
    → IsPlaced doc (parts ∷ docs) rest
later doc parts docs rest (inl none) = inl none
later doc parts docs rest (inr w) =
    let n : doc + 1 + w.0 ≡ doc + suc w.0 = omega arith in
    inr (suc w.0, w.1 ∙ n, w.2 ∙ ap (λ (m : ℕ). parts_in m (next_page_of rest) (drop w.0 docs)) n)

beyond : (doc k : ℕ) (docs : List (List PartRows)) (rest : List Part)
    → IsPlaced (doc + k) (drop k docs) rest
    → IsPlaced doc docs rest
beyond doc k docs rest (inl none) = inl none
beyond doc k docs rest (inr w) =
    let n : doc + k + w.0 ≡ doc + (k + w.0) = omega arith in
    inr (
      k + w.0,
      w.1 ∙ n,
      w.2
          ∙ (ap (λ (m : ℕ). parts_in m (next_page_of rest) (drop w.0 (drop k docs))) n
          ∙ ap (λ (l : List (List PartRows)). parts_in (doc + (k + w.0)) (next_page_of rest) l) (drop-drop w.0 k docs)),
    )

-- all parts of these documents
placed-first : (docs : List (List PartRows)) (doc : ℕ) → IsPlaced doc docs (parts_in doc 0 docs)
placed-first [] doc = inl refl
placed-first ([] ∷ docs) doc = later doc [] docs (parts_in (doc + 1) 0 docs) (placed-first docs (doc + 1))
placed-first ((words ∷ parts) ∷ docs) doc =
    let n : doc ≡ doc + 0 = omega arith in
    inr (0, n, ap (λ (m : ℕ). parts_in m 0 ((words ∷ parts) ∷ docs)) n)

-- what follows the first part, of which `left` are in its document
placed_next : (parts : List PartRows) (docs : List (List PartRows)) (doc page : ℕ) (words : PartRows) (left : List PartRows)
    → drop page parts ≡ words ∷ left
    → IsPlaced doc (parts ∷ docs) (parts_of doc (page + 1) left ++ parts_in (doc + 1) 0 docs)
placed_next parts docs doc page words [] at =
    later doc parts docs (parts_in (doc + 1) 0 docs) (placed-first docs (doc + 1))
placed_next parts docs doc page words (next ∷ left) at =
    let n : doc ≡ doc + 0 = omega arith in
    let here : next ∷ left ≡ drop (page + 1) parts =
    sym (ap (λ (l : List PartRows). drop 1 l) at) ∙ drop-drop 1 page parts in
    inr (
      0,
      n,
      ap (λ (l : List PartRows). parts_of doc (page + 1) l ++ parts_in (doc + 1) 0 docs) here
          ∙ ap (λ (m : ℕ). parts_in m (page + 1) (parts ∷ docs)) n,
    )

tail_in : (parts : List PartRows) (docs : List (List PartRows)) (doc page : ℕ) (part : Part) (rest : List Part) (left : List PartRows)
    → drop page parts ≡ left
    → parts_of doc page left ++ parts_in (doc + 1) 0 docs ≡ part ∷ rest
    → (parts_in (doc + 1) 0 docs ≡ part ∷ rest → IsPlaced (doc + 1) docs rest)
    → IsPlaced doc (parts ∷ docs) rest
tail_in parts docs doc page part rest [] at e go = later doc parts docs rest (go e)
tail_in parts docs doc page part rest (words ∷ left) at e go =
    let same : parts_of doc (page + 1) left ++ parts_in (doc + 1) 0 docs ≡ rest = cc in
    subst (λ (l : List Part). IsPlaced doc (parts ∷ docs) l) same (placed_next parts docs doc page words left at)

-- what follows the first part
placed-tail : (docs : List (List PartRows)) (doc page : ℕ) (part : Part) (rest : List Part)
    → parts_in doc page docs ≡ part ∷ rest
    → IsPlaced doc docs rest
placed-tail [] doc page part rest e = absurd (cc)
placed-tail (parts ∷ docs) doc page part rest e =
    tail_in parts docs doc page part rest (drop page parts) refl e (λ f. placed-tail docs (doc + 1) 0 part rest f)

placed-more : (docs : List (List PartRows)) (doc : ℕ) (part : Part) (rest : List Part)
    → IsPlaced doc docs (part ∷ rest)
    → IsPlaced doc docs rest
placed-more docs doc part rest (inl none) = absurd (cc)
placed-more docs doc part rest (inr w) =
    beyond doc w.0 docs rest (placed-tail (drop w.0 docs) (doc + w.0) part.page part rest (sym w.2))

-- what a walk leaves
pub placed-walk : (docs : List (List PartRows)) (doc : ℕ) (terms : Words) (hits : List Hit) (taken : ℕ) (parts : List Part)
    → IsPlaced doc docs parts
    → IsPlaced doc docs (walk terms hits taken parts).rest
placed-walk docs doc terms hits taken [] h = inl refl
placed-walk docs doc terms hits taken (part ∷ more) h =
    let next = placed-walk docs doc terms (hits ++ hits_in terms part) (taken + 1) more (placed-more docs doc part more h) in
    elim (nat_lt taken MAX_PARTS && nat_lt (length hits) ENOUGH_HITS) as (λ b. IsPlaced doc docs
    (if b then walk terms (hits ++ hits_in terms part) (taken + 1) more else (record { hits = hits; rest = part ∷ more })).rest) [
      | true ↦ next
      | false ↦ h
    ]

start_in : (parts : List PartRows) (docs : List (List PartRows)) (doc page : ℕ) (left : List PartRows)
    → drop page parts ≡ left
    → IsPlaced doc (parts ∷ docs) (parts_of doc page left ++ parts_in (doc + 1) 0 docs)
start_in parts docs doc page [] at =
    later doc parts docs (parts_in (doc + 1) 0 docs) (placed-first docs (doc + 1))
start_in parts docs doc page (words ∷ left) at =
    let n : doc ≡ doc + 0 = omega arith in
    inr (
      0,
      n,
      ap (λ (l : List PartRows). parts_of doc page l ++ parts_in (doc + 1) 0 docs) (sym at)
          ∙ ap (λ (m : ℕ). parts_in m page (parts ∷ docs)) n,
    )

pub placed-start : (docs : List (List PartRows)) (doc page : ℕ) → IsPlaced doc docs (parts_in doc page docs)
placed-start [] doc page = inl refl
placed-start (parts ∷ docs) doc page = start_in parts docs doc page (drop page parts) refl

-- a number above 0 is not 0
pub not_zero : (m : ℕ) → 0 < m → (m == 0) ≡ false
not_zero zero h = absurd (omega arith)
not_zero (suc m) h = eqb-suc-zero m

-- the first part is always taken
first_taken : (terms : Words) (parts : List Part)
    → 0 < length parts
    → length (walk terms [] 0 parts).rest < length parts
first_taken terms [] h = absurd (omega arith)
first_taken terms (part ∷ more) h =
    let left = walk-left terms (hits_in terms part) 1 more in
    omega (arith, left)

fewer : (terms : Words) (parts : List Part) (n : ℕ)
    → length parts ≤ suc n
    → length (walk terms [] 0 parts).rest ≤ n
fewer terms [] n h = omega arith
fewer terms (part ∷ more) n h =
    let taken = first_taken terms (part ∷ more) (omega arith) in
    omega (arith, taken)

-- the hits of what is left, where going on gives them
rest_of : (n : ℕ) (docs : List (List PartRows)) (terms : Words) (doc : ℕ) (rest : List Part)
    → 0 < doc
    → IsPlaced doc (drop (doc - 1) docs) rest
    → (0 < next_doc_of rest
    → rest ≡ parts_from docs (next_doc_of rest) (next_page_of rest)
    → going_on n docs terms (next_doc_of rest) (next_page_of rest) ≡ all_hits terms rest)
    → (if next_doc_of rest == 0 then [] else going_on n docs terms (next_doc_of rest) (next_page_of rest))
    ≡ all_hits terms rest
rest_of n docs terms doc [] pos placed go = refl
rest_of n docs terms doc (part ∷ rest) pos (inl none) go = absurd (cc)
rest_of n docs terms doc (part ∷ rest) pos (inr w) go =
    let at : part.doc ≡ doc + w.0 = w.1 in
    let above : 0 < part.doc = omega arith in
    let test : (part.doc == 0) ≡ false = not_zero part.doc above in
    let place : doc - 1 + w.0 ≡ part.doc - 1 = omega arith in
    let same : part ∷ rest ≡ parts_from docs part.doc part.page =
    w.2
    ∙ (ap (λ (l : List (List PartRows)). parts_in (doc + w.0) part.page l)
    (drop-drop w.0 (doc - 1) docs ∙ ap (λ (m : ℕ). drop m docs) place)
    ∙ ap (λ (m : ℕ). parts_in m part.page (drop (part.doc - 1) docs)) (sym at)) in
    ap (λ (b : Bool). if b then [] else going_on n docs terms part.doc part.page) test ∙ go above same

pub going_on-hits : (n : ℕ) (docs : List (List PartRows)) (terms : Words) (doc page : ℕ)
    → 0 < doc
    → length (parts_from docs doc page) ≤ n
    → going_on n docs terms doc page ≡ all_hits terms (parts_from docs doc page)
going_on-hits zero docs terms doc page pos h =
    sym (ap (λ (l : List Part). all_hits terms l) (nil_from_length (parts_from docs doc page) (omega arith)))
going_on-hits (suc n) docs terms doc page pos h =
    let parts = parts_from docs doc page in
    let rest = (walk terms [] 0 parts).rest in
    let placed : IsPlaced doc (drop (doc - 1) docs) rest =
    placed-walk (drop (doc - 1) docs) doc terms [] 0 parts (placed-start (drop (doc - 1) docs) doc page) in
    let left : length rest ≤ n = fewer terms parts n h in
    ap (λ (l : List Hit). (walk terms [] 0 parts).hits ++ l)
    (rest_of n docs terms doc rest pos placed (λ above same.
    going_on-hits n docs terms (next_doc_of rest) (next_page_of rest) above
    (subst (λ (l : List Part). length l ≤ n) same left)
    ∙ ap (λ (l : List Part). all_hits terms l) (sym same)))
    ∙ walk-hits terms [] 0 parts
