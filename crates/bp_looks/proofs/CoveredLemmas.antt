-- No hit is left once the words of each hit are covered.
use Rattle.std.proofs.Common.{◌≡◌, ◌<◌, ◌+◌, ◌-◌, ℕ, zero, suc, Bool, true, false, cond, List, [], ◌∷◌, ◌++◌, length, map, drop, refl, sym, ap, subst, ◌∙◌, arith, All, append-nil}
use Rattle.std.specs.Prelude.{◌&&◌, if◌then◌else◌, not}
use Rattle.std.proofs.lemmas.Bool.{false≢true}
use Rattle.std.proofs.lemmas.List.{length-map}
use Rattle.std.proofs.lemmas.List.Elements.{All-nil, All-cons}
use Rattle.bp_core.specs.declared.rectangle.Rect.{Rect}
use Rattle.bp_text.specs.Kept.{is_touched, kept_of}
use Rattle.bp_text.specs.declared.words.Word.{Word}
use Rattle.bp_matter.specs.declared.looks.Hit.{Hit}
use Rattle.bp_looks.specs.declared.hits.Spot.{Spot}
use Rattle.bp_looks.specs.Covered.{IsCovered, is_covered}
use Rattle.bp_looks.specs.Hits.{has_hit, hit_at, hits_after, hits_of, word_text}
use Rattle.bp_looks.specs.Matching.{matches}

-- each word of the hit is covered, by a test of the numbers of words
abbrev CoveredBy : (ℕ → Bool) → Hit → Type 0
CoveredBy covered hit = (j : ℕ) → j < hit.count → covered (hit.place - 1 + j) ≡ true

all_tail : {X : Type 0} (P : X → Type 0) (b : Bool) (x : X) (xs : List X)
    → All P ((if b then x ∷ [] else []) ++ xs)
    → All P xs
all_tail P true x xs h = λ k d lt. h (suc k) d (omega arith)
all_tail P false x xs h = h

covered_hit : (covered : ℕ → Bool) (terms : List (List ℕ)) (spot : Spot) (before : ℕ)
    (texts : List (List ℕ))
    → All (CoveredBy covered) (hits_after terms spot before texts)
    → (i : ℕ)
    → i < length texts
    → has_hit terms (drop i texts) ≡ true
    → (j : ℕ)
    → j < length terms
    → covered (before + i + j) ≡ true
covered_hit covered terms spot before [] all i lt hit j few = absurd (omega arith)
covered_hit covered terms spot before (text ∷ texts) all zero lt hit j few =
    let rest = hits_after terms spot (before + 1) texts in
    let here : Hit = hit_at spot (length terms) (before + 1) in
    let first : All (CoveredBy covered) (here ∷ rest) =
    subst (λ (b : Bool). All (CoveredBy covered) ((if b then here ∷ [] else []) ++ rest)) hit all in
    let n : before + 1 - 1 + j ≡ before + zero + j = omega arith in
    sym (ap covered n) ∙ first 0 here (omega arith) j few
covered_hit covered terms spot before (text ∷ texts) all (suc i) lt hit j few =
    let rest = hits_after terms spot (before + 1) texts in
    let here : Hit = hit_at spot (length terms) (before + 1) in
    let later : All (CoveredBy covered) rest =
    all_tail (CoveredBy covered) (has_hit terms (text ∷ texts)) here rest all in
    let n : before + 1 + i + j ≡ before + suc i + j = omega arith in
    sym (ap covered n)
    ∙ covered_hit covered terms spot (before + 1) texts later i (omega arith) hit j few

no_hit_by : (covered : ℕ → Bool) (terms : List (List ℕ)) (spot : Spot) (before : ℕ)
    (texts : List (List ℕ))
    → All (CoveredBy covered) (hits_after terms spot before texts)
    → (i j : ℕ)
    → i < length texts
    → j < length terms
    → covered (before + i + j) ≡ false
    → (b : Bool)
    → has_hit terms (drop i texts) ≡ b
    → b ≡ false
no_hit_by covered terms spot before texts all i j lt few bare true e =
    absurd (false≢true (sym bare ∙ covered_hit covered terms spot before texts all i lt e j few))
no_hit_by covered terms spot before texts all i j lt few bare false e = refl

-- where some word of a place is bare, the place is no hit
has_hit-bare : (covered : ℕ → Bool) (terms : List (List ℕ)) (spot : Spot) (before : ℕ)
    (texts : List (List ℕ))
    → All (CoveredBy covered) (hits_after terms spot before texts)
    → (i j : ℕ)
    → i < length texts
    → j < length terms
    → covered (before + i + j) ≡ false
    → has_hit terms (drop i texts) ≡ false
has_hit-bare covered terms spot before texts all i j lt few bare =
    no_hit_by covered terms spot before texts all i j lt few bare (has_hit terms (drop i texts)) refl

and_true : (b : Bool) → b && true ≡ b
and_true true = refl
and_true false = refl

kept_first : (term : List ℕ) (word : Word) (rest : List Word) (b : Bool)
    → (b ≡ false → matches term word.text ≡ false)
    → All (λ w. matches term w.text ≡ false) rest
    → All (λ w. matches term w.text ≡ false) (cond (not b) (word ∷ rest) rest)
kept_first term word rest true bare all = all
kept_first term word rest false bare all =
    All-cons (λ (w : Word). matches term w.text ≡ false) word rest (bare refl) all

kept_after : (covered : ℕ → Bool) (boxes : List Rect) (term : List ℕ) (spot : Spot) (before : ℕ)
    (words : List Word)
    → ((k : ℕ) → covered (before + k) ≡ is_covered boxes words k)
    → All (CoveredBy covered) (hits_after (term ∷ []) spot before (map word_text words))
    → All (λ w. matches term w.text ≡ false) (kept_of words boxes)
kept_after covered boxes term spot before [] tells all =
    All-nil (λ (w : Word). matches term w.text ≡ false)
kept_after covered boxes term spot before (word ∷ words) tells all =
    let texts = map word_text words in
    let rest = hits_after (term ∷ []) spot (before + 1) texts in
    let here : Hit = hit_at spot 1 (before + 1) in
    let later : All (CoveredBy covered) rest =
    all_tail (CoveredBy covered) (has_hit (term ∷ []) (word.text ∷ texts)) here rest all in
    let n : before + 0 + 0 ≡ before + 0 = omega arith in
    kept_first term word (kept_of words boxes) (is_touched word.rect boxes)
    (λ bare. sym (and_true (matches term word.text))
    ∙ has_hit-bare covered (term ∷ []) spot before (word.text ∷ texts) all 0 0 (omega arith) (omega arith)
    (ap covered n ∙ (tells 0 ∙ bare)))
    (kept_after covered boxes term spot (before + 1) words
    (λ k. (let more : before + 1 + k ≡ before + suc k = omega arith in ap covered more ∙ tells (suc k)))
    later)

all_of_row : {X : Type 0} (P : X → Type 0) (xs : List X) → All P (xs ++ []) → All P xs
all_of_row P xs all = subst (λ l. All P l) (append-nil xs) all

-- no kept word matches a lone term whose hits are covered
pub kept-bare : (boxes : List Rect) (term : List ℕ) (spot : Spot) (words : List Word)
    → All (IsCovered boxes words) (hits_of (term ∷ []) spot (map word_text words) ++ [])
    → All (λ w. matches term w.text ≡ false) (kept_of words boxes)
kept-bare boxes term spot words all =
    kept_after (is_covered boxes words) boxes term spot 0 words
    (λ k. (let n : 0 + k ≡ k = omega arith in ap (is_covered boxes words) n))
    (all_of_row (IsCovered boxes words) (hits_of (term ∷ []) spot (map word_text words)) all)

-- no place is a hit of several terms that has a bare word
pub place-bare : (boxes : List Rect) (terms : List (List ℕ)) (spot : Spot) (words : List Word)
    → All (IsCovered boxes words) (hits_of terms spot (map word_text words) ++ [])
    → (place j : ℕ)
    → place < length words
    → j < length terms
    → is_covered boxes words (place + j) ≡ false
    → has_hit terms (drop place (map word_text words)) ≡ false
place-bare boxes terms spot words all place j lt few bare =
    let texts = map word_text words in
    let n : 0 + place + j ≡ place + j = omega arith in
    has_hit-bare (is_covered boxes words) terms spot 0 texts
    (all_of_row (IsCovered boxes words) (hits_of terms spot texts) all)
    place j (omega (arith, length-map words word_text)) few (ap (is_covered boxes words) n ∙ bare)
