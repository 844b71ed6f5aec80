-- The pieces of a text: cut in bytes or in characters they are the same, and they are few.
use Rattle.std.proofs.Common.{◌≡◌, ◌≤◌, ◌<◌, ◌+◌, ℕ, suc, Bool, true, false, cond, List, [], ◌∷◌, ◌++◌, length, get_or, map, refl, sym, ap, ◌∙◌, arith, encode_utf8_all, append-nil}
use Rattle.std.specs.Prelude.{◌==◌, filter, encode_utf8, not}
use Rattle.std.specs.List.{slice_split, onto_first, list_all}
use Rattle.std.specs.Str.{chars, all_scalars}
use Rattle.std.proofs.Math.Dec.{eqb-suc-zero}
use Rattle.std.proofs.lemmas.Bool.{eqb-true, eq-eqb, false≢true, and_parts, and_from}
use Rattle.std.proofs.lemmas.List.Splits.{slice_split-cons_yes, slice_split-cons_no, length-slice_split}
use Rattle.std.proofs.lemmas.Str.{inside_one, encode_ascii, chars-encodes, length-encode, len_utf8_bounds}
use Rattle.bp_core.specs.Characters.{space}
use Rattle.bp_looks.specs.Pieces.{is_some_text, pieces_of}

abbrev is_space : ℕ → Bool
is_space c = c == space

-- these bytes put before the first part
abbrev onto : List ℕ → List (List ℕ) → List (List ℕ)
onto [] parts = parts
onto (x ∷ xs) parts = onto_first x (onto xs parts)

-- none of these bytes is a space
abbrev NoSpace : List ℕ → Type 0
NoSpace [] = Unit {0}
NoSpace (x ∷ xs) = (is_space x ≡ false) × NoSpace xs

split_onto : (xs rest : List ℕ)
    → NoSpace xs
    → slice_split is_space (xs ++ rest) ≡ onto xs (slice_split is_space rest)
split_onto [] rest none = refl
split_onto (x ∷ xs) rest none =
    slice_split-cons_no is_space x (xs ++ rest) none.0
    ∙ ap (λ (l : List (List ℕ)). onto_first x l) (split_onto xs rest none.1)

onto_some : (xs part : List ℕ) (more : List (List ℕ))
    → onto xs (part ∷ more) ≡ (xs ++ part) ∷ more
onto_some [] part more = refl
onto_some (x ∷ xs) part more = ap (λ (l : List (List ℕ)). onto_first x l) (onto_some xs part more)

no_space_by : (xs : List ℕ)
    → ((k : ℕ) → k < length xs → is_space (get_or xs k 0) ≡ false)
    → NoSpace xs
no_space_by [] each = tt
no_space_by (x ∷ xs) each = (each 0 (omega arith), no_space_by xs (λ k lt. each (suc k) (omega arith)))

byte_is : (c k : ℕ)
    → is_space c ≡ false
    → k < length (encode_utf8 c)
    → (b : Bool)
    → is_space (get_or (encode_utf8 c) k 0) ≡ b
    → b ≡ false
byte_is c k none lt false e = refl
byte_is c k none lt true e =
    let here : get_or (encode_utf8 c) k 0 ≡ space = eqb-true (get_or (encode_utf8 c) k 0) space e in
    let one : c ≡ get_or (encode_utf8 c) k 0 =
    inside_one c [] (encode_utf8 c) k (sym (append-nil (encode_utf8 c))) lt (omega arith) in
    absurd (false≢true (sym none ∙ eq-eqb c space (one ∙ here)))

-- no byte of another character is a space
no_space_in : (c : ℕ) → is_space c ≡ false → NoSpace (encode_utf8 c)
no_space_in c none = no_space_by (encode_utf8 c)
    (λ k lt. byte_is c k none lt (is_space (get_or (encode_utf8 c) k 0)) refl)

onto_encoded : (c : ℕ) (parts : List (List ℕ))
    → 0 < length parts
    → onto (encode_utf8 c) (map encode_utf8_all parts) ≡ map encode_utf8_all (onto_first c parts)
onto_encoded c [] some = absurd (omega arith)
onto_encoded c (part ∷ more) some =
    onto_some (encode_utf8 c) (encode_utf8_all part) (map encode_utf8_all more)

split_by : (c : ℕ) (cs : List ℕ) (b : Bool)
    → is_space c ≡ b
    → slice_split is_space (encode_utf8_all cs) ≡ map encode_utf8_all (slice_split is_space cs)
    → slice_split is_space (encode_utf8 c ++ encode_utf8_all cs)
    ≡ map encode_utf8_all (slice_split is_space (c ∷ cs))
split_by c cs true e later =
    let same : c ≡ space = eqb-true c space e in
    ap (λ (l : List ℕ). slice_split is_space (l ++ encode_utf8_all cs)) (encode_ascii c (omega arith))
    ∙ (slice_split-cons_yes is_space c (encode_utf8_all cs) e
    ∙ (ap (λ (l : List (List ℕ)). [] ∷ l) later
    ∙ ap (map encode_utf8_all) (sym (slice_split-cons_yes is_space c cs e))))
split_by c cs false e later =
    let some : 0 < length (slice_split is_space cs) = omega (arith, length-slice_split is_space cs) in
    split_onto (encode_utf8 c) (encode_utf8_all cs) (no_space_in c e)
    ∙ (ap (onto (encode_utf8 c)) later
    ∙ (onto_encoded c (slice_split is_space cs) some
    ∙ ap (map encode_utf8_all) (sym (slice_split-cons_no is_space c cs e))))

split_encoded : (cs : List ℕ)
    → slice_split is_space (encode_utf8_all cs) ≡ map encode_utf8_all (slice_split is_space cs)
split_encoded [] = refl
split_encoded (c ∷ cs) = split_by c cs (is_space c) refl (split_encoded cs)

some_by : (xs ys : List ℕ) (n : ℕ) → length xs ≡ n → 0 < n → is_some_text (xs ++ ys) ≡ true
some_by [] ys n e some = absurd (omega (arith, e))
some_by (x ∷ xs) ys n e some = ap not (eqb-suc-zero (length (xs ++ ys)))

some_encoded : (text : List ℕ) → is_some_text (encode_utf8_all text) ≡ is_some_text text
some_encoded [] = refl
some_encoded (c ∷ cs) =
    let some = (len_utf8_bounds c).0 in
    some_by (encode_utf8 c) (encode_utf8_all cs) (length (encode_utf8 c)) refl
    (omega (arith, some, length-encode c))
    ∙ sym (ap not (eqb-suc-zero (length cs)))

one_more : (b b' : Bool) (text : List ℕ) (l l' : List (List ℕ))
    → b ≡ b'
    → chars (encode_utf8_all text) ≡ text
    → map chars l ≡ l'
    → map chars (cond b (encode_utf8_all text ∷ l) l) ≡ cond b' (text ∷ l') l'
one_more true true text l l' same spelt later =
    ap (λ (t : List ℕ). t ∷ map chars l) spelt ∙ ap (λ (m : List (List ℕ)). text ∷ m) later
one_more false false text l l' same spelt later = later
one_more true false text l l' same spelt later = absurd (false≢true (sym same))
one_more false true text l l' same spelt later = absurd (false≢true same)

filter_encoded : (parts : List (List ℕ))
    → list_all all_scalars parts ≡ true
    → map chars (filter is_some_text (map encode_utf8_all parts)) ≡ filter is_some_text parts
filter_encoded [] scalar = refl
filter_encoded (part ∷ parts) scalar =
    let both = and_parts (all_scalars part) (list_all all_scalars parts) scalar in
    one_more (is_some_text (encode_utf8_all part)) (is_some_text part) part
    (filter is_some_text (map encode_utf8_all parts)) (filter is_some_text parts)
    (some_encoded part) (chars-encodes part both.0) (filter_encoded parts both.1)

scalars_onto : (c : ℕ) (parts : List (List ℕ))
    → all_scalars (c ∷ []) ≡ true
    → list_all all_scalars parts ≡ true
    → list_all all_scalars (onto_first c parts) ≡ true
scalars_onto c [] one rest = and_from _ _ one refl
scalars_onto c (part ∷ parts) one rest =
    let both = and_parts (all_scalars part) (list_all all_scalars parts) rest in
    let first = and_parts _ _ one in
    and_from _ _ (and_from _ _ first.0 both.0) both.1

scalars_by : (c : ℕ) (cs : List ℕ) (b : Bool)
    → is_space c ≡ b
    → all_scalars (c ∷ []) ≡ true
    → list_all all_scalars (slice_split is_space cs) ≡ true
    → list_all all_scalars (slice_split is_space (c ∷ cs)) ≡ true
scalars_by c cs true e one later =
    ap (list_all all_scalars) (slice_split-cons_yes is_space c cs e) ∙ later
scalars_by c cs false e one later =
    ap (list_all all_scalars) (slice_split-cons_no is_space c cs e)
    ∙ scalars_onto c (slice_split is_space cs) one later

scalars_split : (cs : List ℕ)
    → all_scalars cs ≡ true
    → list_all all_scalars (slice_split is_space cs) ≡ true
scalars_split [] all = refl
scalars_split (c ∷ cs) all =
    let both = and_parts _ (all_scalars cs) all in
    scalars_by c cs (is_space c) refl (and_from _ _ both.0 refl) (scalars_split cs both.1)

-- the pieces of the bytes of a text are those of its characters
pub pieces-chars : (text : List ℕ)
    → all_scalars text ≡ true
    → map chars (pieces_of (encode_utf8_all text)) ≡ pieces_of text
pieces-chars text all =
    ap (λ (l : List (List ℕ)). map chars (filter is_some_text l)) (split_encoded text)
    ∙ filter_encoded (slice_split is_space text) (scalars_split text all)

fewer_rest : (b : Bool) (x : List ℕ) (l : List (List ℕ)) → length l ≤ length (cond b (x ∷ l) l)
fewer_rest true x l = omega arith
fewer_rest false x l = omega arith

few_onto : (c n : ℕ) (parts : List (List ℕ))
    → length (filter is_some_text parts) ≤ n
    → length (filter is_some_text (onto_first c parts)) ≤ n + 1
few_onto c n [] few = omega arith
few_onto c n (part ∷ parts) few =
    let rest = filter is_some_text parts in
    let less : length rest ≤ n = omega (arith, few, fewer_rest (is_some_text part) part rest) in
    let kept : length (cond (is_some_text (c ∷ part)) ((c ∷ part) ∷ rest) rest) ≡ suc (length rest) =
    ap (λ (b : Bool). length (cond (not b) ((c ∷ part) ∷ rest) rest)) (eqb-suc-zero (length part)) in
    omega (arith, kept, less)

few_by : (c : ℕ) (cs : List ℕ) (b : Bool)
    → is_space c ≡ b
    → length (pieces_of cs) ≤ length cs
    → length (pieces_of (c ∷ cs)) ≤ length cs + 1
few_by c cs true e later =
    let same = ap (λ (l : List (List ℕ)). length (filter is_some_text l)) (slice_split-cons_yes is_space c cs e) in
    omega (arith, same, later)
few_by c cs false e later =
    let same = ap (λ (l : List (List ℕ)). length (filter is_some_text l)) (slice_split-cons_no is_space c cs e) in
    let few = few_onto c (length cs) (slice_split is_space cs) later in
    omega (arith, same, few)

-- a text has no more pieces than characters
pub length-pieces : (text : List ℕ) → length (pieces_of text) ≤ length text
length-pieces [] = omega arith
length-pieces (c ∷ cs) =
    let few = few_by c cs (is_space c) refl (length-pieces cs) in omega (arith, few)
