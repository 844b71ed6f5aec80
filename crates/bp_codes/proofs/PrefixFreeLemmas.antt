-- That no code is a prefix of another, by a test that is computed over a whole table, and what follows.
use Rattle.std.proofs.Common.{ℕ, zero, suc, ◌+◌, ◌<◌, ◌≡◌, Bool, true, false, not, ◌&&◌, ◌||◌, List, [], ◌∷◌, ◌++◌, length, get_or, map, slice_get, Some, None, Ok, Err, if◌then◌else◌, refl, ap, sym, ◌∙◌, arith, inl, inr, ◌⊎◌}
use Rattle.std.specs.List.{list_all, list_any, position_from}
use Rattle.std.proofs.lemmas.Bool.{and_parts}
use Rattle.std.proofs.lemmas.List.{drop_at}
use Rattle.bp_codes.specs.declared.code.Code.{Code}
use Rattle.bp_codes.specs.declared.code.NoCode.TheVariants.{Ends, Strange}
use Rattle.bp_codes.specs.Bits.{code_bits, code_of_bits}
use Rattle.bp_codes.specs.Laws.{IsPrefixFree, ReadsBack, CutMeansEnds}
use Rattle.bp_codes.specs.NextCode.{same_bit, begins_code, is_cut, no_code, next_row, row_or}

-- ---- the test

abbrev pub apart : List Bool → List Bool → Bool
apart a b = not (begins_code a b) && not (begins_code b a)

abbrev pub all_apart : List (List Bool) → Bool
all_apart [] = true
all_apart (code ∷ codes) = list_all (apart code) codes && all_apart codes

passes_at : {X : Type 0} (p : X → Bool) (xs : List X) (i : ℕ) (d : X) → list_all p xs ≡ true → i < length xs → p (get_or xs i d) ≡ true
passes_at p [] i d h within = absurd (omega arith)
passes_at p (x ∷ xs) zero d h within = (and_parts (p x) (list_all p xs) h).0
passes_at p (x ∷ xs) (suc i) d h within = passes_at p xs i d (and_parts (p x) (list_all p xs) h).1 (omega arith)

not_true : (b : Bool) → not b ≡ true → b ≡ true → ⊥
not_true true h e = cc
not_true false h e = cc

pub prefix_free : (codes : List (List Bool)) → all_apart codes ≡ true → IsPrefixFree codes
prefix_free [] h i j hi hj e = absurd (omega arith)
prefix_free (code ∷ codes) h zero zero hi hj e = refl
prefix_free (code ∷ codes) h zero (suc j) hi hj e =
    let first = (and_parts (list_all (apart code) codes) (all_apart codes) h).0 in
    let here = passes_at (apart code) codes j [] first (omega arith) in
    absurd (not_true (begins_code code (get_or codes j [])) (and_parts (not (begins_code code (get_or codes j []))) (not (begins_code (get_or codes j []) code)) here).0 e)
prefix_free (code ∷ codes) h (suc i) zero hi hj e =
    let first = (and_parts (list_all (apart code) codes) (all_apart codes) h).0 in
    let here = passes_at (apart code) codes i [] first (omega arith) in
    absurd (not_true (begins_code (get_or codes i []) code) (and_parts (not (begins_code code (get_or codes i []))) (not (begins_code (get_or codes i []) code)) here).1 e)
prefix_free (code ∷ codes) h (suc i) (suc j) hi hj e =
    let rest = (and_parts (list_all (apart code) codes) (all_apart codes) h).1 in
    ap suc (prefix_free codes rest i j (omega arith) (omega arith) e)

-- ---- a code that was written

begins_itself : (code after : List Bool) → begins_code code (code ++ after) ≡ true
begins_itself [] after = refl
begins_itself (true ∷ code) after = begins_itself code after
begins_itself (false ∷ code) after = begins_itself code after

-- of two codes that begin the same bits one is a prefix of the other
one_of_two : (a c after : List Bool) → begins_code a (c ++ after) ≡ true → (begins_code a c ≡ true) ⊎ (begins_code c a ≡ true)
one_of_two [] c after h = inl refl
one_of_two (x ∷ a) [] after h = inr refl
one_of_two (true ∷ a) (true ∷ c) after h = one_of_two a c after h
one_of_two (false ∷ a) (false ∷ c) after h = one_of_two a c after h
one_of_two (true ∷ a) (false ∷ c) after h = absurd (cc)
one_of_two (false ∷ a) (true ∷ c) after h = absurd (cc)

abbrev NoneBefore : (List Bool → Bool) → List (List Bool) → ℕ → Type 0
NoneBefore p codes row = (i : ℕ) → i < row → p (get_or codes i []) ≡ false

first_at : (p : List Bool → Bool) (k : ℕ) (codes : List (List Bool)) (row : ℕ) → row < length codes → p (get_or codes row []) ≡ true → NoneBefore p codes row → position_from p k codes ≡ Some (k + row)
first_at p k [] row within here before = absurd (omega arith)
first_at p k (code ∷ codes) zero within here before =
    ap (λ b. if b then Some k else position_from p (k + 1) codes) here ∙ ap Some (omega arith)
first_at p k (code ∷ codes) (suc row) within here before =
    ap (λ b. if b then Some k else position_from p (k + 1) codes) (before 0 (omega arith))
    ∙ first_at p (k + 1) codes row (omega arith) here (λ i h. before (suc i) (omega arith)) ∙ ap Some (omega arith)

is_false : (b : Bool) → (b ≡ true → ⊥) → b ≡ false
is_false true h = absurd (h refl)
is_false false h = refl

other_row : (codes : List (List Bool)) (row i : ℕ) (after : List Bool) → IsPrefixFree codes → row < length codes → i < row → begins_code (get_or codes i []) (get_or codes row [] ++ after) ≡ false
other_row codes row i after free within h =
    is_false _ (λ e.
    elim (one_of_two (get_or codes i []) (get_or codes row []) after e) [
      | inl prefix ↦ let same = free i row (omega arith) within prefix in omega arith
      | inr prefix ↦ let same = free row i within (omega arith) prefix in omega arith
    ])

row_back : (codes : List (List Bool)) (row : ℕ) (after : List Bool) → IsPrefixFree codes → row < length codes → next_row codes (get_or codes row [] ++ after) ≡ Ok row
row_back codes row after free within =
    ap (λ r. row_or r (no_code codes (get_or codes row [] ++ after))) (first_at (λ code. begins_code code (get_or codes row [] ++ after)) 0 codes row within (begins_itself (get_or codes row []) after) (λ i h. other_row codes row i after free within h) ∙ ap Some (omega arith))

-- the code of a row, as a code and as bits
code_at : (codes : List (List Bool)) (row : ℕ) (code : Code) → slice_get (map code_of_bits codes) row ≡ Some code → (row < length codes) × (code_bits code ≡ code_bits (code_of_bits (get_or codes row [])))
code_at [] row code h = absurd (cc)
code_at (c ∷ codes) zero code h =
    let same : code_of_bits c ≡ code = cc in
    (omega arith, ap code_bits (sym same))
code_at (c ∷ codes) (suc row) code h =
    let rest = code_at codes row code h in
    (omega (arith, rest.0), rest.1)

bits_at : (codes : List (List Bool)) (row : ℕ) → map code_bits (map code_of_bits codes) ≡ codes → row < length codes → code_bits (code_of_bits (get_or codes row [])) ≡ get_or codes row []
bits_at [] row h within = absurd (omega arith)
bits_at (c ∷ codes) zero h within = cc
bits_at (c ∷ codes) (suc row) h within =
    let rest : map code_bits (map code_of_bits codes) ≡ codes = cc in
    bits_at codes row rest (omega arith)

pub reads_back : (codes : List (List Bool)) → IsPrefixFree codes → map code_bits (map code_of_bits codes) ≡ codes → ReadsBack codes
reads_back codes free exact row code before after h =
    let at = code_at codes row code h in
    let bits : code_bits code ≡ get_or codes row [] = at.1 ∙ bits_at codes row exact at.0 in
    ap (next_row codes) (drop_at before (code_bits code ++ after) (length before) refl ∙ ap (λ bs. bs ++ after) bits)
    ∙ row_back codes row after free at.0

-- ---- bits that are a proper prefix

same_bits : (x y b : Bool) → same_bit x b ≡ true → same_bit y b ≡ true → same_bit x y ≡ true
same_bits true true b h k = refl
same_bits false false b h k = refl
same_bits true false true h k = absurd (cc)
same_bits true false false h k = absurd (cc)
same_bits false true true h k = absurd (cc)
same_bits false true false h k = absurd (cc)

begins-cut : (a c bits : List Bool) → begins_code a bits ≡ true → is_cut c bits ≡ true → begins_code a c ≡ true
begins-cut [] c bits h cut = refl
begins-cut (x ∷ a) c [] h cut = absurd (cc)
begins-cut (x ∷ a) [] (b ∷ bits) h cut = absurd (cc)
begins-cut (x ∷ a) (y ∷ c) (b ∷ bits) h cut =
    let first = and_parts (same_bit x b) (begins_code a bits) h in
    let second = and_parts (same_bit y b) (is_cut c bits) cut in
    ap (λ v. v && begins_code a c) (same_bits x y b first.0 second.0) ∙ begins-cut a c bits first.1 second.1

not_both : (a bits : List Bool) → begins_code a bits ≡ true → is_cut a bits ≡ true → ⊥
not_both [] bits h cut = cc
not_both (x ∷ a) [] h cut = cc
not_both (x ∷ a) (b ∷ bits) h cut =
    not_both a bits (and_parts (same_bit x b) (begins_code a bits) h).1 (and_parts (same_bit x b) (is_cut a bits) cut).1

abbrev SomePasses : (List Bool → Bool) → List (List Bool) → Type 0
SomePasses p codes = (j : ℕ) × (j < length codes) × (p (get_or codes j []) ≡ true)

later : (p : List Bool → Bool) (code : List Bool) (codes : List (List Bool)) → SomePasses p codes → SomePasses p (code ∷ codes)
later p code codes some = (suc some.0, omega (arith, some.1), some.2)

some_cut_of : (p : List Bool → Bool) (code : List Bool) (codes : List (List Bool)) (b : Bool) → p code ≡ b → (b ≡ false → SomePasses p codes) → SomePasses p (code ∷ codes)
some_cut_of p code codes true is rest = (0, omega arith, is)
some_cut_of p code codes false is rest = later p code codes (rest refl)

some_cut : (p : List Bool → Bool) (codes : List (List Bool)) → list_any p codes ≡ true → SomePasses p codes
some_cut p [] h = absurd (cc)
some_cut p (code ∷ codes) h =
    some_cut_of p code codes (p code) refl (λ e. some_cut p codes (ap (λ b. b || list_any p codes) (sym e) ∙ h))

none_begins : (p : List Bool → Bool) (k : ℕ) (codes : List (List Bool)) → ((i : ℕ) → i < length codes → p (get_or codes i []) ≡ false) → position_from p k codes ≡ None
none_begins p k [] h = refl
none_begins p k (code ∷ codes) h =
    ap (λ b. if b then Some k else position_from p (k + 1) codes) (h 0 (omega arith))
    ∙ none_begins p (k + 1) codes (λ i within. h (suc i) (omega arith))

pub cut_means_ends : (codes : List (List Bool)) → IsPrefixFree codes → CutMeansEnds codes
cut_means_ends codes free bits cut =
    let some = some_cut (λ code. is_cut code bits) codes cut in
    let none : (i : ℕ) → i < length codes → begins_code (get_or codes i []) bits ≡ false = λ i within.
    is_false _ (λ e.
    let prefix = begins-cut (get_or codes i []) (get_or codes some.0 []) bits e some.2 in
    let same = free i some.0 within some.1 prefix in
    not_both (get_or codes some.0 []) bits (ap (λ n. begins_code (get_or codes n []) bits) (sym same) ∙ e) some.2) in
    ap (λ r. row_or r (no_code codes bits)) (none_begins (λ code. begins_code code bits) 0 codes none)
    ∙ ap (λ v. Err (if v then Ends else Strange)) cut
