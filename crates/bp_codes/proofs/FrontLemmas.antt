-- What stands at the front of bits, by the codes whole and by the branches that are left of them.
use Rattle.std.proofs.Common.{ℕ, zero, suc, ◌+◌, ◌≤◌, ◌≡◌, Bool, true, false, ◌&&◌, ◌||◌, List, [], ◌∷◌, length, take, if◌then◌else◌, Some, refl, ap, ◌∙◌, arith, nat_le}
use Rattle.std.proofs.lemmas.Bool.{and_parts, leb-true}
use Rattle.std.specs.List.{enumerate_from, position_from, list_any, list_all}
use Rattle.bp_codes.specs.declared.code.NoCode.TheVariants.{Ends, Strange}
use Rattle.bp_codes.specs.NextCode.{same_bit, begins_code, is_cut, row_at, no_code, next_row, row_or}
use Rattle.bp_codes.proofs.TrieLemmas.{Branch, narrowed, narrow, row_among, cut_among, front}

-- ---- one bit more

row_among-narrowed : (b : Bool) (row : ℕ) (code : List Bool) (bits : List Bool) (rest : List Branch) → row_among (narrowed b row code rest) bits ≡ (if begins_code code (b ∷ bits) then Some row else row_among rest bits)
row_among-narrowed b row [] bits rest = refl
row_among-narrowed b row (x ∷ code) bits rest =
    elim (same_bit x b) as (λ v. row_among (if v then (row, code) ∷ rest else rest) bits ≡ (if v && begins_code code bits then Some row else row_among rest bits)) [ true ↦ refl | false ↦ refl ]

row_among-narrow : (b : Bool) (bits : List Bool) (branches : List Branch) → row_among (narrow b branches) bits ≡ row_among branches (b ∷ bits)
row_among-narrow b bits [] = refl
row_among-narrow b bits (c ∷ branches) =
    row_among-narrowed b c.0 c.1 bits (narrow b branches)
    ∙ ap (λ r. if begins_code c.1 (b ∷ bits) then Some c.0 else r) (row_among-narrow b bits branches)

cut_among-narrowed : (b : Bool) (row : ℕ) (code : List Bool) (bits : List Bool) (rest : List Branch) → cut_among (narrowed b row code rest) bits ≡ (is_cut code (b ∷ bits) || cut_among rest bits)
cut_among-narrowed b row [] bits rest = refl
cut_among-narrowed b row (x ∷ code) bits rest =
    elim (same_bit x b) as (λ v. cut_among (if v then (row, code) ∷ rest else rest) bits ≡ ((v && is_cut code bits) || cut_among rest bits)) [ true ↦ refl | false ↦ refl ]

cut_among-narrow : (b : Bool) (bits : List Bool) (branches : List Branch) → cut_among (narrow b branches) bits ≡ cut_among branches (b ∷ bits)
cut_among-narrow b bits [] = refl
cut_among-narrow b bits (c ∷ branches) =
    cut_among-narrowed b c.0 c.1 bits (narrow b branches)
    ∙ ap (λ r. is_cut c.1 (b ∷ bits) || r) (cut_among-narrow b bits branches)

pub front-narrow : (b : Bool) (bits : List Bool) (branches : List Branch) → front (narrow b branches) bits ≡ front branches (b ∷ bits)
front-narrow b bits branches =
    ap (λ r. row_or r (if cut_among (narrow b branches) bits then Ends else Strange)) (row_among-narrow b bits branches)
    ∙ ap (λ v. row_or (row_among branches (b ∷ bits)) (if v then Ends else Strange)) (cut_among-narrow b bits branches)

-- ---- the codes whole

row_at-from : (k : ℕ) (codes : List (List Bool)) (bits : List Bool) → row_among (enumerate_from k codes) bits ≡ position_from (λ code. begins_code code bits) k codes
row_at-from k [] bits = refl
row_at-from k (code ∷ codes) bits = ap (λ r. if begins_code code bits then Some k else r) (row_at-from (k + 1) codes bits)

cut_at-from : (k : ℕ) (codes : List (List Bool)) (bits : List Bool) → cut_among (enumerate_from k codes) bits ≡ list_any (λ code. is_cut code bits) codes
cut_at-from k [] bits = refl
cut_at-from k (code ∷ codes) bits = ap (λ r. is_cut code bits || r) (cut_at-from (k + 1) codes bits)

pub front-whole : (codes : List (List Bool)) (bits : List Bool) → front (enumerate_from 0 codes) bits ≡ next_row codes bits
front-whole codes bits =
    ap (λ r. row_or r (if cut_among (enumerate_from 0 codes) bits then Ends else Strange)) (row_at-from 0 codes bits)
    ∙ ap (λ v. row_or (row_at codes bits) (if v then Ends else Strange)) (cut_at-from 0 codes bits)

-- ---- only the first bits count, as many as the longest code has

begins-take : (code : List Bool) (k : ℕ) (bits : List Bool) → length code ≤ k → begins_code code (take k bits) ≡ begins_code code bits
begins-take [] k bits h = refl
begins-take (x ∷ code) zero bits h = absurd (omega arith)
begins-take (x ∷ code) (suc k) [] h = refl
begins-take (x ∷ code) (suc k) (b ∷ bits) h = ap (λ v. same_bit x b && v) (begins-take code k bits (omega arith))

is_cut-take : (code : List Bool) (k : ℕ) (bits : List Bool) → length code ≤ k → is_cut code (take k bits) ≡ is_cut code bits
is_cut-take [] k bits h = refl
is_cut-take (x ∷ code) zero bits h = absurd (omega arith)
is_cut-take (x ∷ code) (suc k) [] h = refl
is_cut-take (x ∷ code) (suc k) (b ∷ bits) h = ap (λ v. same_bit x b && v) (is_cut-take code k bits (omega arith))

first_short : (code : List Bool) (k : ℕ) (rest : Bool) → (nat_le (length code) k && rest) ≡ true → (length code ≤ k) × (rest ≡ true)
first_short code k rest h =
    let both = and_parts (nat_le (length code) k) rest h in
    (leb-true (length code) k both.0, both.1)

position_from-take : (codes : List (List Bool)) (i k : ℕ) (bits : List Bool) → list_all (λ code. nat_le (length code) k) codes ≡ true → position_from (λ code. begins_code code (take k bits)) i codes ≡ position_from (λ code. begins_code code bits) i codes
position_from-take [] i k bits h = refl
position_from-take (code ∷ codes) i k bits h =
    let short = first_short code k (list_all (λ code. nat_le (length code) k) codes) h in
    ap (λ v. if v then Some i else position_from (λ code. begins_code code (take k bits)) (i + 1) codes) (begins-take code k bits short.0)
    ∙ ap (λ r. if begins_code code bits then Some i else r) (position_from-take codes (i + 1) k bits short.1)

list_any-take : (codes : List (List Bool)) (k : ℕ) (bits : List Bool) → list_all (λ code. nat_le (length code) k) codes ≡ true → list_any (λ code. is_cut code (take k bits)) codes ≡ list_any (λ code. is_cut code bits) codes
list_any-take [] k bits h = refl
list_any-take (code ∷ codes) k bits h =
    let short = first_short code k (list_all (λ code. nat_le (length code) k) codes) h in
    ap (λ v. v || list_any (λ code. is_cut code (take k bits)) codes) (is_cut-take code k bits short.0)
    ∙ ap (λ r. is_cut code bits || r) (list_any-take codes k bits short.1)

pub next_row-take : (codes : List (List Bool)) (k : ℕ) (bits : List Bool) → list_all (λ code. nat_le (length code) k) codes ≡ true → next_row codes (take k bits) ≡ next_row codes bits
next_row-take codes k bits short =
    ap (λ r. row_or r (no_code codes (take k bits))) (position_from-take codes 0 k bits short)
    ∙ ap (λ v. row_or (row_at codes bits) (if v then Ends else Strange)) (list_any-take codes k bits short)
