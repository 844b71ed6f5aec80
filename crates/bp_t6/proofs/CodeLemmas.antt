-- What a code table gives is the code's bits.
use Rattle.std.proofs.Common.{ℕ, zero, suc, ◌+◌, ◌*◌, ◌^◌, ◌<◌, ◌≤◌, ◌≡◌, Bool, true, false, cond, List, [], ◌∷◌, ◌++◌, length, map, slice_get, Some, nat_le, refl, ap, sym, ◌∙◌, subst, arith, if◌then◌else◌}
use Rattle.std.proofs.lemmas.Bool.{and_parts, leb-true}
use Rattle.bp_codes.specs.declared.code.Code.{Code}
use Rattle.bp_codes.specs.Bits.{number_of_bits, code_bits, code_of_bits, low_bits}
use Rattle.bp_codes.specs.CodeLists.{white_codes, black_codes, mode_codes}
use Rattle.bp_codes.proofs.BitListLemmas.{number_of-below}
use Rattle.bp_t6.specs.Modes.{code, run_codes}
use Rattle.bp_t6.specs.Gathered.{AreShort}
use Rattle.bp_t6.proofs.GatherLemmas.{low_bits-append}

first_worth : (b : Bool) (n : ℕ) → (if b then 2 ^ n else 0) ≡ cond b 1 0 * 2 ^ n
first_worth true n = omega arith
first_worth false n = omega arith

first_bit : (b : Bool) → low_bits 1 (cond b 1 0) ≡ b ∷ []
first_bit true = refl
first_bit false = refl

pub low_bits-number_of : (bits : List Bool) → low_bits (length bits) (number_of_bits bits) ≡ bits
low_bits-number_of [] = refl
low_bits-number_of (b ∷ bits) =
    let size : suc (length bits) ≡ 1 + length bits = omega arith in
    ap (λ n. low_bits n ((if b then 2 ^ length bits else 0) + number_of_bits bits)) size
    ∙ ap (λ v. low_bits (1 + length bits) (v + number_of_bits bits)) (first_worth b (length bits))
    ∙ low_bits-append 1 (length bits) (cond b 1 0) (number_of_bits bits) (number_of-below bits)
    ∙ ap (λ bs. bs ++ low_bits (length bits) (number_of_bits bits)) (first_bit b)
    ∙ ap (λ bs. b ∷ bs) (low_bits-number_of bits)

-- what the table gives
pub record IsCodeAt (codes : List (List Bool)) (row : ℕ) (found : Code) : Type 0 where
  pub bits : code_bits found ≡ code codes row
  pub short : found.len ≤ 13
  pub fits : found.bits < 2 ^ found.len

same_code : (c : List Bool) (found : Code) → code_of_bits c ≡ found → length c ≤ 13 → IsCodeAt (c ∷ []) 0 found
same_code c found e short = subst (IsCodeAt (c ∷ []) 0) e (record { bits = low_bits-number_of c; short = short; fits = number_of-below c })

pub code_at : (codes : List (List Bool)) (row : ℕ) (found : Code) → AreShort codes ≡ true → slice_get (map code_of_bits codes) row ≡ Some found → IsCodeAt codes row found
code_at [] row found short e = absurd (cc)
code_at (c ∷ codes) zero found short e =
    let same : code_of_bits c ≡ found = cc in
    let at = same_code c found same (leb-true (length c) 13 (and_parts (nat_le (length c) 13) (AreShort codes) short).0) in
    record { bits = at.bits; short = at.short; fits = at.fits }
code_at (c ∷ codes) (suc row) found short e =
    let at = code_at codes row found (and_parts (nat_le (length c) 13) (AreShort codes) short).1 e in
    record { bits = at.bits; short = at.short; fits = at.fits }

pub run_codes_short : (black : Bool) → AreShort (run_codes black) ≡ true
unfolding white_codes black_codes
run_codes_short true = refl
run_codes_short false = refl

pub mode_codes_short : AreShort mode_codes ≡ true
unfolding mode_codes
mode_codes_short = refl

pub code_length : (codes : List (List Bool)) (row : ℕ) (found : Code) → slice_get (map code_of_bits codes) row ≡ Some found → found.len ≡ length (code codes row)
code_length [] row found e = absurd (cc)
code_length (c ∷ codes) zero found e = let same : code_of_bits c ≡ found = cc in ap (λ (k : Code). k.len) (sym same)
code_length (c ∷ codes) (suc row) found e = code_length codes row found e
