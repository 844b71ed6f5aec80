-- Carries bytes that were turned round or over to the values and the lines that they hold.
use Rattle.std.proofs.Common.{ℕ, ◌≡◌, ◌+◌, ◌-◌, ⊎_elim, set, ◌*◌, ◌/◌, ◌%◌, ◌<◌, zero, suc, Bool, true, false, not, cond, eqb, List, length, get_or, refl, sym, ap, subst, ◌∙◌, arith}
use Rattle.std.proofs.lemmas.Simd.{map-map}
use Rattle.std.specs.Int.{bit_at, w8}
use Rattle.std.proofs.lemmas.Nat.Bits.{bit_at_not, bit_at-lt}
use Rattle.bp_codes.specs.declared.span.Fill.{Fill}
use Rattle.bp_codes.specs.declared.span.Fill.TheVariants.{High, Low}
use Rattle.bp_codes.specs.Bits.{bit, byte_bits}
use Rattle.bp_rows.specs.Image.{grid_of}
use Rattle.bp_rows.specs.Bits.{row_bytes, place}
use Rattle.bp_rows.proofs.GridLemmas.{cell-grid_of, grid_of_is_grid, same_grids}
use Rattle.bp_rows.proofs.PackedLemmas.{place_within, row_covers}
use Rattle.std.proofs.lemmas.Bool.{cases_eq}
use Rattle.std.proofs.lemmas.List.{length-set, get_or-set_same, get_or-set_other}
use Rattle.bp_tiff.specs.Passed.{IsPassed, IsTurned, IsInverted}
use Rattle.bp_tiff.specs.Pixels.{bit_in, packed_values, value_inked}

-- ---- a pass

-- one byte more was gone through
pub one_passed : (One : ℕ → ℕ → Type 0) (at : ℕ) (old new : List ℕ) (byte : ℕ) → at < length old → IsPassed One at old new → One (get_or new at 0) byte → IsPassed One (at + 1) old (set new at byte)
one_passed One at old new byte within before one = record {
  long = length-set new at byte ∙ before.long;
  done = λ k low inside. ⊎_elim
      (λ (same : k ≡ at).
      let P : ℕ → Type 0 = λ j. One (get_or old j 0) (get_or (set new at byte) j 0) in
      subst P (sym same)
      (subst (One (get_or old at 0)) (sym (get_or-set_same new at byte 0 (omega (arith, before.long))))
      (subst (λ (b : ℕ). One b byte) (before.left at (omega arith)) one)))
      (λ apart.
      subst (One (get_or old k 0)) (sym (get_or-set_other new at k byte 0 apart)) (before.done k (omega arith) inside))
      (cases_eq k at);
  left = λ k past. get_or-set_other new at k byte 0 (omega arith) ∙ before.left k (omega arith);
}

-- ---- one byte

high_bit : (x i : ℕ) → i < 8 → get_or (byte_bits High x) i false ≡ bit x (7 - i)
high_bit x zero h = refl
high_bit x (suc zero) h = refl
high_bit x (suc (suc zero)) h = refl
high_bit x (suc (suc (suc zero))) h = refl
high_bit x (suc (suc (suc (suc zero)))) h = refl
high_bit x (suc (suc (suc (suc (suc zero))))) h = refl
high_bit x (suc (suc (suc (suc (suc (suc zero)))))) h = refl
high_bit x (suc (suc (suc (suc (suc (suc (suc zero))))))) h = refl
high_bit x (suc (suc (suc (suc (suc (suc (suc (suc i)))))))) h = absurd (omega arith)

low_bit : (x i : ℕ) → i < 8 → get_or (byte_bits Low x) i false ≡ bit x i
low_bit x zero h = refl
low_bit x (suc zero) h = refl
low_bit x (suc (suc zero)) h = refl
low_bit x (suc (suc (suc zero))) h = refl
low_bit x (suc (suc (suc (suc zero)))) h = refl
low_bit x (suc (suc (suc (suc (suc zero))))) h = refl
low_bit x (suc (suc (suc (suc (suc (suc zero)))))) h = refl
low_bit x (suc (suc (suc (suc (suc (suc (suc zero))))))) h = refl
low_bit x (suc (suc (suc (suc (suc (suc (suc (suc i)))))))) h = absurd (omega arith)

pub value_turned : (old new : List ℕ) (at : ℕ) → IsTurned (get_or old (at / 8) 0) (get_or new (at / 8) 0) → bit_in High new at ≡ bit_in Low old at
value_turned old new at turned =
    let i = at % 8 in
    sym (high_bit (get_or new (at / 8) 0) i (omega arith)) ∙ ap (λ bs. get_or bs i false) turned.bits ∙ low_bit (get_or old (at / 8) 0) i (omega arith)

digit_over : (x : ℕ) → x < 2 → eqb (1 - x) 1 ≡ not (eqb x 1)
digit_over zero h = refl
digit_over (suc zero) h = refl
digit_over (suc (suc x)) h = absurd (omega arith)

pub value_over : (old new : List ℕ) (at : ℕ) → IsInverted (get_or old (at / 8) 0) (get_or new (at / 8) 0) → bit_in High new at ≡ not (bit_in High old at)
value_over old new at inverted =
    let b = get_or old (at / 8) 0 in
    let i = 7 - at % 8 in
    ap (λ x. bit x i) inverted.bits ∙ ap (λ x. eqb x 1) (bit_at_not w8 b i inverted.fits (omega arith)) ∙ digit_over (bit_at b i) (bit_at-lt b i)

-- ---- all rows

abbrev inked_value : Bool → Bool → Bool
inked_value z v = cond z (not v) v

inked_cell : (z : Bool) (w h : ℕ) (f : ℕ → ℕ → Bool) → value_inked z (grid_of w h f) ≡ grid_of w h (λ r c. inked_value z (f r c))
inked_cell true w h f = simp map-map
inked_cell false w h f = refl

pub inked_values : (z : Bool) (f : Fill) (w h : ℕ) (old new : List ℕ) → ((r c : ℕ) → r < h → c < w → bit_in High new (place w r c) ≡ inked_value z (bit_in f old (place w r c)))
    → packed_values High w h new ≡ value_inked z (packed_values f w h old)
inked_values z f w h old new same =
    same_grids w h (packed_values High w h new) (grid_of w h (λ r c. inked_value z (bit_in f old (place w r c)))) (grid_of_is_grid w h _) (grid_of_is_grid w h _)
    (λ r c down across. cell-grid_of w h (λ r c. bit_in High new (place w r c)) r c down across ∙ same r c down across
    ∙ sym (cell-grid_of w h (λ r c. inked_value z (bit_in f old (place w r c))) r c down across))
    ∙ sym (inked_cell z w h (λ r c. bit_in f old (place w r c)))

pub in_the_rows : (w h r c : ℕ) (bytes : List ℕ) → length bytes ≡ h * row_bytes w → r < h → c < w → place w r c < 8 * length bytes
in_the_rows w h r c bytes long down across = let room = place_within w h r c down (omega (arith, row_covers w)) in omega (arith, room, long)
