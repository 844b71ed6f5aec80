-- That rows made from the codes as they stand in print are a table with its index.
use Rattle.std.proofs.Common.{◌≡◌, List, ◌∷◌, map, refl, ap, sym, ◌∙◌, subst, arith}
use Rattle.bp_codes.specs.declared.code.Code.{Code}
use Rattle.bp_codes.specs.declared.index.Index.TheVariants.{White, Black, Modes}
use Rattle.bp_codes.specs.Bits.{code_bits, code_of_bits}
use Rattle.bp_codes.specs.CodeLists.{white_codes, black_codes, mode_codes}
use Rattle.bp_codes.specs.Fronts.{fronts}
use Rattle.bp_codes.specs.Index.{IsIndexOf}
use Rattle.bp_codes.specs.Tables.{IsTable}
use Rattle.bp_codes.proofs.KeptLemmas.{white_kept, black_kept, modes_kept, length-white, length-black, length-modes}

-- two lists of codes are the same where their first codes and what is left are
infixr 25 ◌◂◌
pub ◌◂◌ : {x y : Code} {xs ys : List Code} → x ≡ y → xs ≡ ys → (x ∷ xs) ≡ (y ∷ ys)
◌◂◌ {x} {y} {xs} {ys} first rest = ap (λ v. v ∷ xs) first ∙ ap (λ vs. y ∷ vs) rest

white_read_back : map code_bits (map code_of_bits white_codes) ≡ white_codes
unfolding white_codes
white_read_back = refl

black_read_back : map code_bits (map code_of_bits black_codes) ≡ black_codes
unfolding black_codes
black_read_back = refl

modes_read_back : map code_bits (map code_of_bits mode_codes) ≡ mode_codes
unfolding mode_codes
modes_read_back = refl

white_kept' : IsIndexOf white_codes 12 (fronts White)
unfolding fronts
white_kept' = white_kept

black_kept' : IsIndexOf black_codes 13 (fronts Black)
unfolding fronts
black_kept' = black_kept

modes_kept' : IsIndexOf mode_codes 7 (fronts Modes)
unfolding fronts
modes_kept' = modes_kept

pub white_table : (rows : List Code) → rows ≡ map code_of_bits white_codes → IsTable rows 12 White
unfolding white_codes
white_table rows is =
    let P : List Code → Type 0 = λ cs. IsTable cs 12 White in
    subst P (sym is) (record { exact = refl; short = refl; within = omega arith; few = omega arith; wide = length-white; kept = white_kept' })

pub black_table : (rows : List Code) → rows ≡ map code_of_bits black_codes → IsTable rows 13 Black
unfolding black_codes
black_table rows is =
    let P : List Code → Type 0 = λ cs. IsTable cs 13 Black in
    subst P (sym is) (record { exact = refl; short = refl; within = omega arith; few = omega arith; wide = length-black; kept = black_kept' })

pub modes_table : (rows : List Code) → rows ≡ map code_of_bits mode_codes → IsTable rows 7 Modes
unfolding mode_codes
modes_table rows is =
    let P : List Code → Type 0 = λ cs. IsTable cs 7 Modes in
    subst P (sym is) (record { exact = refl; short = refl; within = omega arith; few = omega arith; wide = length-modes; kept = modes_kept' })

pub white_shown : (rows : List Code) → rows ≡ map code_of_bits white_codes → map code_bits rows ≡ white_codes
unfolding white_codes
white_shown rows is = ap (map code_bits) is

pub black_shown : (rows : List Code) → rows ≡ map code_of_bits black_codes → map code_bits rows ≡ black_codes
unfolding black_codes
black_shown rows is = ap (map code_bits) is

pub modes_shown : (rows : List Code) → rows ≡ map code_of_bits mode_codes → map code_bits rows ≡ mode_codes
unfolding mode_codes
modes_shown rows is = ap (map code_bits) is
