-- What the head of a file of either form says, as it is read back, and that the forms differ.
use Rattle.std.proofs.Common.{ℕ, ◌≡◌, ◌^◌, ◌<◌, Bool, List, ◌++◌, length, get_or, Some, refl, sym, ap, arith}
use Rattle.std.specs.Int.{to_le_bytes, from_le_bytes, w16, w32}
use Rattle.std.specs.Prelude.{◌↔◌}
use Rattle.std.proofs.lemmas.Nat.{from_le_bytes-to_le_bytes_4}
use Rattle.bp_codes.specs.declared.span.Fill.TheVariants.{High}
use Rattle.bp_codes.specs.Bits.{bits_of}
use Rattle.bp_rows.specs.declared.resolution.Unit.{Unit as LengthUnit}
use Rattle.bp_rows.specs.declared.resolution.Unit.TheVariants as units
use Rattle.bp_rows.specs.Image.{Image, IsPage}
use Rattle.bp_t6.specs.Written.{bits_strip as t6_strip}
use Rattle.bp_t6.specs.Read.{StripReads}
use Rattle.bp_tiff.specs.declared.form.Form.{Form}
use Rattle.bp_tiff.specs.declared.form.Form.TheVariants.{Plain, G4}
use Rattle.bp_tiff.specs.declared.fields.Fields.{Fields}
use Rattle.bp_tiff.specs.Places.{strip_at}
use Rattle.bp_tiff.specs.Tiff.{tiff_of, head_of}
use Rattle.bp_tiff.specs.Units.{unit_code, unit_of}

-- any head with any strip behind it
abbrev pub file : Form → Fields → ℕ → List ℕ → List ℕ
file form f n strip = head_of form f n ++ strip

-- numbers of 32 and of 16 bits, as they are read back
abbrev pub long_again : ℕ → ℕ
long_again n = from_le_bytes w32 (to_le_bytes w32 n)

abbrev pub short_again : ℕ → ℕ
short_again n = from_le_bytes w16 (to_le_bytes w16 n)

pub number : (n : ℕ) → n < 2 ^ 32 → long_again n ≡ n
number n small = from_le_bytes-to_le_bytes_4 n small

pub unit_again : (u : LengthUnit) → unit_of (short_again (unit_code u)) ≡ Some u
unit_again units.None = refl
unit_again units.Inch = refl
unit_again units.Centimetre = refl

pub length-head_of : (form : Form) (f : Fields) (n : ℕ) → length (head_of form f n) ≡ strip_at form
length-head_of Plain f n = refl
length-head_of G4 f n = refl

-- what bp_t6 says of the strip of a page
abbrev pub StripLaw : Type 0
StripLaw =
    (p : Image) (lines : List (List Bool))
    → IsPage p
    → StripReads (bits_of High (t6_strip p)) p.width p.height lines ↔ (lines ≡ p.rows)

-- the count of entries tells the forms apart
other_count : (p q : Image) → tiff_of Plain p ≡ tiff_of G4 q → ⊥
other_count p q same =
    let thirteen : ℕ = 13 in
    let counts : thirteen ≡ 14 = ap (λ bytes. get_or bytes 8 0) same in
    absurd (omega (arith, counts))

pub same_form :
    (first second : Form) (p q : Image)
    → tiff_of first p ≡ tiff_of second q
    → first ≡ second
same_form Plain Plain p q same = refl
same_form Plain G4 p q same = absurd (other_count p q same)
same_form G4 Plain p q same = absurd (other_count q p (sym same))
same_form G4 G4 p q same = refl
