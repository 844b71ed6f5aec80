-- Labels, as lists of ASCII characters.
use Rattle.std.specs.Prelude.{◌≡◌, ℕ, zero, suc, ◌+◌, ◌/◌, ◌%◌, List, [], ◌∷◌, ◌++◌}
use Rattle.bp_core.specs.Characters.{digit_zero}

-- the number in that many decimal digits, with leading zeros
abbrev pub padded : ℕ → ℕ → List ℕ
padded zero n = []
padded (suc width) n = padded width (n / 10) ++ (digit_zero + n % 10) ∷ []

-- the prefix, and the number in the width
abbrev pub bates_label : List ℕ → ℕ → ℕ → List ℕ
bates_label text width number = text ++ padded width number

-- what two labels were made of is the same
pub record IsSameLabel (p q : List ℕ) (v w m n : ℕ) : Type 0 where
  pub prefix : p ≡ q
  pub width : v ≡ w
  pub number : m ≡ n
