-- How fields are written in the body of a kept row. Numbers are little-endian.
use Rattle.std.specs.Prelude.{ℕ, Bool, true, false, List, [], ◌∷◌, ◌++◌, length, Option, Some, None, encode_utf8_all}
use Rattle.std.specs.Int.{w32, w64, to_le_bytes}
use Rattle.std.specs.List.{flat_map}
use Rattle.bp_core.specs.declared.rectangle.Rect.{Rect}
use Rattle.bp_core.specs.declared.stamps.Ink.{Ink}
use Rattle.bp_core.specs.declared.stamps.Ink.TheVariants.{Black, Lettered}
use Rattle.bp_core.specs.declared.review.Basis.{Basis}
use Rattle.bp_core.specs.declared.review.Basis.TheVariants.{Ac, Wp, Pi, Ts}
use Rattle.bp_core.specs.declared.review.Role.{Role}
use Rattle.bp_core.specs.declared.review.Role.TheVariants.{Reviewer, Second, Lead, Clerk, Receiver}
use Rattle.bp_core.specs.declared.review.Treatment.{Treatment}
use Rattle.bp_core.specs.declared.review.Treatment.TheVariants.{Produce, Redact, Withhold}
use Rattle.bp_bates.specs.declared.prefixes.Prefix.{Prefix}
use Rattle.bp_bates.specs.declared.spans.Span.{Span}
use Rattle.bp_matter.specs.declared.rows.State.{State}
use Rattle.bp_matter.specs.declared.rows.State.TheVariants.{Uncalled, First, Confirmed}

-- a number of 8 bits
-- by RFC 3629 for the bytes of a text
abbrev pub byte : ℕ → List ℕ
byte n = n ∷ []

-- a number of 32 bits; kept closed, since it computes to four cells
-- by RFC 3629 for the bytes of a text
unfoldable pub word : ℕ → List ℕ
word n = to_le_bytes w32 n

-- a number of 64 bits
-- by RFC 3629 for the bytes of a text
unfoldable pub long_kept : ℕ → List ℕ
long_kept n = to_le_bytes w64 n

-- four bytes of length, and the characters in UTF-8
-- by RFC 3629 for the bytes of a text
abbrev pub text_kept : List ℕ → List ℕ
text_kept characters = word (length (encode_utf8_all characters)) ++ encode_utf8_all characters

-- a list of values, each written so
-- by RFC 3629 for the bytes of a text
abbrev pub list : {V : Type 0} → (V → List ℕ) → List V → List ℕ
list write values = word (length values) ++ flat_map write values

-- a truth value as a number
abbrev pub flag_number : Bool → ℕ
flag_number true = 1
flag_number false = 0

-- a truth value is one byte
-- by RFC 3629 for the bytes of a text
abbrev pub flag : Bool → List ℕ
flag b = byte (flag_number b)

-- 0, or 1 and the value
abbrev pub is_there : {V : Type 0} → Option V → Bool
is_there None = false
is_there (Some v) = true

-- the value where there is one
abbrev pub value_if : {V : Type 0} → (V → List ℕ) → Option V → List ℕ
value_if write None = []
value_if write (Some v) = write v

-- a flag, and the value where there is one
-- by RFC 3629 for the bytes of a text
abbrev pub optional : {V : Type 0} → (V → List ℕ) → Option V → List ℕ
optional write o = flag (is_there o) ++ value_if write o

-- the number of a role
-- by RFC 3629 for the bytes of a text
abbrev pub role_number : Role → ℕ
role_number Reviewer = 0
role_number Second = 1
role_number Lead = 2
role_number Clerk = 3
role_number Receiver = 4

-- the number of a ground
-- by RFC 3629 for the bytes of a text
abbrev pub basis_number : Basis → ℕ
basis_number Ac = 0
basis_number Wp = 1
basis_number Pi = 2
basis_number Ts = 3

-- a ground is one byte
-- by RFC 3629 for the bytes of a text
abbrev pub basis : Basis → List ℕ
basis held_for = byte (basis_number held_for)

-- the number of an ink, which is the version of the body of its production
abbrev pub ink_number : Ink → ℕ
ink_number Black = 1
ink_number Lettered = 2

-- PI and TS have none: no whole document is withheld on them
-- by RFC 3629 for the bytes of a text
abbrev pub treatment_number : Treatment → ℕ
treatment_number Produce = 0
treatment_number Redact = 1
treatment_number (Withhold Ac) = 2
treatment_number (Withhold Wp) = 3
treatment_number (Withhold _) = 255

-- a treatment is one byte
-- by RFC 3629 for the bytes of a text
abbrev pub treatment : Treatment → List ℕ
treatment t = byte (treatment_number t)

-- the number of a state
abbrev pub state_number : State → ℕ
state_number Uncalled = 0
state_number (First _) = 1
state_number (Confirmed _ _) = 2

-- who edited last; 0 for nobody
abbrev pub editor_number : State → ℕ
editor_number Uncalled = 0
editor_number (First editor) = editor.0
editor_number (Confirmed editor _) = editor.0

-- 0 for none
abbrev pub confirmer_number : State → ℕ
confirmer_number (Confirmed _ confirmer) = confirmer.0
confirmer_number _ = 0

-- a state, its last editor and its confirmer
-- by RFC 3629 for the bytes of a text
abbrev pub state : State → List ℕ
state s = byte (state_number s) ++ (word (editor_number s) ++ word (confirmer_number s))

-- a rectangle
-- by RFC 3629 for the bytes of a text
abbrev pub rect : Rect → List ℕ
rect r = word r.left ++ (word r.top ++ (word r.width ++ word r.height))

-- the first and the last number of a span
-- by RFC 3629 for the bytes of a text
abbrev pub span : Span → List ℕ
span s = long_kept s.first ++ long_kept s.last

-- a prefix and its width
-- by RFC 3629 for the bytes of a text
abbrev pub prefix : Prefix → List ℕ
prefix p = text_kept p.text ++ byte p.width
