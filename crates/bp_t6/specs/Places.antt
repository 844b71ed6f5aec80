-- The places a0, a1, a2, b1 and b2 of a coding line and the reference line above it (ITU-T T.6,
-- 2.2.2, definition of changing picture elements). Pixels are true where black; a place is counted
-- from 0.
use Rattle.std.specs.Prelude.{ℕ, ◌+◌, Bool, false, ◌&&◌, List, [], ◌∷◌, nat_le, if◌then◌else◌}
use Rattle.bp_codes.specs.NextCode.{same_bit}
use Rattle.bp_rows.specs.Changes.{differs}

-- whether a pixel follows the one before it in some way; before the first of a line stands a white
-- one
abbrev pub Test : Type 0
Test = Bool → Bool → Bool

-- it changes, and the one before it has this colour
abbrev pub leaves : Bool → Test
leaves colour before pixel = same_bit before colour && differs before pixel

-- the least place from one on where a test passes, or the end; so many pixels, the last of them
-- `before`, are behind
abbrev pub least_at : Test → ℕ → ℕ → Bool → List Bool → ℕ
least_at test from behind before [] = behind
least_at test from behind before (pixel ∷ line) =
    if nat_le from behind && test before pixel then behind
    else least_at test from (behind + 1) pixel line

-- the same in a whole line: where the test passes nowhere, it is the width
-- by ITU-T T.6, 2.2.2
abbrev pub least : Test → ℕ → List Bool → ℕ
least test from line = least_at test from 0 false line

-- Where a coding line stands: the first place right of a0, so 0 at the start, where a0 is just
-- before the first pixel (2.2.5.1); and whether a0 is black, which it is not at the start.
-- by ITU-T T.6, 2.2.5.1
pub record Place : Type 0 where
  pub right : ℕ
  pub black : Bool

-- the place before the first pixel of a line, with the colour white
-- by ITU-T T.6, 2.2.5.1
abbrev pub start : Place
start = record { right = 0; black = false }

-- a1: the next changing element right of a0 on the coding line
-- by ITU-T T.6, 2.2.2
abbrev pub a1 : List Bool → Place → ℕ
a1 line place = least differs place.right line

-- a2: the next changing element right of a1 on the coding line
-- by ITU-T T.6, 2.2.2
abbrev pub a2 : List Bool → Place → ℕ
a2 line place = least differs (a1 line place + 1) line

-- b1: the first changing element right of a0 and of the colour opposite to a0's on the reference
-- line
-- by ITU-T T.6, 2.2.2
abbrev pub b1 : List Bool → Place → ℕ
b1 above place = least (leaves place.black) place.right above

-- b2: the next changing element right of b1 on the reference line
-- by ITU-T T.6, 2.2.2
abbrev pub b2 : List Bool → Place → ℕ
b2 above place = least differs (b1 above place + 1) above
