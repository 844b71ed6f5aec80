-- A map that finds the line of an image id.
use Rattle.std.specs.Prelude.{ℕ, ◌≡◌, true, List, encode_utf8_all}
use Rattle.std.specs.Borrow.{Bor}
use Rattle.std.specs.BTreeMap.{BTreeMap, get_by}
use Rattle.std.specs.Cmp.Lexicographic.{slice_cmp}
use Rattle.std.specs.Ordering.{nat_cmp}
use Rattle.std.specs.Str.{all_scalars}
use Rattle.bp_load.specs.declared.opt.OptLine.{OptLine}
use Rattle.bp_import.specs.Breaks.{place_of}

-- by each text of Unicode characters, in UTF-8, the map gives the place of the line with that image
-- id, or nothing
abbrev pub Finds : BTreeMap (Bor (List ℕ)) ℕ → List OptLine → Type 0
Finds places lines = (image : List ℕ) → all_scalars image ≡ true
    → get_by (λ key. slice_cmp nat_cmp (encode_utf8_all image) key.now) places ≡ place_of image lines
