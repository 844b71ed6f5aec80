-- A set of the paths that a manifest lists.
use Rattle.std.specs.Prelude.{ℕ, ◌≡◌, true, List, encode_utf8_all}
use Rattle.std.specs.Borrow.{Bor}
use Rattle.std.specs.BTreeSet.{BTreeSet, contains_by}
use Rattle.std.specs.Cmp.Lexicographic.{slice_cmp}
use Rattle.std.specs.Ordering.{nat_cmp}
use Rattle.std.specs.Str.{all_scalars}
use Rattle.bp_check.specs.Listing.{lists}
use Rattle.bp_check.specs.Manifest.{Listed}

-- of each text of Unicode characters, in UTF-8, the set says whether it is listed
abbrev pub Knows : BTreeSet (Bor (List ℕ)) → List Listed → Type 0
Knows known listed = (path : List ℕ) → all_scalars path ≡ true
    → contains_by (λ key. slice_cmp nat_cmp (encode_utf8_all path) key.now) known
    ≡ lists listed path
