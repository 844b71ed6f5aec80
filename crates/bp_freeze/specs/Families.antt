-- Families at the edges of a range. A family is the documents of one parent.
use Rattle.std.specs.Prelude.{ℕ, ◌+◌, ◌-◌, Bool, true, false, List, [], ◌∷◌, length, nat_lt, ◌==◌, ◌&&◌, ◌||◌, slice_index_or}
use Rattle.bp_matter.specs.declared.rows.Request.{Request}

-- some document outside the range has this parent; the documents are counted from n
abbrev pub reaches_outside : Request → ℕ → List ℕ → ℕ → Bool
reaches_outside q n [] parent = false
reaches_outside q n (other ∷ parents) parent =
    ((other == parent) && (nat_lt n q.from.0 || nat_lt q.to.0 n))
    || reaches_outside q (n + 1) parents parent

-- each parent is its document, counted from n, or the parent of the document before it
abbrev pub are_parents : ℕ → ℕ → List ℕ → Bool
are_parents n before [] = true
are_parents n before (parent ∷ parents) =
    ((parent == n) || (parent == before)) && are_parents (n + 1) parent parents

-- the document before the range has this parent
abbrev pub is_before : Request → List ℕ → ℕ → Bool
is_before q parents parent =
    nat_lt 1 q.from.0 && (slice_index_or parents (q.from.0 - 2) 0 == parent)

-- the document after the range has this parent
abbrev pub is_after : Request → List ℕ → ℕ → Bool
is_after q parents parent =
    nat_lt q.to.0 (length parents) && (slice_index_or parents q.to.0 0 == parent)

-- one of the two has
abbrev pub is_across : Request → List ℕ → ℕ → Bool
is_across q parents parent = is_before q parents parent || is_after q parents parent
