-- The rowids of lines, by which statements take lines out.
use Rattle.std.specs.Prelude.{◌≡◌, ◌+◌, ◌<◌, ◌<ℤ◌, ℕ, ℤ, true, List, [], length, slice_index_or}
use Rattle.std.specs.Ordering.{is_eq}
use Rattle.sqlite_value.specs.declared.value.Value.TheVariants.{Int}
use Rattle.sqlite_value.specs.Order.{Row as Line, value_cmp}
use Rattle.sqlite_trees.specs.Tree.{rowid}
use Rattle.sqlite_rules.specs.Lists.{Has}
use Rattle.sqlite.specs.Values.{IsInt}

-- no two lines have one rowid
abbrev pub HasOneOfRowid : List Line → Type 0
HasOneOfRowid lines = (x y : Line) → Has lines x → Has lines y
    → is_eq (value_cmp (rowid x) (rowid y)) ≡ true → x ≡ y

-- the rowids are integers, and no two lines have one
pub record AreNumbered (lines : List Line) : Type 0 where
  pub ints : (x : Line) → Has lines x → IsInt (rowid x)
  pub one : HasOneOfRowid lines

-- the rowids of two lines are integers, that of the second the greater one
pub record IsBelow (x y : Line) : Type 0 where
  pub low : ℤ
  pub high : ℤ
  pub low_is : rowid x ≡ Int low
  pub high_is : rowid y ≡ Int high
  pub rises : low <ℤ high

-- the rowids of these lines are integers that rise
pub record Rise (lines : List Line) : Type 0 where
  pub ints : (i : ℕ) → i < length lines → IsInt (rowid (slice_index_or lines i []))
  pub up : (i : ℕ) → i + 1 < length lines
      → IsBelow (slice_index_or lines i []) (slice_index_or lines (i + 1) [])
