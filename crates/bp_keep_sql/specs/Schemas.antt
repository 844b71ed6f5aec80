-- The test of equality of the definitions of two databases. It compares the trees of numbers by
-- which the logic stores them, one to one.
use Rattle.std.specs.Prelude.{Bool, true, false, ◌&&◌, ◌==◌}
use base.Stored.{Gv, gnil, gnum, gcons}
use Rattle.sqlite_schema.specs.declared.schema.Schema.{Schema}
use Rattle.sqlite_schema.specs.contracts.schema.Schema.{the_row}

-- two trees of numbers are equal
abbrev pub same_tree : Gv → Gv → Bool
same_tree gnil gnil = true
same_tree gnil (gnum b) = false
same_tree gnil (gcons b d) = false
same_tree (gnum a) gnil = false
same_tree (gnum a) (gnum b) = a == b
same_tree (gnum a) (gcons b d) = false
same_tree (gcons a c) gnil = false
same_tree (gcons a c) (gnum b) = false
same_tree (gcons a c) (gcons b d) = same_tree a b && same_tree c d

-- two databases have the same tables, indexes and views
unfoldable pub same_schema : Schema → Schema → Bool
same_schema a b = same_tree (the_row.coded.code a) (the_row.coded.code b)
