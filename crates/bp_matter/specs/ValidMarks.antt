-- The boxes and the held fields of the documents of a valid matter.
use Rattle.std.specs.List.{list_all}
use Rattle.std.specs.Prelude.{Bool, IsTrue, List, ℕ, ◌&&◌}
use Rattle.bp_core.specs.Sorted.{ascends}
use Rattle.bp_matter.specs.Written.{box_written, held_written}
use Rattle.bp_matter.specs.Matter.{box_key, held_key}
use Rattle.bp_matter.specs.ValidPages.{inside_page, page_in}
use Rattle.bp_matter.specs.ValidRows.{names}
use Rattle.bp_matter.specs.declared.rows.BoxRow.{BoxRow}
use Rattle.bp_matter.specs.declared.rows.DocBox.{DocBox}
use Rattle.bp_matter.specs.declared.rows.DocHeld.{DocHeld}
use Rattle.bp_matter.specs.declared.rows.PageRow.{PageRow}
use Rattle.bp_matter.specs.declared.limits.TheConstants.{MAX_BOX}

-- a box lies inside a page of that document, and its number is 1 to 1,000
abbrev pub box_fits : List PageRow → ℕ → BoxRow → Bool
box_fits pages doc row =
    names MAX_BOX row.num && inside_page (page_in pages doc row.page.0) row.rect

-- the same of a box with its document
abbrev pub doc_box_fits : List PageRow → DocBox → Bool
doc_box_fits pages box = box_fits pages box.doc.0 box.row

-- a held field is one of so many, of one of so many documents
abbrev pub doc_held_fits : ℕ → ℕ → DocHeld → Bool
doc_held_fits fields docs held = names docs held.doc.0 && names fields held.row.field

-- the boxes of a matter with these pages
pub record BoxFacts (pages : List PageRow) (boxes : List DocBox) : Type 0 where
  pub ascend : IsTrue (ascends box_key 0 boxes)
  pub fit : IsTrue (list_all (doc_box_fits pages) boxes)
  pub written : IsTrue (list_all box_written boxes)

-- the held fields of a matter with so many fields and documents
pub record HeldFacts (fields docs : ℕ) (held : List DocHeld) : Type 0 where
  pub ascend : IsTrue (ascends held_key 0 held)
  pub fit : IsTrue (list_all (doc_held_fits fields docs) held)
  pub written : IsTrue (list_all held_written held)
