-- What stands together in the productions of a matter: families. A family is the documents of one parent.
use Rattle.std.specs.Prelude.{◌≡◌, ℕ, IsTrue}
use Rattle.std.specs.List.{Contains}
use Rattle.bp_core.specs.Sorted.{ascends}
use Rattle.bp_matter.specs.Matter.{Matter}
use Rattle.bp_matter.specs.declared.rows.DocRow.{DocRow}
use Rattle.bp_matter.specs.declared.rows.Item.{Item}
use Rattle.bp_matter.specs.declared.rows.ProductionRow.{ProductionRow}

-- this production of the matter has this item
pub record StandsIn (m : Matter) (row : ProductionRow) (i : Item) : Type 0 where
  pub kept : Contains m.productions row
  pub item : Contains row.production.items i

-- no two productions have an item of one family
abbrev pub FamiliesStandOnce : Matter → Type 0
FamiliesStandOnce m =
    (row other : ProductionRow) (i j : Item)
    → StandsIn m row i → StandsIn m other j → i.parent.0 ≡ j.parent.0 → row ≡ other

-- the production has an item of this document
pub record HasItemOf (row : ProductionRow) (doc : ℕ) : Type 0 where
  pub item : Item
  pub stands : Contains row.production.items item
  pub is : item.doc.0 ≡ doc

-- beside an item stand items of all documents of its family
abbrev pub FamiliesStandWhole : Matter → Type 0
FamiliesStandWhole m =
    (row : ProductionRow) (i : Item) (doc : DocRow)
    → StandsIn m row i → Contains m.docs doc → doc.parent.0 ≡ i.parent.0 → HasItemOf row doc.doc.0

-- the number of an item's document
abbrev pub item_doc : Item → ℕ
item_doc i = i.doc.0

-- the items of a production stand in ascending order of their documents, none of them twice
abbrev pub ItemsAscend : Matter → Type 0
ItemsAscend m =
    (row : ProductionRow)
    → Contains m.productions row → IsTrue (ascends item_doc 1 row.production.items)
