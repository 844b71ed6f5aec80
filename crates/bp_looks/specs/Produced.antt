-- In which production a document stands.
use Rattle.std.specs.Prelude.{◌≡◌, ℕ, ◌+◌, ◌<◌, ◌==◌, Bool, true, false, List, length, slice_index_or, Option, Some, None}
use Rattle.std.specs.List.{find, list_any}
use Rattle.std.specs.Option.{option_copied}
use denote.Ref.{Bor}
use Rattle.bp_matter.specs.LookUps.{of_row}
use Rattle.bp_matter.specs.Matter.{Matter}
use Rattle.bp_matter.specs.ValidProductions.{production_id}
use Rattle.bp_matter.specs.declared.rows.Item.{Item}
use Rattle.bp_matter.specs.declared.rows.ProductionRow.{ProductionRow}

-- an item is of the document of this number
abbrev pub item_is : ℕ → Item → Bool
item_is doc item = item.doc.0 == doc

-- a production has an item of the document
abbrev pub has_item_of : ℕ → ProductionRow → Bool
has_item_of doc row = list_any (item_is doc) row.production.items

-- the id of the first of these productions in which the document stands; in a valid matter it stands
-- in no second one
abbrev pub id_among : List ProductionRow → ℕ → Option (List ℕ)
id_among productions doc = of_row production_id (find (has_item_of doc) productions)

-- the id of the production in which a document stands, if it stands in one
abbrev pub produced_in : Matter → ℕ → Option (List ℕ)
produced_in m doc = id_among m.productions doc

-- ---- ids that were put at documents

-- the id that stands at a place, if one does
abbrev pub id_at : List (Option (Bor (List ℕ))) → ℕ → Option (List ℕ)
id_at ids k = option_copied (slice_index_or ids k None)

-- the id where the test passes
abbrev pub id_if : Bool → List ℕ → Option (List ℕ)
id_if true id = Some id
id_if false id = None

-- for so many documents, from one on, the id of the production in which each stands
pub record AreIds (m : Matter) (from count : ℕ) (ids : List (Option (Bor (List ℕ)))) : Type 0 where
  pub many : length ids ≡ count
  pub tell : (k : ℕ) → k < count → id_at ids k ≡ produced_in m (from + k)
