-- What a freeze looks at: what was decided in the matter, and of each document of a range what was
-- decided of it and how many label numbers it takes. Pages, words and values aren't looked at.
use Rattle.std.specs.Prelude.{ℕ, ◌+◌, ◌-◌, Bool, List, ◌==◌, Option, Some, None, map}
use Rattle.std.specs.Prelude.{slice_index_or, if◌then◌else◌}
use Rattle.std.specs.List.{list_any, range_with_len}
use Rattle.bp_core.specs.Sorted.{find_key}
use Rattle.bp_core.specs.declared.review.Treatment.{Treatment}
use Rattle.bp_core.specs.declared.review.Treatment.TheVariants.{Produce}
use Rattle.bp_matter.specs.Confirming.{boxes_on, held_on}
use Rattle.bp_matter.specs.LookUps.{of_row}
use Rattle.bp_matter.specs.Matter.{Matter, call_key, entry_key}
use Rattle.bp_matter.specs.ValidFields.{field_name}
use Rattle.bp_matter.specs.ValidItems.{numbers_due}
use Rattle.bp_matter.specs.declared.rows.BoxRow.{BoxRow}
use Rattle.bp_matter.specs.declared.rows.CallRow.{CallRow}
use Rattle.bp_matter.specs.declared.rows.DocBox.{DocBox}
use Rattle.bp_matter.specs.declared.rows.DocEntry.{DocEntry}
use Rattle.bp_matter.specs.declared.rows.DocHeld.{DocHeld}
use Rattle.bp_matter.specs.declared.rows.Entry.{Entry}
use Rattle.bp_matter.specs.declared.rows.HeldRow.{HeldRow}
use Rattle.bp_matter.specs.declared.rows.PrefixRow.{PrefixRow}
use Rattle.bp_matter.specs.declared.rows.ProductionRow.{ProductionRow}
use Rattle.bp_matter.specs.declared.rows.Request.{Request}

-- what was decided in a matter, with the names of its fields and the parents of its documents, each
-- list in order
pub record Decisions : Type 0 where
  pub calls : List CallRow
  pub boxes : List DocBox
  pub held : List DocHeld
  pub entries : List DocEntry
  pub prefixes : List PrefixRow
  pub productions : List ProductionRow
  pub names : List (List ℕ)
  pub parents : List ℕ

-- the decisions of a matter
abbrev pub decisions_of : Matter → Decisions
decisions_of m = record {
  calls = m.calls;
  boxes = m.boxes;
  held = m.held;
  entries = m.entries;
  prefixes = m.prefixes;
  productions = m.productions;
  names = map field_name m.fields;
  parents = map (λ row. row.parent.0) m.docs;
}

-- a document of the range
pub record Seen : Type 0 where
  pub doc : ℕ
  pub parent : ℕ
  pub call : Option CallRow
  pub boxes : List BoxRow
  pub held : List HeldRow
  pub entry : Option Entry
  pub produced : Bool
  pub numbers : ℕ

-- some document of this family stands in a production
abbrev pub is_produced : List ProductionRow → ℕ → Bool
is_produced productions parent =
    list_any (λ row. list_any (λ item. item.parent.0 == parent) row.production.items) productions

-- the parent of a document: documents are numbered from 1
abbrev pub parent_of : Decisions → ℕ → ℕ
parent_of d doc = slice_index_or d.parents (doc - 1) 0

-- a document that takes so many label numbers, with what was decided of it
abbrev pub seen_by : Decisions → ℕ → ℕ → Seen
seen_by d numbers doc = record {
  doc = doc;
  parent = parent_of d doc;
  call = find_key call_key doc d.calls;
  boxes = map (λ box. box.row) (boxes_on doc d.boxes);
  held = map (λ row. row.row) (held_on doc d.held);
  entry = of_row (λ row. row.entry) (find_key entry_key doc d.entries);
  produced = is_produced d.productions (parent_of d doc);
  numbers = numbers;
}

-- how many pages the document of a number has: documents are numbered from 1, so 0 has none
abbrev pub page_count : Matter → ℕ → ℕ
page_count m doc =
    if doc == 0 then 0 else slice_index_or (map (λ row. row.pages) m.docs) (doc - 1) 0

-- an uncalled document counts as one to be produced
abbrev pub treatment_of : Option CallRow → Treatment
treatment_of None = Produce
treatment_of (Some row) = row.treatment

-- one number a page, or one where the document is withheld
abbrev pub numbers_of : Matter → ℕ → ℕ
numbers_of m doc = numbers_due (treatment_of (find_key call_key doc m.calls)) (page_count m doc)

-- a document as a freeze sees it
abbrev pub seen_in : Matter → ℕ → Seen
seen_in m doc = seen_by (decisions_of m) (numbers_of m doc) doc

-- so many documents, from this one on
abbrev pub seen_from : Matter → ℕ → ℕ → List Seen
seen_from m doc count = map (seen_in m) (range_with_len doc count)

-- the documents of the range
abbrev pub seen_of : Matter → Request → List Seen
seen_of m q = seen_from m q.from.0 (q.to.0 + 1 - q.from.0)
