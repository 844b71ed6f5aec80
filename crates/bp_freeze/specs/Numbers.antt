-- The label numbers (Bates numbers) that the productions of a matter have taken under each prefix.
use Rattle.std.specs.Prelude.{◌≡◌, ℕ, ◌+◌, ◌-◌, IsTrue, List, None, map, not}
use Rattle.std.specs.List.{Contains, filter, flat_map, list_any, range_with_len}
use Rattle.bp_bates.specs.Labels.{bates_label}
use Rattle.bp_matter.specs.Matter.{Matter}
use Rattle.bp_matter.specs.ValidPrefixes.{is_under}
use Rattle.bp_matter.specs.declared.rows.Item.{Item}
use Rattle.bp_matter.specs.declared.rows.PrefixRow.{PrefixRow}
use Rattle.bp_matter.specs.declared.rows.ProductionRow.{ProductionRow}
use Rattle.bp_freeze.specs.Refusals.{prefix_row}

-- the numbers of an item, from the first of its span to the last
abbrev pub item_numbers : Item → List ℕ
item_numbers i = range_with_len i.span.first (i.span.last + 1 - i.span.first)

-- those of the items of a production, in order
abbrev pub production_numbers : ProductionRow → List ℕ
production_numbers row = flat_map item_numbers row.production.items

-- those of all productions with a prefix of this text, in order
abbrev pub numbers_under : List ℕ → List ProductionRow → List ℕ
numbers_under text productions = flat_map production_numbers (filter (is_under text) productions)

-- the labels of a production, in order
abbrev pub production_labels : ProductionRow → List (List ℕ)
production_labels row =
    map (bates_label row.production.request.prefix.text row.production.request.prefix.width)
    (production_numbers row)

-- those of all productions, in order
abbrev pub all_labels : List ProductionRow → List (List ℕ)
all_labels productions = flat_map production_labels productions

-- under each prefix that is kept the numbers are 1 up to the next, none missing and none twice;
-- no production has a prefix of another text
pub record AreTakenOnce (m : Matter) : Type 0 where
  pub kept : (row : PrefixRow) → Contains m.prefixes row
      → numbers_under row.prefix.text m.productions ≡ range_with_len 1 (row.next - 1)
  pub no_other : (text : List ℕ) → prefix_row m.prefixes text ≡ None
      → IsTrue (not (list_any (is_under text) m.productions))
