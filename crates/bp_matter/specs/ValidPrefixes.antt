-- The prefixes of labels of a valid matter, and the numbers that stand under them.
use Rattle.std.specs.List.{list_all, list_any}
use Rattle.std.specs.Prelude.{Bool, IsTrue, List, None, Option, Some, [], false, if◌then◌else◌, nat_le, ℕ, ◌&&◌, ◌+◌, ◌==◌, ◌∷◌}
use Rattle.std.specs.Str.{bytes_eq}
use Rattle.bp_bates.specs.Prefixes.{is_good_prefix}
use Rattle.bp_bates.specs.Spans.{largest_of}
use Rattle.bp_matter.specs.Written.{prefix_written}
use Rattle.bp_matter.specs.Matter.{prefix_key}
use Rattle.bp_core.specs.Differing.{all_differ}
use Rattle.bp_matter.specs.ValidRows.{is_numbered}
use Rattle.bp_matter.specs.declared.rows.Item.{Item}
use Rattle.bp_matter.specs.declared.rows.PrefixRow.{PrefixRow}
use Rattle.bp_matter.specs.declared.rows.ProductionRow.{ProductionRow}

-- the text of a prefix
abbrev pub prefix_text : PrefixRow → List ℕ
prefix_text row = row.prefix.text

-- the last number taken is a number of the width
abbrev pub prefix_fits : PrefixRow → Bool
prefix_fits row =
    is_good_prefix row.prefix.text row.prefix.width && (nat_le 1 row.next
    && nat_le row.next (largest_of row.prefix.width + 1))

-- a production has the prefix of this text
abbrev pub is_under : List ℕ → ProductionRow → Bool
is_under text row = bytes_eq row.production.request.prefix.text text

-- The number after the spans of these items, where they follow one another from n on.
abbrev pub after_items : ℕ → List Item → Option ℕ
after_items n [] = Some n
after_items n (i ∷ items) =
    if (i.span.first == n) && nat_le n i.span.last then after_items (i.span.last + 1) items
    else None

-- The same of all productions under a prefix, in order.
abbrev pub after_productions : List ℕ → Option ℕ → List ProductionRow → Option ℕ
after_productions text n [] = n
after_productions text None (row ∷ rows) = None
after_productions text (Some n) (row ∷ rows) =
    after_productions text (if is_under text row then after_items n row.production.items
    else Some n) rows

-- that number was reached
abbrev pub was_reached : Option ℕ → ℕ → Bool
was_reached None n = false
was_reached (Some m) n = m == n

-- the number after these items, behind what was reached of their prefix: it begins with 1
abbrev pub after_reached : Option (Option ℕ) → List Item → Option ℕ
after_reached None items = after_items 1 items
after_reached (Some None) items = None
after_reached (Some (Some n)) items = after_items n items

-- a production was there, and this number was reached
abbrev pub is_reached : Option (Option ℕ) → ℕ → Bool
is_reached None n = false
is_reached (Some number) n = was_reached number n

-- the spans under a prefix are the numbers from 1 up to the next
abbrev pub spans_reach : List ProductionRow → PrefixRow → Bool
spans_reach productions row =
    was_reached (after_productions row.prefix.text (Some 1) productions) row.next

-- some production has the prefix
abbrev pub is_used : List ProductionRow → PrefixRow → Bool
is_used productions row = list_any (is_under row.prefix.text) productions

-- the prefixes of a matter with these productions
pub record PrefixFacts (productions : List ProductionRow) (prefixes : List PrefixRow) : Type 0 where
  pub numbered : IsTrue (is_numbered prefix_key 1 prefixes)
  pub fit : IsTrue (list_all prefix_fits prefixes)
  pub used : IsTrue (list_all (is_used productions) prefixes)
  pub texts_differ : IsTrue (all_differ prefix_text prefixes)
  pub spans_reach : IsTrue (list_all (spans_reach productions) prefixes)
  pub written : IsTrue (list_all prefix_written prefixes)
