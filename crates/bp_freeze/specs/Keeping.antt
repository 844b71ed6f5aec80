-- Productions that a matter keeps: what a freeze adds to the matter, and what later calls and
-- imports do to the rows that volumes are made of.
use Rattle.std.specs.Prelude.{◌≡◌, ℕ, ◌+◌, List, [], ◌∷◌, ◌++◌, length, Option, Some, None}
use Rattle.bp_core.specs.Sorted.{put}
use Rattle.bp_matter.specs.Matter.{Matter, prefix_key}
use Rattle.bp_matter.specs.declared.rows.DocRow.{DocRow}
use Rattle.bp_matter.specs.declared.rows.FieldRow.{FieldRow}
use Rattle.bp_matter.specs.declared.rows.PageRow.{PageRow}
use Rattle.bp_matter.specs.declared.rows.PageWords.{PageWords}
use Rattle.bp_matter.specs.declared.rows.PrefixRow.{PrefixRow}
use Rattle.bp_matter.specs.declared.rows.Production.{Production}
use Rattle.bp_matter.specs.declared.rows.ProductionRow.{ProductionRow}
use Rattle.bp_freeze.specs.Freezing.{kept_production}
use Rattle.bp_freeze.specs.Refusals.{prefix_row}

-- the matter keeps the production, under its id
abbrev pub KeepsProduction : Matter → Production → Type 0
KeepsProduction m f = kept_production m.productions f.request.id ≡ Some f

-- ---- what a freeze adds

-- the number of a prefix that is kept; a new one comes behind the others
abbrev pub prefix_number : List PrefixRow → Option PrefixRow → ℕ
prefix_number prefixes None = length prefixes + 1
prefix_number prefixes (Some row) = row.num

-- the prefix of a production, whose next number is the one after its last
abbrev pub prefix_after : Production → List PrefixRow → PrefixRow
prefix_after f prefixes = record {
  num = prefix_number prefixes (prefix_row prefixes f.request.prefix.text);
  prefix = f.request.prefix;
  next = f.span.last + 1;
}

-- a production behind the others
abbrev pub production_after : Production → List ProductionRow → ProductionRow
production_after f productions = record { num = length productions + 1; production = f }

-- the matter with one production more, and with its numbers taken
abbrev pub with_production : Production → Matter → Matter
with_production f m =
    record m {
      prefixes = put prefix_key (prefix_after f m.prefixes) m.prefixes;
      productions = m.productions ++ production_after f m.productions ∷ [];
    }

-- the matter after a request that gave this production; where its id was kept nothing changes
abbrev pub after_freeze : Option Production → Production → Matter → Matter
after_freeze (Some kept) f m = m
after_freeze None f m = with_production f m

-- the matter after a production was frozen, or found
abbrev pub frozen_matter : Production → Matter → Matter
frozen_matter f m = after_freeze (kept_production m.productions f.request.id) f m

-- ---- what later calls and imports leave

-- fields, documents, pages and words were added behind those that were there, and whatever was
-- decided since
pub record GrowsTo (m n : Matter) : Type 0 where
  pub fields : List FieldRow
  pub docs : List DocRow
  pub pages : List PageRow
  pub words : List PageWords
  pub more_fields : n.fields ≡ m.fields ++ fields
  pub more_docs : n.docs ≡ m.docs ++ docs
  pub more_pages : n.pages ≡ m.pages ++ pages
  pub more_words : n.words ≡ m.words ++ words
