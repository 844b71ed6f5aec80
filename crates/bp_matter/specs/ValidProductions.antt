-- The productions of a valid matter.
use Rattle.std.specs.List.{list_all, list_any}
use Rattle.std.specs.Prelude.{Bool, IsTrue, List, None, Option, Some, [], false, if◌then◌else◌, is_none, length, nat_le, not, suc, true, zero, ℕ, ◌&&◌, ◌==◌, ◌∷◌}
use Rattle.std.specs.Str.{bytes_eq}
use Rattle.bp_matter.specs.Written.{production_written}
use Rattle.bp_matter.specs.Matter.{production_key}
use Rattle.bp_matter.specs.Texts.{is_column_name, is_id, is_volume}
use Rattle.bp_matter.specs.ValidFields.{has_field}
use Rattle.bp_matter.specs.ValidItems.{are_whole, item_fits}
use Rattle.bp_core.specs.Differing.{all_differ}
use Rattle.bp_matter.specs.ValidRows.{is_numbered, names}
use Rattle.bp_matter.specs.declared.rows.DocRow.{DocRow}
use Rattle.bp_matter.specs.declared.rows.FieldRow.{FieldRow}
use Rattle.bp_matter.specs.declared.rows.Item.{Item}
use Rattle.bp_matter.specs.declared.rows.PageRow.{PageRow}
use Rattle.bp_matter.specs.declared.rows.PrefixRow.{PrefixRow}
use Rattle.bp_matter.specs.declared.rows.ProductionRow.{ProductionRow}
use Rattle.bp_matter.specs.declared.rows.Request.{Request}
use Rattle.bp_matter.specs.declared.limits.TheConstants.{MAX_PRODUCTIONS}

-- the id of a production
abbrev pub production_id : ProductionRow → List ℕ
production_id row = row.production.request.id

-- the name of its volume
abbrev pub production_volume : ProductionRow → List ℕ
production_volume row = row.production.request.volume

-- a text by itself
abbrev pub itself : List ℕ → List ℕ
itself text = text

-- a chosen field is one of the matter, and none of the columns of a DAT file
abbrev pub field_chosen : List FieldRow → List ℕ → Bool
field_chosen fields name = has_field fields name && not (is_column_name name)

-- a request of a matter with these fields and so many documents
abbrev pub request_fits : List FieldRow → ℕ → Request → Bool
request_fits fields docs r =
    is_id r.id && is_volume r.volume && names docs r.from.0 && names docs r.to.0
    && list_all (field_chosen fields) r.fields && all_differ itself r.fields

-- a production of a matter with these fields, documents and pages
abbrev pub production_fits : List FieldRow → List DocRow → List PageRow → ProductionRow → Bool
production_fits fields docs pages row =
    request_fits fields (length docs) row.production.request
    && not (length row.production.items == 0)
    && list_all (item_fits (length fields) docs pages) row.production.items
    && are_whole docs 0 1 row.production.items

-- its prefix is kept, with its width
abbrev pub has_prefix : List PrefixRow → ProductionRow → Bool
has_prefix prefixes row =
    list_any (λ kept. bytes_eq kept.prefix.text row.production.request.prefix.text
    && (kept.prefix.width == row.production.request.prefix.width)) prefixes

-- the marks with one at this place; past the end nothing changes
abbrev pub mark : ℕ → List Bool → List Bool
mark n [] = []
mark zero (m ∷ marks) = true ∷ marks
mark (suc n) (m ∷ marks) = m ∷ mark n marks

-- there is a mark at this place
abbrev pub is_marked_at : ℕ → List Bool → Bool
is_marked_at n [] = false
is_marked_at zero (m ∷ marks) = m
is_marked_at (suc n) (m ∷ marks) = is_marked_at n marks

-- each document in turn has no mark yet, and gets one
abbrev pub marked_on : Option (List Bool) → List Item → Option (List Bool)
marked_on None items = None
marked_on (Some marks) [] = Some marks
marked_on (Some marks) (i ∷ items) =
    marked_on (if is_marked_at i.doc.0 marks then None else Some (mark i.doc.0 marks)) items

-- the same of the items of each production in turn
abbrev pub all_marked_on : Option (List Bool) → List ProductionRow → Option (List Bool)
all_marked_on marks [] = marks
all_marked_on marks (row ∷ rows) = all_marked_on (marked_on marks row.production.items) rows

-- no marks, for so many documents numbered from 1
abbrev pub blank : ℕ → List Bool
blank zero = false ∷ []
blank (suc n) = false ∷ blank n

-- no document stands in two items
abbrev pub stand_once : ℕ → List ProductionRow → Bool
stand_once docs productions = not (is_none (all_marked_on (Some (blank docs)) productions))

-- the productions of a matter
pub record ProductionFacts (fields : List FieldRow) (docs : List DocRow) (pages : List PageRow)
    (prefixes : List PrefixRow) (productions : List ProductionRow) : Type 0 where
  pub numbered : IsTrue (is_numbered production_key 1 productions)
  pub few : IsTrue (nat_le (length productions) MAX_PRODUCTIONS)
  pub ids_differ : IsTrue (all_differ production_id productions)
  pub volumes_differ : IsTrue (all_differ production_volume productions)
  pub fit : IsTrue (list_all (production_fits fields docs pages) productions)
  pub prefixes_kept : IsTrue (list_all (has_prefix prefixes) productions)
  pub families_once : IsTrue (stand_once (length docs) productions)
  pub written : IsTrue (list_all production_written productions)
