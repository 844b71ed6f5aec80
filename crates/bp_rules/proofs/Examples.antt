-- Worked examples of the definitions in specs/, each run by the check: a small matter, a batch that comes in, and what is refused.
use Rattle.std.proofs.Common.{◌≡◌, ℕ, List, [], ◌∷◌, Some, None, refl, replicate}
use Rattle.std.specs.Prelude.{codes, Ok, Err}
use Rattle.bp_core.specs.Rules.{bare_rule}
use Rattle.bp_core.specs.declared.rules.RuleKind.TheVariants.{BatchDiffers}
use Rattle.bp_rows.specs.Image.{white_image}
use Rattle.bp_rows.specs.declared.resolution.Unit.TheVariants.{Inch}
use Rattle.bp_matter.specs.Batches.{BatchShown}
use Rattle.bp_matter.specs.Matter.{Matter}
use Rattle.bp_matter.specs.declared.batches.BatchDoc.{BatchDoc}
use Rattle.bp_matter.specs.declared.batches.BatchPage.{BatchPage}
use Rattle.bp_matter.specs.declared.rows.BatchRow.{BatchRow}
use Rattle.bp_matter.specs.declared.rows.FieldRow.{FieldRow}
use Rattle.bp_rules.specs.Beginning.{begun}
use Rattle.bp_rules.specs.Changes.{after}
use Rattle.bp_rules.specs.ImportRows.{doc_rows, field_rows, import_rows, lacking, of_docs, page_row, places_of}
use Rattle.bp_rules.specs.Importing.{import_of}
use Rattle.bp_rules.specs.Limits.{first_passed, full_rule, limit_passed}
use Rattle.bp_rules.specs.declared.changes.Edit.TheVariants.{Import, Nothing}

-- ---- the rows of a batch

abbrev author : FieldRow
author = record { field = 1; name = codes "AUTHOR" }

abbrev page : ℕ → ℕ → BatchPage
page width height = record { page = white_image width height (record { num = 300; den = 1 }) (record { num = 300; den = 1 }) Inch; words = [] }

-- two documents of one family, of two pages and one
abbrev letter : BatchDoc
letter = record { id = codes "A-1"; parent = 1; values = codes "2026" ∷ codes "Ann" ∷ []; pages = page 8 1 ∷ page 8 2 ∷ [] }

abbrev enclosure : BatchDoc
enclosure = record { id = codes "A-3"; parent = 1; values = codes "2025" ∷ codes "" ∷ []; pages = page 8 3 ∷ [] }

abbrev batch : BatchShown
batch = record { name = codes "B1"; digest = replicate 32 7; fields = codes "DATE" ∷ codes "AUTHOR" ∷ []; docs = letter ∷ enclosure ∷ [] }

-- only fields that the matter lacks come new, numbered on
fields_that_come : field_rows 2 (lacking (author ∷ []) batch.fields) ≡ record { field = 2; name = codes "DATE" } ∷ []
fields_that_come = refl

-- the matter's first field is the batch's second; a field that the batch lacks has no place
places : places_of batch.fields (author ∷ record { field = 2; name = codes "DATE" } ∷ record { field = 3; name = codes "CC" } ∷ []) ≡ Some 1 ∷ Some 0 ∷ None ∷ []
places = refl

-- documents are numbered on after four others, and so are their parents; the values stand in the order of the matter's fields,
-- empty where the batch lacks one
documents : doc_rows 4 2 (Some 1 ∷ Some 0 ∷ None ∷ []) 5 (letter ∷ enclosure ∷ [])
    ≡ record { doc = record { 0 = 5 }; parent = record { 0 = 5 }; pages = 2; batch = 2; id = codes "A-1"; values = codes "Ann" ∷ codes "2026" ∷ [] ∷ [] }
    ∷ record { doc = record { 0 = 6 }; parent = record { 0 = 5 }; pages = 1; batch = 2; id = codes "A-3"; values = [] ∷ codes "2025" ∷ [] ∷ [] } ∷ []
documents = refl

-- pages are numbered from 1 in each document
pages_that_come : of_docs page_row 5 (letter ∷ enclosure ∷ [])
    ≡ record { doc = record { 0 = 5 }; page = record { 0 = 1 }; image = (page 8 1).page } ∷ record { doc = record { 0 = 5 }; page = record { 0 = 2 }; image = (page 8 2).page }
    ∷ record { doc = record { 0 = 6 }; page = record { 0 = 1 }; image = (page 8 3).page } ∷ []
pages_that_come = refl

-- ---- one batch after another

abbrev new_matter : Matter
new_matter = begun (replicate 32 9)

abbrev none : List BatchDoc
none = []

-- a batch without fields and documents leaves a row of itself
abbrev empty_batch : BatchShown
empty_batch = record { name = codes "B0"; digest = replicate 32 7; fields = []; docs = [] }

abbrev after_empty : Matter
after_empty = record new_matter { batches = record { num = 1; digest = replicate 32 7; documents = 0; pages = 0; name = codes "B0" } ∷ [] }

empty_made : after new_matter (Import (import_rows new_matter empty_batch)) ≡ after_empty
empty_made = refl

-- the same again: the same numbers, and nothing is changed
repeated_batch : import_of after_empty empty_batch ≡ Ok (record { change = Nothing; documents = 0; pages = 0 })
unfolding import_of
repeated_batch = refl

-- other content under the name
other_content : import_of after_empty (record empty_batch { digest = replicate 32 8 }) ≡ Err (bare_rule BatchDiffers)
unfolding import_of
other_content = refl

-- ---- limits

-- 1,001 pages of the largest size
too_many_pixels : limit_passed new_matter (record empty_batch { docs = record letter { pages = replicate 1001 (page 20000 10000) } ∷ [] }) ≡ Some (full_rule 3 200200000000)
too_many_pixels = refl

-- 20 of them have as many pixels as may have strips of any length
most_free_pixels : limit_passed new_matter (record empty_batch { docs = record letter { pages = replicate 20 (page 20000 10000) } ∷ [] }) ≡ None
most_free_pixels = refl

most_of_all : first_passed 10000 20000 200000000000 2000000000 64 1000 ≡ None
most_of_all = refl

-- the bytes of strips are counted of more than 4,000,000,000 pixels alone
too_many_strip_bytes : first_passed 1 21 4200000000 2000000001 0 1 ≡ Some (full_rule 8 2000000001)
too_many_strip_bytes = refl

strips_of_free_pixels : first_passed 1 20 4000000000 2000000001 0 1 ≡ None
strips_of_free_pixels = refl

-- where several limits are passed: documents, pages, pixels, bytes of strips, fields, batches
documents_first : first_passed 10001 20001 200000000001 2000000001 65 1001 ≡ Some (full_rule 1 10001)
documents_first = refl

then_pages : first_passed 10000 20001 200000000001 2000000001 65 1001 ≡ Some (full_rule 2 20001)
then_pages = refl

then_pixels : first_passed 10000 20000 200000000001 2000000001 65 1001 ≡ Some (full_rule 3 200000000001)
then_pixels = refl

then_strip_bytes : first_passed 10000 20000 200000000000 2000000001 65 1001 ≡ Some (full_rule 8 2000000001)
then_strip_bytes = refl

then_fields : first_passed 10000 20000 200000000000 2000000000 65 1001 ≡ Some (full_rule 4 65)
then_fields = refl

then_batches : first_passed 10000 20000 200000000000 2000000000 64 1001 ≡ Some (full_rule 6 1001)
then_batches = refl

too_many_documents : limit_passed (record new_matter { docs = replicate 10000 (record { doc = record { 0 = 1 }; parent = record { 0 = 1 }; pages = 1; batch = 1; id = []; values = [] }) }) batch ≡ Some (full_rule 1 10002)
too_many_documents = refl

abbrev old_batch : BatchRow
old_batch = record { num = 1; digest = []; documents = 0; pages = 0; name = codes "A" }

too_many_batches : limit_passed (record new_matter { batches = replicate 1000 old_batch }) empty_batch ≡ Some (full_rule 6 1001)
too_many_batches = refl

last_batch : limit_passed (record new_matter { batches = replicate 999 old_batch }) empty_batch ≡ None
last_batch = refl

too_many_fields : limit_passed (record new_matter { fields = replicate 64 author }) batch ≡ Some (full_rule 4 65)
too_many_fields = refl

-- a name that is kept comes before a limit
kept_name_first : import_of (record new_matter { batches = replicate 1000 (record old_batch { name = codes "B0" }) }) empty_batch ≡ Err (bare_rule BatchDiffers)
unfolding import_of
kept_name_first = refl
