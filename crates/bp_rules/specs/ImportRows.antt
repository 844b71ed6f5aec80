-- The rows that a batch becomes. All are numbered on from those of the matter.
use Rattle.std.specs.Prelude.{ℕ, ◌+◌, List, [], ◌∷◌, ◌++◌, length, map, not, Option, Some, None, slice_index_or, if◌then◌else◌}
use Rattle.std.specs.List.{filter}
use Rattle.std.specs.Str.{bytes_eq}
use Rattle.bp_matter.specs.Batches.{BatchShown, pages_in}
use Rattle.bp_matter.specs.Matter.{Matter}
use Rattle.bp_matter.specs.ValidFields.{has_field}
use Rattle.bp_matter.specs.declared.batches.BatchDoc.{BatchDoc}
use Rattle.bp_matter.specs.declared.batches.BatchPage.{BatchPage}
use Rattle.bp_matter.specs.declared.rows.BatchRow.{BatchRow}
use Rattle.bp_matter.specs.declared.rows.DocRow.{DocRow}
use Rattle.bp_matter.specs.declared.rows.FieldRow.{FieldRow}
use Rattle.bp_matter.specs.declared.rows.PageRow.{PageRow}
use Rattle.bp_matter.specs.declared.rows.PageWords.{PageWords}
use Rattle.bp_rules.specs.declared.changes.ImportRows.{ImportRows}

-- those of these names that no field has
abbrev pub lacking : List FieldRow → List (List ℕ) → List (List ℕ)
lacking fields names = filter (λ name. not (has_field fields name)) names

-- fields of these names, numbered from n on
abbrev pub field_rows : ℕ → List (List ℕ) → List FieldRow
field_rows n [] = []
field_rows n (name ∷ names) = record { field = n; name = name } ∷ field_rows (n + 1) names

-- the first place of a name among these, which stand from place n on
abbrev pub place_of : ℕ → List ℕ → List (List ℕ) → Option ℕ
place_of n name [] = None
place_of n name (other ∷ names) =
    if bytes_eq other name then Some n else place_of (n + 1) name names

-- where each field of the matter stands among those of a batch
abbrev pub places_of : List (List ℕ) → List FieldRow → List (Option ℕ)
places_of names fields = map (λ row. place_of 0 row.name names) fields

-- the value at a place; empty for a field that the batch lacks
abbrev pub value_at : List (List ℕ) → Option ℕ → List ℕ
value_at values None = []
value_at values (Some n) = slice_index_or values n []

-- document n, of a batch that comes after so many documents. It keeps a value for each field of
-- the matter, in their order
abbrev pub doc_row : ℕ → ℕ → List (Option ℕ) → ℕ → BatchDoc → DocRow
doc_row before batch places n doc =
    record {
      doc = record { 0 = n };
      parent = record { 0 = before + doc.parent };
      pages = length doc.pages;
      batch = batch;
      id = doc.id;
      values = map (value_at doc.values) places;
    }

-- the documents, numbered from n on
abbrev pub doc_rows : ℕ → ℕ → List (Option ℕ) → ℕ → List BatchDoc → List DocRow
doc_rows before batch places n [] = []
doc_rows before batch places n (doc ∷ docs) =
    doc_row before batch places n doc ∷ doc_rows before batch places (n + 1) docs

-- page k of document n
abbrev pub page_row : ℕ → ℕ → BatchPage → PageRow
page_row n k p = record { doc = record { 0 = n }; page = record { 0 = k }; image = p.page }

-- the words of page k of document n
abbrev pub words_row : ℕ → ℕ → BatchPage → PageWords
words_row n k p = record { doc = record { 0 = n }; page = record { 0 = k }; words = p.words }

-- a row for each page of document n, numbered from k on
abbrev pub of_pages : {T : Type 0} → (ℕ → ℕ → BatchPage → T) → ℕ → ℕ → List BatchPage → List T
of_pages row n k [] = []
of_pages row n k (p ∷ ps) = row n k p ∷ of_pages row n (k + 1) ps

-- a row for each page of these documents, which are numbered from n on
abbrev pub of_docs : {T : Type 0} → (ℕ → ℕ → BatchPage → T) → ℕ → List BatchDoc → List T
of_docs row n [] = []
of_docs row n (doc ∷ docs) = of_pages row n 1 doc.pages ++ of_docs row (n + 1) docs

-- batch n
abbrev pub batch_row : ℕ → BatchShown → BatchRow
batch_row n b =
    record {
      num = n;
      digest = b.digest;
      documents = length b.docs;
      pages = pages_in b.docs;
      name = b.name;
    }

-- the fields that come new
abbrev pub new_fields : Matter → BatchShown → List FieldRow
new_fields m b = field_rows (length m.fields + 1) (lacking m.fields b.fields)

-- the rows that a batch becomes in a matter
abbrev pub import_rows : Matter → BatchShown → ImportRows
import_rows m b =
    let fields = new_fields m b in
    let places = places_of b.fields (m.fields ++ fields) in
    let documents = length m.docs in
    let batch = length m.batches + 1 in
    record {
      fields = fields;
      docs = doc_rows documents batch places (documents + 1) b.docs;
      pages = of_docs page_row (documents + 1) b.docs;
      batch = batch_row batch b;
      words = of_docs words_row (documents + 1) b.docs;
    }
