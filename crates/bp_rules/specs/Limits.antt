-- The limits of a matter that a batch may pass.
use Rattle.std.specs.Prelude.{◌≤◌, ℕ, ◌+◌, ◌*◌, IsTrue, List, [], ◌∷◌, length, nat_lt, not, Option, Some, None, if◌then◌else◌}
use Rattle.bp_core.specs.Rules.{bare_rule}
use Rattle.bp_core.specs.declared.rules.Rule.{Rule}
use Rattle.bp_core.specs.declared.rules.RuleKind.TheVariants.{MatterFull}
use Rattle.bp_matter.specs.Batches.{BatchShown, pages_in}
use Rattle.bp_matter.specs.Matter.{Matter}
use Rattle.bp_matter.specs.ValidPages.{pixels_of, strip_bytes_of, strip_size, strips_fit}
use Rattle.bp_matter.specs.declared.batches.BatchDoc.{BatchDoc}
use Rattle.bp_matter.specs.declared.batches.BatchPage.{BatchPage}
use Rattle.bp_matter.specs.declared.limits.TheConstants.{MAX_BATCHES, MAX_DOCUMENTS, MAX_FIELDS, MAX_PAGES, MAX_PIXELS}
use Rattle.bp_rules.specs.ImportRows.{lacking}

-- the number of the limit of documents
abbrev pub documents_limit : ℕ
documents_limit = 1

-- the number of the limit of pages
abbrev pub pages_limit : ℕ
pages_limit = 2

-- the number of the limit of pixels
abbrev pub pixels_limit : ℕ
pixels_limit = 3

-- the number of the limit of the bytes of strips
abbrev pub strip_bytes_limit : ℕ
strip_bytes_limit = 8

-- the number of the limit of fields
abbrev pub fields_limit : ℕ
fields_limit = 4

-- the number of the limit of batches
abbrev pub batches_limit : ℕ
batches_limit = 6

-- the matter would be full: which limit is passed, and the number that it would reach
abbrev pub full_rule : ℕ → ℕ → Rule
full_rule which reached = record (bare_rule MatterFull) { a = which; b = reached }

-- the pixels of pages
abbrev pub pixels_on : List BatchPage → ℕ
pixels_on [] = 0
pixels_on (p ∷ ps) = p.page.width * p.page.height + pixels_on ps

-- the pixels of all pages of documents
abbrev pub pixels_in : List BatchDoc → ℕ
pixels_in [] = 0
pixels_in (doc ∷ docs) = pixels_on doc.pages + pixels_in docs

-- the bytes of the strips of pages
abbrev pub strip_bytes_on : List BatchPage → ℕ
strip_bytes_on [] = 0
strip_bytes_on (p ∷ ps) = strip_size p.page + strip_bytes_on ps

-- the bytes of the strips of all pages of documents
abbrev pub strip_bytes_in : List BatchDoc → ℕ
strip_bytes_in [] = 0
strip_bytes_in (doc ∷ docs) = strip_bytes_on doc.pages + strip_bytes_in docs

-- how many documents the matter would have with the batch
abbrev pub documents_after : Matter → BatchShown → ℕ
documents_after m b = length m.docs + length b.docs

-- how many pages the matter would have with the batch
abbrev pub pages_after : Matter → BatchShown → ℕ
pages_after m b = length m.pages + pages_in b.docs

-- how many pixels its pages would have together
abbrev pub pixels_after : Matter → BatchShown → ℕ
pixels_after m b = pixels_of m.pages + pixels_in b.docs

-- how many bytes their strips would have together
abbrev pub strip_bytes_after : Matter → BatchShown → ℕ
strip_bytes_after m b = strip_bytes_of m.pages + strip_bytes_in b.docs

-- how many fields it would have: its own, and those of the batch that it lacks
abbrev pub fields_after : Matter → BatchShown → ℕ
fields_after m b = length m.fields + length (lacking m.fields b.fields)

-- how many batches it would have
abbrev pub batches_after : Matter → ℕ
batches_after m = length m.batches + 1

-- the first limit that is passed by so many documents, pages, pixels, bytes of strips, fields and
-- batches
abbrev pub first_passed : ℕ → ℕ → ℕ → ℕ → ℕ → ℕ → Option Rule
first_passed documents pages pixels strips fields batches =
    if nat_lt MAX_DOCUMENTS documents then Some (full_rule documents_limit documents)
    else (if nat_lt MAX_PAGES pages then Some (full_rule pages_limit pages)
    else (if nat_lt MAX_PIXELS pixels then Some (full_rule pixels_limit pixels)
    else (if not (strips_fit pixels strips) then Some (full_rule strip_bytes_limit strips)
    else (if nat_lt MAX_FIELDS fields then Some (full_rule fields_limit fields)
    else (if nat_lt MAX_BATCHES batches then Some (full_rule batches_limit batches)
    else None)))))

-- the first limit that the batch would pass, if it passes one
abbrev pub limit_passed : Matter → BatchShown → Option Rule
limit_passed m b =
    first_passed (documents_after m b) (pages_after m b) (pixels_after m b) (strip_bytes_after m b)
    (fields_after m b) (batches_after m)

-- no limit is passed
pub record WithinLimits (m : Matter) (b : BatchShown) : Type 0 where
  pub documents : documents_after m b ≤ MAX_DOCUMENTS
  pub pages : pages_after m b ≤ MAX_PAGES
  pub pixels : pixels_after m b ≤ MAX_PIXELS
  pub strips : IsTrue (strips_fit (pixels_after m b) (strip_bytes_after m b))
  pub fields : fields_after m b ≤ MAX_FIELDS
  pub batches : batches_after m ≤ MAX_BATCHES
