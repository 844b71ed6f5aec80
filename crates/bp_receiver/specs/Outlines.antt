-- A matter without what its pages and fields say: what two matters have in common that are equal but
-- for pixels, words and the values of fields.
use Rattle.std.specs.Prelude.{◌≡◌, [], map}
use Rattle.bp_rows.specs.Image.{Image}
use Rattle.bp_matter.specs.Matter.{Matter}
use Rattle.bp_matter.specs.declared.rows.BatchRow.{BatchRow}
use Rattle.bp_matter.specs.declared.rows.DocRow.{DocRow}
use Rattle.bp_matter.specs.declared.rows.PageRow.{PageRow}
use Rattle.bp_matter.specs.declared.rows.PageWords.{PageWords}

-- a page's sides, resolutions and unit, without its pixels
abbrev pub without_pixels : Image → Image
without_pixels p = record p { rows = [] }

-- a document without its values
abbrev pub doc_outline : DocRow → DocRow
doc_outline row = record row { values = [] }

-- a page of a document without its pixels
abbrev pub page_outline : PageRow → PageRow
page_outline row = record row { image = without_pixels row.image }

-- a page's words, without them
abbrev pub words_outline : PageWords → PageWords
words_outline row = record row { words = [] }

-- a batch without the digest of its files: what pages and fields say is in these files
abbrev pub batch_outline : BatchRow → BatchRow
batch_outline row = record row { digest = [] }

-- the matter without pixels, words and values
abbrev pub outline_of : Matter → Matter
outline_of m =
    record m {
      docs = map doc_outline m.docs;
      pages = map page_outline m.pages;
      batches = map batch_outline m.batches;
      words = map words_outline m.words;
    }

-- two matters are equal but for pixels, words and values, with equal sides, resolutions and units
abbrev pub SameOutline : Matter → Matter → Type 0
SameOutline m n = outline_of m ≡ outline_of n
