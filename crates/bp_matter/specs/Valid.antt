-- What holds of every matter: a record of facts for each list, and one of what lists ask of one
-- another. Each fact is
-- a test, and each record names the other lists that it speaks of.
use Rattle.std.specs.List.{list_all}
use Rattle.std.specs.Prelude.{IsTrue, length}
use Rattle.bp_matter.specs.Confirming.{ReviewFacts}
use Rattle.bp_matter.specs.Written.{batch_written, box_written, call_written, doc_written, entry_written, field_written, held_written, page_written, prefix_written, production_written, staff_written, words_written}
use Rattle.bp_matter.specs.Matter.{Matter}
use Rattle.bp_matter.specs.ValidBatches.{BatchFacts}
use Rattle.bp_matter.specs.ValidCalls.{CallFacts}
use Rattle.bp_matter.specs.ValidDocs.{DocFacts}
use Rattle.bp_matter.specs.ValidEntries.{EntryFacts}
use Rattle.bp_matter.specs.ValidFields.{FieldFacts}
use Rattle.bp_matter.specs.ValidMarks.{BoxFacts, HeldFacts}
use Rattle.bp_matter.specs.ValidPages.{PageFacts}
use Rattle.bp_matter.specs.ValidPrefixes.{PrefixFacts}
use Rattle.bp_matter.specs.ValidProductions.{ProductionFacts}
use Rattle.bp_matter.specs.ValidStaff.{StaffFacts}
use Rattle.bp_matter.specs.ValidWords.{WordFacts}

-- all that holds of a matter
pub record IsValid (m : Matter) : Type 0 where
  pub staff : StaffFacts m.staff
  pub fields : FieldFacts m.fields
  pub docs : DocFacts (length m.fields) (length m.batches) m.docs
  pub pages : PageFacts m.docs m.pages
  pub calls : CallFacts (length m.staff) (length m.docs) m.calls
  pub boxes : BoxFacts m.pages m.boxes
  pub held : HeldFacts (length m.fields) (length m.docs) m.held
  pub entries : EntryFacts (length m.docs) m.entries
  pub prefixes : PrefixFacts m.productions m.prefixes
  pub productions : ProductionFacts m.fields m.docs m.pages m.prefixes m.productions
  pub batches : BatchFacts m.batches
  pub words : WordFacts m.docs m.pages m.words
  pub review : ReviewFacts m.staff m.calls m.boxes m.held m.entries

-- each row has a writing
pub record AreWritten (m : Matter) : Type 0 where
  pub staff : IsTrue (list_all staff_written m.staff)
  pub fields : IsTrue (list_all field_written m.fields)
  pub docs : IsTrue (list_all doc_written m.docs)
  pub pages : IsTrue (list_all page_written m.pages)
  pub calls : IsTrue (list_all call_written m.calls)
  pub boxes : IsTrue (list_all box_written m.boxes)
  pub held : IsTrue (list_all held_written m.held)
  pub entries : IsTrue (list_all entry_written m.entries)
  pub prefixes : IsTrue (list_all prefix_written m.prefixes)
  pub productions : IsTrue (list_all production_written m.productions)
  pub batches : IsTrue (list_all batch_written m.batches)
  pub words : IsTrue (list_all words_written m.words)
