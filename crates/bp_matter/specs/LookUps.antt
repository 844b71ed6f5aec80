-- Looking things up in a matter.
use Rattle.std.specs.Prelude.{ℕ, List, [], ◌∷◌, Option, Some, None}
use Rattle.std.specs.List.{find}
use Rattle.std.specs.Str.{bytes_eq}
use Rattle.bp_core.specs.Sorted.{find_key, two_keys}
use Rattle.bp_matter.specs.Matter.{Matter, doc_key, call_key, page_key, words_key, entry_key}
use Rattle.bp_matter.specs.declared.rows.State.{State}
use Rattle.bp_matter.specs.declared.rows.State.TheVariants.{Uncalled}
use Rattle.bp_matter.specs.declared.rows.StaffRow.{StaffRow}
use Rattle.bp_matter.specs.declared.rows.FieldRow.{FieldRow}
use Rattle.bp_matter.specs.declared.rows.DocRow.{DocRow}
use Rattle.bp_matter.specs.declared.rows.PageRow.{PageRow}
use Rattle.bp_matter.specs.declared.rows.CallRow.{CallRow}
use Rattle.bp_matter.specs.declared.rows.DocEntry.{DocEntry}
use Rattle.bp_matter.specs.declared.rows.PrefixRow.{PrefixRow}
use Rattle.bp_matter.specs.declared.rows.ProductionRow.{ProductionRow}
use Rattle.bp_matter.specs.declared.rows.PageWords.{PageWords}

-- a value of a row that may be there
abbrev pub of_row : {R V : Type 0} → (R → V) → Option R → Option V
of_row value None = None
of_row value (Some row) = Some (value row)

-- the production of an id
abbrev pub production_with : List ℕ → Matter → Option ProductionRow
production_with id m = find (λ row. bytes_eq row.production.request.id id) m.productions

-- the member of the staff with a digest
abbrev pub staff_with : List ℕ → Matter → Option StaffRow
staff_with digest m = find (λ row. bytes_eq row.digest digest) m.staff

-- the field of a name
abbrev pub field_with : List ℕ → Matter → Option FieldRow
field_with name m = find (λ row. bytes_eq row.name name) m.fields

-- the prefix of a text
abbrev pub prefix_with : List ℕ → Matter → Option PrefixRow
prefix_with text m = find (λ row. bytes_eq row.prefix.text text) m.prefixes

-- a document, its call, its log entry; a page of it, and the words of that page
abbrev pub doc_with : ℕ → Matter → Option DocRow
doc_with doc m = find_key doc_key doc m.docs

-- the call of a document
abbrev pub call_with : ℕ → Matter → Option CallRow
call_with doc m = find_key call_key doc m.calls

-- the log entry of a document
abbrev pub entry_with : ℕ → Matter → Option DocEntry
entry_with doc m = find_key entry_key doc m.entries

-- a page of a document
abbrev pub page_with : ℕ → ℕ → Matter → Option PageRow
page_with doc page m = find_key page_key (two_keys doc page) m.pages

-- the words of a page
abbrev pub words_with : ℕ → ℕ → Matter → Option PageWords
words_with doc page m = find_key words_key (two_keys doc page) m.words

-- the digest of staff 1, who is a lead
abbrev pub lead_digest_in : List StaffRow → List ℕ
lead_digest_in [] = []
lead_digest_in (row ∷ rows) = row.digest

-- how far a document of this call has come
abbrev pub called_state : Option CallRow → State
called_state None = Uncalled
called_state (Some row) = row.state

-- how far a document has come, if there is one of that number
abbrev pub state_of_doc : ℕ → Matter → Option State
state_of_doc doc m = of_row (λ row. called_state (call_with doc m)) (doc_with doc m)
