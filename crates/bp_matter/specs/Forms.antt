-- What it means that the body of a kept row is of its form: it is the body of some row of its kind.
use Rattle.std.specs.Prelude.{◌≡◌, ℕ, ◌<◌, ◌↔◌, Bool, false, List, IsTrue}
use Rattle.bp_core.specs.declared.kept.Row.{Row}
use Rattle.bp_matter.specs.Bodies.{staff_body, field_body, doc_body, page_body, call_body, box_body, held_body, entry_body, prefix_body, production_body, batch_body, words_body}
use Rattle.bp_matter.specs.ReadRows.{is_formed}
use Rattle.bp_matter.specs.Written.{staff_written, field_written, doc_written, page_written, call_written, box_written, held_written, entry_written, prefix_written, production_written, batch_written, words_written}

-- the bytes are the body of a row that has a writing
abbrev pub IsBody : {V : Type 0} → (V → Bool) → (V → List ℕ) → List ℕ → Type 0
IsBody {V} written body bytes = (v : V) × IsTrue (written v) × (bytes ≡ body v)

-- of each kind, what is_formed says of a kept row; a row of no kind is of no form
pub record FormsOf (row : Row) : Type 0 where
  pub staff : row.kind ≡ 1 → IsTrue (is_formed row) ↔ IsBody staff_written staff_body row.body
  pub field : row.kind ≡ 2 → IsTrue (is_formed row) ↔ IsBody field_written field_body row.body
  pub doc : row.kind ≡ 3 → IsTrue (is_formed row) ↔ IsBody doc_written doc_body row.body
  pub page : row.kind ≡ 4 → IsTrue (is_formed row) ↔ IsBody page_written page_body row.body
  pub call : row.kind ≡ 5 → IsTrue (is_formed row) ↔ IsBody call_written call_body row.body
  pub box : row.kind ≡ 6 → IsTrue (is_formed row) ↔ IsBody box_written box_body row.body
  pub held : row.kind ≡ 7 → IsTrue (is_formed row) ↔ IsBody held_written held_body row.body
  pub entry : row.kind ≡ 8 → IsTrue (is_formed row) ↔ IsBody entry_written entry_body row.body
  pub prefix : row.kind ≡ 9 → IsTrue (is_formed row) ↔ IsBody prefix_written prefix_body row.body
  pub production : row.kind ≡ 10
      → IsTrue (is_formed row) ↔ IsBody production_written production_body row.body
  pub batch : row.kind ≡ 11 → IsTrue (is_formed row) ↔ IsBody batch_written batch_body row.body
  pub words : row.kind ≡ 12 → IsTrue (is_formed row) ↔ IsBody words_written words_body row.body
  pub no_kind : row.kind ≡ 0 → is_formed row ≡ false
  pub later_kind : 12 < row.kind → is_formed row ≡ false
