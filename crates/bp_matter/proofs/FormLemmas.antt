-- Lemmas of forms: a body is read exactly where it is the body of some row of its kind.
use Rattle.std.proofs.Common.{◌≡◌, ℕ, eqb, Bool, false, List, Option, Some, None, refl, ap, ◌∙◌, arith}
use Rattle.std.specs.Prelude.{IsTrue, ◌↔◌, is_some}
use Rattle.std.proofs.lemmas.Bool.{and_parts, and_from, ne_eqb}
use Rattle.bp_core.specs.declared.kept.Row.{Row}
use Rattle.bp_matter.specs.Bodies.{staff_body, field_body, doc_body, page_body, call_body, box_body, held_body, entry_body, prefix_body, production_body, batch_body, words_body}
use Rattle.bp_matter.specs.Forms.{IsBody, FormsOf}
use Rattle.bp_matter.specs.ReadRows.{whole}
use Rattle.bp_matter.specs.Reading.{staff_at, field_at, doc_at, page_at, call_at, box_at, held_at, log_entry_at, prefix_row_at, production_at, batch_at, words_at}
use Rattle.bp_matter.specs.Written.{is_word, box_row_written, staff_written, field_written, doc_written, page_written, call_written, box_written, held_written, entry_written, prefix_written, production_written, batch_written, words_written}
use Rattle.bp_matter.proofs.CodecLemmas.{IsBytes, Whole}
use Rattle.bp_matter.proofs.ImageLemmas.{StripLaw}
use Rattle.bp_matter.proofs.BodyLemmas.{staff_codec, field_codec, doc_codec, page_codec, call_codec, box_codec, held_codec, entry_codec, prefix_row_codec, production_codec, batch_codec, words_codec}
use Rattle.bp_matter.proofs.RowLemmas.{whole_codec}

some_there : {V : Type 0} (o : Option V) → IsTrue (is_some o) → (v : V) × (o ≡ Some v)
some_there None h = absurd cc
some_there (Some v) h = (v, refl)

-- from the law of a body of the rows of one key: a row with another key has the same body as one with this key
formed_by : {V : Type 0} {P : V → Type 0} {write : V → List ℕ} {read : List ℕ → Option V} (written : V → Bool) → Whole P write read → ((v : V) → P v → IsTrue (written v))
    → ((v : V) → IsTrue (written v) → (w : V) × P w × (write v ≡ write w)) → (bytes : List ℕ) → IsBytes bytes → IsTrue (is_some (read bytes)) ↔ IsBody written write bytes
formed_by {V} {P} {write} {read} written one fits keyed bytes h = (
  λ formed.
      let found = some_there (read bytes) formed in
      let took = one.takes bytes found.0 h found.1 in
      (found.0, fits found.0 took.0, took.1),
  λ body.
      let moved = keyed body.0 body.1 in
      let read_again : read bytes ≡ Some moved.0 = ap read (body.2 ∙ moved.2) ∙ one.again moved.0 moved.1 in
      ap is_some read_again,
)

pub staff_form : (k1 : ℕ) → IsTrue (is_word k1) → (bytes : List ℕ) → IsBytes bytes → IsTrue (is_some (whole (staff_at k1 bytes))) ↔ IsBody staff_written staff_body bytes
staff_form k1 w1 bytes h =
    formed_by staff_written (whole_codec (staff_codec k1 w1)) (λ v p. p.0) (λ v w.
    (record v { staff = record { 0 = k1 } }, (and_from (is_word k1) _ w1 (and_parts (is_word v.staff.0) _ w).1, refl), refl)) bytes h

pub field_form : (k1 : ℕ) → IsTrue (is_word k1) → (bytes : List ℕ) → IsBytes bytes → IsTrue (is_some (whole (field_at k1 bytes))) ↔ IsBody field_written field_body bytes
field_form k1 w1 bytes h =
    formed_by field_written (whole_codec (field_codec k1 w1)) (λ v p. p.0) (λ v w.
    (record v { field = k1 }, (and_from (is_word k1) _ w1 (and_parts (is_word v.field) _ w).1, refl), refl)) bytes h

pub doc_form : (k1 : ℕ) → IsTrue (is_word k1) → (bytes : List ℕ) → IsBytes bytes → IsTrue (is_some (whole (doc_at k1 bytes))) ↔ IsBody doc_written doc_body bytes
doc_form k1 w1 bytes h =
    formed_by doc_written (whole_codec (doc_codec k1 w1)) (λ v p. p.0) (λ v w.
    (record v { doc = record { 0 = k1 } }, (and_from (is_word k1) _ w1 (and_parts (is_word v.doc.0) _ w).1, refl), refl)) bytes h

pub page_form : StripLaw → (k1 k2 : ℕ) → IsTrue (is_word k1) → IsTrue (is_word k2) → (bytes : List ℕ) → IsBytes bytes → IsTrue (is_some (page_at k1 k2 bytes)) ↔ IsBody page_written page_body bytes
page_form law k1 k2 w1 w2 bytes h =
    formed_by page_written (page_codec law k1 k2 w1 w2) (λ v p. p.0) (λ v w.
    (record v { doc = record { 0 = k1 }; page = record { 0 = k2 } }, (and_from (is_word k1) _ w1 (and_from (is_word k2) _ w2 (and_parts (is_word v.page.0) _ (and_parts (is_word v.doc.0) _ w).1).1), refl, refl), refl)) bytes h

pub call_form : (k1 : ℕ) → IsTrue (is_word k1) → (bytes : List ℕ) → IsBytes bytes → IsTrue (is_some (whole (call_at k1 bytes))) ↔ IsBody call_written call_body bytes
call_form k1 w1 bytes h =
    formed_by call_written (whole_codec (call_codec k1 w1)) (λ v p. p.0) (λ v w.
    (record v { doc = record { 0 = k1 } }, (and_from (is_word k1) _ w1 (and_parts (is_word v.doc.0) _ w).1, refl), refl)) bytes h

pub box_form : (k1 k2 : ℕ) → IsTrue (is_word k1) → IsTrue (is_word k2) → (bytes : List ℕ) → IsBytes bytes → IsTrue (is_some (whole (box_at k1 k2 bytes))) ↔ IsBody box_written box_body bytes
box_form k1 k2 w1 w2 bytes h =
    formed_by box_written (whole_codec (box_codec k1 k2 w1 w2)) (λ v p. p.0) (λ v w.
    (record v { doc = record { 0 = k1 }; row = record (v.row) { num = k2 } }, (and_from (is_word k1) _ w1 (and_from (is_word k2) _ w2 (and_parts (is_word v.row.num) _ (and_parts (is_word v.doc.0) (box_row_written v.row) w).1).1), refl, refl), refl)) bytes h

pub held_form : (k1 k2 : ℕ) → IsTrue (is_word k1) → IsTrue (is_word k2) → (bytes : List ℕ) → IsBytes bytes → IsTrue (is_some (whole (held_at k1 k2 bytes))) ↔ IsBody held_written held_body bytes
held_form k1 k2 w1 w2 bytes h =
    formed_by held_written (whole_codec (held_codec k1 k2 w1 w2)) (λ v p. p.0) (λ v w.
    (record v { doc = record { 0 = k1 }; row = record (v.row) { field = k2 } }, (and_from (is_word k1) _ w1 w2, refl, refl), refl)) bytes h

pub entry_form : (k1 : ℕ) → IsTrue (is_word k1) → (bytes : List ℕ) → IsBytes bytes → IsTrue (is_some (whole (log_entry_at k1 bytes))) ↔ IsBody entry_written entry_body bytes
entry_form k1 w1 bytes h =
    formed_by entry_written (whole_codec (entry_codec k1 w1)) (λ v p. p.0) (λ v w.
    (record v { doc = record { 0 = k1 } }, (and_from (is_word k1) _ w1 (and_parts (is_word v.doc.0) _ w).1, refl), refl)) bytes h

pub prefix_form : (k1 : ℕ) → IsTrue (is_word k1) → (bytes : List ℕ) → IsBytes bytes → IsTrue (is_some (whole (prefix_row_at k1 bytes))) ↔ IsBody prefix_written prefix_body bytes
prefix_form k1 w1 bytes h =
    formed_by prefix_written (whole_codec (prefix_row_codec k1 w1)) (λ v p. p.0) (λ v w.
    (record v { num = k1 }, (and_from (is_word k1) _ w1 (and_parts (is_word v.num) _ w).1, refl), refl)) bytes h

pub production_form : (k1 : ℕ) → IsTrue (is_word k1) → (bytes : List ℕ) → IsBytes bytes → IsTrue (is_some (whole (production_at k1 bytes))) ↔ IsBody production_written production_body bytes
production_form k1 w1 bytes h =
    formed_by production_written (whole_codec (production_codec k1 w1)) (λ v p. p.0) (λ v w.
    (record v { num = k1 }, (and_from (is_word k1) _ w1 (and_parts (is_word v.num) _ w).1, refl), refl)) bytes h

pub batch_form : (k1 : ℕ) → IsTrue (is_word k1) → (bytes : List ℕ) → IsBytes bytes → IsTrue (is_some (whole (batch_at k1 bytes))) ↔ IsBody batch_written batch_body bytes
batch_form k1 w1 bytes h =
    formed_by batch_written (whole_codec (batch_codec k1 w1)) (λ v p. p.0) (λ v w.
    (record v { num = k1 }, (and_from (is_word k1) _ w1 (and_parts (is_word v.num) _ w).1, refl), refl)) bytes h

pub words_form : (k1 k2 : ℕ) → IsTrue (is_word k1) → IsTrue (is_word k2) → (bytes : List ℕ) → IsBytes bytes → IsTrue (is_some (whole (words_at k1 k2 bytes))) ↔ IsBody words_written words_body bytes
words_form k1 k2 w1 w2 bytes h =
    formed_by words_written (whole_codec (words_codec k1 k2 w1 w2)) (λ v p. p.0) (λ v w.
    (record v { doc = record { 0 = k1 }; page = record { 0 = k2 } }, (and_from (is_word k1) _ w1 (and_from (is_word k2) _ w2 (and_parts (is_word v.page.0) _ (and_parts (is_word v.doc.0) _ w).1).1), refl, refl), refl)) bytes h

other_kind : (kind n : ℕ) → (kind ≡ n → ⊥) → eqb kind n ≡ false
other_kind kind n other = ne_eqb kind n other

pub forms_of : StripLaw → (row : Row) → IsBytes row.body → IsTrue (is_word row.k1) → IsTrue (is_word row.k2) → FormsOf row
forms_of law row h w1 w2 = record {
  staff = λ e. rw e (staff_form row.k1 w1 row.body h);
  field = λ e. rw e (field_form row.k1 w1 row.body h);
  doc = λ e. rw e (doc_form row.k1 w1 row.body h);
  page = λ e. rw e (page_form law row.k1 row.k2 w1 w2 row.body h);
  call = λ e. rw e (call_form row.k1 w1 row.body h);
  box = λ e. rw e (box_form row.k1 row.k2 w1 w2 row.body h);
  held = λ e. rw e (held_form row.k1 row.k2 w1 w2 row.body h);
  entry = λ e. rw e (entry_form row.k1 w1 row.body h);
  prefix = λ e. rw e (prefix_form row.k1 w1 row.body h);
  production = λ e. rw e (production_form row.k1 w1 row.body h);
  batch = λ e. rw e (batch_form row.k1 w1 row.body h);
  words = λ e. rw e (words_form row.k1 row.k2 w1 w2 row.body h);
  no_kind = λ e. rw e refl;
  later_kind = λ far. rw (other_kind row.kind 1 (λ e. omega (arith, far, e)), other_kind row.kind 2 (λ e. omega (arith, far, e)), other_kind row.kind 3 (λ e. omega (arith, far, e)), other_kind row.kind 4 (λ e. omega (arith, far, e)), other_kind row.kind 5 (λ e. omega (arith, far, e)), other_kind row.kind 6 (λ e. omega (arith, far, e)), other_kind row.kind 7 (λ e. omega (arith, far, e)), other_kind row.kind 8 (λ e. omega (arith, far, e)), other_kind row.kind 9 (λ e. omega (arith, far, e)), other_kind row.kind 10 (λ e. omega (arith, far, e)), other_kind row.kind 11 (λ e. omega (arith, far, e)), other_kind row.kind 12 (λ e. omega (arith, far, e))) refl;
}
