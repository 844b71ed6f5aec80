-- A kept row is read as the row that it is kept for, and as no other.
use Rattle.std.proofs.Common.{◌≡◌, ℕ, ◌^◌, ◌<◌, Bool, cond, eqb, ◌&&◌, List, [], ◌++◌, length, Option, Some, None, refl, sym, ap, ◌∙◌, inl, inr}
use Rattle.std.specs.Prelude.{IsTrue, IfSome}
use Rattle.std.proofs.lemmas.Bool.{and_parts, eqb-true, eq-eqb, lt-ltb, cases_Bool}
use Rattle.std.proofs.lemmas.List.{append-nil, nil_from_length}
use Rattle.bp_core.specs.declared.kept.Row.{Row}
use Rattle.bp_matter.specs.Written.{is_word, staff_written, field_written, doc_written, page_written, call_written, box_written, held_written, entry_written, prefix_written, production_written, batch_written, words_written}
use Rattle.bp_matter.specs.KeptRows.{staff_kept, field_kept, doc_kept, page_kept, call_kept, box_kept, held_kept, entry_kept, prefix_kept, production_kept, batch_kept, words_kept}
use Rattle.bp_matter.specs.ReadRows.{held_of, whole, staff_of, field_in_row, doc_of, page_in_row, call_in_row, box_of, entry_in_row, prefix_in_row, production_in_row, batch_in_row, words_in_row}
use Rattle.bp_matter.specs.Reading.{Read, staff_at, field_at, doc_at, page_at, call_at, box_at, held_at, log_entry_at, prefix_row_at, production_at, batch_at, words_at}
use Rattle.bp_matter.specs.declared.rows.StaffRow.{StaffRow}
use Rattle.bp_matter.specs.declared.rows.FieldRow.{FieldRow}
use Rattle.bp_matter.specs.declared.rows.DocRow.{DocRow}
use Rattle.bp_matter.specs.declared.rows.PageRow.{PageRow}
use Rattle.bp_matter.specs.declared.rows.CallRow.{CallRow}
use Rattle.bp_matter.specs.declared.rows.DocBox.{DocBox}
use Rattle.bp_matter.specs.declared.rows.DocHeld.{DocHeld}
use Rattle.bp_matter.specs.declared.rows.DocEntry.{DocEntry}
use Rattle.bp_matter.specs.declared.rows.PrefixRow.{PrefixRow}
use Rattle.bp_matter.specs.declared.rows.ProductionRow.{ProductionRow}
use Rattle.bp_matter.specs.declared.rows.BatchRow.{BatchRow}
use Rattle.bp_matter.specs.declared.rows.PageWords.{PageWords}
use Rattle.bp_matter.proofs.ImageLemmas.{StripLaw}
use Rattle.bp_matter.proofs.CodecLemmas.{IsBytes, Codec, Whole}
use Rattle.bp_matter.proofs.BodyLemmas.{staff_codec, field_codec, doc_codec, page_codec, call_codec, box_codec, held_codec, entry_codec, prefix_row_codec, production_codec, batch_codec, words_codec, staff_written-parts, field_written-parts, doc_written-parts, page_written-parts, call_written-parts, entry_written-parts, prefix_written-parts, production_written-parts, batch_written-parts, words_written-parts}

whole_some : {V : Type 0} (r : Read V) (v : V) → whole r ≡ Some v → (rest : List ℕ) × (r ≡ Some (v, rest)) × (rest ≡ [])
whole_some None v e = absurd cc
whole_some {V} (Some x) v e =
    elim (cases_Bool (eqb (length x.1) 0)) [
      | inl nothing ↦
          let f = rw nothing at e in
          let is : x.0 ≡ v = cc in
          (x.1, ap (λ (w : V). Some (w, x.1)) is, nil_from_length x.1 (eqb-true (length x.1) 0 nothing))
      | inr more ↦ absurd (let f = rw more at e in cc)
    ]

-- a body that is read whole is the writing of its value
pub whole_takes : {V : Type 0} {P : V → Type 0} {write : V → List ℕ} {read : List ℕ → Read V} → Codec P write read → (bytes : List ℕ) (v : V) → IsBytes bytes → whole (read bytes) ≡ Some v → P v × (bytes ≡ write v)
whole_takes {V} {P} {write} {read} one bytes v h e =
    let first = whole_some (read bytes) v e in
    let took = one.takes bytes v first.0 h first.1 in
    (took.0, took.1 ∙ ap (λ (r : List ℕ). write v ++ r) first.2 ∙ append-nil (write v))

pub whole_again : {V : Type 0} {P : V → Type 0} {write : V → List ℕ} {read : List ℕ → Read V} → Codec P write read → (v : V) → P v → whole (read (write v)) ≡ Some v
whole_again {V} {P} {write} {read} one v p =
    ap (λ (b : List ℕ). whole (read b)) (sym (append-nil (write v))) ∙ ap whole (one.again v [] p)

row_is : (row : Row) (kind k1 k2 : ℕ) (body : List ℕ) → row.kind ≡ kind → row.k1 ≡ k1 → row.k2 ≡ k2 → row.body ≡ body → row ≡ record { kind = kind; k1 = k1; k2 = k2; body = body }
row_is row kind k1 k2 body e1 e2 e3 e4 = rw (← e1, ← e2, ← e3, ← e4) refl

-- a row of one number
one_number : {V : Type 0} (kind n k1 : ℕ) (read : Option V) (v : V) → cond (eqb kind n && eqb k1 0) read None ≡ Some v → (kind ≡ n) × (k1 ≡ 0) × (read ≡ Some v)
one_number kind n k1 read v e =
    elim (cases_Bool (eqb kind n && eqb k1 0)) [
      | inl both ↦
          let parts = and_parts (eqb kind n) (eqb k1 0) both in
          (eqb-true kind n parts.0, eqb-true k1 0 parts.1, let f = rw both at e in f)
      | inr other ↦ absurd (let f = rw other at e in cc)
    ]

two_numbers : {V : Type 0} (kind n : ℕ) (read : Option V) (v : V) → cond (eqb kind n) read None ≡ Some v → (kind ≡ n) × (read ≡ Some v)
two_numbers kind n read v e =
    elim (cases_Bool (eqb kind n)) [
      | inl same ↦ (eqb-true kind n same, let f = rw same at e in f)
      | inr other ↦ absurd (let f = rw other at e in cc)
    ]

-- reading a whole body
pub whole_codec : {V : Type 0} {P : V → Type 0} {write : V → List ℕ} {read : List ℕ → Read V} → Codec P write read → Whole P write (λ bytes. whole (read bytes))
whole_codec one = record { takes = λ bytes v h e. whole_takes one bytes v h e; again = λ v p. whole_again one v p }

-- a row of a kind with one number, or with two, from the law of its body
one_read : {V : Type 0} {P : V → Type 0} {write : V → List ℕ} {read : List ℕ → Option V} → Whole P write read → (row : Row) (n : ℕ) (v : V) → IsBytes row.body
    → cond (eqb row.kind n && eqb row.k2 0) (read row.body) None ≡ Some v → P v × (row ≡ record { kind = n; k1 = row.k1; k2 = 0; body = write v })
one_read {V} {P} {write} {read} one row n v h e =
    let e1 = one_number row.kind n row.k2 (read row.body) v e in
    let e2 = one.takes row.body v h e1.2 in
    (e2.0, row_is row n row.k1 0 (write v) e1.0 refl e1.1 e2.1)

two_read : {V : Type 0} {P : V → Type 0} {write : V → List ℕ} {read : List ℕ → Option V} → Whole P write read → (row : Row) (n : ℕ) (v : V) → IsBytes row.body
    → cond (eqb row.kind n) (read row.body) None ≡ Some v → P v × (row ≡ record { kind = n; k1 = row.k1; k2 = row.k2; body = write v })
two_read {V} {P} {write} {read} one row n v h e =
    let e1 = two_numbers row.kind n (read row.body) v e in
    let e2 = one.takes row.body v h e1.1 in
    (e2.0, row_is row n row.k1 row.k2 (write v) e1.0 refl refl e2.1)

pub staff_read : (row : Row) (v : StaffRow) → IsBytes row.body → IsTrue (is_word row.k1) → staff_of row ≡ Some v → (row ≡ staff_kept v) × IsTrue (staff_written v)
staff_read row v h w e = let r = one_read (whole_codec (staff_codec row.k1 w)) row 1 v h e in (rw (r.0.1) r.1, r.0.0)

pub staff_again : (v : StaffRow) → IsTrue (staff_written v) → staff_of (staff_kept v) ≡ Some v
staff_again v w = whole_again (staff_codec v.staff.0 (staff_written-parts v w).staff) v (w, refl)

pub field_read : (row : Row) (v : FieldRow) → IsBytes row.body → IsTrue (is_word row.k1) → field_in_row row ≡ Some v → (row ≡ field_kept v) × IsTrue (field_written v)
field_read row v h w e = let r = one_read (whole_codec (field_codec row.k1 w)) row 2 v h e in (rw (r.0.1) r.1, r.0.0)

pub field_again : (v : FieldRow) → IsTrue (field_written v) → field_in_row (field_kept v) ≡ Some v
field_again v w = whole_again (field_codec v.field (field_written-parts v w).number) v (w, refl)

pub doc_read : (row : Row) (v : DocRow) → IsBytes row.body → IsTrue (is_word row.k1) → doc_of row ≡ Some v → (row ≡ doc_kept v) × IsTrue (doc_written v)
doc_read row v h w e = let r = one_read (whole_codec (doc_codec row.k1 w)) row 3 v h e in (rw (r.0.1) r.1, r.0.0)

pub doc_again : (v : DocRow) → IsTrue (doc_written v) → doc_of (doc_kept v) ≡ Some v
doc_again v w = whole_again (doc_codec v.doc.0 (doc_written-parts v w).doc) v (w, refl)

pub page_read : StripLaw → (row : Row) (v : PageRow) → IsBytes row.body → IsTrue (is_word row.k1) → IsTrue (is_word row.k2) → page_in_row row ≡ Some v → (row ≡ page_kept v) × IsTrue (page_written v)
page_read law row v h w w2 e = let r = two_read (page_codec law row.k1 row.k2 w w2) row 4 v h e in (rw (r.0.1, r.0.2) r.1, r.0.0)

pub page_again : StripLaw → (v : PageRow) → IsTrue (page_written v) → page_in_row (page_kept v) ≡ Some v
page_again law v w = (page_codec law v.doc.0 v.page.0 (page_written-parts v w).doc (page_written-parts v w).page).again v (w, refl, refl)

pub call_read : (row : Row) (v : CallRow) → IsBytes row.body → IsTrue (is_word row.k1) → call_in_row row ≡ Some v → (row ≡ call_kept v) × IsTrue (call_written v)
call_read row v h w e = let r = one_read (whole_codec (call_codec row.k1 w)) row 5 v h e in (rw (r.0.1) r.1, r.0.0)

pub call_again : (v : CallRow) → IsTrue (call_written v) → call_in_row (call_kept v) ≡ Some v
call_again v w = whole_again (call_codec v.doc.0 (call_written-parts v w).doc) v (w, refl)

pub box_read : (row : Row) (v : DocBox) → IsBytes row.body → IsTrue (is_word row.k1) → IsTrue (is_word row.k2) → box_of row ≡ Some v → (row ≡ box_kept v) × IsTrue (box_written v)
box_read row v h w w2 e = let r = two_read (whole_codec (box_codec row.k1 row.k2 w w2)) row 6 v h e in (rw (r.0.1, r.0.2) r.1, r.0.0)

pub box_again : (v : DocBox) → IsTrue (box_written v) → box_of (box_kept v) ≡ Some v
box_again v w = whole_again (box_codec v.doc.0 v.row.num (and_parts (is_word v.doc.0) _ w).0 (and_parts (is_word v.row.num) _ (and_parts (is_word v.doc.0) _ w).1).0) v (w, refl, refl)

pub held_read : (row : Row) (v : DocHeld) → IsBytes row.body → IsTrue (is_word row.k1) → IsTrue (is_word row.k2) → held_of row ≡ Some v → (row ≡ held_kept v) × IsTrue (held_written v)
held_read row v h w w2 e = let r = two_read (whole_codec (held_codec row.k1 row.k2 w w2)) row 7 v h e in (rw (r.0.1, r.0.2) r.1, r.0.0)

pub held_again : (v : DocHeld) → IsTrue (held_written v) → held_of (held_kept v) ≡ Some v
held_again v w = whole_again (held_codec v.doc.0 v.row.field (and_parts (is_word v.doc.0) _ w).0 (and_parts (is_word v.doc.0) _ w).1) v (w, refl, refl)

pub entry_read : (row : Row) (v : DocEntry) → IsBytes row.body → IsTrue (is_word row.k1) → entry_in_row row ≡ Some v → (row ≡ entry_kept v) × IsTrue (entry_written v)
entry_read row v h w e = let r = one_read (whole_codec (entry_codec row.k1 w)) row 8 v h e in (rw (r.0.1) r.1, r.0.0)

pub entry_again : (v : DocEntry) → IsTrue (entry_written v) → entry_in_row (entry_kept v) ≡ Some v
entry_again v w = whole_again (entry_codec v.doc.0 (entry_written-parts v w).doc) v (w, refl)

pub prefix_read : (row : Row) (v : PrefixRow) → IsBytes row.body → IsTrue (is_word row.k1) → prefix_in_row row ≡ Some v → (row ≡ prefix_kept v) × IsTrue (prefix_written v)
prefix_read row v h w e = let r = one_read (whole_codec (prefix_row_codec row.k1 w)) row 9 v h e in (rw (r.0.1) r.1, r.0.0)

pub prefix_again : (v : PrefixRow) → IsTrue (prefix_written v) → prefix_in_row (prefix_kept v) ≡ Some v
prefix_again v w = whole_again (prefix_row_codec v.num (prefix_written-parts v w).num) v (w, refl)

pub production_read : (row : Row) (v : ProductionRow) → IsBytes row.body → IsTrue (is_word row.k1) → production_in_row row ≡ Some v → (row ≡ production_kept v) × IsTrue (production_written v)
production_read row v h w e = let r = one_read (whole_codec (production_codec row.k1 w)) row 10 v h e in (rw (r.0.1) r.1, r.0.0)

pub production_again : (v : ProductionRow) → IsTrue (production_written v) → production_in_row (production_kept v) ≡ Some v
production_again v w = whole_again (production_codec v.num (production_written-parts v w).num) v (w, refl)

pub batch_read : (row : Row) (v : BatchRow) → IsBytes row.body → IsTrue (is_word row.k1) → batch_in_row row ≡ Some v → (row ≡ batch_kept v) × IsTrue (batch_written v)
batch_read row v h w e = let r = one_read (whole_codec (batch_codec row.k1 w)) row 11 v h e in (rw (r.0.1) r.1, r.0.0)

pub batch_again : (v : BatchRow) → IsTrue (batch_written v) → batch_in_row (batch_kept v) ≡ Some v
batch_again v w = whole_again (batch_codec v.num (batch_written-parts v w).num) v (w, refl)

pub words_read : (row : Row) (v : PageWords) → IsBytes row.body → IsTrue (is_word row.k1) → IsTrue (is_word row.k2) → words_in_row row ≡ Some v → (row ≡ words_kept v) × IsTrue (words_written v)
words_read row v h w w2 e = let r = two_read (whole_codec (words_codec row.k1 row.k2 w w2)) row 12 v h e in (rw (r.0.1, r.0.2) r.1, r.0.0)

pub words_again : (v : PageWords) → IsTrue (words_written v) → words_in_row (words_kept v) ≡ Some v
words_again v w = whole_again (words_codec v.doc.0 v.page.0 (words_written-parts v w).doc (words_written-parts v w).page) v (w, refl, refl)

-- ---- the same, as a function finds it

abbrev pub Found : {V : Type 0} → (V → Row) → (V → Bool) → Row → Option V → Type 0
Found kept written row o = IfSome o (λ v. (row ≡ kept v) × IsTrue (written v))

found_by : {V : Type 0} (kept : V → Row) (written : V → Bool) (read : Row → Option V) (row : Row) (o : Option V) → read row ≡ o → ((v : V) → read row ≡ Some v → (row ≡ kept v) × IsTrue (written v)) → Found kept written row o
found_by kept written read row None e law = tt
found_by kept written read row (Some v) e law = law v e

whole_read : {V : Type 0} (read : List ℕ → Read V) (bytes body : List ℕ) (v : V) (rest : List ℕ) (o : Option V) → bytes ≡ body → read bytes ≡ Some (v, rest) → o ≡ cond (eqb (length rest) 0) (Some v) None → whole (read body) ≡ o
whole_read read bytes body v rest o same e is = ap (λ (b : List ℕ). whole (read b)) (sym same) ∙ ap whole e ∙ sym is

pub staff_found : (row : Row) (bytes : List ℕ) (v : StaffRow) (rest : List ℕ) (o : Option StaffRow) → row.kind ≡ 1 → row.k2 ≡ 0 → row.k1 < 2 ^ 32 → bytes ≡ row.body → IsBytes bytes → staff_at row.k1 bytes ≡ Some (v, rest)
    → o ≡ cond (eqb (length rest) 0) (Some v) None → Found staff_kept staff_written row o
staff_found row bytes v rest o kind k2 k1 same h e is =
    let read : staff_of row ≡ o = rw (eq-eqb row.kind 1 kind, eq-eqb row.k2 0 k2) (whole_read (staff_at row.k1) bytes row.body v rest o same e is) in
    found_by staff_kept staff_written staff_of row o read (λ w. staff_read row w (rw same at h) (lt-ltb row.k1 (2 ^ 32) k1))

pub field_found : (row : Row) (bytes : List ℕ) (v : FieldRow) (rest : List ℕ) (o : Option FieldRow) → row.kind ≡ 2 → row.k2 ≡ 0 → row.k1 < 2 ^ 32 → bytes ≡ row.body → IsBytes bytes → field_at row.k1 bytes ≡ Some (v, rest)
    → o ≡ cond (eqb (length rest) 0) (Some v) None → Found field_kept field_written row o
field_found row bytes v rest o kind k2 k1 same h e is =
    let read : field_in_row row ≡ o = rw (eq-eqb row.kind 2 kind, eq-eqb row.k2 0 k2) (whole_read (field_at row.k1) bytes row.body v rest o same e is) in
    found_by field_kept field_written field_in_row row o read (λ w. field_read row w (rw same at h) (lt-ltb row.k1 (2 ^ 32) k1))

pub doc_found : (row : Row) (bytes : List ℕ) (v : DocRow) (rest : List ℕ) (o : Option DocRow) → row.kind ≡ 3 → row.k2 ≡ 0 → row.k1 < 2 ^ 32 → bytes ≡ row.body → IsBytes bytes → doc_at row.k1 bytes ≡ Some (v, rest)
    → o ≡ cond (eqb (length rest) 0) (Some v) None → Found doc_kept doc_written row o
doc_found row bytes v rest o kind k2 k1 same h e is =
    let read : doc_of row ≡ o = rw (eq-eqb row.kind 3 kind, eq-eqb row.k2 0 k2) (whole_read (doc_at row.k1) bytes row.body v rest o same e is) in
    found_by doc_kept doc_written doc_of row o read (λ w. doc_read row w (rw same at h) (lt-ltb row.k1 (2 ^ 32) k1))

pub page_found : StripLaw → (row : Row) (bytes : List ℕ) (v : PageRow) → row.kind ≡ 4 → row.k1 < 2 ^ 32 → row.k2 < 2 ^ 32 → bytes ≡ row.body → IsBytes bytes → page_at row.k1 row.k2 bytes ≡ Some v → Found page_kept page_written row (Some v)
page_found law row bytes v kind k1 k2 same h e =
    let read : page_in_row row ≡ Some v = rw (eq-eqb row.kind 4 kind) (ap (page_at row.k1 row.k2) (sym same) ∙ e) in
    found_by page_kept page_written page_in_row row (Some v) read (λ w. page_read law row w (rw same at h) (lt-ltb row.k1 (2 ^ 32) k1) (lt-ltb row.k2 (2 ^ 32) k2))

pub call_found : (row : Row) (bytes : List ℕ) (v : CallRow) (rest : List ℕ) (o : Option CallRow) → row.kind ≡ 5 → row.k2 ≡ 0 → row.k1 < 2 ^ 32 → bytes ≡ row.body → IsBytes bytes → call_at row.k1 bytes ≡ Some (v, rest)
    → o ≡ cond (eqb (length rest) 0) (Some v) None → Found call_kept call_written row o
call_found row bytes v rest o kind k2 k1 same h e is =
    let read : call_in_row row ≡ o = rw (eq-eqb row.kind 5 kind, eq-eqb row.k2 0 k2) (whole_read (call_at row.k1) bytes row.body v rest o same e is) in
    found_by call_kept call_written call_in_row row o read (λ w. call_read row w (rw same at h) (lt-ltb row.k1 (2 ^ 32) k1))

pub box_found : (row : Row) (bytes : List ℕ) (v : DocBox) (rest : List ℕ) (o : Option DocBox) → row.kind ≡ 6 → row.k1 < 2 ^ 32 → row.k2 < 2 ^ 32 → bytes ≡ row.body → IsBytes bytes → box_at row.k1 row.k2 bytes ≡ Some (v, rest)
    → o ≡ cond (eqb (length rest) 0) (Some v) None → Found box_kept box_written row o
box_found row bytes v rest o kind k1 k2 same h e is =
    let read : box_of row ≡ o = rw (eq-eqb row.kind 6 kind) (whole_read (box_at row.k1 row.k2) bytes row.body v rest o same e is) in
    found_by box_kept box_written box_of row o read (λ w. box_read row w (rw same at h) (lt-ltb row.k1 (2 ^ 32) k1) (lt-ltb row.k2 (2 ^ 32) k2))

pub held_found : (row : Row) (bytes : List ℕ) (v : DocHeld) (rest : List ℕ) (o : Option DocHeld) → row.kind ≡ 7 → row.k1 < 2 ^ 32 → row.k2 < 2 ^ 32 → bytes ≡ row.body → IsBytes bytes → held_at row.k1 row.k2 bytes ≡ Some (v, rest)
    → o ≡ cond (eqb (length rest) 0) (Some v) None → Found held_kept held_written row o
held_found row bytes v rest o kind k1 k2 same h e is =
    let read : held_of row ≡ o = rw (eq-eqb row.kind 7 kind) (whole_read (held_at row.k1 row.k2) bytes row.body v rest o same e is) in
    found_by held_kept held_written held_of row o read (λ w. held_read row w (rw same at h) (lt-ltb row.k1 (2 ^ 32) k1) (lt-ltb row.k2 (2 ^ 32) k2))

pub entry_found : (row : Row) (bytes : List ℕ) (v : DocEntry) (rest : List ℕ) (o : Option DocEntry) → row.kind ≡ 8 → row.k2 ≡ 0 → row.k1 < 2 ^ 32 → bytes ≡ row.body → IsBytes bytes → log_entry_at row.k1 bytes ≡ Some (v, rest)
    → o ≡ cond (eqb (length rest) 0) (Some v) None → Found entry_kept entry_written row o
entry_found row bytes v rest o kind k2 k1 same h e is =
    let read : entry_in_row row ≡ o = rw (eq-eqb row.kind 8 kind, eq-eqb row.k2 0 k2) (whole_read (log_entry_at row.k1) bytes row.body v rest o same e is) in
    found_by entry_kept entry_written entry_in_row row o read (λ w. entry_read row w (rw same at h) (lt-ltb row.k1 (2 ^ 32) k1))

pub prefix_found : (row : Row) (bytes : List ℕ) (v : PrefixRow) (rest : List ℕ) (o : Option PrefixRow) → row.kind ≡ 9 → row.k2 ≡ 0 → row.k1 < 2 ^ 32 → bytes ≡ row.body → IsBytes bytes → prefix_row_at row.k1 bytes ≡ Some (v, rest)
    → o ≡ cond (eqb (length rest) 0) (Some v) None → Found prefix_kept prefix_written row o
prefix_found row bytes v rest o kind k2 k1 same h e is =
    let read : prefix_in_row row ≡ o = rw (eq-eqb row.kind 9 kind, eq-eqb row.k2 0 k2) (whole_read (prefix_row_at row.k1) bytes row.body v rest o same e is) in
    found_by prefix_kept prefix_written prefix_in_row row o read (λ w. prefix_read row w (rw same at h) (lt-ltb row.k1 (2 ^ 32) k1))

pub production_found : (row : Row) (bytes : List ℕ) (v : ProductionRow) (rest : List ℕ) (o : Option ProductionRow) → row.kind ≡ 10 → row.k2 ≡ 0 → row.k1 < 2 ^ 32 → bytes ≡ row.body → IsBytes bytes → production_at row.k1 bytes ≡ Some (v, rest)
    → o ≡ cond (eqb (length rest) 0) (Some v) None → Found production_kept production_written row o
production_found row bytes v rest o kind k2 k1 same h e is =
    let read : production_in_row row ≡ o = rw (eq-eqb row.kind 10 kind, eq-eqb row.k2 0 k2) (whole_read (production_at row.k1) bytes row.body v rest o same e is) in
    found_by production_kept production_written production_in_row row o read (λ w. production_read row w (rw same at h) (lt-ltb row.k1 (2 ^ 32) k1))

pub batch_found : (row : Row) (bytes : List ℕ) (v : BatchRow) (rest : List ℕ) (o : Option BatchRow) → row.kind ≡ 11 → row.k2 ≡ 0 → row.k1 < 2 ^ 32 → bytes ≡ row.body → IsBytes bytes → batch_at row.k1 bytes ≡ Some (v, rest)
    → o ≡ cond (eqb (length rest) 0) (Some v) None → Found batch_kept batch_written row o
batch_found row bytes v rest o kind k2 k1 same h e is =
    let read : batch_in_row row ≡ o = rw (eq-eqb row.kind 11 kind, eq-eqb row.k2 0 k2) (whole_read (batch_at row.k1) bytes row.body v rest o same e is) in
    found_by batch_kept batch_written batch_in_row row o read (λ w. batch_read row w (rw same at h) (lt-ltb row.k1 (2 ^ 32) k1))

pub words_found : (row : Row) (bytes : List ℕ) (v : PageWords) (rest : List ℕ) (o : Option PageWords) → row.kind ≡ 12 → row.k1 < 2 ^ 32 → row.k2 < 2 ^ 32 → bytes ≡ row.body → IsBytes bytes → words_at row.k1 row.k2 bytes ≡ Some (v, rest)
    → o ≡ cond (eqb (length rest) 0) (Some v) None → Found words_kept words_written row o
words_found row bytes v rest o kind k1 k2 same h e is =
    let read : words_in_row row ≡ o = rw (eq-eqb row.kind 12 kind) (whole_read (words_at row.k1 row.k2) bytes row.body v rest o same e is) in
    found_by words_kept words_written words_in_row row o read (λ w. words_read row w (rw same at h) (lt-ltb row.k1 (2 ^ 32) k1) (lt-ltb row.k2 (2 ^ 32) k2))
