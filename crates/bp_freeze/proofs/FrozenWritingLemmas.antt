-- That the rows of a document have a writing carries over to its item: `item_written`.
use Rattle.std.proofs.Common.{◌≡◌, ℕ, ◌+◌, ◌-◌, ◌^◌, ◌<◌, ◌≤◌, Bool, true, eqb, leb, ◌&&◌, List, [], ◌∷◌, length, map, Option, Some, None, refl, sym, ap, subst, ◌∙◌, arith}
use Rattle.std.specs.List.{list_all}
use Rattle.std.proofs.lemmas.Bool.{and_parts, and_from, leb-true, lt-ltb}
use Rattle.bp_core.specs.Sorted.{ascends, find_key}
use Rattle.bp_matter.specs.Confirming.{boxes_on, held_on}
use Rattle.bp_matter.specs.LookUps.{of_row}
use Rattle.bp_matter.specs.Matter.{Matter, box_number, call_key, doc_key, entry_key, held_number}
use Rattle.bp_matter.specs.Valid.{IsValid}
use Rattle.bp_matter.specs.ValidMarks.{doc_box_fits, doc_held_fits}
use Rattle.bp_matter.specs.ValidPages.{inside_page, page_in}
use Rattle.bp_matter.specs.ValidRows.{names}
use Rattle.bp_matter.specs.Written.{are_few, box_row_written, box_written, call_written, doc_written, entry_fields_written, entry_written, held_row_written, held_written, if_there, is_long, is_short, is_word, item_written, span_written, state_written, treatment_written}
use Rattle.bp_matter.specs.declared.limits.TheConstants.{MAX_BOX, MAX_FIELDS}
use Rattle.bp_matter.specs.declared.rows.BoxRow.{BoxRow}
use Rattle.bp_matter.specs.declared.rows.CallRow.{CallRow}
use Rattle.bp_matter.specs.declared.rows.DocBox.{DocBox}
use Rattle.bp_matter.specs.declared.rows.DocEntry.{DocEntry}
use Rattle.bp_matter.specs.declared.rows.DocHeld.{DocHeld}
use Rattle.bp_matter.specs.declared.rows.DocRow.{DocRow}
use Rattle.bp_matter.specs.declared.rows.HeldRow.{HeldRow}
use Rattle.bp_matter.specs.declared.rows.Item.{Item}
use Rattle.bp_freeze.specs.Seeing.{decisions_of, numbers_of, parent_of, seen_in, treatment_of}
use Rattle.bp_freeze.specs.Selecting.{designation_of, item_of}
use Rattle.bp_freeze.proofs.FrozenMarkLemmas.{marks-pass, marks-rise}
use Rattle.bp_freeze.proofs.FrozenRangeLemmas.{Called, row-at, takes-number}
use Rattle.bp_freeze.proofs.PutRowLemmas.{find-all}

-- ---- how many marks a document has

-- rows in ascending order are no more than their numbers
few_rows : {R : Type 0} (number : R → ℕ) (low most : ℕ) (rows : List R) → ascends number low rows ≡ true → list_all (λ (r : R). leb (number r) most) rows ≡ true → low ≤ most + 1
    → length rows + low ≤ most + 1
few_rows number low most [] up all le = omega arith
few_rows {R} number low most (r ∷ rows) up all le =
    let order = and_parts (leb low (number r)) (ascends number (number r + 1) rows) up in
    let each = and_parts (leb (number r) most) (list_all (λ (x : R). leb (number x) most) rows) all in
    let floor : low ≤ number r = leb-true low (number r) order.0 in
    let top : number r ≤ most = leb-true (number r) most each.0 in
    omega (arith, few_rows number (number r + 1) most rows order.1 each.1 (omega arith))

-- rows that have a writing, and are few
rows_written : {R : Type 0} (number : R → ℕ) (most : ℕ) (is_written : R → Bool) (rows : List R) → most + 1 < 2 ^ 32
    → ascends number 0 rows ≡ true → list_all (λ (r : R). leb (number r) most) rows ≡ true → list_all is_written rows ≡ true → are_few is_written rows ≡ true
rows_written number most is_written rows small up all written =
    and_from (list_all is_written rows) (is_word (length rows)) written (lt-ltb (length rows) (2 ^ 32) (omega (arith, few_rows number 0 most rows up all (omega arith))))

-- the boxes of a document
boxes_written : (m : Matter) → IsValid m → (doc : ℕ) → are_few box_row_written (map (λ (box : DocBox). box.row) (boxes_on doc m.boxes)) ≡ true
boxes_written m valid doc =
    let of : DocBox → ℕ = λ (box : DocBox). box.doc.0 in
    let row : DocBox → BoxRow = λ (box : DocBox). box.row in
    let at_most : (box : DocBox) → of box ≡ doc → doc_box_fits m.pages box ≡ true → leb box.row.num MAX_BOX ≡ true =
    λ box same fits. (and_parts (leb 1 box.row.num) (leb box.row.num MAX_BOX) (and_parts (names MAX_BOX box.row.num) (inside_page (page_in m.pages box.doc.0 box.row.page.0) box.row.rect) fits).0).1 in
    rows_written box_number MAX_BOX box_row_written (map row (boxes_on doc m.boxes)) (omega arith)
    (marks-rise of row box_number doc 0 0 m.boxes valid.boxes.ascend (λ n le. omega arith))
    (marks-pass of row doc (doc_box_fits m.pages) (λ (box : BoxRow). leb box.num MAX_BOX) m.boxes at_most valid.boxes.fit)
    (marks-pass of row doc box_written box_row_written m.boxes (λ box same written. (and_parts (is_word box.doc.0) (box_row_written box.row) written).1) valid.boxes.written)

-- its held fields
fields_written : (m : Matter) → IsValid m → (doc : ℕ) → are_few held_row_written (map (λ (row : DocHeld). row.row) (held_on doc m.held)) ≡ true
fields_written m valid doc =
    let of : DocHeld → ℕ = λ (row : DocHeld). row.doc.0 in
    let row : DocHeld → HeldRow = λ (row : DocHeld). row.row in
    let few : length m.fields ≤ MAX_FIELDS = leb-true (length m.fields) MAX_FIELDS valid.fields.few in
    let at_most : (held : DocHeld) → of held ≡ doc → doc_held_fits (length m.fields) (length m.docs) held ≡ true → leb held.row.field (length m.fields) ≡ true =
    λ held same fits. (and_parts (leb 1 held.row.field) (leb held.row.field (length m.fields)) (and_parts (names (length m.docs) held.doc.0) (names (length m.fields) held.row.field) fits).1).1 in
    rows_written held_number (length m.fields) held_row_written (map row (held_on doc m.held)) (omega (arith, few))
    (marks-rise of row held_number doc 0 0 m.held valid.held.ascend (λ n le. omega arith))
    (marks-pass of row doc (doc_held_fits (length m.fields) (length m.docs)) (λ (held : HeldRow). leb held.field (length m.fields)) m.held at_most valid.held.fit)
    (marks-pass of row doc held_written held_row_written m.held (λ held same written. (and_parts (is_word held.doc.0) (held_row_written held.row) written).1) valid.held.written)

-- ---- the other parts of an item

-- its log entry
entry_there : (entries : List DocEntry) (doc : ℕ) (o : Option DocEntry) → list_all entry_written entries ≡ true → find_key entry_key doc entries ≡ o
    → if_there entry_fields_written (of_row (λ (row : DocEntry). row.entry) o) ≡ true
entry_there entries doc None all found = refl
entry_there entries doc (Some row) all found =
    (and_parts (is_word row.doc.0) (entry_fields_written row.entry) (find-all (λ (r : DocEntry). eqb (entry_key r) doc) entry_written entries row found all)).1

-- the call of a document
record CallWritten (row : CallRow) : Type 0 where
  pub treatment : treatment_written row.treatment ≡ true
  pub designation : is_short row.designation ≡ true

-- a call that is found has a writing
call_there : (m : Matter) → IsValid m → (doc : ℕ) (row : CallRow) → find_key call_key doc m.calls ≡ Some row → CallWritten row
call_there m valid doc row found =
    let written = find-all (λ (r : CallRow). eqb (call_key r) doc) call_written m.calls row found valid.calls.written in
    let state = and_parts (is_word row.doc.0) (state_written row.state && (treatment_written row.treatment && is_short row.designation)) written in
    let rest = and_parts (state_written row.state) (treatment_written row.treatment && is_short row.designation) state.1 in
    let both = and_parts (treatment_written row.treatment) (is_short row.designation) rest.1 in
    record { treatment = both.0; designation = both.1 }

-- the number of a document, and its parent
record NumberWritten (m : Matter) (doc : ℕ) : Type 0 where
  pub number : is_word doc ≡ true
  pub parent : is_word (parent_of (decisions_of m) doc) ≡ true

-- so have the number and the parent of a document
number_there : (m : Matter) → IsValid m → (doc : ℕ) → 1 ≤ doc → doc ≤ length m.docs → NumberWritten m doc
number_there m valid doc from to =
    let at = row-at m.docs doc valid.docs.numbered from to in
    let written = find-all (λ (r : DocRow). eqb (doc_key r) doc) doc_written m.docs at.row at.found valid.docs.written in
    let number = and_parts (is_word at.row.doc.0) _ written in
    let parent = and_parts (is_word at.row.parent.0) _ number.1 in
    record { number = subst (λ k. is_word k ≡ true) at.number number.0; parent = subst (λ k. is_word k ≡ true) (sym at.parent) parent.0 }

-- so many numbers from the first on
numbers_there : (first numbers : ℕ) → 1 ≤ numbers → first + numbers ≤ 2 ^ 64 → (is_long first && is_long (first + numbers - 1)) ≡ true
numbers_there first numbers some fit =
    and_from (is_long first) (is_long (first + numbers - 1)) (lt-ltb first (2 ^ 64) (omega arith)) (lt-ltb (first + numbers - 1) (2 ^ 64) (omega arith))

-- an item whose parts have a writing
pub item-written : (m : Matter) → IsValid m → (doc first : ℕ) → 1 ≤ doc → doc ≤ length m.docs → Called m.calls doc → first + numbers_of m doc ≤ 2 ^ 64
    → item_written (item_of first (seen_in m doc)) ≡ true
item-written m valid doc first from to called fit =
    let i : Item = item_of first (seen_in m doc) in
    let call = call_there m valid doc called.row called.found in
    let there = number_there m valid doc from to in
    let treatment : treatment_written i.treatment ≡ true = ap (λ (o : Option CallRow). treatment_written (treatment_of o)) called.found ∙ call.treatment in
    let designation : is_short i.designation ≡ true = ap (λ (o : Option CallRow). is_short (designation_of o)) called.found ∙ call.designation in
    and_from (is_word i.doc.0) _ there.number
    (and_from (is_word i.parent.0) _ there.parent
    (and_from (treatment_written i.treatment) _ treatment
    (and_from (are_few box_row_written i.boxes) _ (boxes_written m valid doc)
    (and_from (are_few held_row_written i.held) _ (fields_written m valid doc)
    (and_from (if_there entry_fields_written i.entry) _ (entry_there m.entries doc (find_key entry_key doc m.entries) valid.entries.written refl)
    (and_from (is_short i.designation) (span_written i.span) designation (numbers_there first (numbers_of m doc) (takes-number m valid doc from to) fit)))))))
