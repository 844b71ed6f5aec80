-- The marks of a selected document, as its call asks for them, carried over to its item: `item_fits`.
use Rattle.std.proofs.Common.{◌≡◌, ℕ, ◌+◌, ◌-◌, ◌≤◌, Bool, true, false, eqb, leb, ◌&&◌, ◌||◌, not, List, [], ◌∷◌, length, map, Option, Some, None, refl, sym, ap, ap₂, subst, ◌∙◌, inl, inr, arith}
use Rattle.std.specs.List.{filter, list_all, list_any}
use Rattle.std.specs.Prelude.{is_none}
use Rattle.std.proofs.lemmas.Bool.{and_parts, and_from, or_cases, or_from, cases_Bool, eqb-true, eq-eqb, leb-true, le-leb, not_from_false, not-true}
use Rattle.bp_core.specs.Sorted.{ascends, find_key, two_keys}
use Rattle.bp_core.specs.declared.review.Treatment.{Treatment}
use Rattle.bp_core.specs.declared.review.Treatment.TheVariants.{Produce, Redact, Withhold}
use Rattle.bp_matter.specs.Confirming.{boxes_on, confirm_rule, held_on, is_entered, may_hold, needs_entry, state_holds}
use Rattle.bp_matter.specs.LookUps.{of_row}
use Rattle.bp_matter.specs.Matter.{Matter, box_number, call_key, doc_key, entry_key, held_number}
use Rattle.bp_matter.specs.Texts.{is_designation}
use Rattle.bp_matter.specs.Treatments.{is_ground, is_privileged, is_redact, is_withheld}
use Rattle.bp_matter.specs.Valid.{IsValid}
use Rattle.bp_matter.specs.ValidCalls.{call_fits, state_fits}
use Rattle.bp_matter.specs.ValidEntries.{doc_entry_fits, entry_fits}
use Rattle.bp_matter.specs.ValidItems.{item_of as is_item_of, has_marks, held_row_fits, is_logged, item_fits, item_marks_fit, item_texts_fit, numbers_due, optional_fits}
use Rattle.bp_matter.specs.ValidMarks.{box_fits, doc_box_fits, doc_held_fits}
use Rattle.bp_matter.specs.ValidRows.{names}
use Rattle.bp_matter.specs.declared.rows.BoxRow.{BoxRow}
use Rattle.bp_matter.specs.declared.rows.CallRow.{CallRow}
use Rattle.bp_matter.specs.declared.rows.DocBox.{DocBox}
use Rattle.bp_matter.specs.declared.rows.DocEntry.{DocEntry}
use Rattle.bp_matter.specs.declared.rows.DocHeld.{DocHeld}
use Rattle.bp_matter.specs.declared.rows.HeldRow.{HeldRow}
use Rattle.bp_matter.specs.declared.rows.Item.{Item}
use Rattle.bp_matter.specs.declared.rows.StaffRow.{StaffRow}
use Rattle.bp_matter.specs.declared.rows.State.{State}
use Rattle.bp_matter.specs.declared.rows.State.TheVariants.{Confirmed, First, Uncalled}
use Rattle.bp_freeze.specs.Seeing.{numbers_of, seen_in, treatment_of}
use Rattle.bp_freeze.specs.Selecting.{designation_of, is_confirmed, is_produce, item_of}
use Rattle.bp_freeze.proofs.FrozenRangeLemmas.{Called, page-counted, row-at, takes-number}
use Rattle.bp_freeze.proofs.PutRowLemmas.{find-all, find-passes}
use Rattle.bp_freeze.proofs.RuleLemmas.{any-map}

-- ---- the marks of one document, among those of all

-- their numbers rise
pub marks-rise : {T R : Type 0} (doc_of : T → ℕ) (row_of : T → R) (number : R → ℕ) (doc low least : ℕ) (rows : List T)
    → ascends (λ (x : T). two_keys (doc_of x) (number (row_of x))) low rows ≡ true → ((n : ℕ) → low ≤ two_keys doc n → least ≤ n)
    → ascends number least (map row_of (filter (λ (x : T). eqb (doc_of x) doc) rows)) ≡ true
marks-rise doc_of row_of number doc low least [] up from = refl
marks-rise {T} doc_of row_of number doc low least (x ∷ rows) up from =
    let key : T → ℕ = λ (y : T). two_keys (doc_of y) (number (row_of y)) in
    let parts = and_parts (leb low (key x)) (ascends key (key x + 1) rows) up in
    let above : low ≤ key x = leb-true low (key x) parts.0 in
    elim (cases_Bool (eqb (doc_of x) doc)) [
      | inl here ↦ (
          let same : doc_of x ≡ doc = eqb-true (doc_of x) doc here in
          let floor : least ≤ number (row_of x) = from (number (row_of x)) (subst (λ k. low ≤ two_keys k (number (row_of x))) same above) in
          rw here (and_from (leb least (number (row_of x))) _ (le-leb least (number (row_of x)) floor)
          (marks-rise doc_of row_of number doc (key x + 1) (number (row_of x) + 1) rows parts.1 (λ n le. omega (arith, same, le)))))
      | inr there ↦ rw there (marks-rise doc_of row_of number doc (key x + 1) least rows parts.1 (λ n le. from n (omega (arith, le, above))))
    ]

-- what a test of all says of each of them
pub marks-pass : {T R : Type 0} (doc_of : T → ℕ) (row_of : T → R) (doc : ℕ) (of_all : T → Bool) (p : R → Bool) (rows : List T)
    → ((x : T) → doc_of x ≡ doc → of_all x ≡ true → p (row_of x) ≡ true) → list_all of_all rows ≡ true
    → list_all p (map row_of (filter (λ (x : T). eqb (doc_of x) doc) rows)) ≡ true
marks-pass doc_of row_of doc of_all p [] each all = refl
marks-pass doc_of row_of doc of_all p (x ∷ rows) each all =
    let parts = and_parts (of_all x) (list_all of_all rows) all in
    elim (cases_Bool (eqb (doc_of x) doc)) [
      | inl here ↦
          rw here (and_from (p (row_of x)) _ (each x (eqb-true (doc_of x) doc here) parts.0) (marks-pass doc_of row_of doc of_all p rows each parts.1))
      | inr there ↦ rw there (marks-pass doc_of row_of doc of_all p rows each parts.1)
    ]

-- a test that nothing passes leaves no rows
none_pass : {R : Type 0} (rows : List R) → list_all (λ (r : R). false) rows ≡ true → rows ≡ []
none_pass [] all = refl
none_pass (r ∷ rows) all = absurd cc

-- there are none where the test of all fails at their document
pub marks-none : {T R : Type 0} (doc_of : T → ℕ) (row_of : T → R) (doc : ℕ) (of_all : T → Bool) (rows : List T)
    → ((x : T) → doc_of x ≡ doc → of_all x ≡ true → ⊥) → list_all of_all rows ≡ true
    → map row_of (filter (λ (x : T). eqb (doc_of x) doc) rows) ≡ []
marks-none {T} {R} doc_of row_of doc of_all rows never all =
    none_pass (map row_of (filter (λ (x : T). eqb (doc_of x) doc) rows))
    (marks-pass doc_of row_of doc of_all (λ (r : R). false) rows (λ x same passes. absurd (never x same passes)) all)

-- ---- the marks of a document of a valid matter

-- those of an item under any numbers
pub marks-fit : (m : Matter) → IsValid m → (doc next : ℕ) → item_marks_fit (length m.fields) m.pages (item_of next (seen_in m doc)) ≡ true
marks-fit m valid doc next =
    let boxes : List BoxRow = map (λ (box : DocBox). box.row) (boxes_on doc m.boxes) in
    let held : List HeldRow = map (λ (row : DocHeld). row.row) (held_on doc m.held) in
    let boxes_rise : ascends box_number 0 boxes ≡ true = marks-rise (λ (box : DocBox). box.doc.0) (λ (box : DocBox). box.row) box_number doc 0 0 m.boxes valid.boxes.ascend (λ n le. omega arith) in
    let boxes_fit : list_all (box_fits m.pages doc) boxes ≡ true =
    marks-pass (λ (box : DocBox). box.doc.0) (λ (box : DocBox). box.row) doc (doc_box_fits m.pages) (box_fits m.pages doc) m.boxes
    (λ box same fits. subst (λ k. box_fits m.pages k box.row ≡ true) same fits) valid.boxes.fit in
    let held_rise : ascends held_number 0 held ≡ true = marks-rise (λ (row : DocHeld). row.doc.0) (λ (row : DocHeld). row.row) held_number doc 0 0 m.held valid.held.ascend (λ n le. omega arith) in
    let held_fit : list_all (held_row_fits (length m.fields)) held ≡ true =
    marks-pass (λ (row : DocHeld). row.doc.0) (λ (row : DocHeld). row.row) doc (doc_held_fits (length m.fields) (length m.docs)) (held_row_fits (length m.fields)) m.held
    (λ row same fits. (and_parts (names (length m.docs) row.doc.0) (names (length m.fields) row.row.field) fits).1) valid.held.fit in
    and_from _ _ (and_from _ _ (and_from _ _ boxes_rise boxes_fit) held_rise) held_fit

-- a document that isn't called Redact has no boxes and no held fields
pub no-boxes : (m : Matter) → IsValid m → (doc : ℕ) → may_hold (find_key call_key doc m.calls) ≡ false → map (λ (box : DocBox). box.row) (boxes_on doc m.boxes) ≡ []
no-boxes m valid doc fails =
    marks-none (λ (box : DocBox). box.doc.0) (λ (box : DocBox). box.row) doc (λ (box : DocBox). may_hold (find_key call_key box.doc.0 m.calls)) m.boxes
    (λ box same passes. (let here : may_hold (find_key call_key doc m.calls) ≡ true = subst (λ k. may_hold (find_key call_key k m.calls) ≡ true) same passes in cc)) valid.review.boxes_held

-- the same of held fields
pub no-held : (m : Matter) → IsValid m → (doc : ℕ) → may_hold (find_key call_key doc m.calls) ≡ false → map (λ (row : DocHeld). row.row) (held_on doc m.held) ≡ []
no-held m valid doc fails =
    marks-none (λ (row : DocHeld). row.doc.0) (λ (row : DocHeld). row.row) doc (λ (row : DocHeld). may_hold (find_key call_key row.doc.0 m.calls)) m.held
    (λ row same passes. (let here : may_hold (find_key call_key doc m.calls) ≡ true = subst (λ k. may_hold (find_key call_key k m.calls) ≡ true) same passes in cc)) valid.review.fields_held

-- ---- the log entry of a document

-- a call that may be confirmed has an entry where it needs one
allowed : (row : CallRow) (editor : ℕ) (boxes : List DocBox) (held : List DocHeld) (has_entry : Bool) (confirmer : ℕ)
    → is_none (confirm_rule row editor boxes held has_entry confirmer) ≡ true → needs_entry row.treatment boxes held ≡ true → has_entry ≡ true
allowed row editor boxes held true confirmer none needs = refl
allowed row editor boxes held false confirmer none needs =
    elim (cases_Bool (eqb editor confirmer)) [
      | inl same ↦ absurd (let fails : false ≡ true = rw same at none in cc)
      | inr other ↦
          elim (cases_Bool (is_redact row.treatment && eqb (length boxes) 0 && eqb (length held) 0)) [
            | inl nothing ↦ absurd (let fails : false ≡ true = rw (other, nothing) at none in cc)
            | inr some ↦ absurd (let fails : false ≡ true = rw (other, some, needs) at none in cc)
          ]
    ]

-- so has a document whose call is confirmed
confirmed_has : (staff : List StaffRow) (boxes : List DocBox) (held : List DocHeld) (entries : List DocEntry) (row : CallRow) (state : State)
    → state_holds staff boxes held entries row state ≡ true → is_confirmed state ≡ true
    → needs_entry row.treatment (boxes_on row.doc.0 boxes) (held_on row.doc.0 held) ≡ true → is_entered row.doc.0 entries ≡ true
confirmed_has staff boxes held entries row Uncalled holds passes needs = absurd cc
confirmed_has staff boxes held entries row (First editor) holds passes needs = absurd cc
confirmed_has staff boxes held entries row (Confirmed editor confirmer) holds passes needs =
    let parts = and_parts _ (is_none (confirm_rule row editor.0 (boxes_on row.doc.0 boxes) (held_on row.doc.0 held) (is_entered row.doc.0 entries) confirmer.0)) holds in
    allowed row editor.0 (boxes_on row.doc.0 boxes) (held_on row.doc.0 held) (is_entered row.doc.0 entries) confirmer.0 parts.1 needs

-- an entry is there where its row is
no_entry : (o : Option DocEntry) → is_none (of_row (λ (row : DocEntry). row.entry) o) ≡ is_none o
no_entry None = refl
no_entry (Some row) = refl

-- an entry that is there fits
entry_found : (m : Matter) (doc : ℕ) (o : Option DocEntry) → list_all (doc_entry_fits (length m.docs)) m.entries ≡ true → find_key entry_key doc m.entries ≡ o → optional_fits (of_row (λ (row : DocEntry). row.entry) o) ≡ true
entry_found m doc None all found = refl
entry_found m doc (Some row) all found =
    (and_parts (names (length m.docs) row.doc.0) (entry_fits row.entry)
    (find-all (λ (r : DocEntry). eqb (entry_key r) doc) (doc_entry_fits (length m.docs)) m.entries row found all)).1

-- ---- the texts of an item

-- what is called Produce isn't withheld, and isn't redacted
produced_whole : (t : Treatment) → is_produce t ≡ true → (is_withheld t ≡ false) × (is_redact t ≡ false)
produced_whole Produce h = (refl, refl)
produced_whole Redact h = absurd cc
produced_whole (Withhold basis) h = absurd cc

-- without boxes and held fields it has no marks
no_marks : (i : Item) → i.boxes ≡ [] → i.held ≡ [] → has_marks i ≡ false
no_marks i boxes held =
    or_from (not (eqb (length i.boxes) 0)) (not (eqb (length i.held) 0)) (ap (λ (l : List BoxRow). not (eqb (length l) 0)) boxes) (ap (λ (l : List HeldRow). not (eqb (length l) 0)) held)

-- marks only where it is Redact
marks_or : (redact marks : Bool) → (redact ≡ false → marks ≡ false) → (redact || not marks) ≡ true
marks_or true marks none = refl
marks_or false marks none = not_from_false marks (none refl)

-- an entry where it is listed
logged_or : (logged missing : Bool) → (logged ≡ true → missing ≡ false) → (not logged || not missing) ≡ true
logged_or true missing has = not_from_false missing (has refl)
logged_or false missing has = refl

-- what the marks, the listing and the entry of an item have to be
pub texts-fit : (i : Item) → (is_redact i.treatment ≡ false → (i.boxes ≡ []) × (i.held ≡ [])) → (is_logged i ≡ true → is_none i.entry ≡ false) → optional_fits i.entry ≡ true → item_texts_fit i ≡ true
texts-fit i bare has fits =
    and_from _ (optional_fits i.entry)
    (and_from (is_redact i.treatment || not (has_marks i)) (not (is_logged i) || not (is_none i.entry))
    (marks_or (is_redact i.treatment) (has_marks i) (λ fails. no_marks i (bare fails).0 (bare fails).1))
    (logged_or (is_logged i) (is_none i.entry) has)) fits

-- ---- a document that is called, and settled

-- what holds of its call
pub record CallHolds (m : Matter) (doc : ℕ) (row : CallRow) : Type 0 where
  pub number : row.doc.0 ≡ doc
  pub is_good : is_ground row.treatment ≡ true
  pub designated : is_designation row.designation ≡ true
  pub holds : state_holds m.staff m.boxes m.held m.entries row row.state ≡ true

-- a call that is found is one of a valid matter
pub call-holds : (m : Matter) → IsValid m → (doc : ℕ) (row : CallRow) → find_key call_key doc m.calls ≡ Some row → CallHolds m doc row
call-holds m valid doc row found =
    let at : CallRow → Bool = λ (r : CallRow). eqb (call_key r) doc in
    let fits = find-all at (call_fits (length m.staff) (length m.docs)) m.calls row found valid.calls.fit in
    let three = and_parts (names (length m.docs) row.doc.0 && state_fits (length m.staff) row.state && is_ground row.treatment) (is_designation row.designation) fits in
    let two = and_parts (names (length m.docs) row.doc.0 && state_fits (length m.staff) row.state) (is_ground row.treatment) three.0 in
    record {
      number = eqb-true row.doc.0 doc (find-passes at m.calls row found);
      is_good = two.1;
      designated = three.1;
      holds = find-all at (λ (r : CallRow). state_holds m.staff m.boxes m.held m.entries r r.state) m.calls row found valid.review.confirmed;
    }

-- ---- the item of a document

-- the log lists it where its call needs an entry
logged_is : (m : Matter) (doc next : ℕ) (row : CallRow) → find_key call_key doc m.calls ≡ Some row
    → is_logged (item_of next (seen_in m doc)) ≡ needs_entry row.treatment (boxes_on doc m.boxes) (held_on doc m.held)
logged_is m doc next row found =
    let boxes : List BoxRow = map (λ (box : DocBox). box.row) (boxes_on doc m.boxes) in
    let held : List HeldRow = map (λ (r : DocHeld). r.row) (held_on doc m.held) in
    ap (λ (t : Treatment). is_withheld t || list_any (λ (box : BoxRow). is_privileged box.basis) boxes || list_any (λ (r : HeldRow). is_privileged r.basis) held) (ap treatment_of found)
    ∙ ap₂ (λ (a b : Bool). is_withheld row.treatment || a || b)
    (any-map (λ (box : BoxRow). is_privileged box.basis) (λ (box : DocBox). box.row) (boxes_on doc m.boxes))
    (any-map (λ (r : HeldRow). is_privileged r.basis) (λ (r : DocHeld). r.row) (held_on doc m.held))

-- where it isn't called Redact it has no marks
bare_item : (m : Matter) → IsValid m → (doc next : ℕ) (c : Called m.calls doc) → is_redact c.row.treatment ≡ false
    → ((item_of next (seen_in m doc)).boxes ≡ []) × ((item_of next (seen_in m doc)).held ≡ [])
bare_item m valid doc next c fails =
    let may : may_hold (find_key call_key doc m.calls) ≡ false = ap may_hold c.found ∙ fails in
    (no-boxes m valid doc may, no-held m valid doc may)

-- without marks and not withheld it isn't listed
unlisted : (i : Item) → is_withheld i.treatment ≡ false → i.boxes ≡ [] → i.held ≡ [] → is_logged i ≡ false
unlisted i shown boxes held =
    or_from (is_withheld i.treatment || list_any (λ (box : BoxRow). is_privileged box.basis) i.boxes) (list_any (λ (r : HeldRow). is_privileged r.basis) i.held)
    (or_from (is_withheld i.treatment) (list_any (λ (box : BoxRow). is_privileged box.basis) i.boxes) shown (ap (list_any (λ (box : BoxRow). is_privileged box.basis)) boxes))
    (ap (list_any (λ (r : HeldRow). is_privileged r.basis)) held)

-- where it is listed its document has an entry
listed_has : (m : Matter) → IsValid m → (doc next : ℕ) (c : Called m.calls doc) → is_logged (item_of next (seen_in m doc)) ≡ true
    → is_none (item_of next (seen_in m doc)).entry ≡ false
listed_has m valid doc next c listed =
    let item : Item = item_of next (seen_in m doc) in
    let it = call-holds m valid doc c.row c.found in
    elim (or_cases (is_produce c.row.treatment) (is_confirmed c.row.state) c.settled) [
      | inl whole ↦ (
          let shown = produced_whole c.row.treatment whole in
          let bare = bare_item m valid doc next c shown.1 in
          let not_listed : is_logged item ≡ false = unlisted item (ap (λ (o : Option CallRow). is_withheld (treatment_of o)) c.found ∙ shown.0) bare.0 bare.1 in
          absurd cc)
      | inr confirmed ↦ (
          let needs : needs_entry c.row.treatment (boxes_on c.row.doc.0 m.boxes) (held_on c.row.doc.0 m.held) ≡ true =
          ap (λ (k : ℕ). needs_entry c.row.treatment (boxes_on k m.boxes) (held_on k m.held)) it.number ∙ sym (logged_is m doc next c.row c.found) ∙ listed in
          let entered : is_entered c.row.doc.0 m.entries ≡ true = confirmed_has m.staff m.boxes m.held m.entries c.row c.row.state it.holds confirmed needs in
          no_entry (find_key entry_key doc m.entries) ∙ not-true (is_none (find_key entry_key doc m.entries)) (ap (λ (k : ℕ). is_entered k m.entries) (sym it.number) ∙ entered))
    ]

-- its numbers are as many as are due
as_many : (next n due : ℕ) → 1 ≤ n → n ≡ due → eqb (next + n - 1 + 1) (next + due) ≡ true
as_many next n due some e = eq-eqb (next + n - 1 + 1) (next + due) (omega arith)

-- it has the parent and the pages of its document
item_placed : (m : Matter) → IsValid m → (doc next : ℕ) → 1 ≤ doc → doc ≤ length m.docs
    → is_item_of (find_key doc_key doc m.docs) (item_of next (seen_in m doc)) ≡ true
item_placed m valid doc next from to =
    let at = row-at m.docs doc valid.docs.numbered from to in
    let item : Item = item_of next (seen_in m doc) in
    let t : Treatment = treatment_of (find_key call_key doc m.calls) in
    ap (λ o. is_item_of o item) at.found
    ∙ and_from (eqb item.parent.0 at.row.parent.0) (eqb (item.span.last + 1) (item.span.first + numbers_due item.treatment at.row.pages))
    (eq-eqb item.parent.0 at.row.parent.0 at.parent)
    (as_many next (numbers_of m doc) (numbers_due t at.row.pages) (takes-number m valid doc from to) (ap (numbers_due t) (page-counted m doc from ∙ at.pages)))

-- it is an item of the matter
pub item-fits : (m : Matter) → IsValid m → (doc next : ℕ) → 1 ≤ doc → doc ≤ length m.docs → Called m.calls doc
    → item_fits (length m.fields) m.docs m.pages (item_of next (seen_in m doc)) ≡ true
item-fits m valid doc next from to c =
    let item : Item = item_of next (seen_in m doc) in
    let it = call-holds m valid doc c.row c.found in
    let texts : item_texts_fit item ≡ true =
    texts-fit item (λ fails. bare_item m valid doc next c (sym (ap (λ (o : Option CallRow). is_redact (treatment_of o)) c.found) ∙ fails))
    (listed_has m valid doc next c) (entry_found m doc (find_key entry_key doc m.entries) valid.entries.fit refl) in
    and_from _ (item_texts_fit item)
    (and_from _ (item_marks_fit (length m.fields) m.pages item)
    (and_from _ (is_designation item.designation)
    (and_from (is_item_of (find_key doc_key doc m.docs) item) (is_ground item.treatment) (item_placed m valid doc next from to)
    (ap (λ (o : Option CallRow). is_ground (treatment_of o)) c.found ∙ it.is_good))
    (ap (λ (o : Option CallRow). is_designation (designation_of o)) c.found ∙ it.designated))
    (marks-fit m valid doc next)) texts
