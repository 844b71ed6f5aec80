-- What a valid matter says of how many rows a document has, and a production items.
use Rattle.std.proofs.Common.{◌≡◌, ◌≤◌, ◌<◌, ◌+◌, ◌-◌, ◌*◌, ◌^◌, ℕ, Bool, true, eqb, leb, ◌&&◌, inl, inr, List, [], ◌∷◌, length, get_or, arith}
use Rattle.std.specs.List.{filter, list_all}
use Rattle.std.proofs.lemmas.Bool.{and_parts, cases_Bool, eqb-true, leb-true, ltb-true}
use Rattle.std.proofs.lemmas.List.Sums.{AllPass-from_list_all}
use Rattle.bp_core.specs.Sorted.{ascends}
use Rattle.bp_matter.specs.Confirming.{boxes_on, held_on}
use Rattle.bp_matter.specs.Matter.{Matter, box_key, held_key}
use Rattle.bp_matter.specs.Valid.{IsValid}
use Rattle.bp_matter.specs.ValidMarks.{doc_box_fits, doc_held_fits}
use Rattle.bp_matter.specs.ValidPages.{inside_page, page_in}
use Rattle.bp_matter.specs.ValidRows.{names}
use Rattle.bp_matter.specs.Written.{are_few, is_word, item_written, production_written, request_written, same_span, span_of}
use Rattle.bp_matter.specs.declared.limits.TheConstants.{MAX_BOX, MAX_FIELDS}
use Rattle.bp_matter.specs.declared.rows.DocBox.{DocBox}
use Rattle.bp_matter.specs.declared.rows.DocHeld.{DocHeld}
use Rattle.bp_matter.specs.declared.rows.ProductionRow.{ProductionRow}

-- in ascending order no more rows have keys from one to another than there are numbers
few_from : {R : Type 0} (key : R → ℕ) (p q : R → Bool) (low top : ℕ) (rows : List R)
    → ((r : R) → p r ≡ true → q r ≡ true → key r ≤ top)
    → ascends key low rows ≡ true
    → list_all q rows ≡ true
    → length (filter p rows) ≤ top + 1 - low
few_from key p q low top [] under up all = omega arith
few_from key p q low top (r ∷ rows) under up all =
    let order = and_parts (leb low (key r)) (ascends key (key r + 1) rows) up in
    let each = and_parts (q r) (list_all q rows) all in
    let least : low ≤ key r = leb-true low (key r) order.0 in
    let rest = few_from key p q (key r + 1) top rows under order.1 each.1 in
    elim (cases_Bool (p r)) [
      | inl here ↦ (let most = under r here each.0 in rw here (omega (arith, rest, least, most)))
      | inr there ↦ rw there (omega (arith, rest, least))
    ]

-- the same, where the first row may have a lower key
few_between : {R : Type 0} (key : R → ℕ) (p q : R → Bool) (low least top : ℕ) (rows : List R)
    → ((r : R) → p r ≡ true → least ≤ key r)
    → ((r : R) → p r ≡ true → q r ≡ true → key r ≤ top)
    → ascends key low rows ≡ true
    → list_all q rows ≡ true
    → length (filter p rows) ≤ top + 1 - least
few_between key p q low least top [] over under up all = omega arith
few_between key p q low least top (r ∷ rows) over under up all =
    let order = and_parts (leb low (key r)) (ascends key (key r + 1) rows) up in
    let each = and_parts (q r) (list_all q rows) all in
    elim (cases_Bool (p r)) [
      | inl here ↦ (
          let rest = few_from key p q (key r + 1) top rows under order.1 each.1 in
          let first = over r here in
          let most = under r here each.0 in
          rw here (omega (arith, rest, first, most)))
      | inr there ↦ rw there (few_between key p q (key r + 1) least top rows over under order.1 each.1)
    ]

-- a document has few boxes
pub boxes-few : (m : Matter) (doc : ℕ)
    → IsValid m
    → length (boxes_on doc m.boxes) < 2 ^ 32
boxes-few m doc valid =
    let of : DocBox → Bool = λ (box : DocBox). eqb box.doc.0 doc in
    let over : (box : DocBox) → of box ≡ true → doc * 4294967296 ≤ box_key box =
    λ box is. omega (arith, eqb-true box.doc.0 doc is) in
    let under : (box : DocBox) → of box ≡ true → doc_box_fits m.pages box ≡ true
    → box_key box ≤ doc * 4294967296 + MAX_BOX =
    λ box is fits.
    let numbered = and_parts (names MAX_BOX box.row.num) (inside_page (page_in m.pages box.doc.0 box.row.page.0) box.row.rect) fits in
    let most = leb-true box.row.num MAX_BOX (and_parts (leb 1 box.row.num) (leb box.row.num MAX_BOX) numbered.0).1 in
    omega (arith, eqb-true box.doc.0 doc is, most) in
    let few = few_between box_key of (doc_box_fits m.pages) 0 (doc * 4294967296) (doc * 4294967296 + MAX_BOX) m.boxes
    over under valid.boxes.ascend valid.boxes.fit in
    omega (arith, few)

-- and few held fields
pub held-few : (m : Matter) (doc : ℕ)
    → IsValid m
    → length (held_on doc m.held) < 2 ^ 32
held-few m doc valid =
    let of : DocHeld → Bool = λ (held : DocHeld). eqb held.doc.0 doc in
    let fits : DocHeld → Bool = doc_held_fits (length m.fields) (length m.docs) in
    let over : (held : DocHeld) → of held ≡ true → doc * 4294967296 ≤ held_key held =
    λ held is. omega (arith, eqb-true held.doc.0 doc is) in
    let under : (held : DocHeld) → of held ≡ true → fits held ≡ true
    → held_key held ≤ doc * 4294967296 + length m.fields =
    λ held is fit.
    let numbered = and_parts (names (length m.docs) held.doc.0) (names (length m.fields) held.row.field) fit in
    let most = leb-true held.row.field (length m.fields) (and_parts (leb 1 held.row.field) (leb held.row.field (length m.fields)) numbered.1).1 in
    omega (arith, eqb-true held.doc.0 doc is, most) in
    let fields = leb-true (length m.fields) MAX_FIELDS valid.fields.few in
    let few = few_between held_key of fits 0 (doc * 4294967296) (doc * 4294967296 + length m.fields) m.held
    over under valid.held.ascend valid.held.fit in
    omega (arith, few, fields)

-- each production that has a writing has few items
pub items-few : (rows : List ProductionRow) (i : ℕ) (d : ProductionRow)
    → list_all production_written rows ≡ true
    → i < length rows
    → length (get_or rows i d).production.items < 2 ^ 32
items-few rows i d all lt =
    let row = get_or rows i d in
    let written : production_written row ≡ true = AllPass-from_list_all production_written rows all i d lt in
    let few = are_few item_written row.production.items in
    let spans = same_span row.production.span (span_of row.production.items) in
    let asked = and_parts (is_word row.num) (request_written row.production.request && (few && spans)) written in
    let some = and_parts (request_written row.production.request) (few && spans) asked.1 in
    let both = and_parts few spans some.1 in
    let many = and_parts (list_all item_written row.production.items) (is_word (length row.production.items)) both.0 in
    ltb-true (length row.production.items) (2 ^ 32) many.1
