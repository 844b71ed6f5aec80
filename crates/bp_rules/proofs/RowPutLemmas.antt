-- Puts of changed rows: the kept rows of a matter, with the put of a row that is changed or gone, are those of the matter after it.
use Rattle.std.proofs.Common.{◌≡◌, ℕ, ◌+◌, ◌*◌, ◌≤◌, ◌<◌, true, eqb, leb, ltb, List, [], ◌∷◌, ◌++◌, map, Some, refl, sym, ap, ◌∙◌, arith, inl, inr}
use Rattle.std.proofs.lemmas.Bool.{and_parts, cases_Bool, eqb-true, eqb-false, eq-eqb, ne_eqb, leb-true, ltb-true, ltb-false, lt-ltb, le-ltb}
use Rattle.bp_core.specs.Sorted.{ascends, find_key, put, row_key, two_keys, without}
use Rattle.bp_core.proofs.SortedLemmas.{ascends-lower, without-above}
use Rattle.bp_core.specs.declared.kept.Row.{Row}
use Rattle.bp_matter.specs.KeptRows.{batch_kept, box_kept, call_kept, doc_kept, entry_kept, field_kept, held_kept, page_kept, prefix_kept, production_kept, rows_of, staff_kept, words_kept}
use Rattle.bp_matter.specs.Matter.{Matter, box_key, call_key, entry_key, held_key, prefix_key}
use Rattle.bp_matter.specs.declared.rows.CallRow.{CallRow}
use Rattle.bp_matter.specs.declared.rows.DocBox.{DocBox}
use Rattle.bp_matter.specs.declared.rows.DocEntry.{DocEntry}
use Rattle.bp_matter.specs.declared.rows.DocHeld.{DocHeld}
use Rattle.bp_matter.specs.declared.rows.PrefixRow.{PrefixRow}
use Rattle.bp_rules.specs.Calling.{with_box, with_call, with_entry, with_held, without_box, without_call, without_held}
use Rattle.bp_rules.proofs.PutLemmas.{put-first, put-later}

-- ---- a row put among rows

-- rows before those among which a row is put
past : (x : Row) (head before after : List Row) → ((low : ℕ) → ascends row_key low after ≡ true → (put row_key x before ≡ after) × (low ≤ row_key x))
    → (low : ℕ) → ascends row_key low (head ++ after) ≡ true → (put row_key x (head ++ before) ≡ head ++ after) × (low ≤ row_key x)
past x [] before after p low up = p low up
past x (a ∷ head) before after p low up =
    let parts = and_parts (leb low (row_key a)) (ascends row_key (row_key a + 1) (head ++ after)) up in
    let rest = past x head before after p (row_key a + 1) parts.1 in
    let floor : low ≤ row_key a = leb-true low (row_key a) parts.0 in
    let above : row_key a + 1 ≤ row_key x = rest.1 in
    (put-later a x (head ++ before) above ∙ ap (λ (l : List Row). a ∷ l) rest.0, omega arith)

-- the kept rows of a list, in the order of the list
abbrev SameOrder : {T : Type 0} → (T → Row) → (T → ℕ) → Type 0
SameOrder {T} kept key = (a b : T) → (ltb (row_key (kept a)) (row_key (kept b)) ≡ ltb (key a) (key b)) × (eqb (row_key (kept a)) (row_key (kept b)) ≡ eqb (key a) (key b))

-- the rows of a list, and those behind
within : {T : Type 0} (kept : T → Row) (key : T → ℕ) → SameOrder kept key → (row : T) (xs : List T) (ys : List Row) (low : ℕ) → ascends row_key low (map kept (put key row xs) ++ ys) ≡ true
    → (put row_key (kept row) (map kept xs ++ ys) ≡ map kept (put key row xs) ++ ys) × (low ≤ row_key (kept row))
within kept key order row [] ys low up =
    let parts = and_parts (leb low (row_key (kept row))) (ascends row_key (row_key (kept row) + 1) ys) up in
    (put-first (kept row) ys parts.1, leb-true low (row_key (kept row)) parts.0)
within kept key order row (x ∷ xs) ys low up =
    let o = order row x in
    elim (cases_Bool (ltb (key row) (key x))) [
      | inl less ↦ (
          let u = rw less at up in
          (rw (o.0, less) refl, leb-true low (row_key (kept row)) (and_parts (leb low (row_key (kept row))) (ascends row_key (row_key (kept row) + 1) (kept x ∷ map kept xs ++ ys)) u).0))
      | inr more ↦
          elim (cases_Bool (eqb (key row) (key x))) [
            | inl same ↦ (
                let u = rw (more, same) at up in
                (rw (o.0, o.1, more, same) refl, leb-true low (row_key (kept row)) (and_parts (leb low (row_key (kept row))) (ascends row_key (row_key (kept row) + 1) (map kept xs ++ ys)) u).0))
            | inr other ↦ (
                let u = rw (more, other) at up in
                let parts = and_parts (leb low (row_key (kept x))) (ascends row_key (row_key (kept x) + 1) (map kept (put key row xs) ++ ys)) u in
                let rest = within kept key order row xs ys (row_key (kept x) + 1) parts.1 in
                let floor : low ≤ row_key (kept x) = leb-true low (row_key (kept x)) parts.0 in
                let above : row_key (kept x) + 1 ≤ row_key (kept row) = rest.1 in
                (rw (o.0, o.1, more, other) (ap (λ (l : List Row). kept x ∷ l) rest.0), omega arith))
          ]
    ]

-- ---- a row that is gone

gone-past : (k : ℕ) (head before after : List Row) → ((low : ℕ) → ascends row_key low before ≡ true → (without row_key k before ≡ after) × (low ≤ k))
    → (low : ℕ) → ascends row_key low (head ++ before) ≡ true → (without row_key k (head ++ before) ≡ head ++ after) × (low ≤ k)
gone-past k [] before after p low up = p low up
gone-past k (a ∷ head) before after p low up =
    let parts = and_parts (leb low (row_key a)) (ascends row_key (row_key a + 1) (head ++ before)) up in
    let rest = gone-past k head before after p (row_key a + 1) parts.1 in
    let floor : low ≤ row_key a = leb-true low (row_key a) parts.0 in
    let above : row_key a + 1 ≤ k = rest.1 in
    (rw (ne_eqb (row_key a) k (λ e. omega arith)) (ap (λ (l : List Row). a ∷ l) rest.0), omega arith)

ascends-behind : (low : ℕ) (xs ys : List Row) → ascends row_key low (xs ++ ys) ≡ true → ascends row_key low ys ≡ true
ascends-behind low [] ys up = up
ascends-behind low (x ∷ xs) ys up =
    let parts = and_parts (leb low (row_key x)) (ascends row_key (row_key x + 1) (xs ++ ys)) up in
    let floor : low ≤ row_key x = leb-true low (row_key x) parts.0 in
    ascends-lower row_key (row_key x + 1) low ys (omega arith) (ascends-behind (row_key x + 1) xs ys parts.1)

-- a row that is found lies below those behind
found-below : {T : Type 0} (kept : T → Row) (key : T → ℕ) (k j : ℕ) → ((a : T) → eqb (row_key (kept a)) k ≡ eqb (key a) j) → (xs : List T) (ys : List Row) (x : T) → find_key key j xs ≡ Some x
    → (low : ℕ) → ascends row_key low (map kept xs ++ ys) ≡ true → (low ≤ k) × (ascends row_key (k + 1) ys ≡ true)
found-below kept key k j same [] ys x found low up = absurd cc
found-below kept key k j same (first ∷ xs) ys x found low up =
    let parts = and_parts (leb low (row_key (kept first))) (ascends row_key (row_key (kept first) + 1) (map kept xs ++ ys)) up in
    let floor : low ≤ row_key (kept first) = leb-true low (row_key (kept first)) parts.0 in
    elim (cases_Bool (eqb (key first) j)) [
      | inl here ↦ (
          let is : row_key (kept first) ≡ k = eqb-true (row_key (kept first)) k (same first ∙ here) in
          (omega arith, rw is at (ascends-behind (row_key (kept first) + 1) (map kept xs) ys parts.1)))
      | inr there ↦ (
          let rest = found-below kept key k j same xs ys x (rw there at found) (row_key (kept first) + 1) parts.1 in
          (omega (arith, rest.0), rest.1))
    ]

gone-map : {T : Type 0} (kept : T → Row) (key : T → ℕ) (k j : ℕ) → ((a : T) → eqb (row_key (kept a)) k ≡ eqb (key a) j) → (xs : List T) (ys : List Row) → without row_key k (map kept xs ++ ys) ≡ map kept (without key j xs) ++ without row_key k ys
gone-map kept key k j same [] ys = refl
gone-map kept key k j same (x ∷ xs) ys =
    elim (cases_Bool (eqb (key x) j)) [
      | inl here ↦ rw (same x, here) (gone-map kept key k j same xs ys)
      | inr there ↦ rw (same x, there) (ap (λ (l : List Row). kept x ∷ l) (gone-map kept key k j same xs ys))
    ]

gone-within : {T : Type 0} (kept : T → Row) (key : T → ℕ) (k j : ℕ) → ((a : T) → eqb (row_key (kept a)) k ≡ eqb (key a) j) → (xs : List T) (ys : List Row) (x : T) → find_key key j xs ≡ Some x
    → (low : ℕ) → ascends row_key low (map kept xs ++ ys) ≡ true → (without row_key k (map kept xs ++ ys) ≡ map kept (without key j xs) ++ ys) × (low ≤ k)
gone-within kept key k j same xs ys x found low up =
    let below = found-below kept key k j same xs ys x found low up in
    (gone-map kept key k j same xs ys ∙ ap (λ (l : List Row). map kept (without key j xs) ++ l) (without-above row_key k (k + 1) ys (omega arith) below.1), below.0)

-- ---- keys of one kind

less_same : (a b x y : ℕ) → (a < b → x < y) → (b ≤ a → y ≤ x) → ltb x y ≡ ltb a b
less_same a b x y less more =
    elim (cases_Bool (ltb a b)) [
      | inl h ↦ lt-ltb x y (less (ltb-true a b h)) ∙ sym h
      | inr h ↦ le-ltb x y (more (ltb-false a b h)) ∙ sym h
    ]

equal_same : (a b x y : ℕ) → (a ≡ b → x ≡ y) → (x ≡ y → a ≡ b) → eqb x y ≡ eqb a b
equal_same a b x y same back =
    elim (cases_Bool (eqb a b)) [
      | inl h ↦ eq-eqb x y (same (eqb-true a b h)) ∙ sym h
      | inr h ↦ ne_eqb x y (λ e. eqb-false a b h (back e)) ∙ sym h
    ]

call_order : SameOrder call_kept call_key
call_order a b = (less_same (call_key a) (call_key b) (row_key (call_kept a)) (row_key (call_kept b)) (λ h. omega arith) (λ h. omega arith), equal_same (call_key a) (call_key b) (row_key (call_kept a)) (row_key (call_kept b)) (λ h. omega arith) (λ h. omega arith))

box_order : SameOrder box_kept box_key
box_order a b = (less_same (box_key a) (box_key b) (row_key (box_kept a)) (row_key (box_kept b)) (λ h. omega arith) (λ h. omega arith), equal_same (box_key a) (box_key b) (row_key (box_kept a)) (row_key (box_kept b)) (λ h. omega arith) (λ h. omega arith))

held_order : SameOrder held_kept held_key
held_order a b = (less_same (held_key a) (held_key b) (row_key (held_kept a)) (row_key (held_kept b)) (λ h. omega arith) (λ h. omega arith), equal_same (held_key a) (held_key b) (row_key (held_kept a)) (row_key (held_kept b)) (λ h. omega arith) (λ h. omega arith))

entry_order : SameOrder entry_kept entry_key
entry_order a b = (less_same (entry_key a) (entry_key b) (row_key (entry_kept a)) (row_key (entry_kept b)) (λ h. omega arith) (λ h. omega arith), equal_same (entry_key a) (entry_key b) (row_key (entry_kept a)) (row_key (entry_kept b)) (λ h. omega arith) (λ h. omega arith))

prefix_order : SameOrder prefix_kept prefix_key
prefix_order a b = (less_same (prefix_key a) (prefix_key b) (row_key (prefix_kept a)) (row_key (prefix_kept b)) (λ h. omega arith) (λ h. omega arith), equal_same (prefix_key a) (prefix_key b) (row_key (prefix_kept a)) (row_key (prefix_kept b)) (λ h. omega arith) (λ h. omega arith))

-- ---- of the matter

-- the kinds before the calls
before_calls : (m : Matter) (x : Row) (before after : List Row) → ((low : ℕ) → ascends row_key low after ≡ true → (put row_key x before ≡ after) × (low ≤ row_key x))
    → (low : ℕ) → ascends row_key low (map staff_kept m.staff ++ (map field_kept m.fields ++ (map doc_kept m.docs ++ (map page_kept m.pages ++ after)))) ≡ true
    → (put row_key x (map staff_kept m.staff ++ (map field_kept m.fields ++ (map doc_kept m.docs ++ (map page_kept m.pages ++ before)))) ≡ map staff_kept m.staff ++ (map field_kept m.fields ++ (map doc_kept m.docs ++ (map page_kept m.pages ++ after)))) × (low ≤ row_key x)
before_calls m x before after p =
    let pages = map page_kept m.pages in
    let docs = map doc_kept m.docs in
    let fields = map field_kept m.fields in
    past x (map staff_kept m.staff) (fields ++ (docs ++ (pages ++ before))) (fields ++ (docs ++ (pages ++ after)))
    (past x fields (docs ++ (pages ++ before)) (docs ++ (pages ++ after)) (past x docs (pages ++ before) (pages ++ after) (past x pages before after p)))

gone-before_calls : (m : Matter) (k : ℕ) (before after : List Row) → ((low : ℕ) → ascends row_key low before ≡ true → (without row_key k before ≡ after) × (low ≤ k))
    → (low : ℕ) → ascends row_key low (map staff_kept m.staff ++ (map field_kept m.fields ++ (map doc_kept m.docs ++ (map page_kept m.pages ++ before)))) ≡ true
    → (without row_key k (map staff_kept m.staff ++ (map field_kept m.fields ++ (map doc_kept m.docs ++ (map page_kept m.pages ++ before)))) ≡ map staff_kept m.staff ++ (map field_kept m.fields ++ (map doc_kept m.docs ++ (map page_kept m.pages ++ after)))) × (low ≤ k)
gone-before_calls m k before after p =
    let pages = map page_kept m.pages in
    let docs = map doc_kept m.docs in
    let fields = map field_kept m.fields in
    gone-past k (map staff_kept m.staff) (fields ++ (docs ++ (pages ++ before))) (fields ++ (docs ++ (pages ++ after)))
    (gone-past k fields (docs ++ (pages ++ before)) (docs ++ (pages ++ after)) (gone-past k docs (pages ++ before) (pages ++ after) (gone-past k pages before after p)))

-- the kinds after the log entries, and so on
abbrev behind_prefixes : Matter → List Row
behind_prefixes m = map production_kept m.productions ++ (map batch_kept m.batches ++ map words_kept m.words)

abbrev behind_entries : Matter → List Row
behind_entries m = map prefix_kept m.prefixes ++ behind_prefixes m

abbrev behind_held : Matter → List Row
behind_held m = map entry_kept m.entries ++ behind_entries m

abbrev behind_boxes : Matter → List Row
behind_boxes m = map held_kept m.held ++ behind_held m

abbrev behind_calls : Matter → List Row
behind_calls m = map box_kept m.boxes ++ behind_boxes m

pub call-put : (m : Matter) (row : CallRow) → ascends row_key 0 (rows_of (with_call row m)) ≡ true → put row_key (call_kept row) (rows_of m) ≡ rows_of (with_call row m)
call-put m row up =
    (before_calls m (call_kept row) (map call_kept m.calls ++ behind_calls m) (map call_kept (put call_key row m.calls) ++ behind_calls m)
    (within call_kept call_key call_order row m.calls (behind_calls m)) 0 up).0

pub box-put : (m : Matter) (row : DocBox) → ascends row_key 0 (rows_of (with_box row m)) ≡ true → put row_key (box_kept row) (rows_of m) ≡ rows_of (with_box row m)
box-put m row up =
    let calls = map call_kept m.calls in
    let before = map box_kept m.boxes ++ behind_boxes m in
    let after = map box_kept (put box_key row m.boxes) ++ behind_boxes m in
    (before_calls m (box_kept row) (calls ++ before) (calls ++ after) (past (box_kept row) calls before after (within box_kept box_key box_order row m.boxes (behind_boxes m))) 0 up).0

pub held-put : (m : Matter) (row : DocHeld) → ascends row_key 0 (rows_of (with_held row m)) ≡ true → put row_key (held_kept row) (rows_of m) ≡ rows_of (with_held row m)
held-put m row up =
    let calls = map call_kept m.calls in
    let boxes = map box_kept m.boxes in
    let before = map held_kept m.held ++ behind_held m in
    let after = map held_kept (put held_key row m.held) ++ behind_held m in
    (before_calls m (held_kept row) (calls ++ (boxes ++ before)) (calls ++ (boxes ++ after)) (past (held_kept row) calls (boxes ++ before) (boxes ++ after) (past (held_kept row) boxes before after (within held_kept held_key held_order row m.held (behind_held m)))) 0 up).0

pub entry-put : (m : Matter) (row : DocEntry) → ascends row_key 0 (rows_of (with_entry row m)) ≡ true → put row_key (entry_kept row) (rows_of m) ≡ rows_of (with_entry row m)
entry-put m row up =
    let calls = map call_kept m.calls in
    let boxes = map box_kept m.boxes in
    let held = map held_kept m.held in
    let before = map entry_kept m.entries ++ behind_entries m in
    let after = map entry_kept (put entry_key row m.entries) ++ behind_entries m in
    (before_calls m (entry_kept row) (calls ++ (boxes ++ (held ++ before))) (calls ++ (boxes ++ (held ++ after)))
    (past (entry_kept row) calls (boxes ++ (held ++ before)) (boxes ++ (held ++ after)) (past (entry_kept row) boxes (held ++ before) (held ++ after) (past (entry_kept row) held before after (within entry_kept entry_key entry_order row m.entries (behind_entries m))))) 0 up).0

-- the matter with a prefix put among its own
abbrev pub with_prefix : PrefixRow → Matter → Matter
with_prefix row m = record m { prefixes = put prefix_key row m.prefixes }

pub prefix-put : (m : Matter) (row : PrefixRow) → ascends row_key 0 (rows_of (with_prefix row m)) ≡ true → put row_key (prefix_kept row) (rows_of m) ≡ rows_of (with_prefix row m)
prefix-put m row up =
    let calls = map call_kept m.calls in
    let boxes = map box_kept m.boxes in
    let held = map held_kept m.held in
    let entries = map entry_kept m.entries in
    let before = map prefix_kept m.prefixes ++ behind_prefixes m in
    let after = map prefix_kept (put prefix_key row m.prefixes) ++ behind_prefixes m in
    (before_calls m (prefix_kept row) (calls ++ (boxes ++ (held ++ (entries ++ before)))) (calls ++ (boxes ++ (held ++ (entries ++ after))))
    (past (prefix_kept row) calls (boxes ++ (held ++ (entries ++ before))) (boxes ++ (held ++ (entries ++ after)))
    (past (prefix_kept row) boxes (held ++ (entries ++ before)) (held ++ (entries ++ after))
    (past (prefix_kept row) held (entries ++ before) (entries ++ after)
    (past (prefix_kept row) entries before after (within prefix_kept prefix_key prefix_order row m.prefixes (behind_prefixes m)))))) 0 up).0

pub call-gone : (m : Matter) (doc : ℕ) (row : CallRow) → find_key call_key doc m.calls ≡ Some row → ascends row_key 0 (rows_of m) ≡ true → without row_key (5 * 18446744073709551616 + two_keys doc 0) (rows_of m) ≡ rows_of (without_call doc m)
call-gone m doc row found up =
    let k = 5 * 18446744073709551616 + two_keys doc 0 in
    (gone-before_calls m k (map call_kept m.calls ++ behind_calls m) (map call_kept (without call_key doc m.calls) ++ behind_calls m)
    (gone-within call_kept call_key k doc (λ a. equal_same (call_key a) doc (row_key (call_kept a)) k (λ h. omega arith) (λ h. omega arith)) m.calls (behind_calls m) row found) 0 up).0

pub box-gone : (m : Matter) (doc num : ℕ) (row : DocBox) → find_key box_key (two_keys doc num) m.boxes ≡ Some row → ascends row_key 0 (rows_of m) ≡ true → without row_key (6 * 18446744073709551616 + two_keys doc num) (rows_of m) ≡ rows_of (without_box doc num m)
box-gone m doc num row found up =
    let k = 6 * 18446744073709551616 + two_keys doc num in
    let calls = map call_kept m.calls in
    let before = map box_kept m.boxes ++ behind_boxes m in
    let after = map box_kept (without box_key (two_keys doc num) m.boxes) ++ behind_boxes m in
    (gone-before_calls m k (calls ++ before) (calls ++ after)
    (gone-past k calls before after (gone-within box_kept box_key k (two_keys doc num) (λ a. equal_same (box_key a) (two_keys doc num) (row_key (box_kept a)) k (λ h. omega arith) (λ h. omega arith)) m.boxes (behind_boxes m) row found)) 0 up).0

pub held-gone : (m : Matter) (doc field : ℕ) (row : DocHeld) → find_key held_key (two_keys doc field) m.held ≡ Some row → ascends row_key 0 (rows_of m) ≡ true → without row_key (7 * 18446744073709551616 + two_keys doc field) (rows_of m) ≡ rows_of (without_held doc field m)
held-gone m doc field row found up =
    let k = 7 * 18446744073709551616 + two_keys doc field in
    let calls = map call_kept m.calls in
    let boxes = map box_kept m.boxes in
    let before = map held_kept m.held ++ behind_held m in
    let after = map held_kept (without held_key (two_keys doc field) m.held) ++ behind_held m in
    (gone-before_calls m k (calls ++ (boxes ++ before)) (calls ++ (boxes ++ after)) (gone-past k calls (boxes ++ before) (boxes ++ after)
    (gone-past k boxes before after (gone-within held_kept held_key k (two_keys doc field) (λ a. equal_same (held_key a) (two_keys doc field) (row_key (held_kept a)) k (λ h. omega arith) (λ h. omega arith)) m.held (behind_held m) row found))) 0 up).0
