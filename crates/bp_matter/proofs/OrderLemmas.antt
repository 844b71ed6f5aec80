-- The kept rows of a valid matter ascend: the order of each list is that of its kept rows, and each kind lies below the next.
use Rattle.std.proofs.Common.{◌≡◌, ℕ, ◌+◌, ◌*◌, ◌^◌, ◌≤◌, Bool, true, leb, ltb, ◌&&◌, List, [], ◌∷◌, ◌++◌, map, subst, refl, arith}
use Rattle.std.specs.List.{list_all}
use Rattle.std.proofs.lemmas.Bool.{and_parts, and_from, leb-true, le-leb, ltb-true}
use Rattle.std.proofs.lemmas.List.{append-nil}
use Rattle.bp_core.specs.Sorted.{ascends, row_key}
use Rattle.bp_core.specs.declared.kept.Row.{Row}
use Rattle.bp_core.proofs.SortedLemmas.{ascends-lower}
use Rattle.bp_matter.specs.KeptRows.{staff_kept, field_kept, doc_kept, page_kept, call_kept, box_kept, held_kept, entry_kept, prefix_kept, production_kept, batch_kept, words_kept, rows_of}
use Rattle.bp_matter.specs.Written.{staff_written, field_written, doc_written, page_written, call_written, box_written, held_written, entry_written, prefix_written, production_written, batch_written, words_written}
use Rattle.bp_matter.specs.Matter.{Matter, staff_key, field_key, doc_key, page_key, call_key, box_key, held_key, entry_key, prefix_key, production_key, batch_key, words_key}
use Rattle.bp_matter.specs.Valid.{IsValid}
use Rattle.bp_matter.proofs.NumberedLemmas.{numbered-ascends}

-- the least key of a kind
abbrev floor : ℕ → ℕ
floor kind = kind * 18446744073709551616

-- the order of a list is that of its kept rows, and these lie below the rest
kept_from : {T : Type 0} (kept : T → Row) (key : T → ℕ) (written : T → Bool) (above : ℕ) → ((x y : T) → key x + 1 ≤ key y → row_key (kept x) + 1 ≤ row_key (kept y))
    → ((x : T) → written x ≡ true → row_key (kept x) + 1 ≤ above) → (low start : ℕ) → ((x : T) → low ≤ key x → start ≤ row_key (kept x)) → start ≤ above
    → (xs : List T) (rest : List Row) → ascends key low xs ≡ true → list_all written xs ≡ true → ascends row_key above rest ≡ true
    → ascends row_key start (map kept xs ++ rest) ≡ true
kept_from kept key written above rises below low start from under [] rest up all more = ascends-lower row_key above start rest under more
kept_from kept key written above rises below low start from under (x ∷ xs) rest up all more =
    let order = and_parts (leb low (key x)) (ascends key (key x + 1) xs) up in
    let each = and_parts (written x) (list_all written xs) all in
    and_from (leb start (row_key (kept x))) (ascends row_key (row_key (kept x) + 1) (map kept xs ++ rest))
    (le-leb start (row_key (kept x)) (from x (leb-true low (key x) order.0)))
    (kept_from kept key written above rises below (key x + 1) (row_key (kept x) + 1) (rises x) (below x each.0) xs rest order.1 each.1 more)

-- the rows of a kind before those of the next
kept_ascend : {T : Type 0} (kept : T → Row) (key : T → ℕ) (written : T → Bool) (kind : ℕ) → ((x y : T) → key x + 1 ≤ key y → row_key (kept x) + 1 ≤ row_key (kept y))
    → ((x : T) → written x ≡ true → row_key (kept x) + 1 ≤ floor (kind + 1)) → ((x : T) → floor kind ≤ row_key (kept x))
    → (xs : List T) (rest : List Row) → ascends key 0 xs ≡ true → list_all written xs ≡ true → ascends row_key (floor (kind + 1)) rest ≡ true
    → ascends row_key (floor kind) (map kept xs ++ rest) ≡ true
kept_ascend kept key written kind rises below from xs rest up all more =
    kept_from kept key written (floor (kind + 1)) rises below 0 (floor kind) (λ x le. from x) (omega arith) xs rest up all more

-- a number of 32 bits is the first of what was written, or the second
first_below : (n : ℕ) (b : Bool) → (ltb n (2 ^ 32) && b) ≡ true → n + 1 ≤ 4294967296
first_below n b h = omega (arith, ltb-true n (2 ^ 32) (and_parts (ltb n (2 ^ 32)) b h).0)

second_below : (a : Bool) (n : ℕ) (b : Bool) → (a && (ltb n (2 ^ 32) && b)) ≡ true → n + 1 ≤ 4294967296
second_below a n b h = first_below n b (and_parts a (ltb n (2 ^ 32) && b) h).1

pub rows-ascend : (m : Matter) → IsValid m → ascends row_key 0 (rows_of m) ≡ true
rows-ascend m v =
    let words = map words_kept m.words in
    let batches = map batch_kept m.batches ++ words in
    let productions = map production_kept m.productions ++ batches in
    let prefixes = map prefix_kept m.prefixes ++ productions in
    let entries = map entry_kept m.entries ++ prefixes in
    let held = map held_kept m.held ++ entries in
    let boxes = map box_kept m.boxes ++ held in
    let calls = map call_kept m.calls ++ boxes in
    let pages = map page_kept m.pages ++ calls in
    let docs = map doc_kept m.docs ++ pages in
    let fields = map field_kept m.fields ++ docs in
    let staff = map staff_kept m.staff ++ fields in
    let e12 : ascends row_key (floor 12) words ≡ true = subst (λ (rows : List Row). ascends row_key (floor 12) rows ≡ true) (append-nil words)
    (kept_ascend words_kept words_key words_written 12 (λ x y h. omega (arith, h)) (λ x w. omega (arith, first_below x.doc.0 _ w, second_below _ x.page.0 _ w)) (λ x. omega arith) m.words [] v.words.ascend v.words.written refl) in
    let e11 : ascends row_key (floor 11) batches ≡ true =
    kept_ascend batch_kept batch_key batch_written 11 (λ x y h. omega (arith, h)) (λ x w. omega (arith, first_below x.num _ w)) (λ x. omega arith) m.batches words (numbered-ascends batch_key m.batches v.batches.numbered) v.batches.written e12 in
    let e10 : ascends row_key (floor 10) productions ≡ true =
    kept_ascend production_kept production_key production_written 10 (λ x y h. omega (arith, h)) (λ x w. omega (arith, first_below x.num _ w)) (λ x. omega arith) m.productions batches (numbered-ascends production_key m.productions v.productions.numbered) v.productions.written e11 in
    let e9 : ascends row_key (floor 9) prefixes ≡ true =
    kept_ascend prefix_kept prefix_key prefix_written 9 (λ x y h. omega (arith, h)) (λ x w. omega (arith, first_below x.num _ w)) (λ x. omega arith) m.prefixes productions (numbered-ascends prefix_key m.prefixes v.prefixes.numbered) v.prefixes.written e10 in
    let e8 : ascends row_key (floor 8) entries ≡ true =
    kept_ascend entry_kept entry_key entry_written 8 (λ x y h. omega (arith, h)) (λ x w. omega (arith, first_below x.doc.0 _ w)) (λ x. omega arith) m.entries prefixes v.entries.ascend v.entries.written e9 in
    let e7 : ascends row_key (floor 7) held ≡ true =
    kept_ascend held_kept held_key held_written 7 (λ x y h. omega (arith, h)) (λ x w. omega (arith, first_below x.doc.0 _ w, ltb-true x.row.field (2 ^ 32) (and_parts (ltb x.doc.0 (2 ^ 32)) _ w).1)) (λ x. omega arith) m.held entries v.held.ascend v.held.written e8 in
    let e6 : ascends row_key (floor 6) boxes ≡ true =
    kept_ascend box_kept box_key box_written 6 (λ x y h. omega (arith, h)) (λ x w. omega (arith, first_below x.doc.0 _ w, second_below _ x.row.num _ w)) (λ x. omega arith) m.boxes held v.boxes.ascend v.boxes.written e7 in
    let e5 : ascends row_key (floor 5) calls ≡ true =
    kept_ascend call_kept call_key call_written 5 (λ x y h. omega (arith, h)) (λ x w. omega (arith, first_below x.doc.0 _ w)) (λ x. omega arith) m.calls boxes v.calls.ascend v.calls.written e6 in
    let e4 : ascends row_key (floor 4) pages ≡ true =
    kept_ascend page_kept page_key page_written 4 (λ x y h. omega (arith, h)) (λ x w. omega (arith, first_below x.doc.0 _ w, second_below _ x.page.0 _ w)) (λ x. omega arith) m.pages calls v.pages.ascend v.pages.written e5 in
    let e3 : ascends row_key (floor 3) docs ≡ true =
    kept_ascend doc_kept doc_key doc_written 3 (λ x y h. omega (arith, h)) (λ x w. omega (arith, first_below x.doc.0 _ w)) (λ x. omega arith) m.docs pages (numbered-ascends doc_key m.docs v.docs.numbered) v.docs.written e4 in
    let e2 : ascends row_key (floor 2) fields ≡ true =
    kept_ascend field_kept field_key field_written 2 (λ x y h. omega (arith, h)) (λ x w. omega (arith, first_below x.field _ w)) (λ x. omega arith) m.fields docs (numbered-ascends field_key m.fields v.fields.numbered) v.fields.written e3 in
    let e1 : ascends row_key (floor 1) staff ≡ true =
    kept_ascend staff_kept staff_key staff_written 1 (λ x y h. omega (arith, h)) (λ x w. omega (arith, first_below x.staff.0 _ w)) (λ x. omega arith) m.staff fields (numbered-ascends staff_key m.staff v.staff.numbered) v.staff.written e2 in
    ascends-lower row_key (floor 1) 0 staff (omega arith) e1
