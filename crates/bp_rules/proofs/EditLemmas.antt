-- Changes of a review can be made: their puts keep the rows of the matter after them, and their rows have a writing.
use Rattle.std.proofs.Common.{◌≡◌, ℕ, Bool, true, eqb, ltb, List, [], ◌∷◌, ◌++◌, length, map, Option, Some, None, refl, ap, ◌∙◌, inl, inr, arith}
use Rattle.std.specs.Prelude.{is_some}
use Rattle.std.specs.List.{list_all}
use Rattle.std.proofs.lemmas.Bool.{and_parts, cases_Bool}
use Rattle.std.proofs.lemmas.List.{length-map}
use Rattle.bp_core.specs.Sorted.{ascends, put, row_key}
use Rattle.bp_core.specs.declared.kept.Put.{Put}
use Rattle.bp_keep.specs.Puts.{put_all}
use Rattle.bp_matter.specs.KeptRows.{batch_kept, box_kept, call_kept, doc_kept, entry_kept, field_kept, held_kept, page_kept, prefix_kept, production_kept, rows_of, staff_kept, words_kept}
use Rattle.bp_matter.specs.LookUps.{call_with}
use Rattle.bp_matter.specs.Matter.{Matter, box_key, call_key, entry_key, held_key}
use Rattle.bp_matter.specs.Valid.{IsValid}
use Rattle.bp_matter.specs.Written.{box_written, call_written, entry_written, held_written}
use Rattle.bp_matter.specs.declared.rows.StaffRow.{StaffRow}
use Rattle.bp_rules.specs.Calling.{box_with, held_with, with_staff}
use Rattle.bp_rules.specs.Changes.{CanBeMade, after, call_puts, mark_puts, put_of, puts_of, rows_kept}
use Rattle.bp_rules.specs.Deciding.{CanBeReviewed, call_there, mark_there}
use Rattle.bp_rules.specs.Written.{call_edit_written, mark_edit_written}
use Rattle.bp_rules.specs.declared.changes.CallEdit.{CallEdit}
use Rattle.bp_rules.specs.declared.changes.CallEdit.TheVariants as call_edits
use Rattle.bp_rules.specs.declared.changes.Edit.{Edit}
use Rattle.bp_rules.specs.declared.changes.Edit.TheVariants.{Import, Nothing, Produced, Review, Staff}
use Rattle.bp_rules.specs.declared.changes.MarkEdit.{MarkEdit}
use Rattle.bp_rules.specs.declared.changes.MarkEdit.TheVariants as mark_edits
use Rattle.bp_rules.proofs.PutLemmas.{grow, still, weaves-put}
use Rattle.bp_rules.proofs.RoomLemmas.{kept-count}
use Rattle.bp_rules.proofs.RowPutLemmas.{box-gone, box-put, call-gone, call-put, entry-put, held-gone, held-put}

-- the order of the kept rows of a valid matter
abbrev pub Orders : Type 0
Orders = (n : Matter) → IsValid n → ascends row_key 0 (rows_of n) ≡ true

is_there : {T : Type 0} (o : Option T) → is_some o ≡ true → (x : T) × (o ≡ Some x)
is_there None h = absurd cc
is_there (Some x) h = (x, refl)

-- ---- puts

call-puts-made : (m : Matter) (call : CallEdit) (puts : List Put) → Orders → IsValid m → IsValid (after m (Review call mark_edits.Stays)) → call_there m call ≡ true
    → put_all (call_puts call ++ puts) (rows_of m) ≡ put_all puts (rows_of (after m (Review call mark_edits.Stays)))
call-puts-made m call_edits.Stays puts order v first there = refl
call-puts-made m (call_edits.Put row) puts order v first there = ap (put_all puts) (call-put m row (order (after m (Review (call_edits.Put row) mark_edits.Stays)) first))
call-puts-made m (call_edits.Gone doc) puts order v first there =
    let found = is_there (call_with doc.0 m) there in
    ap (put_all puts) (call-gone m doc.0 found.0 found.1 (order m v))

mark-puts-made : (m : Matter) (mark : MarkEdit) → Orders → IsValid m → IsValid (after m (Review call_edits.Stays mark)) → mark_there m mark ≡ true → put_all (mark_puts mark) (rows_of m) ≡ rows_of (after m (Review call_edits.Stays mark))
mark-puts-made m mark_edits.Stays order v whole there = refl
mark-puts-made m (mark_edits.PutBox row) order v whole there = box-put m row (order (after m (Review call_edits.Stays (mark_edits.PutBox row))) whole)
mark-puts-made m (mark_edits.DropBox doc num) order v whole there =
    let found = is_there (box_with doc.0 num m) there in
    box-gone m doc.0 num found.0 found.1 (order m v)
mark-puts-made m (mark_edits.PutHeld row) order v whole there = held-put m row (order (after m (Review call_edits.Stays (mark_edits.PutHeld row))) whole)
mark-puts-made m (mark_edits.DropHeld doc field) order v whole there =
    let found = is_there (held_with doc.0 field m) there in
    held-gone m doc.0 field found.0 found.1 (order m v)
mark-puts-made m (mark_edits.PutEntry row) order v whole there = entry-put m row (order (after m (Review call_edits.Stays (mark_edits.PutEntry row))) whole)

-- what goes of the marks is there with any call
there-still : (m : Matter) (call : CallEdit) (mark : MarkEdit) → mark_there m mark ≡ true → mark_there (after m (Review call mark_edits.Stays)) mark ≡ true
there-still m call mark_edits.Stays h = refl
there-still m call (mark_edits.PutBox row) h = refl
there-still m call (mark_edits.DropBox doc num) h = h
there-still m call (mark_edits.PutHeld row) h = refl
there-still m call (mark_edits.DropHeld doc field) h = h
there-still m call (mark_edits.PutEntry row) h = refl

pub review-made : (m : Matter) (call : CallEdit) (mark : MarkEdit) → Orders → IsValid m → CanBeReviewed m call mark → CanBeMade m (Review call mark)
review-made m call mark order v can =
    record {
      valid = can.whole;
      rows = call-puts-made m call (mark_puts mark) order v can.first can.call_stands ∙ mark-puts-made (after m (Review call mark_edits.Stays)) mark order can.first can.whole (there-still m call mark can.mark_stands);
    }

pub staff-made : (m : Matter) (row : StaffRow) → Orders → IsValid (with_staff row m) → CanBeMade m (Staff row)
staff-made m row order v =
    let others = map field_kept m.fields ++ (map doc_kept m.docs ++ (map page_kept m.pages ++ (map call_kept m.calls ++ (map box_kept m.boxes ++ (map held_kept m.held ++ (map entry_kept m.entries
    ++ (map prefix_kept m.prefixes ++ (map production_kept m.productions ++ (map batch_kept m.batches ++ map words_kept m.words))))))))) in
    record {
      valid = v;
      rows = weaves-put (rows_of m) (staff_kept row ∷ []) (rows_of (with_staff row m)) (grow staff_kept m.staff (row ∷ []) (still others)) (order (with_staff row m) v);
    }

-- ---- writings

-- what all rows pass passes a row that was put
pub put-member : {T : Type 0} (key : T → ℕ) (p : T → Bool) (row : T) (rows : List T) → list_all p (put key row rows) ≡ true → p row ≡ true
put-member key p row [] all = (and_parts (p row) true all).0
put-member key p row (x ∷ rows) all =
    elim (cases_Bool (ltb (key row) (key x))) [
      | inl less ↦ (and_parts (p row) (list_all p (x ∷ rows)) (rw less at all)).0
      | inr more ↦
          elim (cases_Bool (eqb (key row) (key x))) [
            | inl same ↦ (and_parts (p row) (list_all p rows) (rw (more, same) at all)).0
            | inr other ↦ put-member key p row rows (and_parts (p x) (list_all p (put key row rows)) (rw (more, other) at all)).1
          ]
    ]

pub call-edit-written : (m : Matter) (call : CallEdit) → IsValid (after m (Review call mark_edits.Stays)) → call_edit_written call ≡ true
call-edit-written m call_edits.Stays v = refl
call-edit-written m (call_edits.Put row) v = put-member call_key call_written row m.calls v.calls.written
call-edit-written m (call_edits.Gone doc) v = refl

pub mark-edit-written : (m : Matter) (call : CallEdit) (mark : MarkEdit) → IsValid (after m (Review call mark)) → mark_edit_written mark ≡ true
mark-edit-written m call mark_edits.Stays v = refl
mark-edit-written m call (mark_edits.PutBox row) v = put-member box_key box_written row m.boxes v.boxes.written
mark-edit-written m call (mark_edits.DropBox doc num) v = refl
mark-edit-written m call (mark_edits.PutHeld row) v = put-member held_key held_written row m.held v.held.written
mark-edit-written m call (mark_edits.DropHeld doc field) v = refl
mark-edit-written m call (mark_edits.PutEntry row) v = put-member entry_key entry_written row m.entries v.entries.written

-- ---- no puts

-- a change without puts changes nothing
pub nothing-changed : (m : Matter) (edit : Edit) → length (puts_of edit) ≡ 0 → after m edit ≡ m
nothing-changed m Nothing none = refl
nothing-changed m (Import rows) none = absurd (omega (arith, none, length-map (rows_kept rows) put_of, kept-count rows))
nothing-changed m (Staff row) none = absurd (omega (arith, none))
nothing-changed m (Produced prefix row) none = absurd (omega (arith, none))
nothing-changed m (Review (call_edits.Put row) mark) none = absurd (omega (arith, none))
nothing-changed m (Review (call_edits.Gone doc) mark) none = absurd (omega (arith, none))
nothing-changed m (Review call_edits.Stays mark_edits.Stays) none = refl
nothing-changed m (Review call_edits.Stays (mark_edits.PutBox row)) none = absurd (omega (arith, none))
nothing-changed m (Review call_edits.Stays (mark_edits.DropBox doc num)) none = absurd (omega (arith, none))
nothing-changed m (Review call_edits.Stays (mark_edits.PutHeld row)) none = absurd (omega (arith, none))
nothing-changed m (Review call_edits.Stays (mark_edits.DropHeld doc field)) none = absurd (omega (arith, none))
nothing-changed m (Review call_edits.Stays (mark_edits.PutEntry row)) none = absurd (omega (arith, none))
