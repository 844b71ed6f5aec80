-- What each call needs: it changes nothing where its row stands, and else a document can be changed so.
use Rattle.std.proofs.Common.{◌≡◌, ◌⊎◌, ℕ, ◌+◌, ◌^◌, ◌≤◌, ◌<◌, Bool, true, false, cond, not, eqb, leb, ◌&&◌, List, [], ◌∷◌, ◌++◌, length, Option, Some, None, refl, sym, ap, subst, ◌∙◌, inl, inr, arith}
use Rattle.std.specs.Prelude.{is_some, Result, Ok}
use Rattle.std.specs.Str.{all_scalars, bytes_eq}
use Rattle.std.proofs.lemmas.Bool.{and_cases, and_parts, and_from, eqb-true, eq-eqb, le-leb, not-false, or_parts}
use Rattle.bp_core.specs.Sorted.{find_key, put, two_keys, without}
use Rattle.bp_core.specs.declared.kept.Put.{Put}
use Rattle.bp_core.specs.declared.numbers.DocNo.{DocNo}
use Rattle.bp_core.specs.declared.numbers.StaffNo.{StaffNo}
use Rattle.bp_core.specs.declared.rules.Rule.{Rule}
use Rattle.bp_core.specs.declared.rules.RuleKind.{RuleKind}
use Rattle.std.proofs.lemmas.List.{length-append}
use Rattle.bp_core.proofs.SortedLemmas.{find-put}
use Rattle.bp_matter.specs.Confirming.{boxes_on, confirm_rule, held_on, is_entered, may_hold}
use Rattle.bp_matter.specs.Fields.{editor_number}
use Rattle.bp_matter.specs.LookUps.{call_with, doc_with, entry_with, field_with, page_with, staff_with}
use Rattle.bp_matter.specs.Matter.{Matter, box_key, call_key, doc_key, entry_key, field_key, held_key, staff_key}
use Rattle.bp_matter.specs.Texts.{is_designation}
use Rattle.bp_matter.specs.Treatments.{is_ground, is_redact}
use Rattle.bp_matter.specs.Valid.{IsValid}
use Rattle.bp_matter.specs.ValidEntries.{entry_fits}
use Rattle.bp_matter.specs.ValidMarks.{doc_box_fits}
use Rattle.bp_matter.specs.ValidPages.{inside_page}
use Rattle.bp_matter.specs.ValidRows.{names}
use Rattle.bp_matter.specs.ValidStaff.{checker_there}
use Rattle.bp_matter.specs.Written.{box_written, held_written}
use Rattle.bp_matter.specs.declared.calls.Reply.{Reply}
use Rattle.bp_matter.specs.declared.calls.Reply.TheVariants as replies
use Rattle.bp_matter.specs.declared.rows.CallRow.{CallRow}
use Rattle.bp_matter.specs.declared.rows.DocBox.{DocBox}
use Rattle.bp_matter.specs.declared.rows.DocEntry.{DocEntry}
use Rattle.bp_matter.specs.declared.rows.DocHeld.{DocHeld}
use Rattle.bp_matter.specs.declared.rows.FieldRow.{FieldRow}
use Rattle.bp_matter.specs.declared.rows.PageRow.{PageRow}
use Rattle.bp_matter.specs.declared.rows.StaffRow.{StaffRow}
use Rattle.bp_matter.specs.declared.rows.State.{State}
use Rattle.bp_matter.specs.declared.rows.State.TheVariants.{Confirmed, First, Uncalled}
use Rattle.bp_rules.specs.Calling.{box_with, calls_edited, confirmed_by, confirmed_state, edited, first_by, held_with, next_staff, with_box, with_call, with_entry, with_held, with_staff, without_box, without_call, without_held}
use Rattle.bp_rules.specs.Changes.{CanBeMade, after, call_puts, mark_puts, puts_of}
use Rattle.bp_rules.specs.Deciding.{CanBeReviewed, DecidedAs, EntryScalars, IsCaller, call_there, mark_there}
use Rattle.bp_rules.specs.Refusing.{has_marks, is_box, is_called_redact, is_staff_name}
use Rattle.bp_rules.specs.Stepping.{Stepped, done}
use Rattle.bp_rules.specs.declared.changes.CallEdit.{CallEdit}
use Rattle.bp_rules.specs.declared.changes.CallEdit.TheVariants as call_edits
use Rattle.bp_rules.specs.declared.changes.Edit.{Edit}
use Rattle.bp_rules.specs.declared.changes.Edit.TheVariants.{Review, Staff}
use Rattle.bp_rules.specs.declared.changes.MarkEdit.{MarkEdit}
use Rattle.bp_rules.specs.declared.changes.MarkEdit.TheVariants as mark_edits
use Rattle.bp_rules.proofs.CallLemmas.{RowFits, call-valid, confirmed-fits, edited-open, edited-valid, set-fits}
use Rattle.bp_rules.proofs.EditLemmas.{Orders, staff-made}
use Rattle.bp_rules.proofs.StaffLemmas.{staff-valid}
use Rattle.bp_rules.proofs.FoundLemmas.{find-without, found-key, numbered-found, put-again, without-none}
use Rattle.bp_rules.proofs.ListLemmas.{numbered-within}
use Rattle.bp_rules.proofs.MarkLemmas.{box-gone-valid, box-valid, entry-valid, held-gone-valid, held-valid}

-- ---- rows that stand

pub again-call : (m : Matter) (old row : CallRow) → IsValid m → call_with row.doc.0 m ≡ Some old → old ≡ row → m ≡ with_call row m
again-call m old row v found same = ap (λ (l : List CallRow). record m { calls = l }) (sym (put-again call_key 0 row m.calls v.calls.ascend (found ∙ ap Some same)))

pub again-box : (m : Matter) (old row : DocBox) → IsValid m → box_with row.doc.0 row.row.num m ≡ Some old → old ≡ row → m ≡ with_box row m
again-box m old row v found same = ap (λ (l : List DocBox). record m { boxes = l }) (sym (put-again box_key 0 row m.boxes v.boxes.ascend (found ∙ ap Some same)))

pub again-held : (m : Matter) (old row : DocHeld) → IsValid m → held_with row.doc.0 row.row.field m ≡ Some old → old ≡ row → m ≡ with_held row m
again-held m old row v found same = ap (λ (l : List DocHeld). record m { held = l }) (sym (put-again held_key 0 row m.held v.held.ascend (found ∙ ap Some same)))

pub again-entry : (m : Matter) (old row : DocEntry) → IsValid m → entry_with row.doc.0 m ≡ Some old → old ≡ row → m ≡ with_entry row m
again-entry m old row v found same = ap (λ (l : List DocEntry). record m { entries = l }) (sym (put-again entry_key 0 row m.entries v.entries.ascend (found ∙ ap Some same)))

-- what is put and changes nothing stands, and what goes and changes nothing isn't there
put-there : {T : Type 0} (key : T → ℕ) (row : T) (rows : List T) → put key row rows ≡ rows → find_key key (key row) rows ≡ Some row
put-there {T} key row rows same =
    ap (find_key key (key row)) (sym same) ∙ find-put key row rows (key row) ∙ ap (λ (b : Bool). cond b (Some row) (find_key key (key row) rows)) (eq-eqb (key row) (key row) refl)

gone-there : {T : Type 0} (key : T → ℕ) (k : ℕ) (rows : List T) → without key k rows ≡ rows → find_key key k rows ≡ None
gone-there {T} key k rows same = ap (find_key key k) (sym same) ∙ find-without key k k rows ∙ ap (λ (b : Bool). cond b None (find_key key k rows)) (eq-eqb k k refl)

pub call-stands : (m : Matter) (row : CallRow) → with_call row m ≡ m → call_with row.doc.0 m ≡ Some row
call-stands m row same = put-there call_key row m.calls (ap (λ (n : Matter). n.calls) same)

pub box-stands : (m : Matter) (row : DocBox) → with_box row m ≡ m → box_with row.doc.0 row.row.num m ≡ Some row
box-stands m row same = put-there box_key row m.boxes (ap (λ (n : Matter). n.boxes) same)

pub held-stands : (m : Matter) (row : DocHeld) → with_held row m ≡ m → held_with row.doc.0 row.row.field m ≡ Some row
held-stands m row same = put-there held_key row m.held (ap (λ (n : Matter). n.held) same)

pub entry-stands : (m : Matter) (row : DocEntry) → with_entry row m ≡ m → entry_with row.doc.0 m ≡ Some row
entry-stands m row same = put-there entry_key row m.entries (ap (λ (n : Matter). n.entries) same)

pub call-absent : (m : Matter) (doc : ℕ) → without_call doc m ≡ m → call_with doc m ≡ None
call-absent m doc same = gone-there call_key doc m.calls (ap (λ (n : Matter). n.calls) same)

pub box-dropped : (m : Matter) (doc : DocNo) (num : ℕ) → is_some (box_with doc.0 num m) ≡ true → without_box doc.0 num m ≡ m → mark_puts (mark_edits.DropBox doc num) ≡ []
box-dropped m doc num there same = absurd (let none : is_some (box_with doc.0 num m) ≡ false = ap is_some (gone-there box_key (two_keys doc.0 num) m.boxes (ap (λ (n : Matter). n.boxes) same)) in cc)

pub held-dropped : (m : Matter) (doc : DocNo) (field : ℕ) → is_some (held_with doc.0 field m) ≡ true → without_held doc.0 field m ≡ m → mark_puts (mark_edits.DropHeld doc field) ≡ []
held-dropped m doc field there same = absurd (let none : is_some (held_with doc.0 field m) ≡ false = ap is_some (gone-there held_key (two_keys doc.0 field) m.held (ap (λ (n : Matter). n.held) same)) in cc)

pub still-uncalled : (m : Matter) (doc : ℕ) → call_with doc m ≡ None → m ≡ without_call doc m
still-uncalled m doc none = ap (λ (l : List CallRow). record m { calls = l }) (sym (without-none call_key doc m.calls none))

-- ---- the change that was decided

-- where nothing changes nothing is put
review-quiet : (m : Matter) (call : CallEdit) (mark : MarkEdit) → CanBeReviewed m call mark → after m (Review call mark) ≡ m → puts_of (Review call mark) ≡ []
review-quiet m call mark can same =
    let one : after m (Review call mark_edits.Stays) ≡ m = ap (λ (n : Matter). record m { calls = n.calls }) same in
    let other : after m (Review call_edits.Stays mark) ≡ m = ap (λ (n : Matter). record m { boxes = n.boxes; held = n.held; entries = n.entries }) same in
    ap (λ (puts : List Put). puts ++ mark_puts mark) (can.call_new one) ∙ can.mark_new other

pub review-decided : (m : Matter) (call : CallEdit) (mark : MarkEdit) (edit : Edit) (reply : Reply) → edit ≡ Review call mark → reply ≡ replies.Done → CanBeMade m (Review call mark) → CanBeReviewed m call mark
    → DecidedAs m (done (after m (Review call mark))) (record { change = edit; reply = reply })
review-decided m call mark edit reply is it made can =
    let matter : ◌≡◌ {A = Result Stepped Rule} (Ok (record { reply = replies.Done; matter = after m (Review call mark) })) (Ok (record { reply = replies.Done; matter = after m edit })) =
    ap (λ (e : Edit). Ok (record { reply = replies.Done; matter = after m e })) (sym is) in
    record {
      answer = matter ∙ ap (λ (r : Reply). Ok (record { reply = r; matter = after m edit })) (sym it);
      made = subst (λ (e : Edit). CanBeMade m e) (sym is) made;
      quiet = λ same. ap puts_of is ∙ review-quiet m call mark can (ap (after m) (sym is) ∙ same);
    }

-- ---- a member who comes

pub staff-decided : (m : Matter) (row : StaffRow) (edit : Edit) → edit ≡ Staff row → Orders → IsValid m → row.staff ≡ next_staff m → length m.staff < 1000 → is_staff_name row.name ≡ true → all_scalars row.name ≡ true → length row.digest ≡ 32 → staff_with row.digest m ≡ None
    → DecidedAs m (Ok (record { reply = replies.Staff row.staff; matter = with_staff row m })) (record { change = edit; reply = replies.Staff row.staff })
staff-decided m row edit is order v number few name scalars digest new =
    let valid : IsValid (with_staff row m) = staff-valid m row v (record { number = ap (λ (n : StaffNo). n.0) number; few = few; fits = name; scalars = scalars; digest = digest; new = new }) in
    record {
      answer = ap (λ (e : Edit). Ok (record { reply = replies.Staff row.staff; matter = after m e })) (sym is);
      made = subst (λ (e : Edit). CanBeMade m e) (sym is) (staff-made m row order valid);
      quiet = λ same. absurd (let more : length (m.staff ++ row ∷ []) ≡ length m.staff = ap (λ (n : Matter). length n.staff) (ap (after m) (sym is) ∙ same) in omega (arith, more, length-append m.staff (row ∷ [])));
    }

-- ---- who calls

pub caller-is : (m : Matter) (key : List ℕ) (row : StaffRow) → IsValid m → staff_with key m ≡ Some row → IsCaller m row
caller-is m key row v found =
    let it = numbered-found staff_key 1 (λ (r : StaffRow). bytes_eq r.digest key) m.staff row v.staff.numbered found in
    let low : 1 ≤ row.staff.0 = it.0 in
    let high : row.staff.0 + 1 ≤ 1 + length m.staff = it.1 in
    record {
      named = and_from (leb 1 row.staff.0) (leb row.staff.0 (length m.staff)) (le-leb 1 row.staff.0 low) (le-leb row.staff.0 (length m.staff) (omega arith));
      checker = λ may. ap checker_there it.2 ∙ may;
    }

-- a document that is found is one of so many
is_there : {T : Type 0} (o : Option T) → is_some o ≡ true → (x : T) × (o ≡ Some x)
is_there None h = absurd cc
is_there (Some x) h = (x, refl)

pub doc-named : (m : Matter) (doc : ℕ) → IsValid m → is_some (doc_with doc m) ≡ true → names (length m.docs) doc ≡ true
doc-named m doc v there =
    let found = is_there (doc_with doc m) there in
    let it = numbered-within doc_key 1 doc m.docs found.0 v.docs.numbered found.1 in
    let low : 1 ≤ doc = it.0 in
    let high : doc + 1 ≤ 1 + length m.docs = it.1 in
    and_from (leb 1 doc) (leb doc (length m.docs)) (le-leb 1 doc low) (le-leb doc (length m.docs) (omega arith))

pub field-named : (m : Matter) (name : List ℕ) (row : FieldRow) → IsValid m → field_with name m ≡ Some row → names (length m.fields) row.field ≡ true
field-named m name row v found =
    let it = numbered-found field_key 1 (λ (r : FieldRow). bytes_eq r.name name) m.fields row v.fields.numbered found in
    let low : 1 ≤ row.field = it.0 in
    let high : row.field + 1 ≤ 1 + length m.fields = it.1 in
    and_from (leb 1 row.field) (leb row.field (length m.fields)) (le-leb 1 row.field low) (le-leb row.field (length m.fields) (omega arith))

-- ---- changes of a document

-- of its call alone
pub can-call : (m n : Matter) (call : CallEdit) → after m (Review call mark_edits.Stays) ≡ n → call_there m call ≡ true → (after m (Review call mark_edits.Stays) ≡ m → call_puts call ≡ []) → IsValid n → CanBeReviewed m call mark_edits.Stays
can-call m n call is there new v =
    let valid = subst (λ (x : Matter). IsValid x) (sym is) v in
    record { first = valid; whole = valid; call_stands = there; mark_stands = refl; call_new = new; mark_new = λ same. refl }

-- the calls of one matter, and the marks of another
abbrev joined : Matter → Matter → Matter → Matter
joined m a b = record m { calls = a.calls; boxes = b.boxes; held = b.held; entries = b.entries }

pub can-mark : (m a b : Matter) (call : CallEdit) (mark : MarkEdit) → after m (Review call mark_edits.Stays) ≡ a → after m (Review call_edits.Stays mark) ≡ b → call_there m call ≡ true → mark_there m mark ≡ true
    → (after m (Review call mark_edits.Stays) ≡ m → call_puts call ≡ []) → (after m (Review call_edits.Stays mark) ≡ m → mark_puts mark ≡ []) → IsValid a → IsValid (joined m a b) → CanBeReviewed m call mark
can-mark m a b call mark one other there stands new fresh first whole =
    let both : after m (Review call mark) ≡ joined m a b = ap (λ (x : Matter). joined m x (after m (Review call_edits.Stays mark))) one ∙ ap (joined m a) other in
    record {
      first = subst (λ (x : Matter). IsValid x) (sym one) first;
      whole = subst (λ (x : Matter). IsValid x) (sym both) whole;
      call_stands = there;
      mark_stands = stands;
      call_new = new;
      mark_new = fresh;
    }

-- a document that is called Redact is so when it is edited
edited-may-by : (m : Matter) (caller : StaffNo) (doc : ℕ) (call : Option CallRow) → call_with doc m ≡ call → is_called_redact call ≡ true → may_hold (find_key call_key doc (calls_edited caller call m.calls)) ≡ true
edited-may-by m caller doc None e redact = absurd cc
edited-may-by m caller doc (Some row) e redact =
    let here : find_key call_key doc (put call_key (first_by caller row) m.calls) ≡ Some (first_by caller row) =
    find-put call_key (first_by caller row) m.calls doc ∙ ap (λ (b : Bool). cond b (Some (first_by caller row)) (find_key call_key doc m.calls)) (eq-eqb row.doc.0 doc (found-key call_key doc m.calls row e)) in
    ap may_hold here ∙ redact

edited-may : (m : Matter) (caller : StaffNo) (doc : ℕ) → is_called_redact (call_with doc m) ≡ true → may_hold (call_with doc (edited caller doc m)) ≡ true
edited-may m caller doc redact = edited-may-by m caller doc (call_with doc m) refl redact

pub box-can : (m : Matter) (caller : StaffNo) (row : DocBox) (page : PageRow) → IsValid m → names (length m.staff) caller.0 ≡ true → page_with row.doc.0 row.row.page.0 m ≡ Some page → is_box row.row ≡ true → inside_page (Some page) row.row.rect ≡ true
    → is_called_redact (call_with row.doc.0 m) ≡ true → box_written row ≡ true → IsValid (with_box row (edited caller row.doc.0 m))
box-can m caller row page v named found shape inside redact written =
    let parts = and_parts (names 1000 row.row.num && not (eqb row.row.rect.width 0)) (not (eqb row.row.rect.height 0)) shape in
    let number : names 1000 row.row.num ≡ true = (and_parts (names 1000 row.row.num) (not (eqb row.row.rect.width 0)) parts.0).0 in
    let fits : doc_box_fits m.pages row ≡ true =
    and_from (names 1000 row.row.num) (inside_page (page_with row.doc.0 row.row.page.0 m) row.row.rect) number (ap (λ (o : Option PageRow). inside_page o row.row.rect) found ∙ inside) in
    box-valid (edited caller row.doc.0 m) row (edited-valid m caller row.doc.0 v named) (edited-open m caller row.doc.0) (edited-may m caller row.doc.0 redact) fits written

pub held-can : (m : Matter) (caller : StaffNo) (row : DocHeld) → IsValid m → names (length m.staff) caller.0 ≡ true → names (length m.docs) row.doc.0 ≡ true → names (length m.fields) row.row.field ≡ true → is_called_redact (call_with row.doc.0 m) ≡ true → held_written row ≡ true
    → IsValid (with_held row (edited caller row.doc.0 m))
held-can m caller row v named doc field redact written =
    held-valid (edited caller row.doc.0 m) row (edited-valid m caller row.doc.0 v named) (edited-open m caller row.doc.0) (edited-may m caller row.doc.0 redact) (and_from (names (length m.docs) row.doc.0) (names (length m.fields) row.row.field) doc field) written

pub entry-can : (m : Matter) (caller : StaffNo) (row : DocEntry) → IsValid m → names (length m.staff) caller.0 ≡ true → names (length m.docs) row.doc.0 ≡ true → entry_fits row.entry ≡ true → EntryScalars row.entry → IsValid (with_entry row (edited caller row.doc.0 m))
entry-can m caller row v named doc fits scalars = entry-valid (edited caller row.doc.0 m) row (edited-valid m caller row.doc.0 v named) (edited-open m caller row.doc.0) doc fits scalars

pub box-gone-can : (m : Matter) (caller : StaffNo) (doc num : ℕ) → IsValid m → names (length m.staff) caller.0 ≡ true → num < 2 ^ 32 → IsValid (without_box doc num (edited caller doc m))
box-gone-can m caller doc num v named small = box-gone-valid (edited caller doc m) doc num (edited-valid m caller doc v named) (edited-open m caller doc) small

pub held-gone-can : (m : Matter) (caller : StaffNo) (doc field : ℕ) → IsValid m → names (length m.staff) caller.0 ≡ true → field < 2 ^ 32 → IsValid (without_held doc field (edited caller doc m))
held-gone-can m caller doc field v named small = held-gone-valid (edited caller doc m) doc field (edited-valid m caller doc v named) (edited-open m caller doc) small

-- ---- a call that is set

no_marks_left : (m : Matter) (row : CallRow) → has_marks row.doc.0 m ≡ false → (length (boxes_on row.doc.0 m.boxes) ≡ 0) × (length (held_on row.doc.0 m.held) ≡ 0)
no_marks_left m row none =
    let parts = or_parts (not (eqb (length (boxes_on row.doc.0 m.boxes)) 0)) (not (eqb (length (held_on row.doc.0 m.held)) 0)) none in
    (eqb-true (length (boxes_on row.doc.0 m.boxes)) 0 (not-false (eqb (length (boxes_on row.doc.0 m.boxes)) 0) parts.0), eqb-true (length (held_on row.doc.0 m.held)) 0 (not-false (eqb (length (held_on row.doc.0 m.held)) 0) parts.1))

marks_allow : (m : Matter) (row : CallRow) → (not (is_redact row.treatment) && has_marks row.doc.0 m) ≡ false → ((is_redact row.treatment ≡ true) ⊎ (length (boxes_on row.doc.0 m.boxes) ≡ 0)) × ((is_redact row.treatment ≡ true) ⊎ (length (held_on row.doc.0 m.held) ≡ 0))
marks_allow m row h =
    elim (and_cases (not (is_redact row.treatment)) (has_marks row.doc.0 m) h) [
      | inl redact ↦ (inl (not-false (is_redact row.treatment) redact), inl (not-false (is_redact row.treatment) redact))
      | inr none ↦ (let left = no_marks_left m row none in (inr left.0, inr left.1))
    ]

pub set-can : (m : Matter) (caller : StaffNo) (row : CallRow) → IsValid m → names (length m.staff) caller.0 ≡ true → names (length m.docs) row.doc.0 ≡ true → row.state ≡ First caller → all_scalars row.designation ≡ true → is_designation row.designation ≡ true
    → is_ground row.treatment ≡ true → (not (is_redact row.treatment) && has_marks row.doc.0 m) ≡ false → IsValid (with_call row m)
set-can m caller row v named doc state scalars designation ground marks =
    let allow = marks_allow m row marks in
    call-valid m row v (set-fits m caller row v (record { named = named; doc = doc; state = state; scalars = scalars; designation = designation; ground = ground; boxes = allow.0; held = allow.1 }))

-- ---- a call that is confirmed

-- whatever its state
confirmed-by-state : (m : Matter) (caller : StaffNo) (row : CallRow) (s : State) → row.state ≡ s → IsValid m → names (length m.staff) caller.0 ≡ true → checker_there (find_key staff_key caller.0 m.staff) ≡ true → call_with row.doc.0 m ≡ Some row
    → ((editor : StaffNo) → row.state ≡ First editor → RowFits m (record row { state = Confirmed editor caller })) → IsValid (with_call (record row { state = confirmed_state caller s }) m)
confirmed-by-state m caller row Uncalled is v named checker found fits = subst (λ (n : Matter). IsValid n) (again-call m row (record row { state = Uncalled }) v found (ap (λ (s : State). record row { state = s }) is)) v
confirmed-by-state m caller row (First editor) is v named checker found fits = call-valid m (record row { state = Confirmed editor caller }) v (fits editor is)
confirmed-by-state m caller row (Confirmed editor confirmer) is v named checker found fits =
    subst (λ (n : Matter). IsValid n) (again-call m row (record row { state = Confirmed editor confirmer }) v found (ap (λ (s : State). record row { state = s }) is)) v

pub confirm-can : (m : Matter) (caller : StaffNo) (editor : ℕ) (row : CallRow) → IsValid m → names (length m.staff) caller.0 ≡ true → checker_there (find_key staff_key caller.0 m.staff) ≡ true → call_with row.doc.0 m ≡ Some row
    → ((first : StaffNo) → row.state ≡ First first → editor ≡ first.0) → confirm_rule row editor (boxes_on row.doc.0 m.boxes) (held_on row.doc.0 m.held) (is_entered row.doc.0 m.entries) caller.0 ≡ None → IsValid (with_call (confirmed_by caller row) m)
confirm-can m caller editor row v named checker found by rule =
    confirmed-by-state m caller row row.state refl v named checker found (λ first is.
    let same : confirm_rule row first.0 (boxes_on row.doc.0 m.boxes) (held_on row.doc.0 m.held) (is_entered row.doc.0 m.entries) caller.0 ≡ None =
    ap (λ (n : ℕ). confirm_rule row n (boxes_on row.doc.0 m.boxes) (held_on row.doc.0 m.held) (is_entered row.doc.0 m.entries) caller.0) (sym (by first is)) ∙ rule in
    confirmed-fits m first caller row v named checker found is same)

first-editor : (row : CallRow) (editor : ℕ) → editor ≡ editor_number row.state → (first : StaffNo) → row.state ≡ First first → editor ≡ first.0
first-editor row editor e first is = e ∙ ap editor_number is

no_rule : (o : Option RuleKind) → ((kind : RuleKind) → o ≡ Some kind → ⊥) → o ≡ None
no_rule None h = refl
no_rule (Some kind) h = absurd (h kind refl)

-- what confirming a call needs, from what was found of it
pub confirm-made : (m : Matter) (caller : StaffNo) (doc editor : ℕ) (row new : CallRow) (edit : CallEdit) (boxes : List DocBox) (held : List DocHeld) (entered : Bool) (rule : Option RuleKind) (s : State)
    → IsValid m → names (length m.staff) caller.0 ≡ true → checker_there (find_key staff_key caller.0 m.staff) ≡ true → call_with doc m ≡ Some row → editor ≡ editor_number row.state → boxes ≡ boxes_on doc m.boxes → held ≡ held_on doc m.held → entered ≡ is_entered doc m.entries
    → rule ≡ confirm_rule row editor boxes held entered caller.0 → ((kind : RuleKind) → rule ≡ Some kind → ⊥) → s ≡ confirmed_state caller row.state → new ≡ record row { state = s } → after m (Review edit mark_edits.Stays) ≡ with_call new m → call_there m edit ≡ true
    → (after m (Review edit mark_edits.Stays) ≡ m → call_puts edit ≡ []) → CanBeReviewed m edit mark_edits.Stays
confirm-made m caller doc editor row new edit boxes held entered rule s v named checker found ed eb eh ee er none es en after_is there fresh =
    let here : row.doc.0 ≡ doc = found-key call_key doc m.calls row found in
    let again : call_with row.doc.0 m ≡ Some row = ap (λ (d : ℕ). call_with d m) here ∙ found in
    let rule_is : confirm_rule row editor (boxes_on row.doc.0 m.boxes) (held_on row.doc.0 m.held) (is_entered row.doc.0 m.entries) caller.0 ≡ None =
    rw (here, ← eb, ← eh, ← ee) (sym er ∙ no_rule rule none) in
    let new_is : new ≡ confirmed_by caller row = en ∙ ap (λ (t : State). record row { state = t }) es in
    can-call m (with_call (confirmed_by caller row) m) edit (after_is ∙ ap (λ (r : CallRow). with_call r m) new_is) there fresh (confirm-can m caller editor row v named checker again (first-editor row editor ed) rule_is)
