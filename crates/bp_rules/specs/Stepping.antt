-- One call on a matter: its reply and the matter after it, or the first rule that it breaks. Each
-- call tests its rules in their order, and then says what it does.
use Rattle.std.specs.Prelude.{Bool, List, Option, Some, None, Result, Ok, Err, if◌then◌else◌, is_some, length, nat_le, not, ◌&&◌, ◌==◌, ℕ}
use Rattle.std.specs.Str.{bytes_eq}
use Rattle.bp_core.specs.declared.numbers.DocNo.{DocNo}
use Rattle.bp_core.specs.declared.numbers.StaffNo.{StaffNo}
use Rattle.bp_core.specs.declared.review.Basis.{Basis}
use Rattle.bp_core.specs.declared.review.Role.{Role}
use Rattle.bp_core.specs.declared.rules.Rule.{Rule}
use Rattle.bp_core.specs.declared.rules.RuleKind.{RuleKind}
use Rattle.bp_core.specs.declared.rules.RuleKind.TheVariants as kinds
use Rattle.bp_matter.specs.Confirming.{boxes_on, confirm_rule, held_on, is_entered}
use Rattle.bp_matter.specs.Fields.{editor_number, role_number}
use Rattle.bp_matter.specs.LookUps.{call_with, doc_with, field_with, page_with, staff_with, words_with}
use Rattle.bp_matter.specs.Matter.{Matter}
use Rattle.bp_matter.specs.Texts.{is_designation}
use Rattle.bp_matter.specs.Treatments.{is_ground, is_redact}
use Rattle.bp_matter.specs.ValidEntries.{entry_fits}
use Rattle.bp_matter.specs.ValidPages.{inside_page}
use Rattle.bp_matter.specs.declared.calls.Call.{Call}
use Rattle.bp_matter.specs.declared.calls.Call.TheVariants.{AddStaff, Confirm, DropBox, Find, FreeField, Freeze, GetProduction, HoldField, Plan, PutBox, PutEntry, SeeDoc, SeePage, SeeProductions, SeeStaff, SeeStates, SeeValues, SeeWords, SendBack, SetCall}
use Rattle.bp_matter.specs.declared.calls.Reply.{Reply}
use Rattle.bp_matter.specs.declared.calls.Reply.TheVariants as replies
use Rattle.bp_matter.specs.declared.limits.TheConstants.{MAX_STAFF}
use Rattle.bp_matter.specs.declared.rows.CallRow.{CallRow}
use Rattle.bp_matter.specs.declared.rows.DocBox.{DocBox}
use Rattle.bp_matter.specs.declared.rows.DocEntry.{DocEntry}
use Rattle.bp_matter.specs.declared.rows.FieldRow.{FieldRow}
use Rattle.bp_matter.specs.declared.rows.PageRow.{PageRow}
use Rattle.bp_matter.specs.declared.rows.Production.{Production}
use Rattle.bp_matter.specs.declared.rows.StaffRow.{StaffRow}
use Rattle.bp_matter.specs.declared.rows.State.TheVariants.{First}
use Rattle.bp_freeze.specs.Freezing.{freeze_of, kept_production}
use Rattle.bp_freeze.specs.Keeping.{frozen_matter}
use Rattle.bp_looks.specs.Finding.{find}
use Rattle.bp_looks.specs.Productions.{productions_of}
use Rattle.bp_looks.specs.Staff.{people_of}
use Rattle.bp_looks.specs.States.{see_states}
use Rattle.bp_looks.specs.Values.{see_values}
use Rattle.bp_rules.specs.Calling.{box_with, confirmed_by, edited, held_with, next_staff, view_of, with_box, with_call, with_entry, with_held, with_staff, without_box, without_call, without_held, words_in}
use Rattle.bp_rules.specs.Refusing.{has_marks, is_box, is_called_redact, is_staff_name, on_doc, on_page, refused, staff_full, staff_there}
use Rattle.bp_rules.specs.Roles.{may}

-- what a call replies, and the matter after it
pub record Stepped : Type 0 where
  pub reply : Reply
  pub matter : Matter

-- a reply that changes nothing
abbrev pub told : Matter → Reply → Result Stepped Rule
told m reply = Ok (record { reply = reply; matter = m })

-- an answer that changes nothing, or the rule that the call breaks
abbrev pub quiet_answer : {A : Type 0} → Matter → (A → Reply) → Result A Rule → Result Stepped Rule
quiet_answer m reply (Ok value) = told m (reply value)
quiet_answer m reply (Err rule) = Err rule

-- done, and the matter after it
abbrev pub done : Matter → Result Stepped Rule
done m = Ok (record { reply = replies.Done; matter = m })

-- a member of the staff has this name and this role
abbrev pub is_member : List ℕ → Role → StaffRow → Bool
is_member name role row = bytes_eq row.name name && (role_number row.role == role_number role)

-- one who has the key is found where equal; a new one comes while there is room
abbrev pub staff_by : Matter → StaffRow → Option StaffRow → Result Stepped Rule
staff_by m new (Some row) =
    if not (is_member new.name new.role row) then Err (staff_there row.staff.0)
    else told m (replies.Staff row.staff)
staff_by m new None =
    if nat_le MAX_STAFF (length m.staff) then Err (staff_full (length m.staff))
    else Ok (record { reply = replies.Staff new.staff; matter = with_staff new m })

-- a member comes whose name is fit to be kept
abbrev pub add_staff : Matter → StaffRow → Result Stepped Rule
add_staff m new =
    if not (is_staff_name new.name) then refused kinds.TextRefused
    else staff_by m new (staff_with new.digest m)

-- a document is called so by this person
abbrev pub set_call : Matter → CallRow → Result Stepped Rule
set_call m row =
    if not (is_designation row.designation) then refused kinds.TextRefused
    else (if not (is_ground row.treatment) then refused kinds.BadBasis
    else (if not (is_redact row.treatment) && has_marks row.doc.0 m then refused kinds.BoxesRemain
    else done (with_call row m)))

-- a box is put on a page of a document that is called Redact
abbrev pub put_box : Matter → StaffNo → DocBox → PageRow → Result Stepped Rule
put_box m caller box page =
    if not (is_box box.row) then refused kinds.BoxShape
    else (if not (inside_page (Some page) box.row.rect) then refused kinds.BoxOutside
    else (if not (is_called_redact (call_with box.doc.0 m)) then refused kinds.WrongTreatment
    else done (with_box box (edited caller box.doc.0 m))))

-- where there is no such box nothing changes
abbrev pub drop_box : Matter → StaffNo → ℕ → ℕ → Result Stepped Rule
drop_box m caller doc num =
    if is_some (box_with doc num m) then done (without_box doc num (edited caller doc m))
    else done m

-- the value of a field is held back in a document that is called Redact
abbrev pub hold_field : Matter → StaffNo → DocNo → Basis → Option FieldRow → Result Stepped Rule
hold_field m caller doc basis None = refused kinds.NoField
hold_field m caller doc basis (Some row) =
    if not (is_called_redact (call_with doc.0 m)) then refused kinds.WrongTreatment
    else done (with_held (record { doc = doc; row = record { field = row.field; basis = basis } })
    (edited caller doc.0 m))

-- where the field isn't held back nothing changes
abbrev pub free_held : Matter → StaffNo → ℕ → ℕ → Result Stepped Rule
free_held m caller doc field =
    if is_some (held_with doc field m) then done (without_held doc field (edited caller doc m))
    else done m

-- a field of the matter is freed
abbrev pub free_field : Matter → StaffNo → ℕ → Option FieldRow → Result Stepped Rule
free_field m caller doc None = refused kinds.NoField
free_field m caller doc (Some row) = free_held m caller doc row.field

-- the log says this of a document
abbrev pub put_entry : Matter → StaffNo → DocEntry → Result Stepped Rule
put_entry m caller row =
    if not (entry_fits row.entry) then refused kinds.TextRefused
    else done (with_entry row (edited caller row.doc.0 m))

-- nothing keeps this person from confirming the call
abbrev pub confirm_unless : Matter → StaffNo → CallRow → Option RuleKind → Result Stepped Rule
confirm_unless m caller row (Some kind) = refused kind
confirm_unless m caller row None = done (with_call (confirmed_by caller row) m)

-- a called document is confirmed by this person
abbrev pub confirm : Matter → StaffNo → ℕ → Option CallRow → Result Stepped Rule
confirm m caller doc None = refused kinds.NotCalled
confirm m caller doc (Some row) =
    confirm_unless m caller row (confirm_rule row (editor_number row.state) (boxes_on doc m.boxes)
    (held_on doc m.held) (is_entered doc m.entries) caller.0)

-- the production that a request gives is kept and told; a kept id changes nothing
abbrev pub freeze : Matter → Result Production Rule → Result Stepped Rule
freeze m (Ok f) = Ok (record { reply = replies.Produced f; matter = frozen_matter f m })
freeze m (Err rule) = Err rule

-- the production that is kept under an id
abbrev pub get_production : Matter → Option Production → Result Stepped Rule
get_production m None = refused kinds.NoProduction
get_production m (Some f) = told m (replies.Produced f)

-- a call of this person, which their role may make
abbrev pub step_by : Matter → StaffNo → Call → Result Stepped Rule
step_by m caller (AddStaff name role digest) =
    add_staff m (record { staff = next_staff m; role = role; digest = digest; name = name })
step_by m caller (SeeDoc doc) =
    on_doc doc.0 (doc_with doc.0 m) (λ row. told m (replies.Doc (view_of m row)))
step_by m caller (SeePage doc page) =
    on_doc doc.0 (doc_with doc.0 m) (λ _. on_page page.0 (page_with doc.0 page.0 m)
    (λ row. told m (replies.Image row.image)))
step_by m caller (SeeWords doc page) =
    on_doc doc.0 (doc_with doc.0 m) (λ _. on_page page.0 (page_with doc.0 page.0 m)
    (λ _. told m (replies.Words (words_in (words_with doc.0 page.0 m)))))
step_by m caller (SetCall doc responsive treatment designation) =
    on_doc doc.0 (doc_with doc.0 m) (λ _. set_call m (record {
      doc = doc;
      state = First caller;
      responsive = responsive;
      treatment = treatment;
      designation = designation;
    }))
step_by m caller (PutBox doc num page rect basis) =
    on_doc doc.0 (doc_with doc.0 m) (λ _. on_page page.0 (page_with doc.0 page.0 m)
    (put_box m caller (record {
      doc = doc;
      row = record { num = num; page = page; rect = rect; basis = basis };
    })))
step_by m caller (DropBox doc num) =
    on_doc doc.0 (doc_with doc.0 m) (λ _. drop_box m caller doc.0 num)
step_by m caller (HoldField doc field basis) =
    on_doc doc.0 (doc_with doc.0 m) (λ _. hold_field m caller doc basis (field_with field m))
step_by m caller (FreeField doc field) =
    on_doc doc.0 (doc_with doc.0 m) (λ _. free_field m caller doc.0 (field_with field m))
step_by m caller (PutEntry doc date author recipients description) =
    on_doc doc.0 (doc_with doc.0 m) (λ _. put_entry m caller (record {
      doc = doc;
      entry = record {
        date = date;
        author = author;
        recipients = recipients;
        description = description;
      };
    }))
step_by m caller (Confirm doc) =
    on_doc doc.0 (doc_with doc.0 m) (λ _. confirm m caller doc.0 (call_with doc.0 m))
step_by m caller (SendBack doc) =
    on_doc doc.0 (doc_with doc.0 m) (λ _. done (without_call doc.0 m))
step_by m caller (Freeze request) = freeze m (freeze_of m request)
step_by m caller (GetProduction id) = get_production m (kept_production m.productions id)
step_by m caller (SeeStates from) = quiet_answer m replies.States (see_states m from.0)
step_by m caller (SeeValues doc) = quiet_answer m replies.Values (see_values m doc.0)
step_by m caller SeeStaff = told m (replies.People (people_of m))
step_by m caller SeeProductions = told m (replies.Productions (productions_of m))
step_by m caller (Find terms from page) = quiet_answer m replies.Found (find m terms from.0 page)
step_by m caller (Plan request) = quiet_answer m replies.Produced (freeze_of m request)

-- a call of who has the key
abbrev pub step_for : Matter → Option StaffRow → Call → Result Stepped Rule
step_for m None call = refused kinds.KeyUnknown
step_for m (Some caller) call =
    if not (may caller.role call) then refused kinds.RoleRefused else step_by m caller.staff call

-- the step of a call that was made with this key
unfoldable pub step_of : Matter → List ℕ → Call → Result Stepped Rule
step_of m key call = step_for m (staff_with key m) call
