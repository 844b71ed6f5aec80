-- Each call, on a matter and on its outline: it leaves one outline in both, or breaks one rule; and it
-- leaves what volumes are made of.
use Rattle.std.proofs.Common.{◌≡◌, ℕ, Bool, true, false, cond, not, ◌&&◌, List, length, Option, Some, None, refl, sym, ap, subst, ◌∙◌}
use Rattle.std.specs.Prelude.{is_some, nat_le, nat_lt, if◌then◌else◌, Result, Ok, Err}
use Rattle.std.proofs.lemmas.List.{length-map}
use Rattle.bp_core.specs.declared.numbers.DocNo.{DocNo}
use Rattle.bp_core.specs.declared.numbers.StaffNo.{StaffNo}
use Rattle.bp_core.specs.declared.review.Basis.{Basis}
use Rattle.bp_core.specs.declared.rules.Rule.{Rule}
use Rattle.bp_core.specs.Rules.{bare_rule}
use Rattle.bp_core.specs.declared.rules.RuleKind.{RuleKind}
use Rattle.bp_core.specs.declared.rules.RuleKind.TheVariants.{TermRefused}
use Rattle.bp_matter.specs.Confirming.{boxes_on, confirm_rule, held_on, is_entered}
use Rattle.bp_matter.specs.Fields.{editor_number}
use Rattle.bp_matter.specs.LookUps.{call_with, doc_with, field_with, of_row, page_with, staff_with}
use Rattle.bp_matter.specs.Matter.{Matter}
use Rattle.bp_matter.specs.Texts.{is_designation}
use Rattle.bp_matter.specs.Treatments.{is_ground, is_redact}
use Rattle.bp_matter.specs.ValidEntries.{entry_fits}
use Rattle.bp_matter.specs.ValidPages.{inside_page}
use Rattle.bp_matter.specs.ValidRows.{names}
use Rattle.bp_matter.specs.declared.calls.Call.{Call}
use Rattle.bp_matter.specs.declared.calls.Call.TheVariants.{AddStaff, Confirm, DropBox, Find, FreeField, Freeze, GetProduction, HoldField, Plan, PutBox, PutEntry, SeeDoc, SeePage, SeeProductions, SeeStaff, SeeStates, SeeValues, SeeWords, SendBack, SetCall}
use Rattle.bp_matter.specs.declared.calls.Reply.{Reply}
use Rattle.bp_matter.specs.declared.calls.Reply.TheVariants as replies
use Rattle.bp_matter.specs.declared.limits.TheConstants.{MAX_STAFF}
use Rattle.bp_matter.specs.declared.rows.CallRow.{CallRow}
use Rattle.bp_matter.specs.declared.rows.DocBox.{DocBox}
use Rattle.bp_matter.specs.declared.rows.DocEntry.{DocEntry}
use Rattle.bp_matter.specs.declared.rows.DocHeld.{DocHeld}
use Rattle.bp_matter.specs.declared.rows.DocRow.{DocRow}
use Rattle.bp_matter.specs.declared.rows.FieldRow.{FieldRow}
use Rattle.bp_matter.specs.declared.rows.PageRow.{PageRow}
use Rattle.bp_matter.specs.declared.rows.Production.{Production}
use Rattle.bp_matter.specs.declared.rows.StaffRow.{StaffRow}
use Rattle.bp_matter.specs.declared.rows.State.TheVariants.{First}
use Rattle.bp_freeze.specs.Freezing.{freeze_of, kept_production}
use Rattle.bp_freeze.specs.Keeping.{after_freeze}
use Rattle.bp_looks.specs.Finding.{find_from, page_count_of}
use Rattle.bp_looks.specs.Refusing as looks
use Rattle.bp_looks.specs.States.{see_states, states_of}
use Rattle.bp_looks.specs.Terms.{are_terms}
use Rattle.bp_looks.specs.Values.{see_values, values_if}
use Rattle.bp_rules.specs.Calling.{box_with, confirmed_by, edited, held_with, next_staff, with_box, with_call, with_entry, with_held, with_staff, without_box, without_call, without_held}
use Rattle.bp_rules.specs.Refusing.{has_marks, is_box, is_called_redact, is_staff_name, on_doc, on_page}
use Rattle.bp_rules.specs.Roles.{may}
use Rattle.bp_rules.specs.Stepping.{Stepped, quiet_answer, confirm, confirm_unless, drop_box, free_field, freeze, get_production, hold_field, is_member, put_box, put_entry, set_call, staff_by, step_by, step_for, step_of}
use Rattle.bp_receiver.specs.Contents.{CallStays}
use Rattle.bp_receiver.specs.Outlines.{doc_outline, outline_of, page_outline}
use Rattle.bp_receiver.proofs.OutlineLemmas.{doc-found, freeze-outline, page-found, relaid, with_those_of}
use Rattle.bp_receiver.proofs.StayLemmas.{stays-behind, stays-itself, stays-others}

-- ---- steps

-- the outline of the matter after a step, or the rule
abbrev pub outlined : Result Stepped Rule → Result Matter Rule
outlined (Ok stepped) = Ok (outline_of stepped.matter)
outlined (Err rule) = Err rule

-- a step leaves what volumes are made of, where it breaks no rule
abbrev pub Staying : Matter → Result Stepped Rule → Type 0
Staying m (Ok stepped) = CallStays m stepped.matter
Staying m (Err rule) = Unit {0}

-- a step on the matter does so, and one on its outline leaves the same outline, or breaks the same rule
record Follows (m : Matter) (a b : Result Stepped Rule) : Type 0 where
  alike : outlined a ≡ outlined b
  stays : Staying m a

broken : (m : Matter) (rule : Rule) → Follows m (Err rule) (Err rule)
broken m rule = record { alike = refl; stays = tt }

-- what a step that breaks no rule leaves
abbrev left : Matter → Result Matter Rule
left m = Ok m

made : (m : Matter) (reply other : Reply) (n o : Matter)
    → outline_of n ≡ outline_of o
    → CallStays m n
    → Follows m (Ok (record { reply = reply; matter = n })) (Ok (record { reply = other; matter = o }))
made m reply other n o same stays = record { alike = ap left same; stays = stays }

-- what changes other lists
changes : (x m : Matter) (reply other : Reply)
    → x.fields ≡ m.fields
    → x.productions ≡ m.productions
    → Follows m (Ok (record { reply = reply; matter = with_those_of m x }))
    (Ok (record { reply = other; matter = with_those_of (outline_of m) x }))
changes x m reply other fields productions =
    made m reply other (with_those_of m x) (with_those_of (outline_of m) x) (relaid x m)
    (stays-others m (with_those_of m x) fields refl refl refl productions)

-- what changes nothing
tells : (m : Matter) (reply other : Reply)
    → Follows m (Ok (record { reply = reply; matter = m }))
    (Ok (record { reply = other; matter = outline_of m }))
tells m reply other = changes m m reply other refl refl

if-follows : (m : Matter) (b : Bool) (x y z w : Result Stepped Rule)
    → Follows m x z
    → Follows m y w
    → Follows m (cond b x y) (cond b z w)
if-follows m true x y z w h k = h
if-follows m false x y z w h k = k

-- ---- of a document of the matter, and the same of its outline

doc-follows : (m : Matter) (doc : ℕ) (found : Option DocRow)
    (next other : DocRow → Result Stepped Rule)
    → ((row : DocRow) → Follows m (next row) (other (doc_outline row)))
    → Follows m (on_doc doc found next) (on_doc doc (of_row doc_outline found) other)
doc-follows m doc None next other h = broken m _
doc-follows m doc (Some row) next other h = h row

page-follows : (m : Matter) (page : ℕ) (found : Option PageRow)
    (next other : PageRow → Result Stepped Rule)
    → ((row : PageRow) → Follows m (next row) (other (page_outline row)))
    → Follows m (on_page page found next) (on_page page (of_row page_outline found) other)
page-follows m page None next other h = broken m _
page-follows m page (Some row) next other h = h row

of-doc : (m : Matter) (doc : ℕ) (next other : DocRow → Result Stepped Rule)
    → ((row : DocRow) → Follows m (next row) (other (doc_outline row)))
    → Follows m (on_doc doc (doc_with doc m) next) (on_doc doc (doc_with doc (outline_of m)) other)
of-doc m doc next other h =
    subst (λ (found : Option DocRow).
    Follows m (on_doc doc (doc_with doc m) next) (on_doc doc found other))
    (sym (doc-found doc m)) (doc-follows m doc (doc_with doc m) next other h)

of-page : (m : Matter) (doc page : ℕ) (next other : PageRow → Result Stepped Rule)
    → ((row : PageRow) → Follows m (next row) (other (page_outline row)))
    → Follows m (on_page page (page_with doc page m) next)
    (on_page page (page_with doc page (outline_of m)) other)
of-page m doc page next other h =
    subst (λ (found : Option PageRow).
    Follows m (on_page page (page_with doc page m) next) (on_page page found other))
    (sym (page-found doc page m)) (page-follows m page (page_with doc page m) next other h)

-- ---- what each call does

staff-follows : (m : Matter) (new : StaffRow) (found : Option StaffRow)
    → Follows m (staff_by m new found) (staff_by (outline_of m) new found)
staff-follows m new (Some row) =
    if-follows m (not (is_member new.name new.role row)) _ _ _ _ (broken m _) (tells m _ _)
staff-follows m new None =
    if-follows m (nat_le MAX_STAFF (length m.staff)) _ _ _ _ (broken m _)
    (changes (with_staff new m) m _ _ refl refl)

set-call-follows : (m : Matter) (row : CallRow)
    → Follows m (set_call m row) (set_call (outline_of m) row)
set-call-follows m row =
    if-follows m (not (is_designation row.designation)) _ _ _ _ (broken m _)
    (if-follows m (not (is_ground row.treatment)) _ _ _ _ (broken m _)
    (if-follows m (not (is_redact row.treatment) && has_marks row.doc.0 m) _ _ _ _ (broken m _)
    (changes (with_call row m) m _ _ refl refl)))

put-box-follows : (m : Matter) (caller : StaffNo) (box : DocBox) (page : PageRow)
    → Follows m (put_box m caller box page) (put_box (outline_of m) caller box (page_outline page))
put-box-follows m caller box page =
    if-follows m (not (is_box box.row)) _ _ _ _ (broken m _)
    (if-follows m (not (inside_page (Some page) box.row.rect)) _ _ _ _ (broken m _)
    (if-follows m (not (is_called_redact (call_with box.doc.0 m))) _ _ _ _ (broken m _)
    (changes (with_box box (edited caller box.doc.0 m)) m _ _ refl refl)))

drop-box-follows : (m : Matter) (caller : StaffNo) (doc num : ℕ)
    → Follows m (drop_box m caller doc num) (drop_box (outline_of m) caller doc num)
drop-box-follows m caller doc num =
    if-follows m (is_some (box_with doc num m)) _ _ _ _
    (changes (without_box doc num (edited caller doc m)) m _ _ refl refl) (tells m _ _)

hold-field-follows : (m : Matter) (caller : StaffNo) (doc : DocNo) (basis : Basis)
    (found : Option FieldRow)
    → Follows m (hold_field m caller doc basis found) (hold_field (outline_of m) caller doc basis found)
hold-field-follows m caller doc basis None = broken m _
hold-field-follows m caller doc basis (Some row) =
    let held : DocHeld = record { doc = doc; row = record { field = row.field; basis = basis } } in
    if-follows m (not (is_called_redact (call_with doc.0 m))) _ _ _ _ (broken m _)
    (changes (with_held held (edited caller doc.0 m)) m _ _ refl refl)

free-field-follows : (m : Matter) (caller : StaffNo) (doc : ℕ) (found : Option FieldRow)
    → Follows m (free_field m caller doc found) (free_field (outline_of m) caller doc found)
free-field-follows m caller doc None = broken m _
free-field-follows m caller doc (Some row) =
    if-follows m (is_some (held_with doc row.field m)) _ _ _ _
    (changes (without_held doc row.field (edited caller doc m)) m _ _ refl refl) (tells m _ _)

put-entry-follows : (m : Matter) (caller : StaffNo) (row : DocEntry)
    → Follows m (put_entry m caller row) (put_entry (outline_of m) caller row)
put-entry-follows m caller row =
    if-follows m (not (entry_fits row.entry)) _ _ _ _ (broken m _)
    (changes (with_entry row (edited caller row.doc.0 m)) m _ _ refl refl)

confirm-unless-follows : (m : Matter) (caller : StaffNo) (row : CallRow) (rule : Option RuleKind)
    → Follows m (confirm_unless m caller row rule) (confirm_unless (outline_of m) caller row rule)
confirm-unless-follows m caller row (Some kind) = broken m _
confirm-unless-follows m caller row None =
    changes (with_call (confirmed_by caller row) m) m _ _ refl refl

confirm-follows : (m : Matter) (caller : StaffNo) (doc : ℕ) (found : Option CallRow)
    → Follows m (confirm m caller doc found) (confirm (outline_of m) caller doc found)
confirm-follows m caller doc None = broken m _
confirm-follows m caller doc (Some row) =
    confirm-unless-follows m caller row
    (confirm_rule row (editor_number row.state) (boxes_on doc m.boxes) (held_on doc m.held)
    (is_entered doc m.entries) caller.0)

-- where the id is kept nothing changes, and else a production comes
frozen-alike : (m : Matter) (f : Production) (kept : Option Production)
    → outline_of (after_freeze kept f m) ≡ outline_of (after_freeze kept f (outline_of m))
frozen-alike m f None = relaid (after_freeze None f m) m
frozen-alike m f (Some g) = relaid m m

frozen-stays : (m : Matter) (f : Production) (kept : Option Production)
    → CallStays m (after_freeze kept f m)
frozen-stays m f None = stays-behind m (after_freeze None f m) _ refl refl refl refl refl
frozen-stays m f (Some g) = stays-itself m

frozen-follows : (m : Matter) (answer : Result Production Rule)
    → Follows m (freeze m answer) (freeze (outline_of m) answer)
frozen-follows m (Ok f) =
    let kept = kept_production m.productions f.request.id in
    made m _ _ (after_freeze kept f m) (after_freeze kept f (outline_of m)) (frozen-alike m f kept)
    (frozen-stays m f kept)
frozen-follows m (Err rule) = broken m rule

freeze-follows : (m : Matter) (answer other : Result Production Rule)
    → answer ≡ other
    → Follows m (freeze m answer) (freeze (outline_of m) other)
freeze-follows m answer other same =
    subst (λ (o : Result Production Rule). Follows m (freeze m answer) (freeze (outline_of m) o)) same
    (frozen-follows m answer)

get-production-follows : (m : Matter) (kept : Option Production)
    → Follows m (get_production m kept) (get_production (outline_of m) kept)
get-production-follows m None = broken m _
get-production-follows m (Some f) = tells m _ _

-- an answer that changes nothing
answered-follows : {A : Type 0} (m : Matter) (reply : A → Reply) (b : Bool) (x y : A) (rule : Rule)
    → Follows m (quiet_answer m reply (if b then Ok x else Err rule))
    (quiet_answer (outline_of m) reply (if b then Ok y else Err rule))
answered-follows m reply true x y rule = tells m _ _
answered-follows m reply false x y rule = broken m rule

-- the same, where the rule comes first
refused-or-follows : {A : Type 0} (m : Matter) (reply : A → Reply) (b : Bool) (x y : A) (rule : Rule)
    → Follows m (quiet_answer m reply (if b then Err rule else Ok x))
    (quiet_answer (outline_of m) reply (if b then Err rule else Ok y))
refused-or-follows m reply true x y rule = broken m rule
refused-or-follows m reply false x y rule = tells m _ _

states-follow : (m : Matter) (from : ℕ)
    → Follows m (quiet_answer m replies.States (see_states m from))
    (quiet_answer (outline_of m) replies.States (see_states (outline_of m) from))
states-follow m from =
    let o = outline_of m in
    subst (λ (count : ℕ). Follows m (quiet_answer m replies.States (see_states m from))
    (quiet_answer o replies.States
    (if names count from then Ok (states_of o from) else Err (looks.no_document from))))
    (sym (length-map m.docs doc_outline))
    (answered-follows m replies.States (names (length m.docs) from) (states_of m from)
    (states_of o from) (looks.no_document from))

values-if-follow : (m : Matter) (doc : ℕ) (found : Option DocRow)
    → Follows m (quiet_answer m replies.Values (values_if m doc found))
    (quiet_answer (outline_of m) replies.Values (values_if (outline_of m) doc (of_row doc_outline found)))
values-if-follow m doc None = broken m _
values-if-follow m doc (Some row) = tells m _ _

values-follow : (m : Matter) (doc : ℕ)
    → Follows m (quiet_answer m replies.Values (see_values m doc))
    (quiet_answer (outline_of m) replies.Values (see_values (outline_of m) doc))
values-follow m doc =
    let o = outline_of m in
    subst (λ (found : Option DocRow). Follows m (quiet_answer m replies.Values (see_values m doc))
    (quiet_answer o replies.Values (values_if o doc found)))
    (sym (doc-found doc m)) (values-if-follow m doc (doc_with doc m))

found-follows : (m : Matter) (terms : List (List ℕ)) (from page : ℕ) (found : Option DocRow)
    → Follows m
    (quiet_answer m replies.Found (find_from m terms from page (of_row (λ row. row.pages) found)))
    (quiet_answer (outline_of m) replies.Found (find_from (outline_of m) terms from page
    (of_row (λ row. row.pages) (of_row doc_outline found))))
found-follows m terms from page None = broken m _
found-follows m terms from page (Some row) =
    refused-or-follows m replies.Found (nat_lt row.pages page) _ _ _

asked-follows : (m : Matter) (terms : List (List ℕ)) (from page : ℕ) (b : Bool)
    → Follows m
    (quiet_answer m replies.Found (if b then Err (bare_rule TermRefused)
    else find_from m terms from page (page_count_of m from)))
    (quiet_answer (outline_of m) replies.Found (if b then Err (bare_rule TermRefused)
    else find_from (outline_of m) terms from page (page_count_of (outline_of m) from)))
asked-follows m terms from page true = broken m _
asked-follows m terms from page false =
    let o = outline_of m in
    subst (λ (found : Option DocRow). Follows m
    (quiet_answer m replies.Found (find_from m terms from page (page_count_of m from)))
    (quiet_answer o replies.Found (find_from o terms from page (of_row (λ row. row.pages) found))))
    (sym (doc-found from m)) (found-follows m terms from page (doc_with from m))

planned-follows : (m : Matter) (answer other : Result Production Rule)
    → answer ≡ other
    → Follows m (quiet_answer m replies.Produced answer)
    (quiet_answer (outline_of m) replies.Produced other)
planned-follows m (Ok f) other same =
    subst (λ (o : Result Production Rule). Follows m (quiet_answer m replies.Produced (Ok f))
    (quiet_answer (outline_of m) replies.Produced o)) same (tells m _ _)
planned-follows m (Err rule) other same =
    subst (λ (o : Result Production Rule). Follows m (quiet_answer m replies.Produced (Err rule))
    (quiet_answer (outline_of m) replies.Produced o)) same (broken m rule)

-- ---- each call

by-follows : (m : Matter) (caller : StaffNo) (call : Call)
    → Follows m (step_by m caller call) (step_by (outline_of m) caller call)
by-follows m caller (AddStaff name role digest) =
    let new : StaffRow = record {
      staff = next_staff m;
      role = role;
      digest = digest;
      name = name;
    } in
    if-follows m (not (is_staff_name new.name)) _ _ _ _ (broken m _)
    (staff-follows m new (staff_with new.digest m))
by-follows m caller (SeeDoc doc) = of-doc m doc.0 _ _ (λ row. tells m _ _)
by-follows m caller (SeePage doc page) =
    of-doc m doc.0 _ _ (λ row. of-page m doc.0 page.0 _ _ (λ row. tells m _ _))
by-follows m caller (SeeWords doc page) =
    of-doc m doc.0 _ _ (λ row. of-page m doc.0 page.0 _ _ (λ row. tells m _ _))
by-follows m caller (SetCall doc responsive treatment designation) =
    of-doc m doc.0 _ _ (λ row. set-call-follows m (record {
      doc = doc;
      state = First caller;
      responsive = responsive;
      treatment = treatment;
      designation = designation;
    }))
by-follows m caller (PutBox doc num page rect basis) =
    of-doc m doc.0 _ _ (λ row. of-page m doc.0 page.0 _ _ (put-box-follows m caller (record {
      doc = doc;
      row = record { num = num; page = page; rect = rect; basis = basis };
    })))
by-follows m caller (DropBox doc num) =
    of-doc m doc.0 _ _ (λ row. drop-box-follows m caller doc.0 num)
by-follows m caller (HoldField doc field basis) =
    of-doc m doc.0 _ _ (λ row. hold-field-follows m caller doc basis (field_with field m))
by-follows m caller (FreeField doc field) =
    of-doc m doc.0 _ _ (λ row. free-field-follows m caller doc.0 (field_with field m))
by-follows m caller (PutEntry doc date author recipients description) =
    of-doc m doc.0 _ _ (λ row. put-entry-follows m caller (record {
      doc = doc;
      entry = record {
        date = date;
        author = author;
        recipients = recipients;
        description = description;
      };
    }))
by-follows m caller (Confirm doc) =
    of-doc m doc.0 _ _ (λ row. confirm-follows m caller doc.0 (call_with doc.0 m))
by-follows m caller (SendBack doc) =
    of-doc m doc.0 _ _ (λ row. changes (without_call doc.0 m) m _ _ refl refl)
by-follows m caller (Freeze request) =
    freeze-follows m (freeze_of m request) (freeze_of (outline_of m) request)
    (freeze-outline m request)
by-follows m caller (GetProduction id) =
    get-production-follows m (kept_production m.productions id)
by-follows m caller (SeeStates from) = states-follow m from.0
by-follows m caller (SeeValues doc) = values-follow m doc.0
by-follows m caller SeeStaff = tells m _ _
by-follows m caller SeeProductions = tells m _ _
by-follows m caller (Find terms from page) =
    asked-follows m terms from.0 page (not (are_terms terms))
by-follows m caller (Plan request) =
    planned-follows m (freeze_of m request) (freeze_of (outline_of m) request)
    (freeze-outline m request)

for-follows : (m : Matter) (caller : Option StaffRow) (call : Call)
    → Follows m (step_for m caller call) (step_for (outline_of m) caller call)
for-follows m None call = broken m _
for-follows m (Some row) call =
    if-follows m (not (may row.role call)) _ _ _ _ (broken m _) (by-follows m row.staff call)

step-follows : (m : Matter) (key : List ℕ) (call : Call)
    → Follows m (step_of m key call) (step_of (outline_of m) key call)
unfolding step_of
step-follows m key call = for-follows m (staff_with key m) call

-- a call leaves what volumes are made of
pub step-stays : (m : Matter) (key : List ℕ) (call : Call) → Staying m (step_of m key call)
step-stays m key call = (step-follows m key call).stays

-- a call on two matters of one outline leaves one outline, or breaks the same rule
pub step-alike : (m n : Matter) (key : List ℕ) (call : Call)
    → outline_of m ≡ outline_of n
    → outlined (step_of m key call) ≡ outlined (step_of n key call)
step-alike m n key call same =
    (step-follows m key call).alike
    ∙ ap (λ (o : Matter). outlined (step_of o key call)) same
    ∙ sym (step-follows n key call).alike
