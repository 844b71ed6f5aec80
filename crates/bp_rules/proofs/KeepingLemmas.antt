-- Each call and each import keeps what volumes are made of, over the definitions of both.
use Rattle.std.proofs.Common.{◌≡◌, ℕ, Bool, true, false, cond, not, ◌&&◌, List, [], ◌∷◌, ◌++◌, length, Option, Some, None, refl, sym, ap, subst, ◌∙◌, append_assoc}
use Rattle.std.specs.Prelude.{is_some, nat_le, Result, Ok, Err}
use Rattle.std.specs.List.{find}
use Rattle.std.specs.Option.{option_or}
use Rattle.std.specs.Str.{bytes_eq}
use Rattle.std.proofs.lemmas.List.{append-nil}
use Rattle.std.proofs.lemmas.List.Folds.{find-append}
use Rattle.bp_core.specs.declared.numbers.DocNo.{DocNo}
use Rattle.bp_core.specs.declared.numbers.StaffNo.{StaffNo}
use Rattle.bp_core.specs.declared.review.Basis.{Basis}
use Rattle.bp_core.specs.declared.rules.Rule.{Rule}
use Rattle.bp_core.specs.declared.rules.RuleKind.{RuleKind}
use Rattle.bp_core.specs.declared.rules.RuleKind.TheVariants as kinds
use Rattle.bp_matter.specs.Confirming.{boxes_on, confirm_rule, held_on, is_entered}
use Rattle.bp_matter.specs.Fields.{editor_number}
use Rattle.bp_matter.specs.LookUps.{call_with, doc_with, field_with, of_row, page_with, staff_with}
use Rattle.bp_matter.specs.Matter.{Matter}
use Rattle.bp_matter.specs.Texts.{is_designation}
use Rattle.bp_matter.specs.Treatments.{is_ground, is_redact}
use Rattle.bp_matter.specs.ValidEntries.{entry_fits}
use Rattle.bp_matter.specs.ValidPages.{inside_page}
use Rattle.bp_matter.specs.declared.calls.Call.{Call}
use Rattle.bp_matter.specs.declared.calls.Call.TheVariants.{AddStaff, Confirm, DropBox, Find, FreeField, Freeze, GetProduction, HoldField, Plan, PutBox, PutEntry, SeeDoc, SeePage, SeeProductions, SeeStaff, SeeStates, SeeValues, SeeWords, SendBack, SetCall}
use Rattle.bp_matter.specs.declared.calls.Reply.{Reply}
use Rattle.bp_matter.specs.declared.calls.Reply.TheVariants as replies
use Rattle.bp_matter.specs.declared.limits.TheConstants.{MAX_STAFF}
use Rattle.bp_matter.specs.declared.rows.CallRow.{CallRow}
use Rattle.bp_matter.specs.declared.rows.DocBox.{DocBox}
use Rattle.bp_matter.specs.declared.rows.DocEntry.{DocEntry}
use Rattle.bp_matter.specs.declared.rows.DocRow.{DocRow}
use Rattle.bp_matter.specs.declared.rows.FieldRow.{FieldRow}
use Rattle.bp_matter.specs.declared.rows.PageRow.{PageRow}
use Rattle.bp_matter.specs.declared.rows.PageWords.{PageWords}
use Rattle.bp_matter.specs.declared.rows.Production.{Production}
use Rattle.bp_matter.specs.declared.rows.ProductionRow.{ProductionRow}
use Rattle.bp_matter.specs.declared.rows.StaffRow.{StaffRow}
use Rattle.bp_matter.specs.declared.rows.State.TheVariants.{First}
use Rattle.bp_freeze.specs.Freezing.{freeze_of, kept_production}
use Rattle.bp_freeze.specs.Keeping.{GrowsTo, after_freeze}
use Rattle.bp_looks.specs.Finding.{find as find_terms}
use Rattle.bp_looks.specs.States.{see_states}
use Rattle.bp_looks.specs.Values.{see_values}
use Rattle.bp_rules.specs.Calling.{box_with, confirmed_by, edited, held_with, next_staff, with_box, with_call, with_entry, with_held, with_staff, without_box, without_call, without_held}
use Rattle.bp_rules.specs.Changes.{after, with_produced}
use Rattle.bp_rules.specs.Keeping.{StepKeeps}
use Rattle.bp_rules.specs.Refusing.{has_marks, is_box, is_called_redact, is_staff_name, on_doc, on_page, refused, staff_full, staff_there}
use Rattle.bp_rules.specs.Roles.{may}
use Rattle.bp_rules.specs.Stepping.{Stepped, add_staff, quiet_answer, confirm, confirm_unless, done, drop_box, free_field, freeze, get_production, hold_field, is_member, put_box, put_entry, set_call, staff_by, step_by, step_for, step_of}
use Rattle.bp_rules.specs.declared.changes.Edit.{Edit}
use Rattle.bp_rules.specs.declared.changes.Edit.TheVariants.{Import, Nothing, Produced, Review, Staff}

-- ---- what stays

-- where no row of these kinds comes
grows-nothing : (m n : Matter) → n.fields ≡ m.fields → n.docs ≡ m.docs → n.pages ≡ m.pages → n.words ≡ m.words → GrowsTo m n
grows-nothing m n fields docs pages words =
    record {
      fields = [];
      docs = [];
      pages = [];
      words = [];
      more_fields = fields ∙ sym (append-nil m.fields);
      more_docs = docs ∙ sym (append-nil m.docs);
      more_pages = pages ∙ sym (append-nil m.pages);
      more_words = words ∙ sym (append-nil m.words);
    }

-- a matter that differs in other lists alone
pub keeps-others : (m n : Matter) → n.fields ≡ m.fields → n.docs ≡ m.docs → n.pages ≡ m.pages → n.words ≡ m.words → n.productions ≡ m.productions → StepKeeps m n
keeps-others m n fields docs pages words productions =
    record {
      productions = λ f kept. ap (λ (rows : List ProductionRow). kept_production rows f.request.id) productions ∙ kept;
      grows = grows-nothing m n fields docs pages words;
    }

pub keeps-itself : (m : Matter) → StepKeeps m m
keeps-itself m = keeps-others m m refl refl refl refl refl

-- one after the other
pub keeps-then : (m n o : Matter) → StepKeeps m n → StepKeeps n o → StepKeeps m o
keeps-then m n o r s =
    let a = r.grows in
    let b = s.grows in
    record {
      productions = λ f kept. s.productions f (r.productions f kept);
      grows = record {
        fields = a.fields ++ b.fields;
        docs = a.docs ++ b.docs;
        pages = a.pages ++ b.pages;
        words = a.words ++ b.words;
        more_fields = b.more_fields ∙ ap (λ (l : List FieldRow). l ++ b.fields) a.more_fields ∙ append_assoc m.fields a.fields b.fields;
        more_docs = b.more_docs ∙ ap (λ (l : List DocRow). l ++ b.docs) a.more_docs ∙ append_assoc m.docs a.docs b.docs;
        more_pages = b.more_pages ∙ ap (λ (l : List PageRow). l ++ b.pages) a.more_pages ∙ append_assoc m.pages a.pages b.pages;
        more_words = b.more_words ∙ ap (λ (l : List PageWords). l ++ b.words) a.more_words ∙ append_assoc m.words a.words b.words;
      };
    }

-- ---- productions behind

found-first : (a b : Option ProductionRow) (f : Production) → of_row (λ (row : ProductionRow). row.production) a ≡ Some f → of_row (λ (row : ProductionRow). row.production) (option_or a b) ≡ Some f
found-first None b f kept = absurd cc
found-first (Some row) b f kept = kept

kept-behind : (rows more : List ProductionRow) (id : List ℕ) (f : Production) → kept_production rows id ≡ Some f → kept_production (rows ++ more) id ≡ Some f
kept-behind rows more id f kept =
    let test = λ (row : ProductionRow). bytes_eq row.production.request.id id in
    ap (of_row (λ (row : ProductionRow). row.production)) (find-append test rows more) ∙ found-first (find test rows) (find test more) f kept

-- more productions, whatever becomes of the prefixes
keeps-behind : (m n : Matter) (more : List ProductionRow) → n.fields ≡ m.fields → n.docs ≡ m.docs → n.pages ≡ m.pages → n.words ≡ m.words → n.productions ≡ m.productions ++ more → StepKeeps m n
keeps-behind m n more fields docs pages words productions =
    record {
      productions = λ f kept. ap (λ (rows : List ProductionRow). kept_production rows f.request.id) productions ∙ kept-behind m.productions more f.request.id f kept;
      grows = grows-nothing m n fields docs pages words;
    }

-- ---- changes

-- whatever a change is
pub edit-keeps : (m : Matter) (edit : Edit) → StepKeeps m (after m edit)
edit-keeps m Nothing = keeps-itself m
edit-keeps m (Import rows) =
    record {
      productions = λ f kept. kept;
      grows = record {
        fields = rows.fields;
        docs = rows.docs;
        pages = rows.pages;
        words = rows.words;
        more_fields = refl;
        more_docs = refl;
        more_pages = refl;
        more_words = refl;
      };
    }
edit-keeps m (Staff row) = keeps-others m (with_staff row m) refl refl refl refl refl
edit-keeps m (Produced prefix row) = keeps-behind m (with_produced prefix row m) (row ∷ []) refl refl refl refl refl
edit-keeps m (Review call mark) = keeps-others m (after m (Review call mark)) refl refl refl refl refl

-- of a matter that is still the same, or has this change
pub keeps-same : (m n : Matter) → n ≡ m → StepKeeps m n
keeps-same m n same = subst (λ (x : Matter). StepKeeps m x) (sym same) (keeps-itself m)

pub keeps-changed : (m n o : Matter) (edit : Edit) → n ≡ m → o ≡ after n edit → StepKeeps m o
keeps-changed m n o edit same changed =
    let made : o ≡ after m edit = changed ∙ ap (λ (x : Matter). after x edit) same in
    subst (λ (x : Matter). StepKeeps m x) (sym made) (edit-keeps m edit)

-- ---- calls

-- a step keeps so, where it breaks no rule
abbrev pub Keeping : Matter → Result Stepped Rule → Type 0
Keeping m (Ok stepped) = StepKeeps m stepped.matter
Keeping m (Err rule) = Unit {0}

if-keeps : (m : Matter) (b : Bool) (x y : Result Stepped Rule) → Keeping m x → Keeping m y → Keeping m (cond b x y)
if-keeps m true x y h k = h
if-keeps m false x y h k = k

doc-keeps : (m : Matter) (doc : ℕ) (found : Option DocRow) (next : DocRow → Result Stepped Rule) → ((row : DocRow) → Keeping m (next row)) → Keeping m (on_doc doc found next)
doc-keeps m doc None next h = tt
doc-keeps m doc (Some row) next h = h row

page-keeps : (m : Matter) (page : ℕ) (found : Option PageRow) (next : PageRow → Result Stepped Rule) → ((row : PageRow) → Keeping m (next row)) → Keeping m (on_page page found next)
page-keeps m page None next h = tt
page-keeps m page (Some row) next h = h row

-- the calls of a document are another list
edited-keeps : (m : Matter) (caller : StaffNo) (doc : ℕ) → StepKeeps m (edited caller doc m)
edited-keeps m caller doc = keeps-others m (edited caller doc m) refl refl refl refl refl

staff-by-keeps : (m : Matter) (new : StaffRow) (found : Option StaffRow) → Keeping m (staff_by m new found)
staff-by-keeps m new None = if-keeps m (nat_le MAX_STAFF (length m.staff)) (Err (staff_full (length m.staff))) (Ok (record { reply = replies.Staff new.staff; matter = with_staff new m })) tt (edit-keeps m (Staff new))
staff-by-keeps m new (Some row) = if-keeps m (not (is_member new.name new.role row)) (Err (staff_there row.staff.0)) (Ok (record { reply = replies.Staff row.staff; matter = m })) tt (keeps-itself m)

add-staff-keeps : (m : Matter) (new : StaffRow) → Keeping m (add_staff m new)
add-staff-keeps m new = if-keeps m (not (is_staff_name new.name)) (refused kinds.TextRefused) (staff_by m new (staff_with new.digest m)) tt (staff-by-keeps m new (staff_with new.digest m))

set-call-keeps : (m : Matter) (row : CallRow) → Keeping m (set_call m row)
set-call-keeps m row =
    let set : Result Stepped Rule = done (with_call row m) in
    let marked : Result Stepped Rule = cond (not (is_redact row.treatment) && has_marks row.doc.0 m) (refused kinds.BoxesRemain) set in
    let grounded : Result Stepped Rule = cond (not (is_ground row.treatment)) (refused kinds.BadBasis) marked in
    if-keeps m (not (is_designation row.designation)) (refused kinds.TextRefused) grounded tt
    (if-keeps m (not (is_ground row.treatment)) (refused kinds.BadBasis) marked tt
    (if-keeps m (not (is_redact row.treatment) && has_marks row.doc.0 m) (refused kinds.BoxesRemain) set tt (keeps-others m (with_call row m) refl refl refl refl refl)))

put-box-keeps : (m : Matter) (caller : StaffNo) (box : DocBox) (page : PageRow) → Keeping m (put_box m caller box page)
put-box-keeps m caller box page =
    let n = with_box box (edited caller box.doc.0 m) in
    let put : Result Stepped Rule = done n in
    let called : Result Stepped Rule = cond (not (is_called_redact (call_with box.doc.0 m))) (refused kinds.WrongTreatment) put in
    let inside : Result Stepped Rule = cond (not (inside_page (Some page) box.row.rect)) (refused kinds.BoxOutside) called in
    if-keeps m (not (is_box box.row)) (refused kinds.BoxShape) inside tt
    (if-keeps m (not (inside_page (Some page) box.row.rect)) (refused kinds.BoxOutside) called tt
    (if-keeps m (not (is_called_redact (call_with box.doc.0 m))) (refused kinds.WrongTreatment) put tt (keeps-others m n refl refl refl refl refl)))

drop-box-keeps : (m : Matter) (caller : StaffNo) (doc num : ℕ) → Keeping m (drop_box m caller doc num)
drop-box-keeps m caller doc num =
    let n = without_box doc num (edited caller doc m) in
    if-keeps m (is_some (box_with doc num m)) (done n) (done m) (keeps-others m n refl refl refl refl refl) (keeps-itself m)

hold-field-keeps : (m : Matter) (caller : StaffNo) (doc : DocNo) (basis : Basis) (found : Option FieldRow) → Keeping m (hold_field m caller doc basis found)
hold-field-keeps m caller doc basis None = tt
hold-field-keeps m caller doc basis (Some row) =
    let n = with_held (record { doc = doc; row = record { field = row.field; basis = basis } }) (edited caller doc.0 m) in
    if-keeps m (not (is_called_redact (call_with doc.0 m))) (refused kinds.WrongTreatment) (done n) tt (keeps-others m n refl refl refl refl refl)

free-field-keeps : (m : Matter) (caller : StaffNo) (doc : ℕ) (found : Option FieldRow) → Keeping m (free_field m caller doc found)
free-field-keeps m caller doc None = tt
free-field-keeps m caller doc (Some row) =
    let n = without_held doc row.field (edited caller doc m) in
    if-keeps m (is_some (held_with doc row.field m)) (done n) (done m) (keeps-others m n refl refl refl refl refl) (keeps-itself m)

put-entry-keeps : (m : Matter) (caller : StaffNo) (row : DocEntry) → Keeping m (put_entry m caller row)
put-entry-keeps m caller row =
    let n = with_entry row (edited caller row.doc.0 m) in
    if-keeps m (not (entry_fits row.entry)) (refused kinds.TextRefused) (done n) tt (keeps-others m n refl refl refl refl refl)

confirm-unless-keeps : (m : Matter) (caller : StaffNo) (row : CallRow) (rule : Option RuleKind) → Keeping m (confirm_unless m caller row rule)
confirm-unless-keeps m caller row (Some kind) = tt
confirm-unless-keeps m caller row None = keeps-others m (with_call (confirmed_by caller row) m) refl refl refl refl refl

confirm-keeps : (m : Matter) (caller : StaffNo) (doc : ℕ) (found : Option CallRow) → Keeping m (confirm m caller doc found)
confirm-keeps m caller doc None = tt
confirm-keeps m caller doc (Some row) =
    confirm-unless-keeps m caller row (confirm_rule row (editor_number row.state) (boxes_on doc m.boxes) (held_on doc m.held) (is_entered doc m.entries) caller.0)

-- where the id is kept nothing changes, and else a production comes
after-freeze-keeps : (m : Matter) (f : Production) (kept : Option Production) → StepKeeps m (after_freeze kept f m)
after-freeze-keeps m f None = keeps-behind m (after_freeze None f m) _ refl refl refl refl refl
after-freeze-keeps m f (Some g) = keeps-itself m

freeze-keeps : (m : Matter) (answer : Result Production Rule) → Keeping m (freeze m answer)
freeze-keeps m (Ok f) = after-freeze-keeps m f (kept_production m.productions f.request.id)
freeze-keeps m (Err rule) = tt

get-production-keeps : (m : Matter) (kept : Option Production) → Keeping m (get_production m kept)
get-production-keeps m None = tt
get-production-keeps m (Some f) = keeps-itself m

answered-keeps : {A : Type 0} (m : Matter) (reply : A → Reply) (answer : Result A Rule) → Keeping m (quiet_answer m reply answer)
answered-keeps m reply (Ok value) = keeps-itself m
answered-keeps m reply (Err rule) = tt

by-keeps : (m : Matter) (caller : StaffNo) (call : Call) → Keeping m (step_by m caller call)
by-keeps m caller (AddStaff name role digest) = add-staff-keeps m (record { staff = next_staff m; role = role; digest = digest; name = name })
by-keeps m caller (SeeDoc doc) = doc-keeps m doc.0 (doc_with doc.0 m) _ (λ row. keeps-itself m)
by-keeps m caller (SeePage doc page) = doc-keeps m doc.0 (doc_with doc.0 m) _ (λ row. page-keeps m page.0 (page_with doc.0 page.0 m) _ (λ row. keeps-itself m))
by-keeps m caller (SeeWords doc page) = doc-keeps m doc.0 (doc_with doc.0 m) _ (λ row. page-keeps m page.0 (page_with doc.0 page.0 m) _ (λ row. keeps-itself m))
by-keeps m caller (SetCall doc responsive treatment designation) =
    doc-keeps m doc.0 (doc_with doc.0 m) _ (λ row. set-call-keeps m (record { doc = doc; state = First caller; responsive = responsive; treatment = treatment; designation = designation }))
by-keeps m caller (PutBox doc num page rect basis) =
    doc-keeps m doc.0 (doc_with doc.0 m) _ (λ row. page-keeps m page.0 (page_with doc.0 page.0 m) _ (put-box-keeps m caller (record { doc = doc; row = record { num = num; page = page; rect = rect; basis = basis } })))
by-keeps m caller (DropBox doc num) = doc-keeps m doc.0 (doc_with doc.0 m) _ (λ row. drop-box-keeps m caller doc.0 num)
by-keeps m caller (HoldField doc field basis) = doc-keeps m doc.0 (doc_with doc.0 m) _ (λ row. hold-field-keeps m caller doc basis (field_with field m))
by-keeps m caller (FreeField doc field) = doc-keeps m doc.0 (doc_with doc.0 m) _ (λ row. free-field-keeps m caller doc.0 (field_with field m))
by-keeps m caller (PutEntry doc date author recipients description) =
    doc-keeps m doc.0 (doc_with doc.0 m) _ (λ row. put-entry-keeps m caller (record { doc = doc; entry = record { date = date; author = author; recipients = recipients; description = description } }))
by-keeps m caller (Confirm doc) = doc-keeps m doc.0 (doc_with doc.0 m) _ (λ row. confirm-keeps m caller doc.0 (call_with doc.0 m))
by-keeps m caller (SendBack doc) = doc-keeps m doc.0 (doc_with doc.0 m) _ (λ row. keeps-others m (without_call doc.0 m) refl refl refl refl refl)
by-keeps m caller (Freeze request) = freeze-keeps m (freeze_of m request)
by-keeps m caller (GetProduction id) = get-production-keeps m (kept_production m.productions id)
by-keeps m caller (SeeStates from) = answered-keeps m replies.States (see_states m from.0)
by-keeps m caller (SeeValues doc) = answered-keeps m replies.Values (see_values m doc.0)
by-keeps m caller SeeStaff = keeps-itself m
by-keeps m caller SeeProductions = keeps-itself m
by-keeps m caller (Find terms from page) = answered-keeps m replies.Found (find_terms m terms from.0 page)
by-keeps m caller (Plan request) = answered-keeps m replies.Produced (freeze_of m request)

for-keeps : (m : Matter) (caller : Option StaffRow) (call : Call) → Keeping m (step_for m caller call)
for-keeps m None call = tt
for-keeps m (Some row) call = if-keeps m (not (may row.role call)) (refused kinds.RoleRefused) (step_by m row.staff call) tt (by-keeps m row.staff call)

pub step-keeps : (m : Matter) (key : List ℕ) (call : Call) → Keeping m (step_of m key call)
unfolding step_of
step-keeps m key call = for-keeps m (staff_with key m) call

-- of whatever call, with whatever key
pub stepped-keeps : (m : Matter) (key : List ℕ) (call : Call) (stepped : Stepped) → step_of m key call ≡ Ok stepped → StepKeeps m stepped.matter
stepped-keeps m key call stepped is = subst (λ (r : Result Stepped Rule). Keeping m r) is (step-keeps m key call)
