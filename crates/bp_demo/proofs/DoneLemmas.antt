-- The calls on the documents of a demo: each is done, one document after another.
use Rattle.std.proofs.Common.{◌≡◌, ℕ, zero, suc, ◌+◌, ◌<◌, ◌≤◌, ◌&&◌, ◌||◌, ◌==◌, Bool, true, false, cond, not, nat_le, nat_lt, eqb, ltb, inl, inr, List, [], ◌∷◌, ◌++◌, length, map, Option, Some, None, refl, sym, ap, ◌∙◌, subst, arith}
use Rattle.std.specs.Prelude.{codes, is_none, is_some, Result, Ok}
use Rattle.std.specs.List.{filter, find, list_all}
use Rattle.std.specs.Str.{bytes_eq}
use Rattle.std.proofs.lemmas.Bool.{and_from, and_parts, and_right, cases_lt, eq-eqb, lt-ltb, ltb-true, ne_eqb, or_from}
use Rattle.sha2.specs.Sha256.{compress, digest_bytes, first_words, hash_after, rounds, schedule, sha256}
use Rattle.bp_core.specs.Sorted.{find_key, put, two_keys}
use Rattle.bp_core.specs.declared.numbers.StaffNo.{StaffNo}
use Rattle.bp_core.specs.declared.rectangle.Rect.{Rect}
use Rattle.bp_core.specs.declared.review.Basis.{Basis}
use Rattle.bp_core.specs.declared.review.Basis.TheVariants.{Ac, Pi}
use Rattle.bp_core.specs.declared.review.Role.TheVariants.{Second}
use Rattle.bp_core.specs.declared.review.Treatment.{Treatment}
use Rattle.bp_core.specs.declared.review.Treatment.TheVariants.{Produce, Redact, Withhold}
use Rattle.bp_core.specs.declared.rules.Rule.{Rule}
use Rattle.bp_core.specs.declared.rules.RuleKind.TheVariants as kinds
use Rattle.bp_core.proofs.SortedLemmas.{all-put, find-put}
use Rattle.bp_matter.specs.Confirming.{boxes_on, confirm_rule, held_on, is_entered}
use Rattle.bp_matter.specs.Fields.{editor_number}
use Rattle.bp_matter.specs.LookUps.{call_with, doc_with, page_with, staff_with}
use Rattle.bp_matter.specs.Matter.{Matter, box_key, call_key, doc_key, entry_key, page_key}
use Rattle.bp_matter.specs.Texts.{is_designation}
use Rattle.bp_matter.specs.Treatments.{is_ground, is_redact}
use Rattle.bp_matter.specs.ValidPages.{inside_page}
use Rattle.bp_matter.specs.declared.batches.BatchDoc.{BatchDoc}
use Rattle.bp_matter.specs.declared.calls.Call.{Call}
use Rattle.bp_matter.specs.declared.calls.Reply.TheVariants as replies
use Rattle.bp_matter.specs.declared.rows.CallRow.{CallRow}
use Rattle.bp_matter.specs.declared.rows.DocBox.{DocBox}
use Rattle.bp_matter.specs.declared.rows.DocEntry.{DocEntry}
use Rattle.bp_matter.specs.declared.rows.DocHeld.{DocHeld}
use Rattle.bp_matter.specs.declared.rows.DocRow.{DocRow}
use Rattle.bp_matter.specs.declared.rows.PageRow.{PageRow}
use Rattle.bp_matter.specs.declared.rows.StaffRow.{StaffRow}
use Rattle.bp_matter.specs.declared.rows.State.TheVariants.{Confirmed, First}
use Rattle.bp_freeze.specs.Selecting.{is_settled}
use Rattle.bp_rules.specs.Beginning.{first_lead}
use Rattle.bp_rules.specs.Calling.{calls_edited, confirmed_by, edited, with_box, with_call, with_entry}
use Rattle.bp_rules.specs.Refusing.{has_marks, is_box, is_called_redact, on_doc, on_page, refused}
use Rattle.bp_rules.specs.Running.{Answered, answered, answers_of, run_of, to_call}
use Rattle.bp_rules.specs.Stepping.{Stepped, confirm, confirm_unless, done, step_by, step_for, step_of}
use Rattle.bp_rules.specs.Stepping.{put_box as box_put, put_entry as entry_put, set_call as call_set}
use Rattle.bp_rules.specs.declared.histories.RunAnswer.{RunAnswer}
use Rattle.bp_rules.specs.declared.histories.RunAnswer.TheVariants as answers
use Rattle.bp_demo.specs.Answered.{all_done}
use Rattle.bp_demo.specs.Calls.{calls_from, confirm as confirm_call, doc_calls, first_word, lead_key, marks_of, put_box, put_entry, second_key, set_call, treatment_of}
use Rattle.bp_demo.specs.Demo.{call_step}
use Rattle.bp_demo.specs.Draws.{drawn, next}
use Rattle.bp_demo.specs.declared.calls.KeyedCall.{KeyedCall}
use Rattle.bp_demo.proofs.ThereLemmas.{AreReady, FirstReady, IsReady, below_more}

-- ---- the staff

abbrev pub lead : StaffRow
lead = first_lead lead_key

abbrev pub second : StaffRow
second = record { staff = record { 0 = 2 }; role = Second; digest = second_key; name = codes "second" }

abbrev pub both : List StaffRow
both = lead ∷ second ∷ []

lead_found : find (λ (row : StaffRow). bytes_eq row.digest lead_key) both ≡ Some lead
unfolding lib.Utf8.encode first_words schedule rounds compress hash_after digest_bytes sha256
lead_found = refl

second_found : find (λ (row : StaffRow). bytes_eq row.digest second_key) both ≡ Some second
unfolding lib.Utf8.encode first_words schedule rounds compress hash_after digest_bytes sha256
second_found = refl

lead_there : (m : Matter) → m.staff ≡ both → staff_with lead_key m ≡ Some lead
lead_there m is = ap (find (λ (row : StaffRow). bytes_eq row.digest lead_key)) is ∙ lead_found

second_there : (m : Matter) → m.staff ≡ both → staff_with second_key m ≡ Some second
second_there m is = ap (find (λ (row : StaffRow). bytes_eq row.digest second_key)) is ∙ second_found

-- ---- what a document of a demo is called

abbrev pub called : ℕ → Bool → Treatment → CallRow
called n responsive treatment = record {
  doc = record { 0 = n };
  state = First (record { 0 = 1 });
  responsive = responsive;
  treatment = treatment;
  designation = codes "CONFIDENTIAL";
}

abbrev boxed : ℕ → Rect → DocBox
boxed n rect = record { doc = record { 0 = n }; row = record { num = 1; page = record { 0 = 1 }; rect = rect; basis = Pi } }

abbrev entered : ℕ → DocEntry
entered n = record {
  doc = record { 0 = n };
  entry = record { date = codes "2024-01-01"; author = codes "A"; recipients = codes "B"; description = codes "demo" };
}

-- ---- single calls

on_there : {A : Type 0} (doc : ℕ) (o : Option DocRow) (result : Result A Rule) → is_some o ≡ true → on_doc doc o (λ _. result) ≡ result
on_there doc None result there = absurd cc
on_there doc (Some row) result there = refl

-- three tests in turn
all_passed : {A : Type 0} (a b c : Bool) (x y z made : A) → a ≡ true → b ≡ true → c ≡ true → cond (not a) x (cond (not b) y (cond (not c) z made)) ≡ made
all_passed a b c x y z made one two three =
    ap (λ (t : Bool). cond (not t) x (cond (not b) y (cond (not c) z made))) one
    ∙ ap (λ (t : Bool). cond (not t) y (cond (not c) z made)) two
    ∙ ap (λ (t : Bool). cond (not t) z made) three

none_met : {A : Type 0} (a b c : Bool) (x y z made : A) → a ≡ true → b ≡ true → c ≡ false → cond (not a) x (cond (not b) y (cond c z made)) ≡ made
none_met a b c x y z made one two three =
    ap (λ (t : Bool). cond (not t) x (cond (not b) y (cond c z made))) one
    ∙ ap (λ (t : Bool). cond (not t) y (cond c z made)) two
    ∙ ap (λ (t : Bool). cond t z made) three

set_by : (m : Matter) (row : CallRow) → is_designation row.designation ≡ true → is_ground row.treatment ≡ true → has_marks row.doc.0 m ≡ false → call_set m row ≡ done (with_call row m)
set_by m row designation ground none =
    none_met (is_designation row.designation) (is_ground row.treatment) (not (is_redact row.treatment) && has_marks row.doc.0 m)
    (refused kinds.TextRefused) (refused kinds.BadBasis) (refused kinds.BoxesRemain) (done (with_call row m))
    designation ground (and_right (not (is_redact row.treatment)) (has_marks row.doc.0 m) none)

set_done : (m : Matter) (n : ℕ) (r : Bool) (t : Treatment) → m.staff ≡ both → is_some (doc_with n m) ≡ true → has_marks n m ≡ false → is_ground t ≡ true
    → step_of m lead_key (set_call n r t).call ≡ done (with_call (called n r t) m)
unfolding step_of
set_done m n r t staff there none ground =
    ap (λ (o : Option StaffRow). step_for m o (set_call n r t).call) (lead_there m staff)
    ∙ on_there n (doc_with n m) (call_set m (called n r t)) there
    ∙ set_by m (called n r t) refl ground none

put_by : (m : Matter) (caller : StaffNo) (box : DocBox) (page : PageRow) → is_box box.row ≡ true → inside_page (Some page) box.row.rect ≡ true → is_called_redact (call_with box.doc.0 m) ≡ true
    → box_put m caller box page ≡ done (with_box box (edited caller box.doc.0 m))
put_by m caller box page shaped inside redact =
    all_passed (is_box box.row) (inside_page (Some page) box.row.rect) (is_called_redact (call_with box.doc.0 m))
    (refused kinds.BoxShape) (refused kinds.BoxOutside) (refused kinds.WrongTreatment) (done (with_box box (edited caller box.doc.0 m)))
    shaped inside redact

shaped : (rect : Rect) → (rect.width == 0) ≡ false → (rect.height == 0) ≡ false → is_box (boxed 1 rect).row ≡ true
shaped rect wide high = and_from _ _ (and_from _ _ refl (ap not wide)) (ap not high)

put_done : (m : Matter) (n : ℕ) (rect : Rect) (page : PageRow) (row : CallRow) → m.staff ≡ both → is_some (doc_with n m) ≡ true → page_with n 1 m ≡ Some page
    → (rect.width == 0) ≡ false → (rect.height == 0) ≡ false → inside_page (Some page) rect ≡ true → call_with n m ≡ Some row → is_redact row.treatment ≡ true
    → step_of m lead_key (put_box n rect).call ≡ done (with_box (boxed n rect) (edited (record { 0 = 1 }) n m))
unfolding step_of
put_done m n rect page row staff there first wide high inside call redact =
    ap (λ (o : Option StaffRow). step_for m o (put_box n rect).call) (lead_there m staff)
    ∙ on_there n (doc_with n m) (on_page 1 (page_with n 1 m) (box_put m (record { 0 = 1 }) (boxed n rect))) there
    ∙ ap (λ (o : Option PageRow). on_page 1 o (box_put m (record { 0 = 1 }) (boxed n rect))) first
    ∙ put_by m (record { 0 = 1 }) (boxed n rect) page (shaped rect wide high) inside (ap is_called_redact call ∙ redact)

entry_done : (m : Matter) (n : ℕ) → m.staff ≡ both → is_some (doc_with n m) ≡ true
    → step_of m lead_key (put_entry n).call ≡ done (with_entry (entered n) (edited (record { 0 = 1 }) n m))
unfolding step_of lib.Utf8.encode
entry_done m n staff there =
    ap (λ (o : Option StaffRow). step_for m o (put_entry n).call) (lead_there m staff)
    ∙ on_there n (doc_with n m) (entry_put m (record { 0 = 1 }) (entered n)) there

confirm_done : (m : Matter) (n : ℕ) (row : CallRow) → m.staff ≡ both → is_some (doc_with n m) ≡ true → call_with n m ≡ Some row
    → confirm_rule row (editor_number row.state) (boxes_on n m.boxes) (held_on n m.held) (is_entered n m.entries) 2 ≡ None
    → step_of m second_key (confirm_call n).call ≡ done (with_call (confirmed_by (record { 0 = 2 }) row) m)
unfolding step_of
confirm_done m n row staff there call none =
    ap (λ (o : Option StaffRow). step_for m o (confirm_call n).call) (second_there m staff)
    ∙ on_there n (doc_with n m) (confirm m (record { 0 = 2 }) n (call_with n m)) there
    ∙ ap (confirm m (record { 0 = 2 }) n) call
    ∙ ap (confirm_unless m (record { 0 = 2 }) row) none

-- ---- look-ups behind a call

own_call : (row : CallRow) (calls : List CallRow) (n : ℕ) → row.doc.0 ≡ n → find_key call_key n (put call_key row calls) ≡ Some row
own_call row calls n same = find-put call_key row calls n ∙ ap (λ (b : Bool). cond b (Some row) (find_key call_key n calls)) (eq-eqb row.doc.0 n same)

other_call : (row : CallRow) (calls : List CallRow) (k : ℕ) → k < row.doc.0 → find_key call_key k (put call_key row calls) ≡ find_key call_key k calls
other_call row calls k less =
    find-put call_key row calls k ∙ ap (λ (b : Bool). cond b (Some row) (find_key call_key k calls)) (ne_eqb row.doc.0 k (λ e. omega (arith, less, e)))

-- staff 1 edits what staff 1 called
edited_is : (m : Matter) (n : ℕ) (r : Bool) (t : Treatment) → call_with n m ≡ Some (called n r t) → (edited (record { 0 = 1 }) n m).calls ≡ put call_key (called n r t) m.calls
edited_is m n r t call = ap (λ (o : Option CallRow). calls_edited (record { 0 = 1 }) o m.calls) call

is_entry : (n : ℕ) (entries : List DocEntry) → is_entered n (put entry_key (entered n) entries) ≡ true
is_entry n entries =
    ap (λ (o : Option DocEntry). not (is_none o)) (find-put entry_key (entered n) entries n ∙ ap (λ (b : Bool). cond b (Some (entered n)) (find_key entry_key n entries)) (eq-eqb n n refl))

-- ---- boxes

none_on : (n : ℕ) (boxes : List DocBox) → list_all (λ (box : DocBox). nat_lt box.doc.0 n) boxes ≡ true → boxes_on n boxes ≡ []
none_on n [] below = refl
none_on n (b ∷ boxes) below =
    let parts = and_parts (nat_lt b.doc.0 n) (list_all (λ (box : DocBox). nat_lt box.doc.0 n) boxes) below in
    let less : b.doc.0 < n = ltb-true b.doc.0 n parts.0 in
    rw (ne_eqb b.doc.0 n (λ e. omega (arith, less, e))) (none_on n boxes parts.1)

own_on : (n : ℕ) (rect : Rect) (rest : List DocBox) → boxes_on n rest ≡ [] → boxes_on n (boxed n rect ∷ rest) ≡ boxed n rect ∷ []
own_on n rect rest none =
    ap (λ (b : Bool). cond b (boxed n rect ∷ boxes_on n rest) (boxes_on n rest)) (eq-eqb n n refl) ∙ ap (λ (bs : List DocBox). boxed n rect ∷ bs) none

-- wherever it is put
one_by : (n : ℕ) (rect : Rect) (b : DocBox) (boxes more : List DocBox) (less same : Bool) → b.doc.0 < n → boxes_on n boxes ≡ [] → boxes_on n (b ∷ boxes) ≡ [] → boxes_on n more ≡ boxed n rect ∷ []
    → boxes_on n (cond less (boxed n rect ∷ b ∷ boxes) (cond same (boxed n rect ∷ boxes) (b ∷ more))) ≡ boxed n rect ∷ []
one_by n rect b boxes more true same lower none all_none there = own_on n rect (b ∷ boxes) all_none
one_by n rect b boxes more false true lower none all_none there = own_on n rect boxes none
one_by n rect b boxes more false false lower none all_none there = rw (ne_eqb b.doc.0 n (λ e. omega (arith, lower, e))) there

one_on : (n : ℕ) (rect : Rect) (boxes : List DocBox) → list_all (λ (box : DocBox). nat_lt box.doc.0 n) boxes ≡ true → boxes_on n (put box_key (boxed n rect) boxes) ≡ boxed n rect ∷ []
one_on n rect [] below = own_on n rect [] refl
one_on n rect (b ∷ boxes) below =
    let parts = and_parts (nat_lt b.doc.0 n) (list_all (λ (box : DocBox). nat_lt box.doc.0 n) boxes) below in
    one_by n rect b boxes (put box_key (boxed n rect) boxes) (nat_lt (two_keys n 1) (box_key b)) (two_keys n 1 == box_key b)
    (ltb-true b.doc.0 n parts.0) (none_on n boxes parts.1) (none_on n (b ∷ boxes) below) (one_on n rect boxes parts.1)

-- ---- the matter before the calls of a document

-- the documents before this one are called and settled, and no box is of another
pub record IsAt (rows : List DocRow) (pages : List PageRow) (n : ℕ) (m : Matter) : Type 0 where
  pub staff : m.staff ≡ both
  pub docs : m.docs ≡ rows
  pub pages_are : m.pages ≡ pages
  pub held : m.held ≡ []
  pub fields : m.fields ≡ []
  pub prefixes : m.prefixes ≡ []
  pub productions : m.productions ≡ []
  pub boxes : list_all (λ (box : DocBox). nat_lt box.doc.0 n) m.boxes ≡ true
  pub settled : (k : ℕ) → 1 ≤ k → k < n → is_settled (call_with k m) ≡ true

unmarked : (rows : List DocRow) (pages : List PageRow) (n : ℕ) (m : Matter) → IsAt rows pages n m → has_marks n m ≡ false
unmarked rows pages n m known =
    or_from _ _ (ap (λ (boxes : List DocBox). not (length boxes == 0)) (none_on n m.boxes known.boxes)) (ap (λ (held : List DocHeld). not (length (held_on n held) == 0)) known.held)

-- what is put of a document leaves those before it settled
settled_put : (old : List CallRow) (row : CallRow) (n : ℕ) → row.doc.0 ≡ n → ((k : ℕ) → 1 ≤ k → k < n → is_settled (find_key call_key k old) ≡ true)
    → (k : ℕ) → 1 ≤ k → k < n → is_settled (find_key call_key k (put call_key row old)) ≡ true
settled_put old row n same before k some less = ap is_settled (other_call row old k (omega (arith, less, same))) ∙ before k some less

-- and settles it where it is
settled_next : (old : List CallRow) (row : CallRow) (n : ℕ) → row.doc.0 ≡ n → is_settled (Some row) ≡ true → ((k : ℕ) → 1 ≤ k → k < n → is_settled (find_key call_key k old) ≡ true)
    → (k : ℕ) → 1 ≤ k → k < n + 1 → is_settled (find_key call_key k (put call_key row old)) ≡ true
settled_next old row n same own before k some less =
    elim (cases_lt k n) [
      | inl lower ↦ settled_put old row n same before k some lower
      | inr last ↦ ap is_settled (own_call row old k (omega (arith, same, last, less))) ∙ own
    ]

-- ---- the calls of a document

-- each of the calls is done, and behind them this document is next
pub record Goes (rows : List DocRow) (pages : List PageRow) (last : ℕ) (m : Matter) (calls : List KeyedCall) : Type 0 where
  pub answers : answers_of m (map call_step calls) ≡ all_done calls
  pub known : IsAt rows pages last (run_of m (map call_step calls))

goes_then : (rows : List DocRow) (pages : List PageRow) (last : ℕ) (m n : Matter) (call : KeyedCall) (calls : List KeyedCall) → step_of m call.key call.call ≡ done n → Goes rows pages last n calls → Goes rows pages last m (call ∷ calls)
goes_then rows pages last m n call calls is goes =
    let one : answered m (call_step call) ≡ record { answer = answers.Replied replies.Done; matter = n } = ap (to_call m) is in
    record {
      answers =
          ap (λ (a : Answered). a.answer ∷ answers_of a.matter (map call_step calls)) one
          ∙ ap (λ (told : List RunAnswer). answers.Replied replies.Done ∷ told) goes.answers;
      known = subst (λ (a : Answered). IsAt rows pages last (run_of a.matter (map call_step calls))) (sym one) goes.known;
    }

-- behind a document: the same but for its call, and for what is put beside it
produced_at : (rows : List DocRow) (pages : List PageRow) (n : ℕ) (m : Matter) (row : CallRow) → IsAt rows pages n m → row.doc.0 ≡ n → is_settled (Some row) ≡ true → IsAt rows pages (n + 1) (with_call row m)
produced_at rows pages n m row known same own = record {
  staff = known.staff;
  docs = known.docs;
  pages_are = known.pages_are;
  held = known.held;
  fields = known.fields;
  prefixes = known.prefixes;
  productions = known.productions;
  boxes = below_more (λ (box : DocBox). box.doc.0) n (n + 1) m.boxes (omega arith) known.boxes;
  settled = settled_next m.calls row n same own known.settled;
}

marked_at : (rows : List DocRow) (pages : List PageRow) (n : ℕ) (m : Matter) (row new : CallRow) (calls : List CallRow) (boxes : List DocBox) (entries : List DocEntry) → IsAt rows pages n m → row.doc.0 ≡ n → new.doc.0 ≡ n
    → is_settled (Some new) ≡ true → calls ≡ put call_key row (put call_key row m.calls) → list_all (λ (box : DocBox). nat_lt box.doc.0 (n + 1)) boxes ≡ true
    → IsAt rows pages (n + 1) (record m { calls = put call_key new calls; boxes = boxes; entries = entries })
marked_at rows pages n m row new calls boxes entries known same again own is below = record {
  staff = known.staff;
  docs = known.docs;
  pages_are = known.pages_are;
  held = known.held;
  fields = known.fields;
  prefixes = known.prefixes;
  productions = known.productions;
  boxes = below;
  settled = settled_next calls new n again own
      (λ k some less. ap (λ (cs : List CallRow). is_settled (find_key call_key k cs)) is
      ∙ settled_put (put call_key row m.calls) row n same (settled_put m.calls row n same known.settled) k some less);
}

there_in : (rows : List DocRow) (pages : List PageRow) (n : ℕ) (m : Matter) (doc : BatchDoc) → m.docs ≡ rows → IsReady rows pages n doc → is_some (doc_with n m) ≡ true
there_in rows pages n m doc docs ready = ap (λ (rs : List DocRow). is_some (find_key doc_key n rs)) docs ∙ ready.there

redacted_goes : (rows : List DocRow) (pages : List PageRow) (last n : ℕ) (m : Matter) (doc : BatchDoc) (r : Bool) (rest : List KeyedCall) → IsAt rows pages n m → IsReady rows pages n doc
    → ((later : Matter) → IsAt rows pages (n + 1) later → Goes rows pages last later rest)
    → Goes rows pages last m (set_call n r Redact ∷ put_box n (first_word doc.pages) ∷ confirm_call n ∷ rest)
redacted_goes rows pages last n m doc r rest known ready more =
    let rect = first_word doc.pages in
    let row = called n r Redact in
    let one = with_call row m in
    let two = with_box (boxed n rect) (edited (record { 0 = 1 }) n one) in
    let three = with_call (confirmed_by (record { 0 = 2 }) row) two in
    let there = there_in rows pages n m doc known.docs ready in
    let call_one : call_with n one ≡ Some row = own_call row m.calls n refl in
    let first : page_with n 1 one ≡ Some ready.first.page = ap (find_key page_key (two_keys n 1)) known.pages_are ∙ ready.first.there in
    let calls_two : two.calls ≡ put call_key row (put call_key row m.calls) = edited_is one n r Redact call_one in
    let call_two : call_with n two ≡ Some row = ap (find_key call_key n) calls_two ∙ own_call row (put call_key row m.calls) n refl in
    let boxes : boxes_on n two.boxes ≡ boxed n rect ∷ [] = one_on n rect m.boxes known.boxes in
    let held : held_on n two.held ≡ [] = ap (held_on n) known.held in
    let none : confirm_rule row 1 (boxes_on n two.boxes) (held_on n two.held) (is_entered n two.entries) 2 ≡ None =
    ap (λ (bs : List DocBox). confirm_rule row 1 bs (held_on n two.held) (is_entered n two.entries) 2) boxes
    ∙ ap (λ (hs : List DocHeld). confirm_rule row 1 (boxed n rect ∷ []) hs (is_entered n two.entries) 2) held in
    let below : list_all (λ (box : DocBox). nat_lt box.doc.0 (n + 1)) two.boxes ≡ true =
    all-put box_key (λ (box : DocBox). nat_lt box.doc.0 (n + 1)) (boxed n rect) m.boxes (below_more (λ (box : DocBox). box.doc.0) n (n + 1) m.boxes (omega arith) known.boxes) (lt-ltb n (n + 1) (omega arith)) in
    let behind : IsAt rows pages (n + 1) three = marked_at rows pages n m row (confirmed_by (record { 0 = 2 }) row) two.calls two.boxes two.entries known refl refl refl calls_two below in
    goes_then rows pages last m one (set_call n r Redact) (put_box n rect ∷ confirm_call n ∷ rest) (set_done m n r Redact known.staff there (unmarked rows pages n m known) refl)
    (goes_then rows pages last one two (put_box n rect) (confirm_call n ∷ rest) (put_done one n rect ready.first.page row known.staff there first ready.first.wide ready.first.high ready.first.inside call_one refl)
    (goes_then rows pages last two three (confirm_call n) rest (confirm_done two n row known.staff there call_two none) (more three behind)))

withheld_goes : (rows : List DocRow) (pages : List PageRow) (last n : ℕ) (m : Matter) (doc : BatchDoc) (r : Bool) (basis : Basis) (rest : List KeyedCall) → IsAt rows pages n m → IsReady rows pages n doc → is_ground (Withhold basis) ≡ true
    → ((later : Matter) → IsAt rows pages (n + 1) later → Goes rows pages last later rest)
    → Goes rows pages last m (set_call n r (Withhold basis) ∷ put_entry n ∷ confirm_call n ∷ rest)
withheld_goes rows pages last n m doc r basis rest known ready ground more =
    let row = called n r (Withhold basis) in
    let one = with_call row m in
    let two = with_entry (entered n) (edited (record { 0 = 1 }) n one) in
    let three = with_call (confirmed_by (record { 0 = 2 }) row) two in
    let there = there_in rows pages n m doc known.docs ready in
    let call_one : call_with n one ≡ Some row = own_call row m.calls n refl in
    let calls_two : two.calls ≡ put call_key row (put call_key row m.calls) = edited_is one n r (Withhold basis) call_one in
    let call_two : call_with n two ≡ Some row = ap (find_key call_key n) calls_two ∙ own_call row (put call_key row m.calls) n refl in
    let none : confirm_rule row 1 (boxes_on n two.boxes) (held_on n two.held) (is_entered n two.entries) 2 ≡ None =
    ap (λ (e : Bool). confirm_rule row 1 (boxes_on n two.boxes) (held_on n two.held) e 2) (is_entry n m.entries) in
    let below : list_all (λ (box : DocBox). nat_lt box.doc.0 (n + 1)) two.boxes ≡ true = below_more (λ (box : DocBox). box.doc.0) n (n + 1) m.boxes (omega arith) known.boxes in
    let behind : IsAt rows pages (n + 1) three = marked_at rows pages n m row (confirmed_by (record { 0 = 2 }) row) two.calls two.boxes two.entries known refl refl refl calls_two below in
    goes_then rows pages last m one (set_call n r (Withhold basis)) (put_entry n ∷ confirm_call n ∷ rest) (set_done m n r (Withhold basis) known.staff there (unmarked rows pages n m known) ground)
    (goes_then rows pages last one two (put_entry n) (confirm_call n ∷ rest) (entry_done one n known.staff there)
    (goes_then rows pages last two three (confirm_call n) rest (confirm_done two n row known.staff there call_two none) (more three behind)))

doc_goes : (rows : List DocRow) (pages : List PageRow) (last n : ℕ) (m : Matter) (doc : BatchDoc) (r : Bool) (t : Treatment) (rest : List KeyedCall) → IsAt rows pages n m → IsReady rows pages n doc → is_ground t ≡ true
    → ((later : Matter) → IsAt rows pages (n + 1) later → Goes rows pages last later rest)
    → Goes rows pages last m (set_call n r t ∷ (marks_of n t (first_word doc.pages) ++ rest))
doc_goes rows pages last n m doc r Produce rest known ready ground more =
    let row = called n r Produce in
    goes_then rows pages last m (with_call row m) (set_call n r Produce) rest (set_done m n r Produce known.staff (there_in rows pages n m doc known.docs ready) (unmarked rows pages n m known) refl)
    (more (with_call row m) (produced_at rows pages n m row known refl refl))
doc_goes rows pages last n m doc r Redact rest known ready ground more = redacted_goes rows pages last n m doc r rest known ready more
doc_goes rows pages last n m doc r (Withhold basis) rest known ready ground more = withheld_goes rows pages last n m doc r basis rest known ready ground more

-- what is drawn is a ground on which a document may be withheld
grounds : (a b : Bool) → is_ground (cond a (Withhold Ac) (cond b Redact Produce)) ≡ true
grounds true b = refl
grounds false true = refl
grounds false false = refl

-- ---- the calls of all documents

pub all_go : (rows : List DocRow) (pages : List PageRow) (last n x : ℕ) (m : Matter) (docs : List BatchDoc) → n + length docs ≡ last → IsAt rows pages n m → AreReady rows pages n docs → Goes rows pages last m (calls_from x n docs)
all_go rows pages last n x m [] count known ready =
    let same : n ≡ last = omega (arith, count) in
    record { answers = refl; known = subst (λ (k : ℕ). IsAt rows pages k m) same known }
all_go rows pages last n x m (doc ∷ docs) count known ready =
    let d = drawn (next x) 10 in
    doc_goes rows pages last n m doc (not (drawn (next (next x)) 8 == 0)) (treatment_of d) (calls_from (next (next x)) (n + 1) docs) known ready.0 (grounds (d == 0) (nat_le d 2))
    (λ now is. all_go rows pages last (n + 1) (next (next x)) now docs (omega (arith, count)) is ready.1)
