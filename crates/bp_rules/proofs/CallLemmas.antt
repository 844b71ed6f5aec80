-- A matter stays valid where the call of a document changes.
use Rattle.std.proofs.Common.{◌≡◌, ◌⊎◌, ℕ, ◌*◌, ◌^◌, ◌≤◌, Bool, true, false, cond, not, eqb, leb, ◌&&◌, List, [], ◌∷◌, length, Option, Some, None, refl, sym, ap, ◌∙◌, inl, inr, arith, encode_utf8, encode_utf8_all}
use Rattle.std.specs.Prelude.{is_none}
use Rattle.std.specs.List.{filter, list_all}
use Rattle.std.specs.Str.{all_scalars}
use Rattle.std.proofs.lemmas.Bool.{and_parts, and_from, cases_Bool, eqb-true, eqb-false, eq-eqb, ne_eqb, leb-true, lt-ltb}
use Rattle.std.proofs.lemmas.Str.{len_utf8_bounds, length-encode}
use Rattle.std.proofs.lemmas.List.{length-append}
use Rattle.bp_core.specs.Sorted.{find_key, put, without}
use Rattle.bp_core.specs.declared.numbers.StaffNo.{StaffNo}
use Rattle.bp_core.specs.declared.review.Basis.TheVariants.{Ac, Pi, Ts, Wp}
use Rattle.bp_core.specs.declared.review.Treatment.{Treatment}
use Rattle.bp_core.specs.declared.review.Treatment.TheVariants.{Produce, Redact, Withhold}
use Rattle.bp_core.proofs.SortedLemmas.{all-put, ascends-put, ascends-without, find-put}
use Rattle.bp_matter.specs.Confirming.{ReviewFacts, boxes_on, confirm_rule, held_on, is_entered, may_hold, state_holds}
use Rattle.bp_matter.specs.LookUps.{call_with}
use Rattle.bp_matter.specs.Matter.{Matter, call_key, staff_key}
use Rattle.bp_matter.specs.Texts.{is_designation, is_designation_character}
use Rattle.bp_matter.specs.Treatments.{is_ground, is_redact}
use Rattle.bp_matter.specs.Valid.{IsValid}
use Rattle.bp_matter.specs.ValidCalls.{CallFacts, call_fits, state_fits}
use Rattle.bp_matter.specs.ValidRows.{names}
use Rattle.bp_matter.specs.ValidStaff.{checker_there}
use Rattle.bp_matter.specs.Written.{call_written, is_short, is_word, state_written, treatment_written}
use Rattle.bp_matter.specs.declared.rows.CallRow.{CallRow}
use Rattle.bp_matter.specs.declared.rows.DocBox.{DocBox}
use Rattle.bp_matter.specs.declared.rows.DocHeld.{DocHeld}
use Rattle.bp_matter.specs.declared.rows.State.{State}
use Rattle.bp_matter.specs.declared.rows.State.TheVariants.{Confirmed, First}
use Rattle.bp_rules.specs.Calling.{calls_edited, edited, first_by, with_call, without_call}
use Rattle.bp_rules.proofs.FoundLemmas.{find-without, found-key}
use Rattle.bp_rules.proofs.ListLemmas.{all-filter, all-weaker, find-all}

-- ---- marks under a call that is put

holds_on : (b : Bool) (row : CallRow) (o : Option CallRow) → is_redact row.treatment ≡ true → may_hold o ≡ true → may_hold (cond b (Some row) o) ≡ true
holds_on true row o redact h = redact
holds_on false row o redact h = h

-- marks of any kind, of the documents that `doc` names, under a call of Redact
redact_stays : {T : Type 0} (doc : T → ℕ) (row : CallRow) (calls : List CallRow) (marks : List T) → is_redact row.treatment ≡ true → list_all (λ (x : T). may_hold (find_key call_key (doc x) calls)) marks ≡ true
    → list_all (λ (x : T). may_hold (find_key call_key (doc x) (put call_key row calls))) marks ≡ true
redact_stays {T} doc row calls marks redact all =
    all-weaker (λ (x : T). may_hold (find_key call_key (doc x) calls)) (λ (x : T). may_hold (find_key call_key (doc x) (put call_key row calls))) marks
    (λ x h. rw (find-put call_key row calls (doc x)) (holds_on (eqb row.doc.0 (doc x)) row (find_key call_key (doc x) calls) redact h)) all

-- the document has none
none_stays : {T : Type 0} (doc : T → ℕ) (row : CallRow) (calls : List CallRow) (marks : List T) → length (filter (λ (x : T). eqb (doc x) row.doc.0) marks) ≡ 0 → list_all (λ (x : T). may_hold (find_key call_key (doc x) calls)) marks ≡ true
    → list_all (λ (x : T). may_hold (find_key call_key (doc x) (put call_key row calls))) marks ≡ true
none_stays doc row calls [] none all = refl
none_stays {T} doc row calls (x ∷ marks) none all =
    let parts = and_parts (may_hold (find_key call_key (doc x) calls)) (list_all (λ (y : T). may_hold (find_key call_key (doc y) calls)) marks) all in
    elim (cases_Bool (eqb (doc x) row.doc.0)) [
      | inl here ↦ absurd (let f = rw here at none in omega arith)
      | inr there ↦ (
          let other : eqb row.doc.0 (doc x) ≡ false = ne_eqb row.doc.0 (doc x) (λ e. eqb-false (doc x) row.doc.0 there (sym e)) in
          let head : may_hold (find_key call_key (doc x) (put call_key row calls)) ≡ true = rw (find-put call_key row calls (doc x), other) parts.0 in
          and_from (may_hold (find_key call_key (doc x) (put call_key row calls))) (list_all (λ (y : T). may_hold (find_key call_key (doc y) (put call_key row calls))) marks) head (none_stays doc row calls marks (rw there at none) parts.1))
    ]

marks_stay : {T : Type 0} (doc : T → ℕ) (row : CallRow) (calls : List CallRow) (marks : List T) → (is_redact row.treatment ≡ true) ⊎ (length (filter (λ (x : T). eqb (doc x) row.doc.0) marks) ≡ 0)
    → list_all (λ (x : T). may_hold (find_key call_key (doc x) calls)) marks ≡ true → list_all (λ (x : T). may_hold (find_key call_key (doc x) (put call_key row calls))) marks ≡ true
marks_stay doc row calls marks (inl redact) all = redact_stays doc row calls marks redact all
marks_stay doc row calls marks (inr none) all = none_stays doc row calls marks none all

-- a called document that isn't Redact has none
no_marks : {T : Type 0} (doc : T → ℕ) (d : ℕ) (row : CallRow) (calls : List CallRow) (marks : List T) → find_key call_key d calls ≡ Some row → is_redact row.treatment ≡ false → list_all (λ (x : T). may_hold (find_key call_key (doc x) calls)) marks ≡ true
    → length (filter (λ (x : T). eqb (doc x) d) marks) ≡ 0
no_marks doc d row calls [] found redact all = refl
no_marks {T} doc d row calls (x ∷ marks) found redact all =
    let parts = and_parts (may_hold (find_key call_key (doc x) calls)) (list_all (λ (y : T). may_hold (find_key call_key (doc y) calls)) marks) all in
    elim (cases_Bool (eqb (doc x) d)) [
      | inl here ↦ absurd (
          let same : doc x ≡ d = eqb-true (doc x) d here in
          let may : may_hold (find_key call_key d calls) ≡ true = ap (λ (n : ℕ). may_hold (find_key call_key n calls)) (sym same) ∙ parts.0 in
          let bad : is_redact row.treatment ≡ true = ap may_hold (sym found) ∙ may in
          cc)
      | inr there ↦ rw there (no_marks doc d row calls marks found redact parts.1)
    ]

-- ---- a call put

-- what a call that is put has to meet
pub record RowFits (m : Matter) (row : CallRow) : Type 0 where
  pub fits : call_fits (length m.staff) (length m.docs) row ≡ true
  pub written : call_written row ≡ true
  pub holds : state_holds m.staff m.boxes m.held m.entries row row.state ≡ true
  pub boxes : (is_redact row.treatment ≡ true) ⊎ (length (boxes_on row.doc.0 m.boxes) ≡ 0)
  pub held : (is_redact row.treatment ≡ true) ⊎ (length (held_on row.doc.0 m.held) ≡ 0)

calls-put : (m : Matter) (row : CallRow) → IsValid m → RowFits m row → CallFacts (length m.staff) (length m.docs) (put call_key row m.calls)
calls-put m row v f =
    record {
      ascend = ascends-put call_key 0 row m.calls v.calls.ascend (omega arith);
      fit = all-put call_key (call_fits (length m.staff) (length m.docs)) row m.calls v.calls.fit f.fits;
      written = all-put call_key call_written row m.calls v.calls.written f.written;
    }

review-put : (m : Matter) (row : CallRow) → IsValid m → RowFits m row → ReviewFacts m.staff (put call_key row m.calls) m.boxes m.held m.entries
review-put m row v f =
    record {
      boxes_held = marks_stay (λ (b : DocBox). b.doc.0) row m.calls m.boxes f.boxes v.review.boxes_held;
      fields_held = marks_stay (λ (h : DocHeld). h.doc.0) row m.calls m.held f.held v.review.fields_held;
      confirmed = all-put call_key (λ (r : CallRow). state_holds m.staff m.boxes m.held m.entries r r.state) row m.calls v.review.confirmed f.holds;
    }

pub call-valid : (m : Matter) (row : CallRow) → IsValid m → RowFits m row → IsValid (with_call row m)
call-valid m row v f =
    record {
      staff = v.staff;
      fields = v.fields;
      docs = v.docs;
      pages = v.pages;
      calls = calls-put m row v f;
      boxes = v.boxes;
      held = v.held;
      entries = v.entries;
      prefixes = v.prefixes;
      productions = v.productions;
      batches = v.batches;
      words = v.words;
      review = review-put m row v f;
    }

-- ---- a call gone

gone_holds : (b : Bool) (o : Option CallRow) → may_hold o ≡ true → may_hold (cond b None o) ≡ true
gone_holds true o h = refl
gone_holds false o h = h

marks_free : {T : Type 0} (doc : T → ℕ) (d : ℕ) (calls : List CallRow) (marks : List T) → list_all (λ (x : T). may_hold (find_key call_key (doc x) calls)) marks ≡ true → list_all (λ (x : T). may_hold (find_key call_key (doc x) (without call_key d calls))) marks ≡ true
marks_free {T} doc d calls marks all =
    all-weaker (λ (x : T). may_hold (find_key call_key (doc x) calls)) (λ (x : T). may_hold (find_key call_key (doc x) (without call_key d calls))) marks
    (λ x h. rw (find-without call_key d (doc x) calls) (gone_holds (eqb d (doc x)) (find_key call_key (doc x) calls) h)) all

pub uncalled-valid : (m : Matter) (doc : ℕ) → IsValid m → IsValid (without_call doc m)
uncalled-valid m doc v =
    let stays = λ (r : CallRow). not (eqb (call_key r) doc) in
    record {
      staff = v.staff;
      fields = v.fields;
      docs = v.docs;
      pages = v.pages;
      calls = record {
        ascend = ascends-without call_key doc 0 m.calls v.calls.ascend;
        fit = all-filter (call_fits (length m.staff) (length m.docs)) stays m.calls v.calls.fit;
        written = all-filter call_written stays m.calls v.calls.written;
      };
      boxes = v.boxes;
      held = v.held;
      entries = v.entries;
      prefixes = v.prefixes;
      productions = v.productions;
      batches = v.batches;
      words = v.words;
      review = record {
        boxes_held = marks_free (λ (b : DocBox). b.doc.0) doc m.calls m.boxes v.review.boxes_held;
        fields_held = marks_free (λ (h : DocHeld). h.doc.0) doc m.calls m.held v.review.fields_held;
        confirmed = all-filter (λ (r : CallRow). state_holds m.staff m.boxes m.held m.entries r r.state) stays m.calls v.review.confirmed;
      };
    }

-- ---- a call that is there, in another state

-- the parts of a call that fits
pub record CallParts (staff docs : ℕ) (row : CallRow) : Type 0 where
  pub doc : names docs row.doc.0 ≡ true
  pub state : state_fits staff row.state ≡ true
  pub ground : is_ground row.treatment ≡ true
  pub designation : is_designation row.designation ≡ true

pub call-parts : (staff docs : ℕ) (row : CallRow) → call_fits staff docs row ≡ true → CallParts staff docs row
call-parts staff docs row h =
    let p1 = and_parts (names docs row.doc.0 && state_fits staff row.state && is_ground row.treatment) (is_designation row.designation) h in
    let p2 = and_parts (names docs row.doc.0 && state_fits staff row.state) (is_ground row.treatment) p1.0 in
    let p3 = and_parts (names docs row.doc.0) (state_fits staff row.state) p2.0 in
    record { doc = p3.0; state = p3.1; ground = p2.1; designation = p1.1 }

pub call-from : (staff docs : ℕ) (row : CallRow) → CallParts staff docs row → call_fits staff docs row ≡ true
call-from staff docs row p =
    and_from (names docs row.doc.0 && state_fits staff row.state && is_ground row.treatment) (is_designation row.designation)
    (and_from (names docs row.doc.0 && state_fits staff row.state) (is_ground row.treatment) (and_from (names docs row.doc.0) (state_fits staff row.state) p.doc p.state) p.ground) p.designation

record CallWords (row : CallRow) : Type 0 where
  doc : is_word row.doc.0 ≡ true
  state : state_written row.state ≡ true
  treatment : treatment_written row.treatment ≡ true
  designation : is_short row.designation ≡ true

call-words : (row : CallRow) → call_written row ≡ true → CallWords row
call-words row h =
    let p1 = and_parts (is_word row.doc.0) (state_written row.state && (treatment_written row.treatment && is_short row.designation)) h in
    let p2 = and_parts (state_written row.state) (treatment_written row.treatment && is_short row.designation) p1.1 in
    let p3 = and_parts (treatment_written row.treatment) (is_short row.designation) p2.1 in
    record { doc = p1.0; state = p2.0; treatment = p3.0; designation = p3.1 }

call-written : (row : CallRow) → CallWords row → call_written row ≡ true
call-written row w =
    and_from (is_word row.doc.0) (state_written row.state && (treatment_written row.treatment && is_short row.designation)) w.doc
    (and_from (state_written row.state) (treatment_written row.treatment && is_short row.designation) w.state (and_from (treatment_written row.treatment) (is_short row.designation) w.treatment w.designation))

-- a number of one of so many rows has 32 bits
pub names-word : (count n : ℕ) → count ≤ 10000 → names count n ≡ true → is_word n ≡ true
names-word count n few h = lt-ltb n (2 ^ 32) (omega (arith, leb-true n count (and_parts (leb 1 n) (leb n count) h).1))

pub staff-word : (m : Matter) (n : ℕ) → IsValid m → names (length m.staff) n ≡ true → is_word n ≡ true
staff-word m n v h = names-word (length m.staff) n (omega (arith, leb-true (length m.staff) 1000 v.staff.few)) h

pub doc-word : (m : Matter) (n : ℕ) → IsValid m → names (length m.docs) n ≡ true → is_word n ≡ true
doc-word m n v h = names-word (length m.docs) n (leb-true (length m.docs) 10000 v.docs.few) h

first-written : (m : Matter) (caller : StaffNo) → IsValid m → names (length m.staff) caller.0 ≡ true → state_written (First caller) ≡ true
first-written m caller v named = and_from (is_word caller.0) true (staff-word m caller.0 v named) refl

confirmed-written : (m : Matter) (editor caller : StaffNo) → IsValid m → names (length m.staff) editor.0 ≡ true → names (length m.staff) caller.0 ≡ true → state_written (Confirmed editor caller) ≡ true
confirmed-written m editor caller v first second =
    let some : eqb caller.0 0 ≡ false = ne_eqb caller.0 0 (λ e. omega (arith, leb-true 1 caller.0 (and_parts (leb 1 caller.0) (leb caller.0 (length m.staff)) second).0)) in
    let words : (is_word editor.0 && is_word caller.0) ≡ true = and_from (is_word editor.0) (is_word caller.0) (staff-word m editor.0 v first) (staff-word m caller.0 v second) in
    rw some words

-- a call that is there stays of its marks
marks_of : {T : Type 0} (doc : T → ℕ) (row : CallRow) (calls : List CallRow) (marks : List T) → find_key call_key row.doc.0 calls ≡ Some row → list_all (λ (x : T). may_hold (find_key call_key (doc x) calls)) marks ≡ true
    → (is_redact row.treatment ≡ true) ⊎ (length (filter (λ (x : T). eqb (doc x) row.doc.0) marks) ≡ 0)
marks_of doc row calls marks found all =
    elim (cases_Bool (is_redact row.treatment)) [
      | inl redact ↦ inl redact
      | inr other ↦ inr (no_marks doc row.doc.0 row calls marks found other all)
    ]

-- with another state, which holds
pub state-fits : (m : Matter) (row : CallRow) (s : State) → IsValid m → call_with row.doc.0 m ≡ Some row → state_fits (length m.staff) s ≡ true → state_written s ≡ true
    → state_holds m.staff m.boxes m.held m.entries (record row { state = s }) s ≡ true → RowFits m (record row { state = s })
state-fits m row s v found fits written holds =
    let same = λ (r : CallRow). eqb (call_key r) row.doc.0 in
    let parts = call-parts (length m.staff) (length m.docs) row (find-all same (call_fits (length m.staff) (length m.docs)) m.calls row found v.calls.fit) in
    let words = call-words row (find-all same call_written m.calls row found v.calls.written) in
    record {
      fits = call-from (length m.staff) (length m.docs) (record row { state = s }) (record { doc = parts.doc; state = fits; ground = parts.ground; designation = parts.designation });
      written = call-written (record row { state = s }) (record { doc = words.doc; state = written; treatment = words.treatment; designation = words.designation });
      holds = holds;
      boxes = marks_of (λ (b : DocBox). b.doc.0) row m.calls m.boxes found v.review.boxes_held;
      held = marks_of (λ (h : DocHeld). h.doc.0) row m.calls m.held found v.review.fields_held;
    }

pub first-fits : (m : Matter) (caller : StaffNo) (row : CallRow) → IsValid m → names (length m.staff) caller.0 ≡ true → call_with row.doc.0 m ≡ Some row → RowFits m (first_by caller row)
first-fits m caller row v named found = state-fits m row (First caller) v found named (first-written m caller v named) refl

-- the document of a call that is found
found-here : (m : Matter) (doc : ℕ) (row : CallRow) → call_with doc m ≡ Some row → call_with row.doc.0 m ≡ Some row
found-here m doc row found = ap (λ (d : ℕ). call_with d m) (found-key call_key doc m.calls row found) ∙ found

-- a matter that somebody edits stays valid
pub edited-by-valid : (m : Matter) (caller : StaffNo) (doc : ℕ) (call : Option CallRow) → call_with doc m ≡ call → IsValid m → names (length m.staff) caller.0 ≡ true → IsValid (record m { calls = calls_edited caller call m.calls })
edited-by-valid m caller doc None e v named = v
edited-by-valid m caller doc (Some row) e v named = call-valid m (first_by caller row) v (first-fits m caller row v named (found-here m doc row e))

pub edited-valid : (m : Matter) (caller : StaffNo) (doc : ℕ) → IsValid m → names (length m.staff) caller.0 ≡ true → IsValid (edited caller doc m)
edited-valid m caller doc v named = edited-by-valid m caller doc (call_with doc m) refl v named

-- and the document isn't confirmed then
abbrev pub is_open : State → Bool
is_open (Confirmed _ _) = false
is_open _ = true

edited-open-by : (m : Matter) (caller : StaffNo) (doc : ℕ) (call : Option CallRow) (row : CallRow) → call_with doc m ≡ call → find_key call_key doc (calls_edited caller call m.calls) ≡ Some row → is_open row.state ≡ true
edited-open-by m caller doc None row e found = absurd (let none : None ≡ Some row = sym e ∙ found in cc)
edited-open-by m caller doc (Some old) row e found =
    let here : find_key call_key doc (put call_key (first_by caller old) m.calls) ≡ Some (first_by caller old) =
    find-put call_key (first_by caller old) m.calls doc ∙ ap (λ (b : Bool). cond b (Some (first_by caller old)) (find_key call_key doc m.calls)) (eq-eqb old.doc.0 doc (found-key call_key doc m.calls old e)) in
    let some : Some (first_by caller old) ≡ Some row = sym here ∙ found in
    let same : first_by caller old ≡ row = cc in
    ap (λ (r : CallRow). is_open r.state) (sym same)

pub edited-open : (m : Matter) (caller : StaffNo) (doc : ℕ) (row : CallRow) → call_with doc (edited caller doc m) ≡ Some row → is_open row.state ≡ true
edited-open m caller doc row found = edited-open-by m caller doc (call_with doc m) row refl found

-- ---- a call that is set

encoded : (t : List ℕ) → length (encode_utf8_all t) ≤ 4 * length t
encoded [] = omega arith
encoded (c ∷ cs) = omega (arith, length-append (encode_utf8 c) (encode_utf8_all cs), length-encode c, len_utf8_bounds c, encoded cs)

designation_short : (t : List ℕ) → all_scalars t ≡ true → is_designation t ≡ true → is_short t ≡ true
designation_short t scalars h =
    let few : length t ≤ 40 = leb-true (length t) 40 (and_parts (leb (length t) 40) (list_all is_designation_character t) h).0 in
    and_from (all_scalars t) (is_word (length (encode_utf8_all t))) scalars (lt-ltb (length (encode_utf8_all t)) (2 ^ 32) (omega (arith, encoded t)))

ground_written : (t : Treatment) → is_ground t ≡ true → treatment_written t ≡ true
ground_written Produce h = refl
ground_written Redact h = refl
ground_written (Withhold Ac) h = refl
ground_written (Withhold Wp) h = refl
ground_written (Withhold Pi) h = absurd cc
ground_written (Withhold Ts) h = absurd cc

-- what is asked of a call that is set
pub record SetFits (m : Matter) (caller : StaffNo) (row : CallRow) : Type 0 where
  pub named : names (length m.staff) caller.0 ≡ true
  pub doc : names (length m.docs) row.doc.0 ≡ true
  pub state : row.state ≡ First caller
  pub scalars : all_scalars row.designation ≡ true
  pub designation : is_designation row.designation ≡ true
  pub ground : is_ground row.treatment ≡ true
  pub boxes : (is_redact row.treatment ≡ true) ⊎ (length (boxes_on row.doc.0 m.boxes) ≡ 0)
  pub held : (is_redact row.treatment ≡ true) ⊎ (length (held_on row.doc.0 m.held) ≡ 0)

pub set-fits : (m : Matter) (caller : StaffNo) (row : CallRow) → IsValid m → SetFits m caller row → RowFits m row
set-fits m caller row v f =
    record {
      fits = call-from (length m.staff) (length m.docs) row (record { doc = f.doc; state = ap (state_fits (length m.staff)) f.state ∙ f.named; ground = f.ground; designation = f.designation });
      written = call-written row (record { doc = doc-word m row.doc.0 v f.doc; state = ap state_written f.state ∙ first-written m caller v f.named; treatment = ground_written row.treatment f.ground; designation = designation_short row.designation f.scalars f.designation });
      holds = ap (state_holds m.staff m.boxes m.held m.entries row) f.state;
      boxes = f.boxes;
      held = f.held;
    }

-- ---- a call that is confirmed

pub confirmed-fits : (m : Matter) (editor caller : StaffNo) (row : CallRow) → IsValid m → names (length m.staff) caller.0 ≡ true → checker_there (find_key staff_key caller.0 m.staff) ≡ true → call_with row.doc.0 m ≡ Some row → row.state ≡ First editor
    → confirm_rule row editor.0 (boxes_on row.doc.0 m.boxes) (held_on row.doc.0 m.held) (is_entered row.doc.0 m.entries) caller.0 ≡ None → RowFits m (record row { state = Confirmed editor caller })
confirmed-fits m editor caller row v named checker found first rule =
    let same = λ (r : CallRow). eqb (call_key r) row.doc.0 in
    let parts = call-parts (length m.staff) (length m.docs) row (find-all same (call_fits (length m.staff) (length m.docs)) m.calls row found v.calls.fit) in
    let editor_named : names (length m.staff) editor.0 ≡ true = ap (state_fits (length m.staff)) (sym first) ∙ parts.state in
    state-fits m row (Confirmed editor caller) v found (and_from (names (length m.staff) editor.0) (names (length m.staff) caller.0) editor_named named) (confirmed-written m editor caller v editor_named named)
    (and_from (checker_there (find_key staff_key caller.0 m.staff)) (is_none (confirm_rule row editor.0 (boxes_on row.doc.0 m.boxes) (held_on row.doc.0 m.held) (is_entered row.doc.0 m.entries) caller.0)) checker (ap is_none rule))
