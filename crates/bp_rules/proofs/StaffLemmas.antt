-- A matter stays valid where a member of the staff comes.
use Rattle.std.proofs.Common.{◌≡◌, ℕ, ◌+◌, ◌≤◌, ◌<◌, ◌^◌, true, not, eqb, ◌&&◌, List, [], ◌∷◌, ◌++◌, length, None, refl, arith}
use Rattle.std.specs.List.{list_all, list_any}
use Rattle.std.specs.Str.{all_scalars, bytes_eq}
use Rattle.std.proofs.lemmas.Bool.{and_parts, and_from, le-leb, lt-ltb, eq-eqb}
use Rattle.std.proofs.lemmas.List.{length-append}
use Rattle.bp_core.specs.Sorted.{find_key}
use Rattle.bp_matter.specs.Confirming.{boxes_on, confirm_rule, held_on, is_entered, state_holds}
use Rattle.bp_matter.specs.LookUps.{staff_with}
use Rattle.bp_matter.specs.Matter.{Matter, staff_key}
use Rattle.bp_matter.specs.Texts.{is_text}
use Rattle.bp_matter.specs.Valid.{IsValid}
use Rattle.bp_matter.specs.ValidCalls.{call_fits, state_fits}
use Rattle.bp_matter.specs.ValidRows.{names}
use Rattle.bp_matter.specs.ValidStaff.{begins_with_lead, checker_there, staff_digest, staff_fits}
use Rattle.bp_matter.specs.Written.{is_short, is_word, staff_written}
use Rattle.std.specs.Prelude.{is_none}
use Rattle.bp_matter.specs.declared.rows.CallRow.{CallRow}
use Rattle.bp_matter.specs.declared.rows.StaffRow.{StaffRow}
use Rattle.bp_matter.specs.declared.rows.State.{State}
use Rattle.bp_matter.specs.declared.rows.State.TheVariants.{Confirmed, First, Uncalled}
use Rattle.bp_rules.specs.Calling.{with_staff}
use Rattle.bp_rules.proofs.CallLemmas.{call-from, call-parts}
use Rattle.bp_rules.proofs.ListLemmas.{all-append, all-weaker, differ-append, find-none, found-more, names-more, numbered-append}
use Rattle.bp_rules.proofs.MarkLemmas.{text-short}

lead_stays : (xs ys : List StaffRow) → begins_with_lead xs ≡ true → begins_with_lead (xs ++ ys) ≡ true
lead_stays [] ys h = absurd cc
lead_stays (x ∷ xs) ys h = h

-- what is asked of a member that comes
pub record StaffFits (m : Matter) (row : StaffRow) : Type 0 where
  pub number : row.staff.0 ≡ length m.staff + 1
  pub few : length m.staff < 1000
  pub fits : staff_fits row ≡ true
  pub scalars : all_scalars row.name ≡ true
  pub digest : length row.digest ≡ 32
  pub new : staff_with row.digest m ≡ None

state_more : (few more : ℕ) (s : State) → few ≤ more → state_fits few s ≡ true → state_fits more s ≡ true
state_more few more Uncalled le h = h
state_more few more (First editor) le h = names-more few more editor.0 le h
state_more few more (Confirmed editor confirmer) le h =
    let parts = and_parts (names few editor.0) (names few confirmer.0) h in
    and_from (names more editor.0) (names more confirmer.0) (names-more few more editor.0 le parts.0) (names-more few more confirmer.0 le parts.1)

holds_more : (m : Matter) (ys : List StaffRow) (row : CallRow) (s : State) → state_holds m.staff m.boxes m.held m.entries row s ≡ true → state_holds (m.staff ++ ys) m.boxes m.held m.entries row s ≡ true
holds_more m ys row Uncalled h = refl
holds_more m ys row (First editor) h = refl
holds_more m ys row (Confirmed editor confirmer) h =
    let rule = is_none (confirm_rule row editor.0 (boxes_on row.doc.0 m.boxes) (held_on row.doc.0 m.held) (is_entered row.doc.0 m.entries) confirmer.0) in
    let parts = and_parts (checker_there (find_key staff_key confirmer.0 m.staff)) rule h in
    and_from (checker_there (find_key staff_key confirmer.0 (m.staff ++ ys))) rule
    (found-more checker_there refl (λ (r : StaffRow). eqb (staff_key r) confirmer.0) m.staff ys parts.0) parts.1

written : (m : Matter) (row : StaffRow) → StaffFits m row → staff_written row ≡ true
written m row f =
    let name = and_parts (not (eqb (length row.name) 0)) (is_text 200 row.name) f.fits in
    and_from (is_word row.staff.0) (eqb (length row.digest) 32 && is_short row.name) (lt-ltb row.staff.0 (2 ^ 32) (omega (arith, f.number, f.few)))
    (and_from (eqb (length row.digest) 32) (is_short row.name) (eq-eqb (length row.digest) 32 f.digest) (text-short 200 row.name (omega arith) name.1 f.scalars))

-- its digest is that of nobody before
differs : (m : Matter) (row : StaffRow) → staff_with row.digest m ≡ None → list_all (λ (y : StaffRow). not (list_any (λ (x : StaffRow). bytes_eq (staff_digest x) (staff_digest y)) m.staff)) (row ∷ []) ≡ true
differs m row new = rw (find-none (λ (r : StaffRow). bytes_eq r.digest row.digest) m.staff new) refl

pub staff-valid : (m : Matter) (row : StaffRow) → IsValid m → StaffFits m row → IsValid (with_staff row m)
staff-valid m row v f =
    let one = row ∷ [] in
    let count : length (m.staff ++ one) ≡ length m.staff + 1 = length-append m.staff one in
    let more : length m.staff ≤ length (m.staff ++ one) = omega (arith, count) in
    record {
      staff = record {
        numbered = numbered-append staff_key 1 (length m.staff + 1) m.staff one (omega arith) v.staff.numbered (and_from (eqb row.staff.0 (length m.staff + 1)) true (eq-eqb row.staff.0 (length m.staff + 1) f.number) refl);
        few = le-leb (length (m.staff ++ one)) 1000 (omega (arith, count, f.few));
        lead_first = lead_stays m.staff one v.staff.lead_first;
        digests_differ = differ-append staff_digest m.staff one v.staff.digests_differ refl (differs m row f.new);
        fit = all-append staff_fits m.staff one v.staff.fit (and_from (staff_fits row) true f.fits refl);
        written = all-append staff_written m.staff one v.staff.written (and_from (staff_written row) true (written m row f) refl);
      };
      fields = v.fields;
      docs = v.docs;
      pages = v.pages;
      calls = record {
        ascend = v.calls.ascend;
        fit = all-weaker (call_fits (length m.staff) (length m.docs)) (call_fits (length (m.staff ++ one)) (length m.docs)) m.calls (λ call h.
            let parts = call-parts (length m.staff) (length m.docs) call h in
            call-from (length (m.staff ++ one)) (length m.docs) call (record { doc = parts.doc; state = state_more (length m.staff) (length (m.staff ++ one)) call.state more parts.state; ground = parts.ground; designation = parts.designation })) v.calls.fit;
        written = v.calls.written;
      };
      boxes = v.boxes;
      held = v.held;
      entries = v.entries;
      prefixes = v.prefixes;
      productions = v.productions;
      batches = v.batches;
      words = v.words;
      review = record {
        boxes_held = v.review.boxes_held;
        fields_held = v.review.fields_held;
        confirmed = all-weaker (λ (r : CallRow). state_holds m.staff m.boxes m.held m.entries r r.state) (λ (r : CallRow). state_holds (m.staff ++ one) m.boxes m.held m.entries r r.state) m.calls (λ r h. holds_more m one r r.state h) v.review.confirmed;
      };
    }
