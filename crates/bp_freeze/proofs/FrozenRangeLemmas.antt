-- What a request that breaks no rule carries over to the documents of its range, and what a valid matter keeps of each.
use Rattle.std.proofs.Common.{◌≡◌, ◌≢◌, ℕ, zero, suc, ◌+◌, ◌-◌, ◌<◌, ◌≤◌, Bool, true, false, eqb, leb, ◌&&◌, ◌||◌, not, List, [], ◌∷◌, ◌++◌, length, map, get_or, Option, Some, None, refl, sym, subst, ◌∙◌, inl, inr, arith}
use Rattle.std.specs.List.{filter, find, list_all}
use Rattle.std.proofs.lemmas.Bool.{and_parts, and_from, cases_Bool, cases_eq, eqb-true, eq-eqb, ne_eqb, leb-true}
use Rattle.bp_core.specs.Sorted.{find_key}
use Rattle.bp_core.specs.declared.review.Treatment.{Treatment}
use Rattle.bp_core.specs.declared.rules.Rule.{Rule}
use Rattle.bp_core.specs.declared.rules.RuleKind.{RuleKind}
use Rattle.bp_core.specs.declared.rules.RuleKind.TheVariants as kinds
use Rattle.bp_matter.specs.Matter.{Matter, call_key, doc_key}
use Rattle.bp_matter.specs.Treatments.{is_withheld}
use Rattle.bp_matter.specs.Valid.{IsValid}
use Rattle.bp_matter.specs.ValidDocs.{doc_fits}
use Rattle.bp_matter.specs.ValidItems.{numbers_due}
use Rattle.bp_matter.specs.ValidRows.{is_numbered}
use Rattle.bp_matter.specs.declared.rows.CallRow.{CallRow}
use Rattle.bp_matter.specs.declared.rows.DocRow.{DocRow}
use Rattle.bp_matter.specs.declared.rows.Item.{Item}
use Rattle.bp_matter.specs.declared.rows.Request.{Request}
use Rattle.bp_freeze.specs.Families.{reaches_outside}
use Rattle.bp_freeze.specs.Refusals.{family_rules, first_refusal, first_rule, last_taken, none_of, request_rules, taking_rules}
use Rattle.bp_freeze.specs.Seeing.{Seen, decisions_of, numbers_of, page_count, parent_of, seen_from, seen_in, seen_of, treatment_of}
use Rattle.bp_freeze.specs.Selecting.{all_numbers, is_confirmed, is_produce, is_settled, is_unsettled, item_of, items_from, selected}
use Rattle.bp_freeze.proofs.FamilyLemmas.{many_parents}
use Rattle.bp_freeze.proofs.PutRowLemmas.{find-all}
use Rattle.bp_freeze.proofs.RuleLemmas.{InRange, in-range, range-passed, some-taken}

-- ---- rules that are not broken

-- where no rule is broken none of either part is
pub both-kept : (rules more : List (Option Rule)) → first_rule (rules ++ more) ≡ None → (first_rule rules ≡ None) × (first_rule more ≡ None)
both-kept [] more e = (refl, e)
both-kept (None ∷ rules) more e = both-kept rules more e
both-kept (Some first ∷ rules) more e = absurd cc

-- neither of two
both_pass : (a b : Option Rule) → first_rule (a ∷ b ∷ []) ≡ None → (a ≡ None) × (b ≡ None)
both_pass None None e = (refl, refl)
both_pass None (Some rule) e = absurd cc
both_pass (Some rule) b e = absurd cc

-- a rule that names what is found is not broken where nothing is
not_found : (kind : RuleKind) (o : Option Seen) → none_of kind o ≡ None → o ≡ None
not_found kind None e = refl
not_found kind (Some s) e = absurd cc

-- no document of a range passes a test that finds none
none_within : (m : Matter) (test : Seen → Bool) (n count : ℕ) → find test (seen_from m n count) ≡ None
    → (doc : ℕ) → n ≤ doc → doc < n + count → test (seen_in m doc) ≡ false
none_within m test n zero e doc low high = absurd (omega arith)
none_within m test n (suc count) e doc low high =
    elim (cases_Bool (test (seen_in m n))) [
      | inl here ↦ absurd (let found : Some (seen_in m n) ≡ None = rw here at e in cc)
      | inr there ↦
          elim (cases_eq n doc) [
            | inl same ↦ subst (λ k. test (seen_in m k) ≡ false) same there
            | inr other ↦ none_within m test (n + 1) count (rw there at e) doc (omega arith) (omega arith)
          ]
    ]

-- what holds of the documents of a range where no rule is broken
pub record BreaksNone (m : Matter) (q : Request) : Type 0 where
  pub range : InRange q (length m.docs)
  pub inside : (doc : ℕ) → q.from.0 ≤ doc → doc ≤ q.to.0 → reaches_outside q 1 (decisions_of m).parents (parent_of (decisions_of m) doc) ≡ false
  pub settled : (doc : ℕ) → q.from.0 ≤ doc → doc ≤ q.to.0 → is_unsettled (seen_in m doc) ≡ false
  pub some : length (selected (seen_of m q)) ≢ 0

-- some document is selected
pub some-passed : (m : Matter) (q : Request) → first_refusal (decisions_of m) (seen_of m q) q ≡ None → length (selected (seen_of m q)) ≢ 0
some-passed m q e =
    let d = decisions_of m in
    let docs = seen_of m q in
    let rest = (both-kept (request_rules d q) (family_rules d docs q ++ taking_rules d docs q) e).1 in
    some-taken (length (selected docs)) (last_taken d docs q) q.prefix.width (length d.productions) (sym (both-kept (family_rules d docs q) (taking_rules d docs q) rest).1)

-- so it is where the first rule is none
pub breaks-none : (m : Matter) (q : Request) → first_refusal (decisions_of m) (seen_of m q) q ≡ None → BreaksNone m q
breaks-none m q e =
    let d = decisions_of m in
    let docs = seen_of m q in
    let first = both-kept (request_rules d q) (family_rules d docs q ++ taking_rules d docs q) e in
    let second = both-kept (family_rules d docs q) (taking_rules d docs q) first.1 in
    let outside : Seen → Bool = λ s. reaches_outside q 1 d.parents s.parent in
    let families = both_pass (none_of kinds.SplitFamily (find outside docs)) (none_of kinds.Unsettled (find is_unsettled docs)) second.0 in
    let split : find outside docs ≡ None = not_found kinds.SplitFamily (find outside docs) families.0 in
    let open_ones : find is_unsettled docs ≡ None = not_found kinds.Unsettled (find is_unsettled docs) families.1 in
    let range : InRange q (length d.parents) = in-range q (length d.parents) (range-passed d q first.0) in
    let many : length d.parents ≡ length m.docs = many_parents m in
    record {
      range = record { from = range.from; order = range.order; to = omega (arith, range.to, many) };
      inside = λ doc low high. none_within m outside q.from.0 (q.to.0 + 1 - q.from.0) split doc low (omega (arith, range.order));
      settled = λ doc low high. none_within m is_unsettled q.from.0 (q.to.0 + 1 - q.from.0) open_ones doc low (omega (arith, range.order));
      some = some-passed m q e;
    }

-- ---- documents of a valid matter

-- the row of a document, by its number and by its place
pub record RowAt (docs : List DocRow) (doc : ℕ) : Type 0 where
  pub row : DocRow
  pub found : find_key doc_key doc docs ≡ Some row
  pub number : row.doc.0 ≡ doc
  pub parent : get_or (map (λ (r : DocRow). r.parent.0) docs) (doc - 1) 0 ≡ row.parent.0
  pub pages : get_or (map (λ (r : DocRow). r.pages) docs) (doc - 1) 0 ≡ row.pages

-- the same at a place of numbered rows
record Placed (docs : List DocRow) (doc place : ℕ) : Type 0 where
  pub row : DocRow
  pub found : find_key doc_key doc docs ≡ Some row
  pub number : row.doc.0 ≡ doc
  pub parent : get_or (map (λ (r : DocRow). r.parent.0) docs) place 0 ≡ row.parent.0
  pub pages : get_or (map (λ (r : DocRow). r.pages) docs) place 0 ≡ row.pages

-- numbered rows have one for each number
placed : (n doc place : ℕ) (docs : List DocRow) → is_numbered doc_key n docs ≡ true → doc ≡ n + place → place < length docs → Placed docs doc place
placed n doc place [] numbered e l = absurd (omega arith)
placed n doc zero (row ∷ docs) numbered e l =
    let parts = and_parts (eqb row.doc.0 n) (is_numbered doc_key (n + 1) docs) numbered in
    let number : row.doc.0 ≡ n = eqb-true row.doc.0 n parts.0 in
    record { row = row; found = rw (eq-eqb row.doc.0 doc (omega arith)) refl; number = omega arith; parent = refl; pages = refl }
placed n doc (suc place) (row ∷ docs) numbered e l =
    let parts = and_parts (eqb row.doc.0 n) (is_numbered doc_key (n + 1) docs) numbered in
    let number : row.doc.0 ≡ n = eqb-true row.doc.0 n parts.0 in
    let rest = placed (n + 1) doc place docs parts.1 (omega arith) (omega arith) in
    record { row = rest.row; found = rw (ne_eqb row.doc.0 doc (λ same. omega arith)) rest.found; number = rest.number; parent = rest.parent; pages = rest.pages }

-- so have the documents of a valid matter
pub row-at : (docs : List DocRow) (doc : ℕ) → is_numbered doc_key 1 docs ≡ true → 1 ≤ doc → doc ≤ length docs → RowAt docs doc
row-at docs doc numbered from to =
    let it = placed 1 doc (doc - 1) docs numbered (omega arith) (omega arith) in
    record { row = it.row; found = it.found; number = it.number; parent = it.parent; pages = it.pages }

-- no row has a number past the last
pub past-all : (n doc : ℕ) (docs : List DocRow) → is_numbered doc_key n docs ≡ true → n + length docs ≤ doc → find_key doc_key doc docs ≡ None
past-all n doc [] numbered past = refl
past-all n doc (row ∷ docs) numbered past =
    let parts = and_parts (eqb row.doc.0 n) (is_numbered doc_key (n + 1) docs) numbered in
    let number : row.doc.0 ≡ n = eqb-true row.doc.0 n parts.0 in
    rw (ne_eqb row.doc.0 doc (λ same. omega arith)) (past-all (n + 1) doc docs parts.1 (omega arith))

-- a document takes a number
some_due : (treatment : Treatment) (pages : ℕ) → 1 ≤ pages → 1 ≤ numbers_due treatment pages
some_due treatment pages some =
    elim (cases_Bool (is_withheld treatment)) [
      | inl whole ↦ rw whole (omega arith)
      | inr shown ↦ rw shown some
    ]

-- a document has a page
has_page : (fields batches : ℕ) (row : DocRow) → doc_fits fields batches row ≡ true → 1 ≤ row.pages
has_page fields batches row fits =
    let four = and_parts _ _ fits in
    let three = and_parts _ _ four.0 in
    let two = and_parts _ _ three.0 in
    let one = and_parts (leb 1 row.pages) _ two.0 in
    leb-true 1 row.pages one.0

-- the pages of a document that has a number
pub page-counted : (m : Matter) (doc : ℕ) → 1 ≤ doc → page_count m doc ≡ get_or (map (λ (r : DocRow). r.pages) m.docs) (doc - 1) 0
page-counted m doc from = rw (ne_eqb doc 0 (λ none. omega arith)) refl

-- so each document of a valid matter takes a number
pub takes-number : (m : Matter) → IsValid m → (doc : ℕ) → 1 ≤ doc → doc ≤ length m.docs → 1 ≤ numbers_of m doc
takes-number m valid doc from to =
    let at = row-at m.docs doc valid.docs.numbered from to in
    let fits = find-all (λ (row : DocRow). eqb (doc_key row) doc) (doc_fits (length m.fields) (length m.batches)) m.docs at.row at.found valid.docs.fit in
    some_due (treatment_of (find_key call_key doc m.calls)) (page_count m doc) (subst (λ n. 1 ≤ n) (sym (page-counted m doc from ∙ at.pages)) (has_page (length m.fields) (length m.batches) at.row fits))

-- ---- calls of selected documents

-- a document was called, and its call is settled
pub record Called (calls : List CallRow) (doc : ℕ) : Type 0 where
  pub row : CallRow
  pub found : find_key call_key doc calls ≡ Some row
  pub settled : (is_produce row.treatment || is_confirmed row.state) ≡ true

-- the call that is settled
record Settled (o : Option CallRow) : Type 0 where
  pub row : CallRow
  pub is : o ≡ Some row
  pub settled : (is_produce row.treatment || is_confirmed row.state) ≡ true

-- a settled document has a call
settled_call : (o : Option CallRow) → is_settled o ≡ true → Settled o
settled_call None h = absurd cc
settled_call (Some row) h = record { row = row; is = refl; settled = h }

-- a document that is not unsettled, and whose family is not produced, is settled
settled_since : (produced settled : Bool) → (not produced && not settled) ≡ false → not produced ≡ true → settled ≡ true
settled_since produced true h free = refl
settled_since true false h free = absurd cc
settled_since false false h free = absurd cc

-- so its call is there
pub call-settled : (m : Matter) (doc : ℕ) → is_unsettled (seen_in m doc) ≡ false → not (seen_in m doc).produced ≡ true → Called m.calls doc
call-settled m doc h free =
    let o : Option CallRow = find_key call_key doc m.calls in
    let it = settled_call o (settled_since (seen_in m doc).produced (is_settled o) h free) in
    record { row = it.row; found = it.is; settled = it.settled }

-- ---- items one by one

-- a test that each item passes, whichever numbers it has up to a last one
pub all-items : (m : Matter) (test : Seen → Bool) (p : Item → Bool) (last n count next : ℕ) → next + all_numbers (filter test (seen_from m n count)) ≤ last
    → ((doc first : ℕ) → n ≤ doc → doc < n + count → test (seen_in m doc) ≡ true → first + (seen_in m doc).numbers ≤ last → p (item_of first (seen_in m doc)) ≡ true)
    → list_all p (items_from next (filter test (seen_from m n count))) ≡ true
all-items m test p last n zero next fit each = refl
all-items m test p last n (suc count) next fit each =
    elim (cases_Bool (test (seen_in m n))) [
      | inl passes ↦ (
          let more : next + ((seen_in m n).numbers + all_numbers (filter test (seen_from m (n + 1) count))) ≤ last = rw passes at fit in
          rw passes (and_from (p (item_of next (seen_in m n))) _ (each n next (omega arith) (omega arith) passes (omega arith))
          (all-items m test p last (n + 1) count (next + (seen_in m n).numbers) (omega arith) (λ doc first low high. each doc first (omega arith) (omega arith)))))
      | inr fails ↦ rw fails (all-items m test p last (n + 1) count next (rw fails at fit) (λ doc first low high. each doc first (omega arith) (omega arith)))
    ]
