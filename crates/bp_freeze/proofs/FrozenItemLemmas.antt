-- The items of a freeze that breaks no rule carry the facts of a valid matter over to the matter that keeps them.
use Rattle.std.proofs.Common.{◌≡◌, ◌≢◌, ℕ, zero, suc, ◌+◌, ◌-◌, ◌^◌, ◌<◌, ◌≤◌, true, false, List, [], ◌∷◌, ◌++◌, length, Some, None, ◌&&◌, not, eqb, refl, sym, ◌∙◌, arith}
use Rattle.std.specs.List.{list_all}
use Rattle.std.specs.Prelude.{IsTrue}
use Rattle.std.proofs.lemmas.Bool.{and_parts, and_from, leb-true, lt-ltb, ne_eqb, not_from_false, not-true}
use Rattle.bp_matter.specs.Matter.{Matter}
use Rattle.bp_matter.specs.Valid.{IsValid}
use Rattle.bp_matter.specs.ValidItems.{are_whole, item_fits}
use Rattle.bp_matter.specs.ValidPrefixes.{after_items}
use Rattle.bp_matter.specs.ValidProductions.{stand_once}
use Rattle.bp_matter.specs.Written.{are_few, is_word, item_written, same_span, span_of}
use Rattle.bp_matter.specs.declared.limits.TheConstants.{MAX_DOCUMENTS}
use Rattle.bp_matter.specs.declared.rows.Item.{Item}
use Rattle.bp_matter.specs.declared.rows.ProductionRow.{ProductionRow}
use Rattle.bp_matter.specs.declared.rows.Request.{Request}
use Rattle.bp_freeze.specs.Freezing.{production_of}
use Rattle.bp_freeze.specs.Refusals.{first_refusal, next_number, prefix_row}
use Rattle.bp_freeze.specs.Seeing.{Seen, decisions_of, is_produced, parent_of, seen_in, seen_of}
use Rattle.bp_freeze.specs.Selecting.{all_numbers, first_of_items, has_responsive, is_selected, items_from, last_of_items, selected}
use Rattle.bp_freeze.proofs.FrozenFamilyLemmas.{whole-range}
use Rattle.bp_freeze.proofs.FrozenMarkLemmas.{item-fits}
use Rattle.bp_freeze.proofs.FrozenNumberLemmas.{TakeNumbers, after-from, few-items, many-numbers, next-small, span-same}
use Rattle.bp_freeze.proofs.FrozenOnceLemmas.{free-marked, once-more, unproduced-free}
use Rattle.bp_freeze.proofs.FrozenRangeLemmas.{Called, BreaksNone, all-items, breaks-none, call-settled, some-passed, takes-number}
use Rattle.bp_freeze.proofs.FrozenWritingLemmas.{item-written}
use Rattle.bp_freeze.proofs.RuleLemmas.{first-taken, last-taken, length-items}

-- ---- a document that is selected

-- it is one of the matter, whose call is settled, and whose family no production has
record Selected (m : Matter) (doc : ℕ) : Type 0 where
  pub from : 1 ≤ doc
  pub to : doc ≤ length m.docs
  pub free : is_produced m.productions (parent_of (decisions_of m) doc) ≡ false
  pub called : Called m.calls doc

-- how many documents the range has
abbrev span : Request → ℕ
span q = q.to.0 + 1 - q.from.0

-- what the test that selects says of a document of the range
selected_is : (m : Matter) (q : Request) → BreaksNone m q → (doc : ℕ) → q.from.0 ≤ doc → doc < q.from.0 + span q → is_selected (seen_of m q) (seen_in m doc) ≡ true → Selected m doc
selected_is m q passed doc low high is =
    let r = passed.range in
    let within : doc ≤ q.to.0 = omega (arith, r.order) in
    let free = (and_parts (has_responsive (seen_of m q) (seen_in m doc).parent) (not (seen_in m doc).produced) is).1 in
    record {
      from = omega (arith, r.from);
      to = omega (arith, r.to);
      free = not-true (seen_in m doc).produced free;
      called = call-settled m doc (passed.settled doc low within) free;
    }

-- each of them takes a number
take_numbers : (m : Matter) → IsValid m → (q : Request) → BreaksNone m q → TakeNumbers m (is_selected (seen_of m q)) q.from.0 (span q)
take_numbers m valid q passed = record {
  each = λ doc low high is. let s = selected_is m q passed doc low high is in takes-number m valid doc s.from s.to;
}

-- a number that is not 0 is at least 1
some_length : (n : ℕ) → n ≢ 0 → 1 ≤ n
some_length zero some = absurd (some refl)
some_length (suc n) some = omega arith

-- ---- the items in the matter

-- each is an item of the matter
pub frozen-fit : (m : Matter) (q : Request) (next : ℕ) → IsValid m → first_refusal (decisions_of m) (seen_of m q) q ≡ None
    → IsTrue (list_all (item_fits (length m.fields) m.docs m.pages) (items_from next (selected (seen_of m q))))
frozen-fit m q next valid passed =
    let all = breaks-none m q passed in
    all-items m (is_selected (seen_of m q)) (item_fits (length m.fields) m.docs m.pages) (next + all_numbers (selected (seen_of m q))) q.from.0 (span q) next (omega arith)
    (λ doc first low high is fit. let s = selected_is m q all doc low high is in item-fits m valid doc first s.from s.to s.called)

-- they are whole families in ascending order
pub frozen-whole : (m : Matter) (q : Request) (next : ℕ) → IsValid m → first_refusal (decisions_of m) (seen_of m q) q ≡ None
    → IsTrue (are_whole m.docs 0 1 (items_from next (selected (seen_of m q))))
frozen-whole m q next valid passed =
    whole-range m valid q (breaks-none m q passed) (λ parent. has_responsive (seen_of m q) parent && not (is_produced m.productions parent)) (is_selected (seen_of m q)) (λ doc. refl) next

-- there are some
pub frozen-some : (m : Matter) (q : Request) (next : ℕ) → first_refusal (decisions_of m) (seen_of m q) q ≡ None
    → IsTrue (not (eqb (length (items_from next (selected (seen_of m q)))) 0))
frozen-some m q next passed =
    let items : List Item = items_from next (selected (seen_of m q)) in
    not_from_false (eqb (length items) 0) (ne_eqb (length items) 0 (λ e. some-passed m q passed (sym (length-items next (selected (seen_of m q))) ∙ e)))

-- none of their documents stands in a production that was kept
pub frozen-once : (m : Matter) (q : Request) (next : ℕ) (row : ProductionRow) → IsValid m → first_refusal (decisions_of m) (seen_of m q) q ≡ None
    → row.production.items ≡ items_from next (selected (seen_of m q)) → IsTrue (stand_once (length m.docs) (m.productions ++ row ∷ []))
frozen-once m q next row valid passed items =
    let all = breaks-none m q passed in
    once-more m valid row (items_from next (selected (seen_of m q))) items
    (λ now e. free-marked m (is_selected (seen_of m q)) (span q) q.from.0 next now
    (λ doc low high is. let s = selected_is m q all doc low high is in unproduced-free m valid doc now s.from s.to e s.free))

-- ---- their writing

-- they have one, where their numbers have one of 64 bits
pub frozen-written : (m : Matter) (q : Request) (next : ℕ) → IsValid m → first_refusal (decisions_of m) (seen_of m q) q ≡ None
    → next + all_numbers (selected (seen_of m q)) ≤ 2 ^ 64 → IsTrue (are_few item_written (items_from next (selected (seen_of m q))))
frozen-written m q next valid passed numbers =
    let all = breaks-none m q passed in
    let r = all.range in
    let items : List Item = items_from next (selected (seen_of m q)) in
    let docs : length m.docs ≤ MAX_DOCUMENTS = leb-true (length m.docs) MAX_DOCUMENTS valid.docs.few in
    let few : length items ≤ span q = few-items m (is_selected (seen_of m q)) (span q) q.from.0 next in
    and_from (list_all item_written items) (is_word (length items))
    (all-items m (is_selected (seen_of m q)) item_written (2 ^ 64) q.from.0 (span q) next numbers
    (λ doc first low high is fit. let s = selected_is m q all doc low high is in item-written m valid doc first s.from s.to s.called fit))
    (lt-ltb (length items) (2 ^ 32) (omega (arith, few, docs, r.from, r.order, r.to)))

-- from the next number of a prefix on they have, since the last is one of the prefix's width
pub frozen-next : (m : Matter) (q : Request) → IsValid m → first_refusal (decisions_of m) (seen_of m q) q ≡ None
    → IsTrue (are_few item_written (items_from (next_number (prefix_row m.prefixes q.prefix.text)) (selected (seen_of m q))))
frozen-next m q valid passed =
    let small = next-small (decisions_of m) (seen_of m q) q passed in
    frozen-written m q (next_number (prefix_row m.prefixes q.prefix.text)) valid passed (omega (arith, small))

-- the span of the production is that of its items
pub frozen-span : (m : Matter) (q : Request) (next : ℕ) → first_refusal (decisions_of m) (seen_of m q) q ≡ None
    → IsTrue (same_span (production_of q (items_from next (selected (seen_of m q)))).span (span_of (items_from next (selected (seen_of m q)))))
frozen-span m q next passed =
    span-same q (items_from next (selected (seen_of m q)))

-- ---- their numbers

-- they begin with that number
pub frozen-first : (m : Matter) (q : Request) (next : ℕ) → first_refusal (decisions_of m) (seen_of m q) q ≡ None
    → first_of_items (items_from next (selected (seen_of m q))) ≡ next
frozen-first m q next passed =
    sym (first-taken next (selected (seen_of m q)) (some-passed m q passed))

-- and end with the last of as many as they take
pub frozen-last : (m : Matter) (q : Request) (next : ℕ) → IsValid m → first_refusal (decisions_of m) (seen_of m q) q ≡ None
    → last_of_items (items_from next (selected (seen_of m q))) + 1 ≡ next + all_numbers (selected (seen_of m q))
frozen-last m q next valid passed =
    let all = breaks-none m q passed in
    let docs : List Seen = selected (seen_of m q) in
    let many : length docs ≤ all_numbers docs = many-numbers m (is_selected (seen_of m q)) (span q) q.from.0 (take_numbers m valid q all) in
    let some : 1 ≤ length docs = some_length (length docs) (some-passed m q passed) in
    let last : next + all_numbers docs - 1 ≡ last_of_items (items_from next docs) = last-taken next docs (some-passed m q passed) in
    omega (arith, many, some, last)

-- the spans follow one another from that number on
pub frozen-after : (m : Matter) (q : Request) (next : ℕ) → IsValid m → first_refusal (decisions_of m) (seen_of m q) q ≡ None
    → after_items next (items_from next (selected (seen_of m q))) ≡ Some (next + all_numbers (selected (seen_of m q)))
frozen-after m q next valid passed =
    after-from m (is_selected (seen_of m q)) (span q) q.from.0 next (take_numbers m valid q (breaks-none m q passed))
