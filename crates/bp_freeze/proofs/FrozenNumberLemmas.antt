-- The label numbers that documents take carry over to the spans of their items: each begins with the number after the one before it.
use Rattle.std.proofs.Common.{◌≡◌, ℕ, zero, suc, ◌+◌, ◌-◌, ◌^◌, ◌<◌, ◌≤◌, Bool, true, false, cond, eqb, leb, ltb, not, ◌&&◌, List, [], ◌∷◌, ◌++◌, length, Some, None, refl, ap, ◌∙◌, inl, inr, arith}
use Rattle.std.specs.List.{filter}
use Rattle.std.specs.Prelude.{IsTrue}
use Rattle.std.proofs.lemmas.Bool.{and_parts, and_from, cases_Bool, eq-eqb, leb-true, le-leb}
use Rattle.std.proofs.Math.Nat.{one-le-pow, pow-le-pow_right}
use Rattle.bp_bates.specs.Prefixes.{is_good_prefix}
use Rattle.bp_bates.specs.Spans.{largest_of}
use Rattle.bp_core.specs.Rules.{bare_rule, bates_full_rule}
use Rattle.bp_core.specs.declared.rules.Rule.{Rule}
use Rattle.bp_core.specs.declared.rules.RuleKind.TheVariants as kinds
use Rattle.bp_matter.specs.Matter.{Matter}
use Rattle.bp_matter.specs.ValidPrefixes.{after_items}
use Rattle.bp_matter.specs.Written.{first_number as first_written, last_number as last_written, same_span, span_of}
use Rattle.bp_matter.specs.declared.limits.TheConstants.{MAX_PRODUCTIONS}
use Rattle.bp_matter.specs.declared.rows.Item.{Item}
use Rattle.bp_matter.specs.declared.rows.Request.{Request}
use Rattle.bp_freeze.specs.Freezing.{production_of}
use Rattle.bp_freeze.specs.Refusals.{family_rules, first_refusal, first_rule, last_taken, next_number, prefix_row, productions_full_rule, request_rules, taking_rules, unless}
use Rattle.bp_freeze.specs.Seeing.{Decisions, Seen, seen_from, seen_in}
use Rattle.bp_freeze.specs.Selecting.{all_numbers, first_of_items, item_of, items_from, last_of_items, selected}
use Rattle.bp_freeze.proofs.FrozenRangeLemmas.{both-kept}
use Rattle.bp_freeze.proofs.RuleLemmas.{good-passed}

-- each document that a test takes from so many takes a number
pub record TakeNumbers (m : Matter) (test : Seen → Bool) (n count : ℕ) : Type 0 where
  pub each : (doc : ℕ) → n ≤ doc → doc < n + count → test (seen_in m doc) ≡ true → 1 ≤ (seen_in m doc).numbers

-- so does each after the first
take_later : (m : Matter) (test : Seen → Bool) (n count : ℕ) → TakeNumbers m test n (suc count) → TakeNumbers m test (n + 1) count
take_later m test n count takes = record { each = λ doc low high passes. takes.each doc (omega arith) (omega arith) passes }

-- one item, and the number after it
one_after : (next numbers : ℕ) (item : Item) (items : List Item) → item.span.first ≡ next → item.span.last ≡ next + numbers - 1 → 1 ≤ numbers
    → after_items next (item ∷ items) ≡ after_items (next + numbers) items
one_after next numbers item items first last some =
    let follows : (eqb item.span.first next && leb next item.span.last) ≡ true = and_from (eqb item.span.first next) (leb next item.span.last) (eq-eqb item.span.first next first) (le-leb next item.span.last (omega arith)) in
    let behind : item.span.last + 1 ≡ next + numbers = omega arith in
    ap (λ (b : Bool). cond b (after_items (item.span.last + 1) items) None) follows ∙ ap (λ k. after_items k items) behind

-- the number after the items is reached from the first on
pub after-from : (m : Matter) (test : Seen → Bool) (count n next : ℕ) → TakeNumbers m test n count
    → after_items next (items_from next (filter test (seen_from m n count))) ≡ Some (next + all_numbers (filter test (seen_from m n count)))
after-from m test zero n next takes = let same : next ≡ next + 0 = omega arith in ap (λ k. Some k) same
after-from m test (suc count) n next takes =
    let later = take_later m test n count takes in
    let numbers : ℕ = (seen_in m n).numbers in
    elim (cases_Bool (test (seen_in m n))) [
      | inl passes ↦ (
          let rest : List Seen = filter test (seen_from m (n + 1) count) in
          let sum : next + numbers + all_numbers rest ≡ next + (numbers + all_numbers rest) = omega arith in
          rw passes
          (one_after next numbers (item_of next (seen_in m n)) (items_from (next + numbers) rest) refl refl (takes.each n (omega arith) (omega arith) passes)
          ∙ after-from m test count (n + 1) (next + numbers) later ∙ ap (λ k. Some k) sum))
      | inr fails ↦ rw fails (after-from m test count (n + 1) next later)
    ]

-- they take no fewer numbers than they are
pub many-numbers : (m : Matter) (test : Seen → Bool) (count n : ℕ) → TakeNumbers m test n count
    → length (filter test (seen_from m n count)) ≤ all_numbers (filter test (seen_from m n count))
many-numbers m test zero n takes = omega arith
many-numbers m test (suc count) n takes =
    let rest = many-numbers m test count (n + 1) (take_later m test n count takes) in
    elim (cases_Bool (test (seen_in m n))) [
      | inl passes ↦ rw passes (omega (arith, rest, takes.each n (omega arith) (omega arith) passes))
      | inr fails ↦ rw fails rest
    ]

-- they are no more than the documents
pub few-items : (m : Matter) (test : Seen → Bool) (count n next : ℕ) → length (items_from next (filter test (seen_from m n count))) ≤ count
few-items m test zero n next = omega arith
few-items m test (suc count) n next =
    elim (cases_Bool (test (seen_in m n))) [
      | inl passes ↦ rw passes (omega (arith, few-items m test count (n + 1) (next + (seen_in m n).numbers)))
      | inr fails ↦ rw fails (omega (arith, few-items m test count (n + 1) next))
    ]

-- ---- the span of a production

-- the first number of a production is that which is written
same_first : (items : List Item) → first_of_items items ≡ first_written items
same_first [] = refl
same_first (i ∷ items) = refl

-- the last one of some items, whatever stood before them
same_last : (last : ℕ) (i : Item) (items : List Item) → last_of_items (i ∷ items) ≡ last_written last (i ∷ items)
same_last last i [] = refl
same_last last i (next ∷ items) = same_last i.span.last next items

-- the last one of a production
same_end : (items : List Item) → last_of_items items ≡ last_written 0 items
same_end [] = refl
same_end (i ∷ items) = same_last 0 i items

-- it is that of its items
pub span-same : (q : Request) (items : List Item) → IsTrue (same_span (production_of q items).span (span_of items))
span-same q items =
    and_from (eqb (first_of_items items) (first_written items)) (eqb (last_of_items items) (last_written 0 items))
    (eq-eqb (first_of_items items) (first_written items) (same_first items)) (eq-eqb (last_of_items items) (last_written 0 items) (same_end items))

-- ---- how far they go

-- where none of three rules is broken the second test holds
three_pass : (a b c : Bool) (x y z : Rule) → first_rule (unless a x ∷ unless b y ∷ unless c z ∷ []) ≡ None → b ≡ true
three_pass true true c x y z e = refl
three_pass true false c x y z e = absurd cc
three_pass false b c x y z e = absurd cc

-- the last number that is taken is one of the width
pub last-fits : (d : Decisions) (docs : List Seen) (q : Request) → first_refusal d docs q ≡ None → last_taken d docs q ≤ largest_of q.prefix.width
last-fits d docs q e =
    let more = (both-kept (request_rules d q) (family_rules d docs q ++ taking_rules d docs q) e).1 in
    let last : ℕ = last_taken d docs q in
    let stand : ℕ = length d.productions in
    leb-true last (largest_of q.prefix.width)
    (three_pass (not (eqb (length (selected docs)) 0)) (leb last (largest_of q.prefix.width)) (ltb stand MAX_PRODUCTIONS)
    (bare_rule kinds.NothingResponsive) (bates_full_rule (largest_of q.prefix.width)) (productions_full_rule (stand + 1)) (both-kept (family_rules d docs q) (taking_rules d docs q) more).1)

-- a width that is taken is one of ten digits at most
width_small : (text : List ℕ) (width : ℕ) → is_good_prefix text width ≡ true → width ≤ 10
width_small text width good =
    let two = and_parts _ _ good in
    let one = and_parts (leb 4 width) (leb width 10) two.0 in
    leb-true width 10 one.1

-- so the number after it has a writing
pub next-small : (d : Decisions) (docs : List Seen) (q : Request) → first_refusal d docs q ≡ None
    → next_number (prefix_row d.prefixes q.prefix.text) + all_numbers (selected docs) ≤ 2 ^ 40
next-small d docs q e =
    let first = (both-kept (request_rules d q) (family_rules d docs q ++ taking_rules d docs q) e).0 in
    let last : last_taken d docs q ≤ largest_of q.prefix.width = last-fits d docs q e in
    let one : 1 ≤ 10 ^ q.prefix.width = one-le-pow q.prefix.width 10 (omega arith) in
    let ten : 10 ^ q.prefix.width ≤ 10 ^ 10 = pow-le-pow_right {n = 10} (omega arith) (width_small q.prefix.text q.prefix.width (good-passed d q first)) in
    omega (arith, last, one, ten)
