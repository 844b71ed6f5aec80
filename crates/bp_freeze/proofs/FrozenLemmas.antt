-- The matter after a freeze: what holds of a valid matter holds of it again.
use Rattle.std.proofs.Common.{◌≡◌, ℕ, ◌+◌, ◌-◌, ◌<◌, ◌≤◌, ◌^◌, ◌==◌, true, false, ◌&&◌, not, leb, List, [], ◌∷◌, ◌++◌, length, Option, Some, None, Ok, refl, sym, ap, ◌∙◌, inl, inr, arith, subst}
use Rattle.std.specs.List.{list_all, list_any}
use Rattle.std.specs.Str.{bytes_eq}
use Rattle.std.proofs.lemmas.Bool.{and_parts, and_from, eqb-true, le-leb, leb-true, lt-ltb, ltb-true}
use Rattle.std.proofs.lemmas.List.{length-append}
use Rattle.std.proofs.Math.Nat.{one-le-pow, pow-le-pow_right}
use Rattle.bp_bates.specs.Prefixes.{is_good_prefix}
use Rattle.bp_bates.specs.Spans.{largest_of}
use Rattle.bp_bates.proofs.PrefixLemmas.{IsGood-from_test}
use Rattle.bp_matter.specs.Matter.{Matter, production_key}
use Rattle.bp_matter.specs.Valid.{IsValid}
use Rattle.bp_matter.specs.ValidPrefixes.{after_items, prefix_fits}
use Rattle.bp_matter.specs.ValidProductions.{ProductionFacts, production_fits, production_id, production_volume, request_fits}
use Rattle.bp_matter.specs.Written.{is_long, is_short, is_word, prefix_written, production_written}
use Rattle.bp_matter.specs.declared.rows.Item.{Item}
use Rattle.bp_matter.specs.declared.rows.PrefixRow.{PrefixRow}
use Rattle.bp_matter.specs.declared.rows.Production.{Production}
use Rattle.bp_matter.specs.declared.rows.ProductionRow.{ProductionRow}
use Rattle.bp_matter.specs.declared.rows.Request.{Request}
use Rattle.bp_freeze.specs.Freezing.{freeze_of, kept_production, new_production}
use Rattle.bp_freeze.specs.Keeping.{frozen_matter, prefix_after, prefix_number, production_after, with_production}
use Rattle.bp_freeze.specs.Refusals.{first_refusal, next_number, prefix_row, same_width}
use Rattle.bp_freeze.specs.Seeing.{decisions_of, seen_of}
use Rattle.bp_freeze.specs.Selecting.{all_numbers, items_from, last_of_items, selected}
use Rattle.bp_freeze.proofs.FrozenItemLemmas.{frozen-after, frozen-fit, frozen-last, frozen-once, frozen-some, frozen-span, frozen-whole, frozen-written}
use Rattle.bp_freeze.proofs.FrozenPrefixLemmas.{Prefixed, Takes, prefixed-kept, prefixed-new}
use Rattle.bp_freeze.proofs.FrozenRequestLemmas.{passed-all, prefix-short, request-fits, request-written}
use Rattle.bp_freeze.proofs.KeptLemmas.{first-matter, frozen-cases, none-kept, repeat-matter}
use Rattle.bp_freeze.proofs.PigeonLemmas.{at-most}
use Rattle.bp_freeze.proofs.PutRowLemmas.{all-at, all-behind, differ-behind, find-none, find-passes, find-stands, numbered-behind, same-text}
use Rattle.bp_freeze.proofs.RuleLemmas.{held}

-- ---- the new rows

-- a request of a new id that breaks no rule, in a valid matter
pub record Fresh (m : Matter) (q : Request) : Type 0 where
  pub valid : IsValid m
  pub new : kept_production m.productions q.id ≡ None
  pub passed : first_refusal (decisions_of m) (seen_of m q) q ≡ None

-- the number that it takes first
abbrev next_of : Matter → Request → ℕ
next_of m q = next_number (prefix_row m.prefixes q.prefix.text)

abbrev items_of : Matter → Request → List Item
items_of m q = items_from (next_of m q) (selected (seen_of m q))

abbrev production_for : Matter → Request → Production
production_for m q = new_production (decisions_of m) (seen_of m q) q

abbrev production_row : Matter → Request → ProductionRow
production_row m q = production_after (production_for m q) m.productions

abbrev prefix_now : Matter → Request → PrefixRow
prefix_now m q = prefix_after (production_for m q) m.prefixes

-- ---- the prefix of the production

-- what is known of the numbers: the last is one of the width
pub record Within (m : Matter) (q : Request) : Type 0 where
  pub next : (prefix_now m q).next ≡ next_of m q + all_numbers (selected (seen_of m q))
  pub last : (prefix_now m q).next ≤ largest_of q.prefix.width + 1
  pub small : largest_of q.prefix.width < 10 ^ 10

within : (m : Matter) (q : Request) → Fresh m q → Within m q
within m q f =
    let p = passed-all (decisions_of m) (seen_of m q) q f.passed in
    let next : last_of_items (items_of m q) + 1 ≡ next_of m q + all_numbers (selected (seen_of m q)) = frozen-last m q (next_of m q) f.valid f.passed in
    let last : next_of m q + all_numbers (selected (seen_of m q)) - 1 ≤ largest_of q.prefix.width = p.last in
    let good = IsGood-from_test q.prefix.text q.prefix.width p.good in
    let one : 1 ≤ 10 ^ q.prefix.width = one-le-pow q.prefix.width 10 (omega arith) in
    let ten : 10 ^ q.prefix.width ≤ 10 ^ 10 = pow-le-pow_right {n = 10} (omega arith) good.narrow in
    record { next = next; last = omega (arith, next, last); small = omega (arith, one, ten) }

fits-now : (m : Matter) (q : Request) → Fresh m q → prefix_fits (prefix_now m q) ≡ true
fits-now m q f =
    let p = passed-all (decisions_of m) (seen_of m q) q f.passed in
    let w = within m q f in
    and_from (is_good_prefix q.prefix.text q.prefix.width) (leb 1 (prefix_now m q).next && leb (prefix_now m q).next (largest_of q.prefix.width + 1)) p.good
    (and_from (leb 1 (prefix_now m q).next) (leb (prefix_now m q).next (largest_of q.prefix.width + 1)) (le-leb 1 (prefix_now m q).next (omega arith)) (le-leb (prefix_now m q).next (largest_of q.prefix.width + 1) w.last))

written-now : (m : Matter) (q : Request) → Fresh m q → (prefix_now m q).num < 2 ^ 32 → prefix_written (prefix_now m q) ≡ true
written-now m q f small =
    let p = passed-all (decisions_of m) (seen_of m q) q f.passed in
    let w = within m q f in
    and_from (is_word (prefix_now m q).num) (is_long (prefix_now m q).next && is_short q.prefix.text) (lt-ltb (prefix_now m q).num (2 ^ 32) small)
    (and_from (is_long (prefix_now m q).next) (is_short q.prefix.text) (lt-ltb (prefix_now m q).next (2 ^ 64) (omega (arith, w.last, w.small))) (prefix-short q.prefix.text q.prefix.width p.good))

takes : (m : Matter) (q : Request) (from : ℕ) → Fresh m q → (prefix_now m q).num < 2 ^ 32 → next_of m q ≡ from → Takes (production_row m q) (prefix_now m q) from
takes m q from f small begins =
    let w = within m q f in
    record {
      same = refl;
      fits = fits-now m q f;
      written = written-now m q f small;
      taken = ap (λ n. after_items n (items_of m q)) (sym begins) ∙ frozen-after m q (next_of m q) f.valid f.passed ∙ ap (λ n. Some n) (sym w.next);
    }

same_width-is : (row : PrefixRow) (width : ℕ) → same_width (Some row) width ≡ None → row.prefix.width ≡ width
same_width-is row width e = eqb-true row.prefix.width width (held _ _ e)

prefixed-by : (m : Matter) (q : Request) (kept : Option PrefixRow) → Fresh m q → prefix_row m.prefixes q.prefix.text ≡ kept → Prefixed m.productions m.prefixes → Prefixed (m.productions ++ production_row m q ∷ []) (with_production (production_for m q) m).prefixes
prefixed-by m q (Some row) f e old =
    let p = passed-all (decisions_of m) (seen_of m q) q f.passed in
    let stands = find-stands (λ (r : PrefixRow). bytes_eq r.prefix.text q.prefix.text) m.prefixes row e in
    let same : row.prefix.text ≡ q.prefix.text = same-text row.prefix.text q.prefix.text (find-passes (λ (r : PrefixRow). bytes_eq r.prefix.text q.prefix.text) m.prefixes row e) in
    let width : row.prefix.width ≡ q.prefix.width = same_width-is row q.prefix.width (ap (λ o. same_width o q.prefix.width) (sym e) ∙ p.width) in
    let num : (prefix_now m q).num ≡ row.num = ap (prefix_number m.prefixes) e in
    let written : prefix_written row ≡ true = all-at prefix_written stands.before stands.after row (subst (λ (l : List PrefixRow). list_all prefix_written l ≡ true) stands.parts old.facts.written) in
    let small : row.num < 2 ^ 32 = ltb-true row.num (2 ^ 32) (and_parts (is_word row.num) _ written).0 in
    prefixed-kept m.productions m.prefixes (production_row m q) row (prefix_now m q) old stands (record { num = num; text = sym same; width = sym width }) (takes m q row.next f (omega (arith, num, small)) (ap next_number e))
prefixed-by m q None f e old =
    let num : (prefix_now m q).num ≡ length m.prefixes + 1 = ap (prefix_number m.prefixes) e in
    let many : length m.prefixes ≤ length m.productions = at-most (λ (row : PrefixRow). row.prefix.text) (λ (row : ProductionRow). row.production.request.prefix.text) m.prefixes m.productions old.facts.texts_differ old.facts.used in
    let few : length m.productions ≤ 1000 = leb-true (length m.productions) 1000 f.valid.productions.few in
    prefixed-new m.productions m.prefixes (production_row m q) (prefix_now m q) old
    (record { num = num; text = find-none (λ (r : PrefixRow). bytes_eq r.prefix.text q.prefix.text) m.prefixes e })
    (takes m q 1 f (omega (arith, num, many, few)) (ap next_number e))

pub prefixed : (m : Matter) (q : Request) → Fresh m q → Prefixed (m.productions ++ production_row m q ∷ []) (with_production (production_for m q) m).prefixes
prefixed m q f = prefixed-by m q (prefix_row m.prefixes q.prefix.text) f refl (record { facts = f.valid.prefixes; have = f.valid.productions.prefixes_kept })

-- ---- the production

new-id : (m : Matter) (q : Request) → Fresh m q → list_any (λ (row : ProductionRow). bytes_eq row.production.request.id q.id) m.productions ≡ false
new-id m q f = find-none (λ (row : ProductionRow). bytes_eq row.production.request.id q.id) m.productions (none-kept _ f.new)

production-fits : (m : Matter) (q : Request) → Fresh m q → production_fits m.fields m.docs m.pages (production_row m q) ≡ true
production-fits m q f =
    let p = passed-all (decisions_of m) (seen_of m q) q f.passed in
    and_from _ _ (and_from _ _ (and_from (request_fits m.fields (length m.docs) q) (not (length (items_of m q) == 0)) (request-fits m (seen_of m q) q p) (frozen-some m q (next_of m q) f.passed))
    (frozen-fit m q (next_of m q) f.valid f.passed)) (frozen-whole m q (next_of m q) f.valid f.passed)

production-written : (m : Matter) (q : Request) → Fresh m q → production_written (production_row m q) ≡ true
production-written m q f =
    let p = passed-all (decisions_of m) (seen_of m q) q f.passed in
    let w = within m q f in
    let many : length m.docs ≤ 10000 = leb-true (length m.docs) 10000 f.valid.docs.few in
    let few : length m.productions < 1000 = p.few in
    and_from _ _ (lt-ltb (length m.productions + 1) (2 ^ 32) (omega arith))
    (and_from _ _ (request-written m (seen_of m q) q f.valid.fields (omega arith) p)
    (and_from _ _ (frozen-written m q (next_of m q) f.valid f.passed (omega (arith, w.next, w.last, w.small))) (frozen-span m q (next_of m q) f.passed)))

pub productions-after : (m : Matter) (q : Request) → Fresh m q → ProductionFacts m.fields m.docs m.pages (with_production (production_for m q) m).prefixes (m.productions ++ production_row m q ∷ [])
productions-after m q f =
    let p = passed-all (decisions_of m) (seen_of m q) q f.passed in
    let old = f.valid.productions in
    let few : length m.productions < 1000 = p.few in
    let many : length (m.productions ++ production_row m q ∷ []) ≡ length m.productions + 1 = length-append m.productions (production_row m q ∷ []) in
    record {
      numbered = numbered-behind production_key 1 m.productions (production_row m q) old.numbered (omega arith);
      few = le-leb (length (m.productions ++ production_row m q ∷ [])) 1000 (omega arith);
      ids_differ = differ-behind production_id m.productions (production_row m q) old.ids_differ (new-id m q f);
      volumes_differ = differ-behind production_volume m.productions (production_row m q) old.volumes_differ p.not_taken;
      fit = all-behind (production_fits m.fields m.docs m.pages) m.productions (production_row m q) old.fit (production-fits m q f);
      prefixes_kept = (prefixed m q f).have;
      families_once = frozen-once m q (next_of m q) (production_row m q) f.valid f.passed refl;
      written = all-behind production_written m.productions (production_row m q) old.written (production-written m q f);
    }

-- ---- the matter

fresh-valid : (m : Matter) (q : Request) → Fresh m q → IsValid (with_production (production_for m q) m)
fresh-valid m q f =
    let v = f.valid in
    record {
      staff = v.staff;
      fields = v.fields;
      docs = v.docs;
      pages = v.pages;
      calls = v.calls;
      boxes = v.boxes;
      held = v.held;
      entries = v.entries;
      prefixes = (prefixed m q f).facts;
      productions = productions-after m q f;
      batches = v.batches;
      words = v.words;
      review = v.review;
    }

pub frozen-valid : (m : Matter) (q : Request) (f : Production) → IsValid m → freeze_of m q ≡ Ok f → IsValid (frozen_matter f m)
frozen-valid m q f valid answer =
    elim (frozen-cases m q f answer) [
      | inl old ↦ subst IsValid (sym (repeat-matter m q f old)) valid
      | inr first ↦ subst IsValid (sym (first-matter m q f first)) (fresh-valid m q (record { valid = valid; new = first.new; passed = first.passed }))
    ]
