-- No label is given twice: numbers under one prefix differ, and labels of different prefixes do.
use Rattle.std.proofs.Common.{◌≡◌, ℕ, zero, suc, ◌+◌, ◌-◌, ◌<◌, ◌≤◌, ◌==◌, Bool, true, false, ◌&&◌, eqb, leb, ltb, not, List, [], ◌∷◌, ◌++◌, map, Option, Some, None, refl, sym, ap, ap₂, ◌∙◌, inl, inr, arith}
use Rattle.std.specs.List.{list_all, list_any, range_with_len}
use Rattle.std.specs.Str.{bytes_eq}
use Rattle.std.proofs.lemmas.Bool.{and_parts, and_from, or_from, or_cases, not-true, not_from_false, cases_Bool, eqb-true, leb-true, le-leb, lt-ltb, ltb-true, false_from_ne_true, and_left, and_right, eq-eqb, ne_eqb}
use Rattle.std.proofs.lemmas.List.Folds.{list_all-append, list_any-append}
use Rattle.bp_bates.specs.Labels.{bates_label}
use Rattle.bp_bates.specs.Prefixes.{is_good_prefix}
use Rattle.bp_bates.specs.Spans.{largest_of}
use Rattle.bp_bates.proofs.LabelLemmas.{labels_same}
use Rattle.bp_bates.proofs.PrefixLemmas.{IsGood, IsGood-from_test}
use Rattle.bp_matter.specs.Matter.{Matter}
use Rattle.bp_matter.specs.Valid.{IsValid}
use Rattle.bp_matter.specs.ValidPrefixes.{after_items, after_productions, is_under, prefix_fits, spans_reach}
use Rattle.bp_matter.specs.ValidProductions.{has_prefix, itself}
use Rattle.bp_core.specs.Differing.{all_differ}
use Rattle.bp_matter.specs.declared.rows.PrefixRow.{PrefixRow}
use Rattle.bp_matter.specs.declared.rows.ProductionRow.{ProductionRow}
use Rattle.bp_freeze.specs.Numbers.{all_labels, numbers_under, production_labels, production_numbers}
use Rattle.bp_freeze.specs.Refusals.{prefix_row}
use Rattle.bp_freeze.proofs.FrozenPrefixLemmas.{is-number, none-under, reached-none}
use Rattle.bp_freeze.proofs.NumberLemmas.{AreFrom, items-from, nothing-after, productions-from}
use Rattle.bp_freeze.proofs.PutRowLemmas.{Stands, all-at, all-weaker, find-none, find-passes, find-stands, same-text, text-same}

-- ---- numbers

range-above : (low a n : ℕ) → low ≤ a → list_all (λ k. leb low k) (range_with_len a n) ≡ true
range-above low a zero le = refl
range-above low a (suc n) le = and_from (leb low a) (list_all (λ k. leb low k) (range_with_len (a + 1) n)) (le-leb low a le) (range-above low (a + 1) n (omega arith))

range-below : (high a n : ℕ) → a + n ≤ high → list_all (λ k. ltb k high) (range_with_len a n) ≡ true
range-below high a zero le = refl
range-below high a (suc n) le = and_from (ltb a high) (list_all (λ k. ltb k high) (range_with_len (a + 1) n)) (lt-ltb a high (omega arith)) (range-below high (a + 1) n (omega arith))

-- ---- a label beside those of other numbers

-- the prefix of a production is good, and its numbers are of its width
abbrev labelled : ProductionRow → Bool
labelled row =
    is_good_prefix row.production.request.prefix.text row.production.request.prefix.width
    && list_all (λ n. leb n (largest_of row.production.request.prefix.width)) (production_numbers row)

-- a label that is good, of a number of its width
record IsLabel (text : List ℕ) (width n : ℕ) : Type 0 where
  good : IsGood text width
  small : n ≤ largest_of width

other-label : (p q : List ℕ) (v w m n : ℕ) → IsLabel p v m → IsLabel q w n → (bytes_eq p q && eqb m n) ≡ false → bytes_eq (bates_label p v m) (bates_label q w n) ≡ false
other-label p q v w m n a b differ =
    false_from_ne_true (bytes_eq (bates_label p v m) (bates_label q w n)) (λ same. (
    let parts = labels_same p q v w m n a.good b.good a.small b.small (same-text (bates_label p v m) (bates_label q w n) same) in
    let both : (bytes_eq p q && eqb m n) ≡ true = and_from (bytes_eq p q) (eqb m n) (text-same p q parts.prefix) (eq-eqb m n parts.number) in
    absurd cc))

no-label : (p q : List ℕ) (v w n : ℕ) (numbers : List ℕ) → IsGood p v → IsLabel q w n → list_all (λ k. leb k (largest_of v)) numbers ≡ true → list_all (λ k. not (bytes_eq p q && eqb k n)) numbers ≡ true
    → list_any (λ l. bytes_eq l (bates_label q w n)) (map (bates_label p v) numbers) ≡ false
no-label p q v w n [] good b small differ = refl
no-label p q v w n (k ∷ numbers) good b small differ =
    let smalls = and_parts (leb k (largest_of v)) (list_all (λ j. leb j (largest_of v)) numbers) small in
    let differs = and_parts (not (bytes_eq p q && eqb k n)) (list_all (λ j. not (bytes_eq p q && eqb j n)) numbers) differ in
    or_from (bytes_eq (bates_label p v k) (bates_label q w n)) (list_any (λ l. bytes_eq l (bates_label q w n)) (map (bates_label p v) numbers))
    (other-label p q v w k n (record { good = good; small = leb-true k (largest_of v) smalls.0 }) b (not-true _ differs.0))
    (no-label p q v w n numbers good b smalls.1 differs.1)

other-number : (p q : List ℕ) (low n : ℕ) (numbers : List ℕ) → n < low → list_all (λ k. leb low k) numbers ≡ true → list_all (λ k. not (bytes_eq p q && eqb k n)) numbers ≡ true
other-number p q low n numbers less all =
    all-weaker (λ k. leb low k) (λ k. not (bytes_eq p q && eqb k n)) numbers
    (λ k h. not_from_false _ (and_right (bytes_eq p q) (eqb k n) (ne_eqb k n (λ e. (let above = leb-true low k h in omega arith))))) all

other-text : (p q : List ℕ) (n : ℕ) (numbers : List ℕ) → bytes_eq p q ≡ false → list_all (λ k. not (bytes_eq p q && eqb k n)) numbers ≡ true
other-text p q n [] other = refl
other-text p q n (k ∷ numbers) other =
    and_from (not (bytes_eq p q && eqb k n)) (list_all (λ j. not (bytes_eq p q && eqb j n)) numbers) (not_from_false _ (and_left (bytes_eq p q) (eqb k n) other)) (other-text p q n numbers other)

-- ---- a label beside those of the productions behind it

-- the numbers under a text, from one number on
record Reaches (text : List ℕ) (rows : List ProductionRow) : Type 0 where
  from : ℕ
  end : ℕ
  is : after_productions text (Some from) rows ≡ Some end

-- those of a production under the text, and what is reached behind it
record Begins (text : List ℕ) (from end : ℕ) (row : ProductionRow) (rows : List ProductionRow) : Type 0 where
  next : ℕ
  numbers : AreFrom from next (production_numbers row)
  rest : after_productions text (Some next) rows ≡ Some end

begins-by : (text : List ℕ) (from end : ℕ) (row : ProductionRow) (rows : List ProductionRow) (reached : Option ℕ) → after_items from row.production.items ≡ reached → after_productions text reached rows ≡ Some end → Begins text from end row rows
begins-by text from end row rows None e rest = (let none : None ≡ Some end = sym (nothing-after text rows) ∙ rest in absurd cc)
begins-by text from end row rows (Some k) e rest = record { next = k; numbers = items-from from k row.production.items e; rest = rest }

begins : (text : List ℕ) (from end : ℕ) (row : ProductionRow) (rows : List ProductionRow) → is_under text row ≡ true → after_productions text (Some from) (row ∷ rows) ≡ Some end → Begins text from end row rows
begins text from end row rows under e = begins-by text from end row rows (after_items from row.production.items) refl (rw under at e)

above-from : (from end low : ℕ) (numbers : List ℕ) → AreFrom from end numbers → low ≤ from → list_all (λ k. leb low k) numbers ≡ true
above-from from end low numbers are le = ap (list_all (λ k. leb low k)) are.same ∙ range-above low from (end - from) le

below-end : (from end : ℕ) (numbers : List ℕ) → AreFrom from end numbers → list_all (λ k. ltb k end) numbers ≡ true
below-end from end numbers are = let low : from ≤ end = are.low in ap (list_all (λ k. ltb k end)) are.same ∙ range-below end from (end - from) (omega arith)

no-label-behind : (text : List ℕ) (width n from end : ℕ) (rows : List ProductionRow) → IsLabel text width n → n < from → list_all labelled rows ≡ true → after_productions text (Some from) rows ≡ Some end
    → list_any (λ l. bytes_eq l (bates_label text width n)) (all_labels rows) ≡ false
no-label-behind text width n from end [] b less all e = refl
no-label-behind text width n from end (row ∷ rows) b less all e =
    let parts = and_parts (labelled row) (list_all labelled rows) all in
    let own = and_parts (is_good_prefix row.production.request.prefix.text row.production.request.prefix.width) (list_all (λ k. leb k (largest_of row.production.request.prefix.width)) (production_numbers row)) parts.0 in
    let good = IsGood-from_test row.production.request.prefix.text row.production.request.prefix.width own.0 in
    list_any-append (λ l. bytes_eq l (bates_label text width n)) (production_labels row) (all_labels rows)
    ∙ elim (cases_Bool (is_under text row)) [
      | inl under ↦ (
          let start = begins text from end row rows under e in
          let low : from ≤ start.next = start.numbers.low in
          or_from _ _
          (no-label row.production.request.prefix.text text row.production.request.prefix.width width n (production_numbers row) good b own.1
          (other-number row.production.request.prefix.text text from n (production_numbers row) less (above-from from start.next from (production_numbers row) start.numbers (omega arith))))
          (no-label-behind text width n start.next end rows b (omega arith) parts.1 start.rest))
      | inr other ↦ or_from _ _
          (no-label row.production.request.prefix.text text row.production.request.prefix.width width n (production_numbers row) good b own.1
          (other-text row.production.request.prefix.text text n (production_numbers row) other))
          (no-label-behind text width n from end rows b less parts.1 (rw other at e))
    ]

-- ---- all labels

differ-join : (xs ys : List (List ℕ)) → all_differ itself xs ≡ true → all_differ itself ys ≡ true → list_all (λ x. not (list_any (λ l. bytes_eq l x) ys)) xs ≡ true → all_differ itself (xs ++ ys) ≡ true
differ-join [] ys first second apart = second
differ-join (x ∷ xs) ys first second apart =
    let parts = and_parts (not (list_any (λ o. bytes_eq o x) xs)) (all_differ itself xs) first in
    let others = and_parts (not (list_any (λ l. bytes_eq l x) ys)) (list_all (λ z. not (list_any (λ l. bytes_eq l z) ys)) xs) apart in
    and_from (not (list_any (λ o. bytes_eq o x) (xs ++ ys))) (all_differ itself (xs ++ ys))
    (not_from_false _ (list_any-append (λ o. bytes_eq o x) xs ys ∙ or_from _ _ (not-true _ parts.0) (not-true _ others.0)))
    (differ-join xs ys parts.1 second others.1)

-- numbers in a row have labels that differ
row-differs : (text : List ℕ) (width a n : ℕ) → IsGood text width → list_all (λ k. leb k (largest_of width)) (range_with_len a n) ≡ true → all_differ itself (map (bates_label text width) (range_with_len a n)) ≡ true
row-differs text width a zero good small = refl
row-differs text width a (suc n) good small =
    let smalls = and_parts (leb a (largest_of width)) (list_all (λ k. leb k (largest_of width)) (range_with_len (a + 1) n)) small in
    and_from _ _
    (not_from_false _ (no-label text text width width a (range_with_len (a + 1) n) good (record { good = good; small = leb-true a (largest_of width) smalls.0 }) smalls.1
    (other-number text text (a + 1) a (range_with_len (a + 1) n) (omega arith) (range-above (a + 1) (a + 1) n (omega arith)))))
    (row-differs text width (a + 1) n good smalls.1)

-- none of these numbers has a label of the productions behind
none-behind : (text : List ℕ) (width next end : ℕ) (rows : List ProductionRow) (numbers : List ℕ) → IsGood text width → list_all labelled rows ≡ true → after_productions text (Some next) rows ≡ Some end
    → list_all (λ k. leb k (largest_of width)) numbers ≡ true → list_all (λ k. ltb k next) numbers ≡ true → list_all (λ x. not (list_any (λ l. bytes_eq l x) (all_labels rows))) (map (bates_label text width) numbers) ≡ true
none-behind text width next end rows [] good all e small less = refl
none-behind text width next end rows (k ∷ numbers) good all e small less =
    let smalls = and_parts (leb k (largest_of width)) (list_all (λ j. leb j (largest_of width)) numbers) small in
    let below = and_parts (ltb k next) (list_all (λ j. ltb j next) numbers) less in
    and_from _ _
    (not_from_false _ (no-label-behind text width k next end rows (record { good = good; small = leb-true k (largest_of width) smalls.0 }) (ltb-true k next below.0) all e))
    (none-behind text width next end rows numbers good all e smalls.1 below.1)

-- what is reached behind a production, under any text
reaches-on : (text : List ℕ) (row : ProductionRow) (rows : List ProductionRow) → Reaches text (row ∷ rows) → Reaches text rows
reaches-on text row rows r =
    elim (cases_Bool (is_under text row)) [
      | inl under ↦ (let start = begins text r.from r.end row rows under r.is in record { from = start.next; end = r.end; is = start.rest })
      | inr other ↦ record { from = r.from; end = r.end; is = rw other at r.is }
    ]

labels-differ : (rows : List ProductionRow) → list_all labelled rows ≡ true → ((text : List ℕ) → Reaches text rows) → all_differ itself (all_labels rows) ≡ true
labels-differ [] all reach = refl
labels-differ (row ∷ rows) all reach =
    let text : List ℕ = row.production.request.prefix.text in
    let width : ℕ = row.production.request.prefix.width in
    let parts = and_parts (labelled row) (list_all labelled rows) all in
    let own = and_parts (is_good_prefix text width) (list_all (λ k. leb k (largest_of width)) (production_numbers row)) parts.0 in
    let good = IsGood-from_test text width own.0 in
    let r = reach text in
    let start = begins text r.from r.end row rows (text-same text text refl) r.is in
    let small : list_all (λ k. leb k (largest_of width)) (range_with_len r.from (start.next - r.from)) ≡ true = ap (list_all (λ k. leb k (largest_of width))) (sym start.numbers.same) ∙ own.1 in
    differ-join (production_labels row) (all_labels rows)
    (ap (λ numbers. all_differ itself (map (bates_label text width) numbers)) start.numbers.same ∙ row-differs text width r.from (start.next - r.from) good small)
    (labels-differ rows parts.1 (λ t. reaches-on t row rows (reach t)))
    (none-behind text width start.next r.end rows (production_numbers row) good parts.1 start.rest own.1 (below-end r.from start.next (production_numbers row) start.numbers))

-- ---- of a valid matter

all-each : {T : Type 0} (p : T → Bool) (rows : List T) → ((row : T) → Stands rows row → p row ≡ true) → list_all p rows ≡ true
all-each p [] each = refl
all-each p (first ∷ rows) each =
    and_from (p first) (list_all p rows) (each first (record { before = []; after = rows; parts = refl }))
    (all-each p rows (λ row s. each row (record { before = first ∷ s.before; after = s.after; parts = ap (λ (l : List _). first ∷ l) s.parts })))

-- some row that passes
record Passing {T : Type 0} (p : T → Bool) (rows : List T) : Type 0 where
  row : T
  stands : Stands rows row
  passes : p row ≡ true

any-passing : {T : Type 0} (p : T → Bool) (rows : List T) → list_any p rows ≡ true → Passing p rows
any-passing p [] any = absurd cc
any-passing p (first ∷ rows) any =
    elim (or_cases (p first) (list_any p rows) any) [
      | inl here ↦ record { row = first; stands = record { before = []; after = rows; parts = refl }; passes = here }
      | inr later ↦ (
          let rest = any-passing p rows later in
          record { row = rest.row; stands = record { before = first ∷ rest.stands.before; after = rest.stands.after; parts = ap (λ (l : List _). first ∷ l) rest.stands.parts }; passes = rest.passes })
    ]

all-stands : {T : Type 0} (p : T → Bool) (rows : List T) (row : T) → Stands rows row → list_all p rows ≡ true → p row ≡ true
all-stands p rows row s all = all-at p s.before s.after row (ap (list_all p) (sym s.parts) ∙ all)

-- what holds of the numbers under a text holds of those of a production under it
part-under : (q : ℕ → Bool) (text : List ℕ) (before after : List ProductionRow) (row : ProductionRow) → is_under text row ≡ true → list_all q (numbers_under text (before ++ row ∷ after)) ≡ true → list_all q (production_numbers row) ≡ true
part-under q text [] after row under all =
    (and_parts (list_all q (production_numbers row)) (list_all q (numbers_under text after))
    (sym (list_all-append q (production_numbers row) (numbers_under text after)) ∙ rw under at all)).0
part-under q text (first ∷ before) after row under all =
    elim (cases_Bool (is_under text first)) [
      | inl here ↦ part-under q text before after row under
          (and_parts (list_all q (production_numbers first)) (list_all q (numbers_under text (before ++ row ∷ after)))
          (sym (list_all-append q (production_numbers first) (numbers_under text (before ++ row ∷ after))) ∙ rw here at all)).1
      | inr other ↦ part-under q text before after row under (rw other at all)
    ]

range-at_most : (most a n : ℕ) → a + n ≤ most + 1 → list_all (λ k. leb k most) (range_with_len a n) ≡ true
range-at_most most a zero le = refl
range-at_most most a (suc n) le = and_from (leb a most) (list_all (λ k. leb k most) (range_with_len (a + 1) n)) (le-leb a most (omega arith)) (range-at_most most (a + 1) n (omega arith))

labelled-by : (m : Matter) (row : ProductionRow) (kept : PrefixRow) → IsValid m → Stands m.productions row → Stands m.prefixes kept → kept.prefix.text ≡ row.production.request.prefix.text → kept.prefix.width ≡ row.production.request.prefix.width → labelled row ≡ true
labelled-by m row kept valid stands k text width =
    let fits = all-stands prefix_fits m.prefixes kept k valid.prefixes.fit in
    let parts = and_parts (is_good_prefix kept.prefix.text kept.prefix.width) (leb 1 kept.next && leb kept.next (largest_of kept.prefix.width + 1)) fits in
    let next = and_parts (leb 1 kept.next) (leb kept.next (largest_of kept.prefix.width + 1)) parts.1 in
    let low : 1 ≤ kept.next = leb-true 1 kept.next next.0 in
    let high : kept.next ≤ largest_of kept.prefix.width + 1 = leb-true kept.next (largest_of kept.prefix.width + 1) next.1 in
    let reach : after_productions kept.prefix.text (Some 1) m.productions ≡ Some kept.next = is-number _ kept.next (all-stands (spans_reach m.productions) m.prefixes kept k valid.prefixes.spans_reach) in
    let all : list_all (λ n. leb n (largest_of kept.prefix.width)) (numbers_under kept.prefix.text m.productions) ≡ true =
    ap (list_all (λ n. leb n (largest_of kept.prefix.width))) (productions-from kept.prefix.text 1 kept.next m.productions reach).same
    ∙ range-at_most (largest_of kept.prefix.width) 1 (kept.next - 1) (omega arith) in
    let small : list_all (λ n. leb n (largest_of kept.prefix.width)) (production_numbers row) ≡ true =
    part-under (λ n. leb n (largest_of kept.prefix.width)) kept.prefix.text stands.before stands.after row (text-same row.production.request.prefix.text kept.prefix.text (sym text))
    (ap (λ (l : List ProductionRow). list_all (λ n. leb n (largest_of kept.prefix.width)) (numbers_under kept.prefix.text l)) (sym stands.parts) ∙ all) in
    and_from _ _ (ap₂ (λ t w. is_good_prefix t w) (sym text) (sym width) ∙ parts.0)
    (ap (λ w. list_all (λ n. leb n (largest_of w)) (production_numbers row)) (sym width) ∙ small)

labelled-in : (m : Matter) → IsValid m → (row : ProductionRow) → Stands m.productions row → labelled row ≡ true
labelled-in m valid row stands =
    let has = any-passing (λ (k : PrefixRow). bytes_eq k.prefix.text row.production.request.prefix.text && (k.prefix.width == row.production.request.prefix.width)) m.prefixes
    (all-stands (has_prefix m.prefixes) m.productions row stands valid.productions.prefixes_kept) in
    let same = and_parts (bytes_eq has.row.prefix.text row.production.request.prefix.text) (has.row.prefix.width == row.production.request.prefix.width) has.passes in
    labelled-by m row has.row valid stands has.stands (same-text has.row.prefix.text row.production.request.prefix.text same.0) (eqb-true has.row.prefix.width row.production.request.prefix.width same.1)

reaches-by : (m : Matter) (text : List ℕ) (kept : Option PrefixRow) → IsValid m → prefix_row m.prefixes text ≡ kept → Reaches text m.productions
reaches-by m text None valid e = record {
  from = 1;
  end = 1;
  is = reached-none text 1 m.productions (none-under m.productions m.prefixes text valid.productions.prefixes_kept (find-none (λ (row : PrefixRow). bytes_eq row.prefix.text text) m.prefixes e));
}
reaches-by m text (Some row) valid e =
    let stands = find-stands (λ (r : PrefixRow). bytes_eq r.prefix.text text) m.prefixes row e in
    let same : row.prefix.text ≡ text = same-text row.prefix.text text (find-passes (λ (r : PrefixRow). bytes_eq r.prefix.text text) m.prefixes row e) in
    record {
      from = 1;
      end = row.next;
      is = ap (λ t. after_productions t (Some 1) m.productions) (sym same) ∙ is-number _ row.next (all-stands (spans_reach m.productions) m.prefixes row stands valid.prefixes.spans_reach);
    }

pub no-label-twice : (m : Matter) → IsValid m → all_differ itself (all_labels m.productions) ≡ true
no-label-twice m valid = labels-differ m.productions (all-each labelled m.productions (labelled-in m valid)) (λ text. reaches-by m text (prefix_row m.prefixes text) valid refl)
