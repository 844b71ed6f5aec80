-- Spans that follow one another have the numbers from the first to the last, each once.
use Rattle.std.proofs.Common.{◌≡◌, ℕ, zero, suc, ◌+◌, ◌-◌, ◌≤◌, Bool, true, false, ◌&&◌, leb, List, [], ◌∷◌, ◌++◌, Option, Some, None, refl, sym, ap, ap₂, ◌∙◌, ◌==◌, inl, inr, arith}
use Rattle.std.specs.List.{Contains, flat_map, list_all, range_with_len}
use Rattle.std.specs.Str.{bytes_eq}
use Rattle.std.proofs.lemmas.Bool.{and_parts, cases_Bool, eqb-true, leb-true, not_from_false, true_from_ne_false}
use Rattle.std.proofs.lemmas.List.Folds.{list_all_at}
use Rattle.bp_matter.specs.Matter.{Matter}
use Rattle.bp_matter.specs.Valid.{IsValid}
use Rattle.bp_matter.specs.ValidPrefixes.{after_items, after_productions, is_under, spans_reach}
use Rattle.bp_matter.specs.declared.rows.Item.{Item}
use Rattle.bp_matter.specs.declared.rows.PrefixRow.{PrefixRow}
use Rattle.bp_matter.specs.declared.rows.ProductionRow.{ProductionRow}
use Rattle.bp_freeze.specs.Numbers.{AreTakenOnce, item_numbers, numbers_under, production_numbers}
use Rattle.bp_freeze.proofs.FrozenPrefixLemmas.{is-number, none-under}
use Rattle.bp_freeze.proofs.PutRowLemmas.{find-none}

-- one range behind another
ranges-join : (a m b n : ℕ) → b ≡ a + m → range_with_len a m ++ range_with_len b n ≡ range_with_len a (m + n)
ranges-join a zero b n e = ap₂ (λ x y. range_with_len x y) (omega (arith, e)) (omega arith)
ranges-join a (suc m) b n e =
    let more : suc (m + n) ≡ suc m + n = omega arith in
    ap (λ (l : List ℕ). a ∷ l) (ranges-join (a + 1) m b n (omega (arith, e))) ∙ ap (range_with_len a) more

-- these numbers are those from the first up to the one before the end
pub record AreFrom (first end : ℕ) (numbers : List ℕ) : Type 0 where
  pub low : first ≤ end
  pub same : numbers ≡ range_with_len first (end - first)

none-from : (n end : ℕ) → Some n ≡ Some end → AreFrom n end []
none-from n end e =
    let is : n ≡ end = cc in
    let zero_left : 0 ≡ end - n = omega arith in
    record { low = omega arith; same = ap (range_with_len n) zero_left }

from-join : (a b c : ℕ) (xs ys : List ℕ) → AreFrom a b xs → AreFrom b c ys → AreFrom a c (xs ++ ys)
from-join a b c xs ys p q =
    let low : a ≤ b = p.low in
    let high : b ≤ c = q.low in
    let sizes : (b - a) + (c - b) ≡ c - a = omega arith in
    record {
      low = omega arith;
      same = ap₂ (λ (x y : List ℕ). x ++ y) p.same q.same ∙ ranges-join a (b - a) b (c - b) (omega arith) ∙ ap (range_with_len a) sizes;
    }

one-item : (n : ℕ) (i : Item) → ((i.span.first == n) && leb n i.span.last) ≡ true → AreFrom n (i.span.last + 1) (item_numbers i)
one-item n i ok =
    let parts = and_parts (i.span.first == n) (leb n i.span.last) ok in
    let first : i.span.first ≡ n = eqb-true i.span.first n parts.0 in
    let last : n ≤ i.span.last = leb-true n i.span.last parts.1 in
    record { low = omega arith; same = ap (λ k. range_with_len k (i.span.last + 1 - k)) first }

pub items-from : (n end : ℕ) (items : List Item) → after_items n items ≡ Some end → AreFrom n end (flat_map item_numbers items)
items-from n end [] e = none-from n end e
items-from n end (i ∷ items) e =
    elim (cases_Bool ((i.span.first == n) && leb n i.span.last)) [
      | inl ok ↦ from-join n (i.span.last + 1) end (item_numbers i) (flat_map item_numbers items) (one-item n i ok) (items-from (i.span.last + 1) end items (rw ok at e))
      | inr bad ↦ (let none : None ≡ Some end = rw bad at e in absurd cc)
    ]

pub nothing-after : (text : List ℕ) (rows : List ProductionRow) → after_productions text None rows ≡ None
nothing-after text [] = refl
nothing-after text (row ∷ rows) = refl

-- the numbers of a production under the prefix, and of those behind it
production-from : (text : List ℕ) (n end : ℕ) (row : ProductionRow) (rows : List ProductionRow) (reached : Option ℕ) → ((k : ℕ) → after_productions text (Some k) rows ≡ Some end → AreFrom k end (numbers_under text rows))
    → after_items n row.production.items ≡ reached → after_productions text reached rows ≡ Some end → AreFrom n end (production_numbers row ++ numbers_under text rows)
production-from text n end row rows None behind e rest = (let none : None ≡ Some end = sym (nothing-after text rows) ∙ rest in absurd cc)
production-from text n end row rows (Some k) behind e rest =
    from-join n k end (production_numbers row) (numbers_under text rows) (items-from n k row.production.items e) (behind k rest)

pub productions-from : (text : List ℕ) (n end : ℕ) (rows : List ProductionRow) → after_productions text (Some n) rows ≡ Some end → AreFrom n end (numbers_under text rows)
productions-from text n end [] e = none-from n end e
productions-from text n end (row ∷ rows) e =
    elim (cases_Bool (is_under text row)) [
      | inl under ↦ rw under (production-from text n end row rows (after_items n row.production.items) (λ k rest. productions-from text k end rows rest) refl (rw under at e))
      | inr other ↦ rw other (productions-from text n end rows (rw other at e))
    ]

-- a test of all rows is passed by each
pub all-contained : {T : Type 0} (p : T → Bool) (rows : List T) (row : T) → Contains rows row → list_all p rows ≡ true → p row ≡ true
all-contained p rows row there all =
    true_from_ne_false (p row) (λ fails. (let none : list_all p rows ≡ false = list_all_at p rows there.0 row there.1 (ap p there.2 ∙ fails) in absurd cc))

pub taken-once : (m : Matter) → IsValid m → AreTakenOnce m
taken-once m valid = record {
  kept = λ row there.
      (productions-from row.prefix.text 1 row.next m.productions
      (is-number _ row.next (all-contained (spans_reach m.productions) m.prefixes row there valid.prefixes.spans_reach))).same;
  no_other = λ text none.
      not_from_false _ (none-under m.productions m.prefixes text valid.productions.prefixes_kept (find-none (λ (row : PrefixRow). bytes_eq row.prefix.text text) m.prefixes none));
}
