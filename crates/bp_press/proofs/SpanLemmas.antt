-- The numbers of the items of a production that a valid matter keeps.
use Rattle.std.proofs.Common.{◌≡◌, ℕ, suc, zero, ◌+◌, ◌≤◌, ◌&&◌, Bool, true, cond, List, [], ◌∷◌, All, Option, Some, None, nat_le, refl, sym, ap, ◌∙◌, subst, arith, inl, inr, eqb}
use Rattle.std.specs.List.{find}
use Rattle.std.proofs.lemmas.Bool.{and_parts, cases_Bool, eqb-true, leb-true}
use Rattle.bp_matter.specs.ValidPrefixes.{after_items, after_productions, was_reached, is_under}
use Rattle.bp_matter.specs.declared.rows.Item.{Item}
use Rattle.bp_matter.specs.declared.rows.ProductionRow.{ProductionRow}

-- the numbers of an item lie between these
pub record SpanLies (from next : ℕ) (i : Item) : Type 0 where
  pub low : from ≤ i.span.first
  pub order : i.span.first ≤ i.span.last
  pub high : i.span.last + 1 ≤ next

-- ---- the items of one production

items_grow : (n : ℕ) (items : List Item) (next : ℕ) → after_items n items ≡ Some next → n ≤ next
items_grow n [] next is =
    let same : n ≡ next = cc in
    omega arith
items_grow n (i ∷ items) next is =
    elim (cases_Bool (eqb i.span.first n && nat_le n i.span.last)) [
      | inl fits ↦ (
          let rest : after_items (i.span.last + 1) items ≡ Some next = sym (ap (λ (b : Bool). cond b (after_items (i.span.last + 1) items) None) fits) ∙ is in
          let parts = and_parts (eqb i.span.first n) (nat_le n i.span.last) fits in
          omega (arith, leb-true n i.span.last parts.1, items_grow (i.span.last + 1) items next rest))
      | inr not_fits ↦ absurd (
          let none : None ≡ Some next = sym (ap (λ (b : Bool). cond b (after_items (i.span.last + 1) items) None) not_fits) ∙ is in
          cc)
    ]

pub items_lie : (n : ℕ) (items : List Item) (next : ℕ) → after_items n items ≡ Some next → (from : ℕ) → from ≤ n → All (SpanLies from next) items
items_lie n [] next is from low k d l = absurd (omega arith)
items_lie n (i ∷ items) next is from low k d l =
    elim (cases_Bool (eqb i.span.first n && nat_le n i.span.last)) [
      | inl fits ↦ (
          let rest : after_items (i.span.last + 1) items ≡ Some next = sym (ap (λ (b : Bool). cond b (after_items (i.span.last + 1) items) None) fits) ∙ is in
          let parts = and_parts (eqb i.span.first n) (nat_le n i.span.last) fits in
          let same = eqb-true i.span.first n parts.0 in
          let order = leb-true n i.span.last parts.1 in
          each i items from next (record { low = omega arith; order = omega arith; high = items_grow (i.span.last + 1) items next rest })
          (items_lie (i.span.last + 1) items next rest from (omega arith)) k d l)
      | inr not_fits ↦ absurd (
          let none : None ≡ Some next = sym (ap (λ (b : Bool). cond b (after_items (i.span.last + 1) items) None) not_fits) ∙ is in
          cc)
    ]
  where
    each : (i : Item) (items : List Item) (from next : ℕ) → SpanLies from next i → All (SpanLies from next) items → All (SpanLies from next) (i ∷ items)
    each i items from next first others zero d l = first
    each i items from next first others (suc k) d l = others k d (omega arith)

-- ---- the productions under a prefix

-- without a number there is none after them
none_after : (text : List ℕ) (rows : List ProductionRow) (next : ℕ) → after_productions text None rows ≡ Some next → ⊥
none_after text [] next is = cc
none_after text (row ∷ rows) next is = cc

-- the number after the items of a production, where it is under the prefix
abbrev after_row : List ℕ → ℕ → ProductionRow → Option ℕ
after_row text n row = cond (is_under text row) (after_items n row.production.items) (Some n)

row_grows : (text : List ℕ) (n : ℕ) (row : ProductionRow) (next : ℕ) → after_row text n row ≡ Some next → n ≤ next
row_grows text n row next is =
    elim (cases_Bool (is_under text row)) [
      | inl under ↦ items_grow n row.production.items next (sym (ap (λ (b : Bool). cond b (after_items n row.production.items) (Some n)) under) ∙ is)
      | inr other ↦ (
          let same : Some n ≡ Some next = sym (ap (λ (b : Bool). cond b (after_items n row.production.items) (Some n)) other) ∙ is in
          let number : n ≡ next = cc in
          omega arith)
    ]

passed_by : (text : List ℕ) (rows : List ProductionRow) (next : ℕ) (o : Option ℕ) → after_productions text o rows ≡ Some next → (k : ℕ) × (o ≡ Some k) × (after_productions text (Some k) rows ≡ Some next)
passed_by text rows next None is = absurd (none_after text rows next is)
passed_by text rows next (Some k) is = (k, refl, is)

-- the number after one production, from which that after the others comes
passed : (text : List ℕ) (n : ℕ) (row : ProductionRow) (rows : List ProductionRow) (next : ℕ) → after_productions text (Some n) (row ∷ rows) ≡ Some next
    → (k : ℕ) × (after_row text n row ≡ Some k) × (after_productions text (Some k) rows ≡ Some next)
passed text n row rows next is = passed_by text rows next (after_row text n row) is

rows_grow : (text : List ℕ) (n : ℕ) (rows : List ProductionRow) (next : ℕ) → after_productions text (Some n) rows ≡ Some next → n ≤ next
rows_grow text n [] next is =
    let same : n ≡ next = cc in
    omega arith
rows_grow text n (row ∷ rows) next is =
    let past = passed text n row rows next is in
    omega (arith, row_grows text n row past.0 past.1, rows_grow text past.0 rows next past.2)

wider : (from next more : ℕ) (items : List Item) → next ≤ more → All (SpanLies from next) items → All (SpanLies from more) items
wider from next more items l lie k d b =
    let one = lie k d b in
    record { low = one.low; order = one.order; high = omega (arith, one.high, l) }

row_lies : (text : List ℕ) (n : ℕ) (row : ProductionRow) (next from : ℕ) → is_under text row ≡ true → from ≤ n → after_row text n row ≡ Some next → All (SpanLies from next) row.production.items
row_lies text n row next from under low is =
    items_lie n row.production.items next (sym (ap (λ (b : Bool). cond b (after_items n row.production.items) (Some n)) under) ∙ is) from low

-- the items of a production that is found lie between the first number and the next
pub found_lies : (text : List ℕ) (n : ℕ) (rows : List ProductionRow) (next from : ℕ) (test : ProductionRow → Bool) (row : ProductionRow) → find test rows ≡ Some row → is_under text row ≡ true
    → from ≤ n → after_productions text (Some n) rows ≡ Some next → All (SpanLies from next) row.production.items
found_lies text n [] next from test row found under low is = absurd cc
found_lies text n (first ∷ rows) next from test row found under low is =
    let past = passed text n first rows next is in
    elim (cases_Bool (test first)) [
      | inl here ↦ (
          let same : first ≡ row = cc in
          let first_under : is_under text first ≡ true = ap (is_under text) same ∙ under in
          subst (λ (r : ProductionRow). All (SpanLies from next) r.production.items) same
          (wider from past.0 next first.production.items (rows_grow text past.0 rows next past.2) (row_lies text n first past.0 from first_under low past.1)))
      | inr later ↦ (
          let rest : find test rows ≡ Some row = cc in
          found_lies text past.0 rows next from test row rest under (omega (arith, low, row_grows text n first past.0 past.1)) past.2)
    ]

pub number_is : (o : Option ℕ) (n : ℕ) → was_reached o n ≡ true → o ≡ Some n
number_is None n is = absurd cc
number_is (Some m) n is = ap Some (eqb-true m n is)
