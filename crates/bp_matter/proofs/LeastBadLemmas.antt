-- The fold that looks for the least key of a bad body carries over to what it finds.
use Rattle.std.proofs.Common.{◌≡◌, ◌⊎◌, ℕ, zero, suc, ◌<◌, ◌≤◌, Bool, true, false, cond, leb, List, [], ◌∷◌, length, get_or, Option, Some, None, refl, sym, ap, ◌∙◌, inl, inr, arith}
use Rattle.std.specs.List.{Contains}
use Rattle.std.proofs.lemmas.Bool.{cases_Bool, leb-true, leb-false}
use Rattle.bp_core.specs.Sorted.{row_key}
use Rattle.bp_core.specs.declared.kept.Row.{Row}
use Rattle.bp_matter.specs.ReadRows.{is_formed}
use Rattle.bp_matter.specs.ReadTables.{FindsLeastBad, least_bad, lesser}

-- a row with a bad body has this key
record HasBad (rows : List Row) (key : ℕ) : Type 0 where
  pub row : Row
  pub stands : Contains rows row
  pub bad : is_formed row ≡ false
  pub is : row_key row ≡ key

later : (row : Row) (rows : List Row) (key : ℕ) → HasBad rows key → HasBad (row ∷ rows) key
later row rows key it = record { row = it.row; stands = (suc it.stands.0, omega (arith, it.stands.1), it.stands.2); bad = it.bad; is = it.is }

-- a key that was found behind one that was the least before: one of the two, and at most each
record Found (before : Option ℕ) (rows : List Row) (key : ℕ) : Type 0 where
  pub from : (before ≡ Some key) ⊎ HasBad rows key
  pub below : (n : ℕ) → before ≡ Some n → key ≤ n
  pub least : (other : Row) → Contains rows other → is_formed other ≡ false → key ≤ row_key other

-- the lesser of two keys is at most each, and one of them
record Lesser (number : ℕ) (before : Option ℕ) : Type 0 where
  pub own : lesser number before ≤ number
  pub below : (n : ℕ) → before ≡ Some n → lesser number before ≤ n
  pub from : (before ≡ Some (lesser number before)) ⊎ (lesser number before ≡ number)

lesser_of : (number : ℕ) (before : Option ℕ) → Lesser number before
lesser_of number None = record { own = omega arith; below = λ n e. absurd cc; from = inr refl }
lesser_of number (Some m) =
    elim (cases_Bool (leb number m)) [
      | inl low ↦ (
          let is : lesser number (Some m) ≡ number = ap (λ (b : Bool). cond b number m) low in
          let le : number ≤ m = leb-true number m low in
          record { own = omega (arith, is); below = λ n e. (let same : m ≡ n = cc in omega (arith, is, le, same)); from = inr is })
      | inr high ↦ (
          let is : lesser number (Some m) ≡ m = ap (λ (b : Bool). cond b number m) high in
          let lt : m < number = leb-false number m high in
          record { own = omega (arith, is, lt); below = λ n e. (let same : m ≡ n = cc in omega (arith, is, same)); from = inl (ap (λ k. Some k) (sym is)) })
    ]

-- what is least among the others is least with a row before them, by what is said of that row
least_with : (row : Row) (rows : List Row) (key : ℕ) → (is_formed row ≡ false → key ≤ row_key row) → ((other : Row) → Contains rows other → is_formed other ≡ false → key ≤ row_key other)
    → (other : Row) (place : ℕ) → place < length (row ∷ rows) → get_or (row ∷ rows) place other ≡ other → is_formed other ≡ false → key ≤ row_key other
least_with row rows key own others other zero within is bad = omega (arith, own (ap is_formed is ∙ bad), ap row_key is)
least_with row rows key own others other (suc place) within is bad = others other (place, omega arith, is) bad

found : (before : Option ℕ) (rows : List Row) (key : ℕ) → least_bad before rows ≡ Some key → Found before rows key
found before [] key e = record {
  from = inl e;
  below = λ n is. (let both : Some n ≡ Some key = sym is ∙ e in let same : n ≡ key = cc in omega (arith, same));
  least = λ other there bad. omega (arith, there.1);
}
found before (row ∷ rows) key e =
    elim (cases_Bool (is_formed row)) [
      | inl formed ↦ (
          let it = found before rows key (sym (ap (λ (b : Bool). least_bad (cond b before (Some (lesser (row_key row) before))) rows) formed) ∙ e) in
          record {
            from = elim it.from [ inl was ↦ inl was | inr there ↦ inr (later row rows key there) ];
            below = it.below;
            least = λ other there bad. least_with row rows key (λ (not : is_formed row ≡ false). absurd cc) it.least other there.0 there.1 there.2 bad;
          })
      | inr bad_row ↦ (
          let low = lesser_of (row_key row) before in
          let it = found (Some (lesser (row_key row) before)) rows key (sym (ap (λ (b : Bool). least_bad (cond b before (Some (lesser (row_key row) before))) rows) bad_row) ∙ e) in
          let under : key ≤ lesser (row_key row) before = it.below (lesser (row_key row) before) refl in
          record {
            from = elim it.from [
              | inl was ↦ (
                  let is : lesser (row_key row) before ≡ key = cc in
                  elim low.from [
                    | inl old ↦ inl (old ∙ was)
                    | inr own ↦ inr (record { row = row; stands = (0, omega arith, refl); bad = bad_row; is = sym own ∙ is })
                  ])
              | inr there ↦ inr (later row rows key there)
            ];
            below = λ n is. omega (arith, under, low.below n is);
            least = λ other there bad. least_with row rows key (λ (not : is_formed row ≡ false). omega (arith, under, low.own)) it.least other there.0 there.1 there.2 bad;
          })
    ]

-- nothing is found only where there was nothing, and each body is of its form
record Nothing (before : Option ℕ) (rows : List Row) : Type 0 where
  pub was : before ≡ None
  pub formed : (row : Row) (place : ℕ) → place < length rows → get_or rows place row ≡ row → is_formed row ≡ true

formed_with : (first : Row) (rows : List Row) → is_formed first ≡ true → ((row : Row) (place : ℕ) → place < length rows → get_or rows place row ≡ row → is_formed row ≡ true)
    → (row : Row) (place : ℕ) → place < length (first ∷ rows) → get_or (first ∷ rows) place row ≡ row → is_formed row ≡ true
formed_with first rows formed others row zero within is = ap is_formed (sym is) ∙ formed
formed_with first rows formed others row (suc place) within is = others row place (omega arith) is

nothing : (before : Option ℕ) (rows : List Row) → least_bad before rows ≡ None → Nothing before rows
nothing before [] e = record { was = e; formed = λ row place within is. absurd (omega arith) }
nothing before (row ∷ rows) e =
    elim (cases_Bool (is_formed row)) [
      | inl formed ↦ (
          let it = nothing before rows (sym (ap (λ (b : Bool). least_bad (cond b before (Some (lesser (row_key row) before))) rows) formed) ∙ e) in
          record { was = it.was; formed = formed_with row rows formed it.formed })
      | inr bad ↦ absurd (
          let it = nothing (Some (lesser (row_key row) before)) rows (sym (ap (λ (b : Bool). least_bad (cond b before (Some (lesser (row_key row) before))) rows) bad) ∙ e) in
          let was : Some (lesser (row_key row) before) ≡ None = it.was in
          cc)
    ]

pub finds_least_bad : (rows : List Row) → FindsLeastBad rows
finds_least_bad rows = record {
  none = λ e row there. (nothing None rows e).formed row there.0 there.1 there.2;
  some = λ key e.
      (let it = found None rows key e in
      elim it.from [
        | inl was ↦ absurd cc
        | inr there ↦ record { row = there.row; stands = there.stands; bad = there.bad; is = there.is; least = it.least }
      ]);
}
