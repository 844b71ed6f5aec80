-- Rowids that rise in an answer are of one line each.
use Rattle.std.proofs.Common.{zero, suc, ◌+◌, ◌-◌, ◌≡◌, ◌<◌, ◌≤◌, ◌<ℤ◌, ℕ, ℤ, true, false, cond, List, [], ◌∷◌, map, length, get_or, codes, Ok, Err, Result, IfOk, refl, sym, ap, subst, ◌∙◌, inl, inr, arith}
use Rattle.std.specs.List.{flat_map, sum_by}
use Rattle.std.specs.Ordering.{is_eq, int_cmp}
use Rattle.std.proofs.lemmas.Bool.{cases_Bool}
use Rattle.std.proofs.lemmas.Bool.Decides.{nat_tests}
use Rattle.std.proofs.lemmas.Int.{ints}
use Rattle.std.proofs.lemmas.List.Sorted.{sum_by-IsPermutation}
use Rattle.std.proofs.lemmas.List.Sums.{sum_by-cons}
use Rattle.sqlite_value.specs.declared.value.Value.{Value}
use Rattle.sqlite_value.specs.declared.value.Value.TheVariants.{Int}
use Rattle.sqlite_value.proofs.OrderLemmas.{value_cmp-Int}
use Rattle.sqlite.specs.Values.{IsInt}
use Rattle.sqlite_value.specs.declared.keys.Collation.TheVariants.{Binary}
use Rattle.sqlite_value.specs.declared.keys.Key.{Key}
use Rattle.sqlite_value.specs.Keys.{ascending}
use Rattle.sqlite_value.specs.Order.{Row as Line, column, value_cmp}
use Rattle.sqlite_trees.specs.Tree.{rowid, has_rowid}
use Rattle.sqlite_sql.specs.Term.{Term, col}
use Rattle.sqlite_sql.specs.Query.{Output, output}
use Rattle.sqlite_schema.specs.declared.command.Command.TheVariants.{Select}
use Rattle.sqlite_rules.specs.Lists.{Has}
use Rattle.sqlite_rules.proofs.ListLemmas.{contains_had}
use Rattle.sqlite.specs.declared.error.Error.{Error}
use Rattle.sqlite.specs.State.{State, Shown}
use Rattle.sqlite.proofs.Callers.{reads_as}
use Rattle.bp_core.proofs.SortedLemmas.{get_or-any}
use Rattle.bp_keep_sql.specs.Table.{kept_schema}
use Rattle.bp_keep_sql.specs.Rowids.{AreNumbered, IsBelow, Rise}
use Rattle.bp_keep_sql.proofs.TextLemmas.{rowids_text, rowids_is, rowids_plain}
use Rattle.bp_keep_sql.proofs.QueryLemmas.{one_table, Finds, finds, found_all}
use Rattle.bp_keep_sql.proofs.UpsertLemmas.{tied, int_same}

abbrev project : List Term
project = col 1 0 ∷ []

abbrev order : List (Term × Key)
order = (col 1 0, ascending Binary) ∷ []

-- no two of these lines have one rowid
record Apart (lines : List Line) : Type 0 where
  pub ints : (i : ℕ) → i < length lines → IsInt (rowid (get_or lines i []))
  pub apart : (i j : ℕ) → i < j → j < length lines
      → is_eq (value_cmp (rowid (get_or lines i [])) (rowid (get_or lines j []))) ≡ false

-- where one rowid is below the next, it is below each later one
later : (lines : List Line) → Rise lines → (i more : ℕ) → i + suc more < length lines
    → IsBelow (get_or lines i []) (get_or lines (i + suc more) [])
later lines rise i zero within =
    subst (λ j. IsBelow (get_or lines i []) (get_or lines j [])) (next i) (rise.up i (omega (arith, within)))
  where
    next : (i : ℕ) → i + 1 ≡ i + suc zero
    next i = omega arith
later lines rise i (suc more) within =
    let a = later lines rise i more (omega (arith, within)) in
    let b = rise.up (i + suc more) (omega (arith, within)) in
    let same : a.high ≡ b.low = same_int (sym a.high_is ∙ b.low_is) in
    let at : i + suc more + 1 ≡ i + suc (suc more) = omega arith in
    subst (λ j. IsBelow (get_or lines i []) (get_or lines j [])) at (record {
      low = a.low;
      high = b.high;
      low_is = a.low_is;
      high_is = b.high_is;
      rises = less a.low a.high b.low b.high a.rises same b.rises;
    })
  where
    same_int : {m n : ℤ} → ◌≡◌ {A = Value} (Int m) (Int n) → m ≡ n
    same_int e = cc

    less : (m n k l : ℤ) → m <ℤ n → n ≡ k → k <ℤ l → m <ℤ l
    less m n k l p e q = let r = subst (λ x. m <ℤ x) e p in omega (arith, ints, r, q)

below_differ : (m n : ℤ) → m <ℤ n → is_eq (value_cmp (Int m) (Int n)) ≡ false
below_differ m n less =
    ap is_eq (value_cmp-Int m n) ∙ (let e : is_eq (int_cmp m n) ≡ false = grind (arith, ints, nat_tests) in e)

apart_of : (lines : List Line) → Rise lines → Apart lines
apart_of lines rise = record {
  ints = rise.ints;
  apart = λ i j low high.
      let gap : i + suc (j - i - 1) ≡ j = omega (arith, low) in
      let b = subst (λ k. IsBelow (get_or lines i []) (get_or lines k [])) gap
      (later lines rise i (j - i - 1) (omega (arith, low, high))) in
      rw (b.low_is, b.high_is) (below_differ b.low b.high b.rises);
}

-- how many lines have a rowid
abbrev one : ℤ → Line → ℕ
one n x = cond (has_rowid n x) 1 0

some_one : (n : ℤ) (lines : List Line) (x : Line) → Has lines x → has_rowid n x ≡ true
    → 1 ≤ sum_by (one n) lines
some_one n [] x h p = absurd h
some_one n (y ∷ lines) x (inl same) p = let here : one n y ≡ 1 = rw (← same, p) refl in omega (arith, here, sum_by-cons (one n) y lines)
some_one n (y ∷ lines) x (inr later) p = omega (arith, some_one n lines x later p, sum_by-cons (one n) y lines)

-- lines of a rowid that is there once are one line
at_most_one : (n : ℤ) (lines : List Line) (x y : Line) → sum_by (one n) lines ≤ 1 → Has lines x
    → Has lines y → has_rowid n x ≡ true → has_rowid n y ≡ true → x ≡ y
at_most_one n [] x y few p q a b = absurd p
at_most_one n (z ∷ lines) x y few (inl p) (inl q) a b = p ∙ sym q
at_most_one n (z ∷ lines) x y few (inl p) (inr q) a b =
    let here : one n z ≡ 1 = rw (← p, a) refl in absurd (omega (arith, few, here, some_one n lines y q b, sum_by-cons (one n) z lines))
at_most_one n (z ∷ lines) x y few (inr p) (inl q) a b =
    let here : one n z ≡ 1 = rw (← q, b) refl in absurd (omega (arith, few, here, some_one n lines x p a, sum_by-cons (one n) z lines))
at_most_one n (z ∷ lines) x y few (inr p) (inr q) a b = at_most_one n lines x y (omega (arith, few, sum_by-cons (one n) z lines)) p q a b

none_more : (n : ℤ) (lines : List Line)
    → ((j : ℕ) → j < length lines → has_rowid n (get_or lines j []) ≡ false)
    → sum_by (one n) lines ≡ 0
none_more n [] none = refl
none_more n (x ∷ lines) none =
    let here : one n x ≡ 0 = rw (none 0 (omega arith)) refl in
    omega (arith, here, sum_by-cons (one n) x lines, none_more n lines (λ j lt. none (suc j) (omega arith)))

-- rowids that rise are there once
once : (n : ℤ) (lines : List Line) → Apart lines → sum_by (one n) lines ≤ 1
once n [] rise = omega arith
once n (x ∷ lines) rise =
    let rest = once n lines (record { ints = λ i lt. rise.ints (suc i) (omega arith); apart = λ i j a b. rise.apart (suc i) (suc j) (omega arith) (omega arith) }) in
    elim (cases_Bool (has_rowid n x)) [
      | inl has ↦
          let none : (j : ℕ) → j < length lines → has_rowid n (get_or lines j []) ≡ false = λ j lt.
          elim (cases_Bool (has_rowid n (get_or lines j []))) [
            | inl too ↦ absurd (clash n x (get_or lines j []) (rise.ints 0 (omega arith)) (rise.ints (suc j) (omega arith)) has too (rise.apart 0 (suc j) (omega arith) (omega arith)))
            | inr off ↦ off
          ] in
          let here : one n x ≡ 1 = rw has refl in
          omega (arith, here, none_more n lines none, sum_by-cons (one n) x lines)
      | inr off ↦ let here : one n x ≡ 0 = rw off refl in omega (arith, here, rest, sum_by-cons (one n) x lines)
    ]
  where
    clash : (n : ℤ) (x y : Line) → (k : ℤ) × (rowid x ≡ Int k) → (k : ℤ) × (rowid y ≡ Int k)
        → has_rowid n x ≡ true → has_rowid n y ≡ true
        → is_eq (value_cmp (rowid x) (rowid y)) ≡ false → ⊥
    clash n x y a b p q other =
        let m : a.0 ≡ n = int_same a.0 n (ap (λ v. is_eq (value_cmp v (Int n))) (sym a.1) ∙ p) in
        let k : b.0 ≡ n = int_same b.0 n (ap (λ v. is_eq (value_cmp v (Int n))) (sym b.1) ∙ q) in
        let same : is_eq (value_cmp (rowid x) (rowid y)) ≡ true = rw (a.1, b.1, m, k) (tied n) in
        let e : true ≡ false = sym same ∙ other in cc

counted : {X : Type 0} (n : ℤ) (f : X → Line) (xs : List X)
    → sum_by (one n) (map f xs) ≡ sum_by (λ x. one n (f x)) xs
counted n f [] = refl
counted n f (x ∷ xs) =
    let a = sum_by-cons (one n) (f x) (map f xs) in
    let b = sum_by-cons (λ y. one n (f y)) x xs in
    omega (arith, a, b, counted n f xs)

own : (x : Line) (n : ℤ) → rowid x ≡ Int n → has_rowid n x ≡ true
own x n is = rw is (tied n)

same_ids : (x y : Line) (n k : ℤ) → rowid x ≡ Int n → rowid y ≡ Int k
    → is_eq (value_cmp (rowid x) (rowid y)) ≡ true → n ≡ k
same_ids x y n k a b same = int_same n k (rw (a, b) at same)

-- the answer has each rowid as often as the table
pub numbers : (old new : State) (lines : List Line) → old.now.schema ≡ kept_schema
    → Shown rowids_text [] old new lines → Rise lines → AreNumbered (old.now.trees 0)
numbers old new lines has h rise =
    let db = old.now.trees in
    let far = apart_of lines rise in
    let command = Select (record { lets = []; body = one_table [] project order }) (codes "rowid" ∷ []) in
    let a = reads_as rowids_text [] old new kept_schema has command rowids_is.0 rowids_plain rowids_is.1 lines h in
    let f : Finds [] project order db [] lines = finds [] project order db [] lines a.answer in
    let few : (n : ℤ) → sum_by (one n) (db 0) ≤ 1 = λ n.
    let t1 : sum_by (one n) lines ≡ sum_by (λ (o : Output). one n o.1) f.ordered = ap (sum_by (one n)) f.shown ∙ counted n (λ (o : Output). o.1) f.ordered in
    let t2 = sum_by-IsPermutation (λ (o : Output). one n o.1) _ f.ordered f.perm in
    let t3 = table_count n (db 0) in
    omega (arith, once n lines far, t1, t2, t3) in
    record {
      ints = λ x g. let m = found_all [] project order db [] lines f x g refl in int_of lines (column x 0 ∷ []) far m;
      one = λ x y p q same.
          let m = found_all [] project order db [] lines f x p refl in
          let n = int_of lines (column x 0 ∷ []) far m in
          let k = int_of lines (column y 0 ∷ []) far (found_all [] project order db [] lines f y q refl) in
          let e : n.0 ≡ k.0 = same_ids x y n.0 k.0 n.1 k.1 same in
          at_most_one n.0 (db 0) x y (few n.0) p q (own x n.0 n.1) (own y n.0 (k.1 ∙ ap Int (sym e)));
    }
  where
    table_count : (n : ℤ) (ls : List Line)
        → sum_by (λ (o : Output). one n o.1) (map (output (one_table [] project order)) (flat_map (λ l. ([] ∷ l ∷ []) ∷ []) ls)) ≡ sum_by (one n) ls
    table_count n [] = refl
    table_count n (l ∷ ls) =
        let a = sum_by-cons (λ (o : Output). one n o.1) (output (one_table [] project order) ([] ∷ l ∷ [])) (map (output (one_table [] project order)) (flat_map (λ l. ([] ∷ l ∷ []) ∷ []) ls)) in
        let b = sum_by-cons (one n) l ls in
        omega (arith, a, b, table_count n ls)

    int_of : (ls : List Line) (row : Line) → Apart ls → Has ls row → (n : ℤ) × (rowid row ≡ Int n)
    int_of ls row r m = let at = contains_had ls row m in let k = r.ints at.0 at.1 in (k.0, ap rowid (sym at.2 ∙ get_or-any ls at.0 row [] at.1) ∙ k.1)

pub numbers_on : {A : Type 0} (items : A → List Line) (old new : State) (r : Result A Error)
    → old.now.schema ≡ kept_schema → IfOk r (λ a. Shown rowids_text [] old new (items a))
    → IfOk r (λ a. Rise (items a) → AreNumbered (old.now.trees 0))
numbers_on items old new (Ok a) has h = λ rise. numbers old new (items a) has h rise
numbers_on items old new (Err e) has h = tt
