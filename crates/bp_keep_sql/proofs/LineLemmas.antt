-- What the rules of the table say of its lines.
use Rattle.std.proofs.Common.{drop, ◌≡◌, ℕ, ℤ, pos, negsuc, ◌+◌, ◌*◌, ◌≤◌, Bool, true, false, not, ◌&&◌, eqb, List, [], ◌∷◌, Some, None, refl, sym, ap, ◌∙◌, inl, inr, arith}
use Rattle.std.specs.Ordering.{is_eq, is_ne, is_ge, is_le, int_cmp}
use Rattle.std.proofs.lemmas.Bool.{and_parts, and_from, eq-eqb, cases_Bool, cases_lt, not-true}
use Rattle.std.proofs.lemmas.Bool.Decides.{nat_tests}
use Rattle.std.proofs.lemmas.Int.{ints}
use Rattle.sqlite_value.specs.declared.value.Value.{Value}
use Rattle.sqlite_value.specs.declared.value.Value.TheVariants.{Null, Int, Real, Text, Blob}
use Rattle.sqlite_value.specs.declared.keys.Collation.TheVariants.{Binary}
use Rattle.sqlite_value.specs.Order.{Row as Line, column, value_cmp}
use Rattle.sqlite_value.specs.Keys.{plain, first_key}
use Rattle.sqlite_value.proofs.OrderLemmas.{value_cmp-Int}
use Rattle.sqlite_trees.specs.Tree.{Trees, rowid}
use Rattle.sqlite_sql.specs.declared.ops.BinaryOp.TheVariants.{And, Compare}
use Rattle.sqlite_sql.specs.declared.ops.CompareOp.TheVariants.{Ge, Le}
use Rattle.sqlite_sql.specs.Ops.{binary, is_null, is_true, is_false, truth, from_truth, and3}
use Rattle.sqlite_schema.specs.declared.schema.Kind.TheVariants.{Integer, Blob as Bytes}
use Rattle.sqlite_schema.specs.declared.schema.Constraint.TheVariants.{Datatype, NotNull, Check, Unique}
use Rattle.sqlite_schema.specs.Rules.{is_of, are_typed, are_present, has_computed, passes_checks, equal, differ, agree, clashes}
use Rattle.sqlite_catalog.specs.Listing.{IsSound}
use Rattle.sqlite_rules.specs.Lists.{Has}
use Rattle.sqlite_rules.proofs.ListLemmas.{all_has, some_from}
use Rattle.bp_core.specs.Sorted.{row_key}
use Rattle.bp_keep_sql.specs.Table.{kept_table, kept_schema, key_places}
use Rattle.bp_keep_sql.specs.Lines.{kept_row}
use Rattle.bp_keep_sql.specs.Rowids.{HasOneOfRowid}
use Rattle.bp_keep_sql.proofs.MapLemmas.{HasOneOfKey}

-- a line with its four columns
pub record IsLine (line : Line) : Type 0 where
  pub kind : ℕ
  pub k1 : ℕ
  pub k2 : ℕ
  pub body : List ℕ
  pub kind_is : column line 1 ≡ Int (pos kind)
  pub k1_is : column line 2 ≡ Int (pos k1)
  pub k2_is : column line 3 ≡ Int (pos k2)
  pub body_is : column line 4 ≡ Blob body
  pub kind_fits : kind ≤ 255
  pub k1_fits : k1 ≤ 4294967295
  pub k2_fits : k2 ≤ 4294967295

value_int : (v : Value) → not (is_null v) ≡ true → is_of Integer v ≡ true → (n : ℤ) × (v ≡ Int n)
value_int Null some h = absurd (let e : false ≡ true = some in cc)
value_int (Int n) some h = (n, refl)
value_int (Real x) some h = absurd (let e : false ≡ true = h in cc)
value_int (Text t) some h = absurd (let e : false ≡ true = h in cc)
value_int (Blob b) some h = absurd (let e : false ≡ true = h in cc)

value_blob : (v : Value) → not (is_null v) ≡ true → is_of Bytes v ≡ true
    → (b : List ℕ) × (v ≡ Blob b)
value_blob Null some h = absurd (let e : false ≡ true = some in cc)
value_blob (Int n) some h = absurd (let e : false ≡ true = h in cc)
value_blob (Real x) some h = absurd (let e : false ≡ true = h in cc)
value_blob (Text t) some h = absurd (let e : false ≡ true = h in cc)
value_blob (Blob b) some h = (b, refl)

both_tests : (a b : Bool)
    → not (is_false (from_truth (and3 (truth (from_truth (Some a))) (truth (from_truth (Some b)))))) ≡ (a && b)
both_tests true true = refl
both_tests true false = refl
both_tests false true = refl
both_tests false false = refl

one_test : (a : Bool) → is_true (from_truth (Some a)) ≡ a
one_test true = refl
one_test false = refl

at_most : (k most : ℕ) → is_le (int_cmp (pos k) (pos most)) ≡ true → k ≤ most
at_most k most h = elim (cases_lt most k) [
  | inl above ↦ absurd (let e : is_le (int_cmp (pos k) (pos most)) ≡ false = grind (arith, ints, nat_tests) in cc)
  | inr below ↦ below
]

range : (n : ℤ) (most : ℕ)
    → not (is_false (binary And (binary (Compare Ge Binary) (Int n) (Int (pos 0))) (binary (Compare Le Binary) (Int n) (Int (pos most))))) ≡ true
    → (k : ℕ) × (n ≡ pos k) × (k ≤ most)
unfolding binary
range (pos k) most h =
    let parts = and_parts _ _ (sym (both_tests (is_ge (value_cmp (Int (pos k)) (Int (pos 0)))) (is_le (value_cmp (Int (pos k)) (Int (pos most))))) ∙ h) in
    (k, refl, at_most k most (ap is_le (sym (value_cmp-Int (pos k) (pos most))) ∙ parts.1))
range (negsuc k) most h =
    let parts = and_parts _ _ (sym (both_tests (is_ge (value_cmp (Int (negsuc k)) (Int (pos 0)))) (is_le (value_cmp (Int (negsuc k)) (Int (pos most))))) ∙ h) in
    absurd (let e : false ≡ true = ap is_ge (sym (value_cmp-Int (negsuc k) (pos 0))) ∙ parts.0 in cc)

-- two numbers are equal in SQL where they are
pub equal_numbers : (a b : ℕ) → equal Binary (Int (pos a)) (Int (pos b)) ≡ eqb a b
unfolding binary
equal_numbers a b =
    one_test (is_eq (value_cmp (Int (pos a)) (Int (pos b)))) ∙ ap is_eq (value_cmp-Int (pos a) (pos b)) ∙ (let e : is_eq (int_cmp (pos a) (pos b)) ≡ eqb a b = grind (arith, ints, nat_tests) in e)

-- two rowids differ in SQL where they do
pub same_ints : (m n : ℤ) → differ (Int m) (Int n) ≡ false
    → is_eq (value_cmp (Int m) (Int n)) ≡ true
unfolding binary
same_ints m n h = tell (value_cmp (Int m) (Int n)) (sym (one_test (is_ne (value_cmp (Int m) (Int n)))) ∙ h)
  where
    tell : (o : _) → is_ne o ≡ false → is_eq o ≡ true
    tell o e = grind (arith)

pub agree_key : (x y : Line) → agree plain key_places x key_places y
    ≡ (equal Binary (column x 1) (column y 1) && (equal Binary (column x 2) (column y 2) && (equal Binary (column x 3) (column y 3) && true)))
unfolding first_key
agree_key x y = refl

module _ (x y : Line) (a : IsLine x) (b : IsLine y) where
  pub row_is : kept_row x ≡ record { kind = a.kind; k1 = a.k1; k2 = a.k2; body = a.body }
  row_is = rw (a.kind_is, a.k1_is, a.k2_is, a.body_is) refl

  pub agree_numbers : agree plain key_places x key_places y ≡ (eqb a.kind b.kind && (eqb a.k1 b.k1 && (eqb a.k2 b.k2 && true)))
  agree_numbers = agree_key x y ∙ rw (a.kind_is, a.k1_is, a.k2_is, b.kind_is, b.k1_is, b.k2_is, equal_numbers a.kind b.kind, equal_numbers a.k1 b.k1, equal_numbers a.k2 b.k2) refl

pub key_parts : (k1 k2 l1 l2 m1 m2 : ℕ) → l1 ≤ 4294967295 → l2 ≤ 4294967295 → m1 ≤ 4294967295
    → m2 ≤ 4294967295
    → k1 * 18446744073709551616 + (l1 * 4294967296 + m1) ≡ k2 * 18446744073709551616 + (l2 * 4294967296 + m2)
    → (k1 ≡ k2) × (l1 ≡ l2) × (m1 ≡ m2)
key_parts k1 k2 l1 l2 m1 m2 a b c d e = (omega arith, omega arith, omega arith)

off1 : (a : Bool) → (a && false) ≡ true → ⊥
off1 true h = let e : false ≡ true = h in cc
off1 false h = let e : false ≡ true = h in cc

off2 : (a b : Bool) → (a && (b && false)) ≡ true → ⊥
off2 true b h = off1 b h
off2 false b h = let e : false ≡ true = h in cc

off3 : (a b c : Bool) → (a && (b && (c && false))) ≡ true → ⊥
off3 true b c h = off2 b c h
off3 false b c h = let e : false ≡ true = h in cc

off4 : (a b c d e : Bool) → ((a && (b && (c && (d && false)))) && e) ≡ true → ⊥
off4 true b c d e h = off3' b c d e h
  where
    off3' : (b c d e : Bool) → ((b && (c && (d && false))) && e) ≡ true → ⊥
    off3' true true true e h = let f : false ≡ true = h in cc
    off3' true true false e h = let f : false ≡ true = h in cc
    off3' true false d e h = let f : false ≡ true = h in cc
    off3' false c d e h = let f : false ≡ true = h in cc
off4 false b c d e h = let f : false ≡ true = h in cc

three : (a b c : Bool) → (a && (b && (c && true))) ≡ true → (a ≡ true) × (b ≡ true) × (c ≡ true)
three true true true h = (refl, refl, refl)
three true true false h = absurd (let e : false ≡ true = h in cc)
three true false c h = absurd (let e : false ≡ true = h in cc)
three false b c h = absurd (let e : false ≡ true = h in cc)

four : (a b c d : Bool) → (a && (b && (c && (d && true)))) ≡ true
    → (a ≡ true) × (b ≡ true) × (c ≡ true) × (d ≡ true)
four true b c d h = let r = three b c d h in (refl, r.0, r.1, r.2)
four false b c d h = absurd (let e : false ≡ true = h in cc)

-- the value is in the range that CHECK asks
abbrev in_range : ℕ → Value → Bool
in_range most v = not (is_false (binary And (binary (Compare Ge Binary) v (Int (pos 0))) (binary (Compare Le Binary) v (Int (pos most)))))

ranged : (v : Value) (n : ℤ) (most : ℕ) → v ≡ Int n → in_range most v ≡ true
    → (k : ℕ) × (v ≡ Int (pos k)) × (k ≤ most)
ranged v n most is h = let r = range n most (ap (in_range most) (sym is) ∙ h) in (r.0, is ∙ ap Int r.1, r.2)

-- what the rules of the table say of one line
pub shape : (line : Line)
    → (are_typed None 0 kept_table.columns (drop 1 line) && has_computed kept_table line) ≡ true
    → are_present None 0 kept_table.columns line ≡ true
    → passes_checks kept_table line ≡ true → IsLine line
shape [] typed present checked = absurd (let e : false ≡ true = present in cc)
shape (r ∷ []) typed present checked = absurd (let e : false ≡ true = present in cc)
shape (r ∷ a ∷ []) typed present checked = absurd (off1 (not (is_null a)) present)
shape (r ∷ a ∷ b ∷ []) typed present checked = absurd (off2 (not (is_null a)) (not (is_null b)) present)
shape (r ∷ a ∷ b ∷ c ∷ []) typed present checked = absurd (off3 (not (is_null a)) (not (is_null b)) (not (is_null c)) present)
shape (r ∷ a ∷ b ∷ c ∷ d ∷ e ∷ more) typed present checked =
    absurd (off4 (is_of Integer a) (is_of Integer b) (is_of Integer c) (is_of Bytes d) (has_computed kept_table (r ∷ a ∷ b ∷ c ∷ d ∷ e ∷ more)) typed)
shape (r ∷ a ∷ b ∷ c ∷ d ∷ []) typed present checked =
    let p = four (not (is_null a)) (not (is_null b)) (not (is_null c)) (not (is_null d)) present in
    let t = four (is_of Integer a) (is_of Integer b) (is_of Integer c) (is_of Bytes d) (and_parts _ _ typed).0 in
    let c' = three (in_range 255 a) (in_range 4294967295 b) (in_range 4294967295 c) checked in
    let n1 = value_int a p.0 t.0 in
    let n2 = value_int b p.1 t.1 in
    let n3 = value_int c p.2 t.2 in
    let n4 = value_blob d p.3 t.3 in
    let r1 = ranged a n1.0 255 n1.1 c'.0 in
    let r2 = ranged b n2.0 4294967295 n2.1 c'.1 in
    let r3 = ranged c n3.0 4294967295 n3.1 c'.2 in
    record {
      kind = r1.0;
      k1 = r2.0;
      k2 = r3.0;
      body = n4.0;
      kind_is = r1.1;
      k1_is = r2.1;
      k2_is = r3.1;
      body_is = n4.1;
      kind_fits = r1.2;
      k1_fits = r2.2;
      k2_fits = r3.2;
    }

module _ (db : Trees) (sound : IsSound kept_schema db) where
  pub line_is : (line : Line) → Has (db 0) line → IsLine line
  line_is line h =
      shape line (all_has _ (db 0) line (sound.obeys.rules Datatype).0 h) (all_has _ (db 0) line (sound.obeys.rules NotNull).0 h) (all_has _ (db 0) line (sound.obeys.rules Check).0 h)

  no_clash : (line : Line) → Has (db 0) line → clashes plain key_places (db 0) line ≡ false
  no_clash line h = not-true _ (and_parts _ _ (all_has _ (db 0) line (sound.obeys.rules Unique).0 h)).0

  -- lines of one key are one line
  pub one_line : HasOneOfRowid (db 0) → ((x : Line) → Has (db 0) x → (n : ℤ) × (rowid x ≡ Int n))
      → (x y : Line) → Has (db 0) x → Has (db 0) y
      → agree plain key_places x key_places y ≡ true → x ≡ y
  one_line one ints x y p q same = elim (cases_Bool (differ (rowid x) (rowid y))) [
    | inl other ↦ absurd (let e : false ≡ true = sym (no_clash y q) ∙ some_from (λ o. agree plain key_places o key_places y && differ (rowid o) (rowid y)) (db 0) x p (and_from _ _ same other) in cc)
    | inr alike ↦
        let m = ints x p in
        let n = ints y q in
        one x y p q (rw (m.1, n.1) (same_ints m.0 n.0 (rw (m.1, n.1) at alike)))
  ]

  pub one_of_key : HasOneOfRowid (db 0) → ((x : Line) → Has (db 0) x → (n : ℤ) × (rowid x ≡ Int n))
      → HasOneOfKey (db 0)
  one_of_key one ints x y p q key =
      let a = line_is x p in
      let b = line_is y q in
      let parts = key_parts a.kind b.kind a.k1 b.k1 a.k2 b.k2 a.k1_fits b.k1_fits a.k2_fits b.k2_fits (ap row_key (sym (row_is x y a b)) ∙ key ∙ ap row_key (row_is y x b a)) in
      let same = agree_numbers x y a b ∙ and_from _ _ (eq-eqb a.kind b.kind parts.0) (and_from _ _ (eq-eqb a.k1 b.k1 parts.1) (and_from _ _ (eq-eqb a.k2 b.k2 parts.2) refl)) in
      ap kept_row (one_line one ints x y p q same)
