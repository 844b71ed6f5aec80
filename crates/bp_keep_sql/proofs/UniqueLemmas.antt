-- A list of objects is that of one schema, where it is that of the table alone, or of none.
use Rattle.std.proofs.Common.{◌≡◌, ◌+◌, ℕ, pos, zero, suc, List, [], ◌∷◌, filter, slice_get, Some, Result, Ok, refl, sym, ap, ap₂, subst, ◌∙◌, inl, inr, arith}
use Rattle.std.specs.List.{AllZip}
use Rattle.sqlite_value.specs.declared.value.Value.{Value}
use Rattle.sqlite_value.specs.declared.value.Value.TheVariants.{Null, Int, Real, Text, Blob}
use Rattle.sqlite_value.specs.Order.{Row as Line, bytes, column}
use Rattle.sqlite_trees.specs.Tree.{Trees, rowid}
use Rattle.sqlite_trees.specs.Objects.{catalog_tree, number_in}
use Rattle.sqlite_schema.specs.declared.schema.Index.{Index}
use Rattle.sqlite_schema.specs.declared.schema.Table.{Table}
use Rattle.sqlite_schema.specs.declared.schema.View.{View as Stored}
use Rattle.sqlite_schema.specs.declared.schema.Schema.{Schema}
use Rattle.sqlite_resolve.specs.Compile.{table_defined_by}
use Rattle.sqlite_rules.specs.Lists.{Has}
use Rattle.sqlite_catalog.specs.Listing.{IsDefined, IsIndexRow, IsSound, IsTableRow, automatic, is_index_row}
use Rattle.bp_keep_sql.specs.Table.{kept_schema, kept_table, key_places, no_schema}

ok_same : {T E : Type 0} {x y : T} → ◌≡◌ {A = Result T E} (Ok x) (Ok y) → x ≡ y
ok_same e = cc

-- what R makes of each item is one thing
unique_zip : {A B : Type 0} (R : A → B → Type 0)
    → ((x : A) (y z : B) → R x y → R x z → y ≡ z)
    → (xs : List A) (ys zs : List B) → AllZip R xs ys → AllZip R xs zs → ys ≡ zs
unique_zip R one [] [] [] p q = refl
unique_zip R one [] [] (z ∷ zs) p q = absurd q
unique_zip R one [] (y ∷ ys) zs p q = absurd p
unique_zip R one (x ∷ xs) [] zs p q = absurd p
unique_zip R one (x ∷ xs) (y ∷ ys) [] p q = absurd q
unique_zip R one (x ∷ xs) (y ∷ ys) (z ∷ zs) p q =
    ap₂ (λ h t. h ∷ t) (one x y z p.0 q.0) (unique_zip R one xs ys zs p.1 q.1)

none_zip : {A B : Type 0} (R S : A → B → Type 0) (xs : List A) (ys : List B) → AllZip R xs []
    → AllZip S xs ys → ys ≡ []
none_zip R S [] [] p q = refl
none_zip R S [] (y ∷ ys) p q = absurd q
none_zip R S (x ∷ xs) ys p q = absurd p

same_tree : (row : Line) (a b : ℕ) → rowid row ≡ Int (pos (a + 1)) → rowid row ≡ Int (pos (b + 1))
    → a ≡ b
same_tree row a b p q = let e : a + 1 ≡ b + 1 = ap number_in (sym p ∙ q) in omega (arith, e)

one_table : (row : Line) (s t : Table) → IsTableRow row s → IsTableRow row t → s ≡ t
one_table row s t p q =
    let tree = same_tree row s.tree t.tree p.described.id q.described.id in
    let sql : p.sql ≡ q.sql = ap bytes (sym p.sql_is ∙ q.sql_is) in
    let made : p.defined.0 ≡ q.defined.0 =
    ok_same (sym p.defined.1 ∙ ap table_defined_by sql ∙ q.defined.1) in
    p.defined.2 ∙ ap₂ (λ (m : Table) n. record m { tree = n }) made tree ∙ sym q.defined.2

only_key : (at : ℕ) (key : List ℕ) → slice_get kept_table.uniques at ≡ Some key
    → (at ≡ 0) × (key ≡ key_places)
only_key zero key h = (refl, let e : Some key_places ≡ Some key = h in cc)
only_key (suc at) key h = absurd (cc)

one_defined : (i j : Index) (v : Value) → i.tree ≡ j.tree → IsDefined kept_table i v
    → IsDefined kept_table j v → i ≡ j
one_defined i j Null tree p q =
    let a = only_key p.0 p.1 p.2 in
    let b = only_key q.0 q.1 q.2 in
    p.3 ∙ ap₂ (λ at key. automatic kept_table at key i.tree) (a.0 ∙ sym b.0) (a.1 ∙ sym b.1)
    ∙ ap (automatic kept_table q.0 q.1) tree ∙ sym q.3
one_defined i j (Int n) tree p q = absurd p
one_defined i j (Real x) tree p q = absurd p
one_defined i j (Text sql) tree p q =
    let made : p.0 ≡ q.0 = ok_same (sym p.1 ∙ q.1) in
    p.2 ∙ ap₂ (λ (m : Index) n. record m { tree = n; table = kept_table.tree }) made tree ∙ sym q.2
one_defined i j (Blob b) tree p q = absurd p

the_table : (t : Table) → Has (kept_table ∷ []) t → t ≡ kept_table
the_table t (inl same) = same
the_table t (inr none) = absurd none

one_index : (row : Line) (i j : Index) → IsIndexRow (kept_table ∷ []) row i
    → IsIndexRow (kept_table ∷ []) row j → i ≡ j
one_index row i j p q =
    one_defined i j (column row 4) (same_tree row i.tree j.tree p.described.id q.described.id)
    (subst (λ t. IsDefined t i (column row 4)) (the_table p.table p.listed) p.defined)
    (subst (λ t. IsDefined t j (column row 4)) (the_table q.table q.listed) q.defined)

abbrev schema_of : List Table → List Index → List Stored → Schema
schema_of tables indexes views = record { tables = tables; indexes = indexes; views = views }

same_parts : (s : Schema) (tables : List Table) (indexes : List Index) (views : List Stored)
    → s.tables ≡ tables → s.indexes ≡ indexes → s.views ≡ views
    → s ≡ schema_of tables indexes views
same_parts s tables indexes views a b c =
    ap₂ (λ ts is. schema_of ts is s.views) a b ∙ ap (schema_of tables indexes) c

-- trees that list the table alone list nothing else
pub only_kept : (db : Trees) (s : Schema) → IsSound kept_schema db → IsSound s db → s ≡ kept_schema
only_kept db s p q =
    let a = p.lists.listed in
    let b = q.lists.listed in
    let tables = unique_zip IsTableRow one_table _ s.tables kept_schema.tables b.tables a.tables in
    let rows = filter is_index_row (db catalog_tree) in
    let listed = subst (λ ts. AllZip (IsIndexRow ts) rows s.indexes) tables b.indexes in
    let indexes =
    unique_zip (IsIndexRow (kept_table ∷ [])) one_index rows s.indexes kept_schema.indexes listed a.indexes in
    same_parts s _ _ _ tables indexes (none_zip _ _ _ s.views a.views b.views)

-- trees that list no table list nothing
pub only_none : (db : Trees) (s : Schema) → IsSound no_schema db → IsSound s db → s ≡ no_schema
only_none db s p q =
    let a = p.lists.listed in
    let b = q.lists.listed in
    same_parts s _ _ _ (none_zip _ _ _ s.tables a.tables b.tables)
    (none_zip _ _ _ s.indexes a.indexes b.indexes) (none_zip _ _ _ s.views a.views b.views)
