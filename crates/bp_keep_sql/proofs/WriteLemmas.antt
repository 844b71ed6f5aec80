-- What the upsert and the removal make of the lines of the table.
use Rattle.std.proofs.Common.{◌≤◌, ◌≡◌, ◌⊎◌, ℕ, ℤ, Bool, true, false, cond, List, [], ◌∷◌, refl, sym, ap, ◌∙◌, inl, inr}
use Rattle.std.specs.Ordering.{is_eq}
use Rattle.std.proofs.lemmas.Bool.{cases_Bool}
use Rattle.std.proofs.lemmas.Cmp.{tied_itself}
use Rattle.sqlite_value.specs.declared.value.Value.{Value}
use Rattle.sqlite_value.specs.declared.value.Value.TheVariants.{Null, Int}
use Rattle.sqlite_value.specs.Order.{Row as Line, value_cmp}
use Rattle.sqlite_value.proofs.OrderLemmas.{value_cmp_total}
use Rattle.sqlite_trees.specs.Tree.{Trees, rowid, has_rowid}
use Rattle.sqlite_sql.specs.Ops.{unary}
use Rattle.sqlite_schema.specs.declared.schema.Kind.TheVariants.{Integer}
use Rattle.sqlite_rules.specs.Lists.{Has}
use Rattle.sqlite_rules.specs.Cast.{cast}
use Rattle.sqlite_rules.specs.Calls.{ids_of}
use Rattle.sqlite_rules.specs.Edit.{id_in}
use Rattle.sqlite_catalog.specs.Listing.{IsSound}
use Rattle.bp_core.specs.Sorted.{row_key, put, without}
use Rattle.bp_keep_sql.specs.Table.{kept_schema}
use Rattle.bp_keep_sql.specs.Lines.{kept_row, kept_rows}
use Rattle.bp_keep_sql.specs.Rowids.{AreNumbered}
use Rattle.bp_keep_sql.proofs.MapLemmas.{HasOneOfKey, kept-put, kept-without}
use Rattle.bp_keep_sql.proofs.LineLemmas.{IsLine, one_of_key, row_is}
use Rattle.bp_keep_sql.proofs.QueryLemmas.{Lacks}

either : (b : Bool) (x : Value) → cond b x x ≡ x
either true x = refl
either false x = refl

-- what a column makes of a value of its type
pub cast_int : (n : ℤ) → cast Integer (Int n) ≡ Int n
unfolding unary
cast_int n = either _ (Int n)

pub cast_null : cast Integer Null ≡ Null
unfolding unary
cast_null = either _ Null

-- ids that hold the rowids of some lines alone
id_of : (ids : List Line) (id : ℤ) → Has (ids_of ids) id
    → (x : Line) × Has ids x × (id ≡ id_in (rowid x))
id_of [] id h = absurd h
id_of (x ∷ ids) id (inl same) = (x, inl refl, same)
id_of (x ∷ ids) id (inr later) = let r = id_of ids id later in (r.0, inr r.1, r.2)

ids_has : (ids : List Line) (x : Line) → Has ids x → Has (ids_of ids) (id_in (rowid x))
ids_has [] x h = absurd h
ids_has (y ∷ ids) x (inl same) = inl (ap (λ l. id_in (rowid l)) same)
ids_has (y ∷ ids) x (inr later) = inr (ids_has ids x later)

module _ (lines : List Line) (numbered : AreNumbered lines) where
  -- a line that has the rowid of another is that one
  pub same_line : (x y : Line) (id : ℤ) → Has lines x → Has lines y → rowid y ≡ Int id
      → has_rowid id x ≡ true → x ≡ y
  same_line x y id p q is h = numbered.one x y p q (ap (λ v. is_eq (value_cmp (rowid x) v)) is ∙ h)

  -- a line has its own rowid
  pub own_id : (x : Line) (id : ℤ) → rowid x ≡ Int id → has_rowid id x ≡ true
  own_id x id is = rw (is, tied_itself value_cmp_total (Int id))

  -- the lines whose rowids are taken out are those that the answer has
  pub lacks_other : (found : List Line) (x : Line) → Has lines x
      → ((f : Line) → Has found f → (y : Line) × Has lines y × (rowid f ≡ rowid y) × (x ≡ y → ⊥))
      → Lacks (ids_of found) x
  lacks_other found x h each id k = elim (cases_Bool (has_rowid id x)) [
    | inl has ↦
        let f = id_of found id k in
        let y = each f.0 f.1 in
        let n = numbered.ints y.0 y.1 in
        let is : rowid y.0 ≡ Int id = n.1 ∙ ap Int (sym (f.2 ∙ ap id_in (y.2 ∙ n.1))) in
        absurd (y.3 (same_line x y.0 id h y.1 is has))
    | inr off ↦ off
  ]

  pub not_lacks : (found : List Line) (x f : Line) → Has lines x → Has found f → rowid f ≡ rowid x
      → Lacks (ids_of found) x → ⊥
  not_lacks found x f h k same lacks =
      let n = numbered.ints x h in
      let none = lacks (id_in (rowid f)) (ids_has found f k) in
      let has = own_id x (id_in (rowid f)) (n.1 ∙ ap Int (sym (ap id_in (same ∙ n.1)))) in
      let e : true ≡ false = sym has ∙ none in cc

-- the key of a line, and of what is put
key_is : (x : Line) (a : IsLine x)
    → row_key (kept_row x) ≡ row_key (record { kind = a.kind; k1 = a.k1; k2 = a.k2; body = a.body })
key_is x a = ap row_key (row_is x x a a)

-- what is known before and after a write
module _ (old new : Trees) (before : IsSound kept_schema old) (after : IsSound kept_schema new) (numbered : AreNumbered (old 0)) (numbered' : AreNumbered (new 0)) where
  keyed : HasOneOfKey (old 0)
  keyed = one_of_key old before numbered.one numbered.ints

  keyed' : HasOneOfKey (new 0)
  keyed' = one_of_key new after numbered'.one numbered'.ints

  -- a removal: the answer has the rowids of the lines of the key
  pub removed : (kind k1 k2 : ℕ) → k1 ≤ 4294967295 → k2 ≤ 4294967295 → (found : List Line)
      → ((f : Line) → Has found f → (y : Line) × Has (old 0) y × (rowid f ≡ rowid y) × (row_key (kept_row y) ≡ row_key (record { kind = kind; k1 = k1; k2 = k2; body = [] })))
      → ((y : Line) → Has (old 0) y → row_key (kept_row y) ≡ row_key (record { kind = kind; k1 = k1; k2 = k2; body = [] }) → (f : Line) × Has found f × (rowid f ≡ rowid y))
      → ((x : Line) → Has (new 0) x → Has (old 0) x × Lacks (ids_of found) x)
      → ((x : Line) → Has (old 0) x → Lacks (ids_of found) x → Has (new 0) x)
      → kept_rows (new 0) ≡ without row_key (row_key (record { kind = kind; k1 = k1; k2 = k2; body = [] })) (kept_rows (old 0))
  removed kind k1 k2 fits1 fits2 found each all left kept =
      kept-without (old 0) (new 0) (row_key (record { kind = kind; k1 = k1; k2 = k2; body = [] })) keyed keyed'
      (λ x h key. let l = left x h in let f = all x l.0 key in not_lacks (old 0) numbered found x f.0 l.0 f.1 f.2 l.1)
      (λ x other h. kept x h (lacks_other (old 0) numbered found x h (λ f k. let y = each f k in (y.0, y.1, y.2, λ same. other (ap (λ l. row_key (kept_row l)) same ∙ y.3)))))
      (λ x other h. (left x h).0)

  -- a line that wasn't there
  pub inserted : (line : Line) → Has (new 0) line
      → ((x : Line) → Has (new 0) x → (x ≡ line) ⊎ Has (old 0) x)
      → ((x : Line) → Has (old 0) x → Has (new 0) x)
      → kept_rows (new 0) ≡ put row_key (kept_row line) (kept_rows (old 0))
  inserted line here each all =
      kept-put (old 0) (new 0) line keyed keyed' here (λ x other h. all x h)
      (λ x other h. elim (each x h) [ inl same ↦ absurd (other (ap (λ l. row_key (kept_row l)) same)) | inr was ↦ was ])

  -- a line in the place of one of its key
  pub replaced : (was line : Line) (found : List Line) → Has (old 0) was
      → row_key (kept_row was) ≡ row_key (kept_row line) → Has (new 0) line
      → ((f : Line) → Has found f → rowid f ≡ rowid was)
      → ((x : Line) → Has (new 0) x → (x ≡ line) ⊎ Has (old 0) x)
      → ((x : Line) → Has (old 0) x → Lacks (ids_of found) x → Has (new 0) x)
      → kept_rows (new 0) ≡ put row_key (kept_row line) (kept_rows (old 0))
  replaced was line found there key here ids each all =
      kept-put (old 0) (new 0) line keyed keyed' here
      (λ x other h. all x h (lacks_other (old 0) numbered found x h (λ f k. (was, there, ids f k, λ same. other (ap (λ l. row_key (kept_row l)) same ∙ key)))))
      (λ x other h. elim (each x h) [ inl same ↦ absurd (other (ap (λ l. row_key (kept_row l)) same)) | inr old ↦ old ])
