-- The rows that an answer over the one table has, and the lines that an edit leaves.
use Rattle.std.proofs.Common.{◌≡◌, ◌⊎◌, ℤ, pos, negsuc, Bool, true, false, not, cond, List, [], ◌∷◌, map, None, refl, sym, ap, subst, ◌∙◌, inl, inr}
use Rattle.std.specs.List.{list_all, flat_map}
use Rattle.std.specs.List.Sorted.{IsPermutation, IsSorted}
use Rattle.std.proofs.lemmas.Bool.{not-true}
use Rattle.std.proofs.lemmas.List.Sorted.{Contains-permutation, IsPermutation-sym}
use Rattle.sqlite_value.specs.declared.value.Value.TheVariants.{Null, Int}
use Rattle.sqlite_value.specs.declared.keys.Key.{Key}
use Rattle.sqlite_value.specs.Order.{Row as Line}
use Rattle.sqlite_trees.specs.Tree.{Trees, has_rowid, without_rowid}
use Rattle.sqlite_sql.specs.Term.{Term, Env, lit, eval_all, holds}
use Rattle.sqlite_sql.specs.Query.{Query, inner, end, IsAnswer, Output, output, output_cmp}
use Rattle.sqlite_sql.specs.Program.{overlay, IsProgramAnswer}
use Rattle.sqlite_schema.specs.declared.schema.Schema.{Schema}
use Rattle.sqlite_schema.specs.declared.schema.Keys.{Keys}
use Rattle.sqlite_rules.specs.Lists.{Has}
use Rattle.sqlite_rules.specs.Edit.{Edit, Applies, without_all}
use Rattle.sqlite_rules.proofs.ListLemmas.{has_left, has_right, has_either, has_filtered, has_kept, has_contained, contains_had}
use Rattle.sqlite_rules.proofs.TableLemmas.{put_all_has, put_all_keeps, put_all_adds}

has_permutation : {X : Type 0} (xs ys : List X) (x : X) → IsPermutation xs ys → Has xs x → Has ys x
has_permutation xs ys x p h = has_contained ys x (Contains-permutation xs ys x p (contains_had xs x h))

pub has_map : {X Y : Type 0} (f : X → Y) (xs : List X) (x : X) → Has xs x → Has (map f xs) (f x)
has_map f [] x h = absurd h
has_map f (y ∷ xs) x (inl same) = inl (ap f same)
has_map f (y ∷ xs) x (inr later) = inr (has_map f xs x later)

pub map_has : {X Y : Type 0} (f : X → Y) (xs : List X) (y : Y) → Has (map f xs) y
    → (x : X) × Has xs x × (y ≡ f x)
map_has f [] y h = absurd h
map_has f (x ∷ xs) y (inl same) = (x, inl refl, same)
map_has f (x ∷ xs) y (inr later) = let r = map_has f xs y later in (r.0, inr r.1, r.2)

module _ (filter : List Term) (project : List Term) (order : List (Term × Key)) where
  -- a query over the one table
  abbrev pub one_table : Query
  one_table = record {
    from = inner 0 end;
    filter = filter;
    group = None;
    project = project;
    distinct = false;
    collations = [];
    order = order;
    limit = lit (Int (negsuc 0));
    offset = lit (Int (pos 0));
  }

  module _ (db : Trees) (params : Line) where
    abbrev pub env_of : Line → Env
    env_of line = params ∷ line ∷ []

    abbrev pub passes_filter : Line → Bool
    passes_filter line = list_all (holds (env_of line)) filter

    abbrev pub one : Line → List Env
    one line = cond (passes_filter line) (env_of line ∷ []) []

    met_has : (lines : List Line) (env : Env) → Has (flat_map one lines) env
        → (line : Line) × Has lines line × (passes_filter line ≡ true) × (env ≡ env_of line)
    met_has [] env h = absurd h
    met_has (line ∷ lines) env h = elim (has_either (one line) (flat_map one lines) env h) [
      | inl here ↦ go (passes_filter line) refl here
      | inr later ↦ let r = met_has lines env later in (r.0, inr r.1, r.2, r.3)
    ]
      where
        go : (b : Bool) → passes_filter line ≡ b → Has (cond b (env_of line ∷ []) []) env
            → (l : Line) × Has (line ∷ lines) l × (passes_filter l ≡ true) × (env ≡ env_of l)
        go true is (inl same) = (line, inl refl, is, same)
        go true is (inr none) = absurd none
        go false is none = absurd none

    has_met : (lines : List Line) (line : Line) → Has lines line → passes_filter line ≡ true
        → Has (flat_map one lines) (env_of line)
    has_met [] line h passes = absurd h
    has_met (x ∷ lines) line (inl same) passes = has_left (one x) (flat_map one lines) (env_of line) (rw (← same, passes) (inl refl))
    has_met (x ∷ lines) line (inr later) passes = has_right (one x) (flat_map one lines) (env_of line) (has_met lines line later passes)

    pub record Finds (rows : List Line) : Type 0 where
      pub ordered : List Output
      pub sorted : IsSorted (output_cmp one_table) ordered
      pub perm : IsPermutation (map (output one_table) (flat_map one (db 0))) ordered
      pub shown : rows ≡ map (λ (o : Output). o.1) ordered
      pub each : (o : Output) → Has ordered o
          → (line : Line) × Has (db 0) line × (passes_filter line ≡ true) × (o ≡ output one_table (env_of line))
      pub all : (line : Line) → Has (db 0) line → passes_filter line ≡ true
          → Has ordered (output one_table (env_of line))

    pub finds : (rows : List Line) → IsProgramAnswer [] one_table db params rows → Finds rows
    finds rows h =
        let a : IsAnswer one_table (overlay db []) params rows = h Null in
        let met : a.staged ≡ flat_map one (db 0) = a.grouped in
        let kept : a.kept ≡ map (output one_table) (flat_map one (db 0)) = a.distinct ∙ ap (map (output one_table)) met in
        let perm : IsPermutation (map (output one_table) (flat_map one (db 0))) a.ordered = subst (λ k. IsPermutation k a.ordered) kept a.same in
        record {
          ordered = a.ordered;
          sorted = a.sorted;
          perm = perm;
          shown = a.shown;
          each = λ o g.
              let m = map_has (output one_table) (flat_map one (db 0)) o (has_permutation a.ordered _ o (IsPermutation-sym _ _ perm) g) in
              let l = met_has (db 0) m.0 m.1 in
              (l.0, l.1, l.2, m.2 ∙ ap (output one_table) l.3);
          all = λ line g p. has_permutation _ a.ordered _ perm (has_map (output one_table) (flat_map one (db 0)) (env_of line) (has_met (db 0) line g p));
        }

    pub found_each : (rows : List Line) → Finds rows → (row : Line) → Has rows row
        → (line : Line) × Has (db 0) line × (passes_filter line ≡ true) × (row ≡ eval_all project (env_of line))
    found_each rows f row h =
        let m = map_has (λ (o : Output). o.1) f.ordered row (subst (λ l. Has l row) f.shown h) in
        let e = f.each m.0 m.1 in
        (e.0, e.1, e.2, m.2 ∙ ap (λ (o : Output). o.1) e.3)

    pub found_all : (rows : List Line) → Finds rows → (line : Line) → Has (db 0) line
        → passes_filter line ≡ true → Has rows (eval_all project (env_of line))
    found_all rows f line h p = subst (λ l. Has l (eval_all project (env_of line))) (sym f.shown) (has_map (λ (o : Output). o.1) f.ordered (output one_table (env_of line)) (f.all line h p))

-- ---- edits

abbrev pub Lacks : List ℤ → Line → Type 0
Lacks ids x = (id : ℤ) → Has ids id → has_rowid id x ≡ false

left_from : (ids : List ℤ) (rows : List Line) (x : Line) → Has (without_all rows ids) x
    → Has rows x × Lacks ids x
left_from [] rows x h = (h, λ id none. absurd none)
left_from (id ∷ ids) rows x h =
    let r = left_from ids (without_rowid id rows) x h in
    let was = has_filtered (λ y. not (has_rowid id y)) rows x r.0 in
    (was.0, λ other k. elim k [ inl e ↦ rw e (not-true _ was.1) | inr more ↦ r.1 other more ])

left_has : (ids : List ℤ) (rows : List Line) (x : Line) → Has rows x → Lacks ids x
    → Has (without_all rows ids) x
left_has [] rows x h lacks = h
left_has (id ∷ ids) rows x h lacks = left_has ids (without_rowid id rows) x (has_kept (λ y. not (has_rowid id y)) rows x h (ap not (lacks id (inl refl)))) (λ other k. lacks other (inr k))

module _ (schema : Schema) (keys : Keys) (db next : Trees) (edit : Edit) (applies : Applies schema keys db edit next) where
  -- each line of the edited table is new, or was there and isn't taken out
  pub edited_has : (x : Line) → Has (next edit.table.tree) x
      → Has edit.news x ⊎ (Has (db edit.table.tree) x × Lacks edit.gone x)
  edited_has x h = elim (put_all_has edit.news _ x (subst (λ l. Has l x) applies.rows h)) [ inl new ↦ inl new | inr left ↦ inr (left_from edit.gone _ x left) ]

  pub edited_new : (x : Line) → Has edit.news x → Has (next edit.table.tree) x
  edited_new x h = subst (λ l. Has l x) (sym applies.rows) (put_all_adds edit.news _ x applies.fresh h)

  pub edited_kept : (x : Line) → Has (db edit.table.tree) x → Lacks edit.gone x
      → Has (next edit.table.tree) x
  edited_kept x h lacks = subst (λ l. Has l x) (sym applies.rows) (put_all_keeps edit.news _ x applies.fresh (left_has edit.gone _ x h lacks))
