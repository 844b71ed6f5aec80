-- The test of equality of schemas.
use Rattle.std.proofs.Common.{◌≡◌, true, false, refl, ap, ◌∙◌}
use Rattle.std.proofs.lemmas.Bool.{and_parts, and_from, eqb-true, eq-eqb}
use base.Stored.{Gv, gnil, gnum, gcons}
use Rattle.sqlite_schema.specs.declared.schema.Schema.{Schema}
use Rattle.sqlite_schema.specs.contracts.schema.Schema.{the_row}
use Rattle.bp_keep_sql.specs.Schemas.{same_tree, same_schema}

tree_is : (a b : Gv) → same_tree a b ≡ true → a ≡ b
tree_is gnil gnil h = refl
tree_is gnil (gnum b) h = absurd (let e : false ≡ true = h in cc)
tree_is gnil (gcons b d) h = absurd (let e : false ≡ true = h in cc)
tree_is (gnum a) gnil h = absurd (let e : false ≡ true = h in cc)
tree_is (gnum a) (gnum b) h = ap gnum (eqb-true a b h)
tree_is (gnum a) (gcons b d) h = absurd (let e : false ≡ true = h in cc)
tree_is (gcons a c) gnil h = absurd (let e : false ≡ true = h in cc)
tree_is (gcons a c) (gnum b) h = absurd (let e : false ≡ true = h in cc)
tree_is (gcons a c) (gcons b d) h =
    let parts = and_parts (same_tree a b) (same_tree c d) h in
    ap (λ x. gcons x c) (tree_is a b parts.0) ∙ ap (λ y. gcons b y) (tree_is c d parts.1)

tree_itself : (a : Gv) → same_tree a a ≡ true
tree_itself gnil = refl
tree_itself (gnum a) = eq-eqb a a refl
tree_itself (gcons a c) =
    and_from (same_tree a a) (same_tree c c) (tree_itself a) (tree_itself c)

pub same_schema-true : (a b : Schema) → same_schema a b ≡ true → a ≡ b
unfolding same_schema
same_schema-true a b h = the_row.coded.inj a b (tree_is _ _ h)

pub same_schema-itself : (a b : Schema) → a ≡ b → same_schema a b ≡ true
unfolding same_schema
same_schema-itself a b e =
    ap (λ s. same_tree (the_row.coded.code s) (the_row.coded.code b)) e ∙ tree_itself (the_row.coded.code b)
