-- The DAT of a volume has the columns of a check, and no name is repeated.
use Rattle.std.proofs.Common.{◌≡◌, ℕ, true, false, not, length, subst, inl, inr, List, [], ◌∷◌, ◌++◌, refl, sym, ap, ◌∙◌}
use Rattle.std.specs.List.{list_all, list_any}
use Rattle.std.specs.Str.{bytes_eq}
use Rattle.std.proofs.Math.Utf8.{encode}
use Rattle.std.proofs.lemmas.Bool.{and_from, and_parts, cases_Bool, false≢true, not-true, not_from_false, or_from}
use Rattle.std.proofs.lemmas.List.Folds.{list_any-append}
use Rattle.std.proofs.lemmas.Slice.Eq.{bytes_eq-Decides}
use Rattle.bp_core.specs.Differing.{all_differ, texts_differ}
use Rattle.bp_matter.specs.Matter.{Matter}
use Rattle.bp_matter.specs.Texts.{columns, is_column_name, is_volume}
use Rattle.bp_matter.specs.Valid.{IsValid}
use Rattle.bp_matter.specs.ValidFields.{has_field}
use Rattle.bp_matter.specs.ValidProductions.{field_chosen, itself, production_fits, request_fits}
use Rattle.bp_matter.specs.declared.rows.FieldRow.{FieldRow}
use Rattle.bp_matter.specs.declared.rows.Production.{Production}
use Rattle.bp_matter.specs.declared.rows.Request.{Request}
use Rattle.bp_freeze.specs.Keeping.{KeepsProduction}
use Rattle.bp_press.proofs.KeptItemLemmas.{is_row_of, kept-numbers, kept-row}
use Rattle.bp_press.proofs.KeptPageLemmas.{passes}
use Rattle.bp_check.specs.Columns.{are_columns}
use Rattle.bp_own_volumes.proofs.ApartLemmas.{IsNamed}
use Rattle.bp_own_volumes.proofs.CellLemmas.{has_begdoc, has_enddoc}

-- ---- what a valid matter says of the request

-- its fields are columns of their own, and no two are alike
pub record ChoosesFields (q : Request) : Type 0 where
  pub volume : is_volume q.volume ≡ true
  pub own : list_all (λ name. not (is_column_name name)) q.fields ≡ true
  pub differ : all_differ itself q.fields ≡ true

no_columns : (fields : List FieldRow) (names : List (List ℕ))
    → list_all (field_chosen fields) names ≡ true
    → list_all (λ name. not (is_column_name name)) names ≡ true
no_columns fields [] chosen = refl
no_columns fields (name ∷ names) chosen =
    let both = and_parts (field_chosen fields name) (list_all (field_chosen fields) names) chosen in
    and_from _ _ (and_parts (has_field fields name) (not (is_column_name name)) both.0).1 (no_columns fields names both.1)

chooses : (fields : List FieldRow) (docs : ℕ) (q : Request)
    → request_fits fields docs q ≡ true
    → ChoosesFields q
chooses fields docs q fit =
    let a = and_parts _ (all_differ itself q.fields) fit in
    let b = and_parts _ (list_all (field_chosen fields) q.fields) a.0 in
    let c = and_parts _ _ b.0 in
    let d = and_parts _ _ c.0 in
    let e = and_parts _ (is_volume q.volume) d.0 in
    record { volume = e.1; own = no_columns fields q.fields b.1; differ = a.1 }

pub kept_fields : (m : Matter) → IsValid m → (f : Production) → KeepsProduction m f → ChoosesFields f.request
kept_fields m valid f keeps =
    let kept = kept-row m f keeps in
    let three =
    and_parts _ _
    (passes (is_row_of f) (production_fits m.fields m.docs m.pages) m.productions kept.row kept.found valid.productions.fit) in
    let two = and_parts _ _ three.0 in
    let one = and_parts (request_fits m.fields (length m.docs) kept.row.production.request) _ two.0 in
    subst (λ (g : Production). ChoosesFields g.request) kept.same (chooses m.fields (length m.docs) kept.row.production.request one.0)

pub kept_named : (m : Matter) → IsValid m → (f : Production) → KeepsProduction m f → IsNamed f.request
kept_named m valid f keeps = record { volume = (kept_fields m valid f keeps).volume; prefix = (kept-numbers m valid f keeps).good }

-- ---- names that differ

-- no name is a column
none_column : (column : List ℕ) (names : List (List ℕ))
    → is_column_name column ≡ true
    → list_all (λ name. not (is_column_name name)) names ≡ true
    → list_any (λ other. bytes_eq other column) names ≡ false
none_column column [] is own = refl
none_column column (name ∷ names) is own =
    let both = and_parts (not (is_column_name name)) (list_all (λ name. not (is_column_name name)) names) own in
    elim (cases_Bool (bytes_eq name column)) [
      | inl same ↦ absurd (false≢true (sym (not-true (is_column_name name) both.0) ∙ ap is_column_name ((bytes_eq-Decides name column).0 same) ∙ is))
      | inr other ↦ or_from (bytes_eq name column) _ other (none_column column names is both.1)
    ]

-- columns that differ, and then names that differ, none of which is one of them
both_differ : (front names : List (List ℕ))
    → list_all is_column_name front ≡ true
    → texts_differ front ≡ true
    → list_all (λ name. not (is_column_name name)) names ≡ true
    → texts_differ names ≡ true
    → texts_differ (front ++ names) ≡ true
both_differ [] names are one own two = two
both_differ (column ∷ front) names are one own two =
    let is = and_parts (is_column_name column) (list_all is_column_name front) are in
    let apart = and_parts (not (list_any (λ other. bytes_eq other column) front)) (texts_differ front) one in
    let none : list_any (λ other. bytes_eq other column) (front ++ names) ≡ false =
    list_any-append (λ other. bytes_eq other column) front names ∙ or_from _ _ (not-true _ apart.0) (none_column column names is.0 own) in
    and_from _ _ (not_from_false _ none) (both_differ front names is.1 apart.1 own two)

columns_known : list_all is_column_name columns ≡ true
unfolding encode
columns_known = refl

pub columns_fit : (q : Request) → ChoosesFields q → are_columns (columns ++ q.fields) ≡ true
columns_fit q chosen =
    and_from _ _ (and_from _ _ (has_begdoc q.fields) (has_enddoc q.fields))
    (both_differ columns q.fields columns_known refl chosen.own chosen.differ)
