-- Lemmas of labels: the first and the last number of a production that a valid matter keeps have
-- labels under its prefix.
use Rattle.std.proofs.Common.{ℕ, ◌≡◌, Bool, true, nat_le, List, [], ◌∷◌, length, not, Option, Some, None, refl, sym, ap, subst, ◌∙◌, Bor}
use Rattle.std.specs.Prelude.{◌==◌}
use Rattle.std.specs.List.{find, list_all}
use Rattle.std.specs.Option.{option_copied}
use Rattle.std.specs.Str.{bytes_eq}
use Rattle.std.proofs.lemmas.Bool.{and_parts, eqb-true, leb-true}
use Rattle.bp_bates.specs.Spans.{largest_of}
use Rattle.bp_matter.specs.LookUps.{of_row}
use Rattle.bp_matter.specs.Matter.{Matter}
use Rattle.bp_matter.specs.Valid.{IsValid}
use Rattle.bp_matter.specs.ValidItems.{are_whole, item_fits}
use Rattle.bp_matter.specs.ValidProductions.{production_fits, request_fits}
use Rattle.bp_matter.specs.Written.{are_few, first_number, is_word, item_written, last_number, production_written, request_written, same_span, span_of}
use Rattle.bp_matter.specs.declared.rows.Item.{Item}
use Rattle.bp_matter.specs.declared.rows.Production.{Production}
use Rattle.bp_matter.specs.declared.rows.ProductionRow.{ProductionRow}
use Rattle.bp_freeze.specs.Freezing.{kept_production}
use Rattle.bp_freeze.specs.Keeping.{KeepsProduction}
use Rattle.bp_freeze.specs.Log.{CanBeLogged, span_fits}
use Rattle.bp_press.proofs.KeptPageLemmas.{passes}
use Rattle.bp_press.proofs.PressedLemmas.{kept-pressed}
use Rattle.bp_cli.specs.ProduceSteps.{HasLabel, HasLabels}

-- the labels of an item
item_labels : (width : ℕ) (i : Item) → span_fits width i ≡ true → HasLabel width i.span.first × HasLabel width i.span.last
item_labels width i fits =
    let three = and_parts _ (nat_le i.span.last (largest_of width)) fits in
    let two = and_parts _ (nat_le 1 i.span.last) three.0 in
    let one = and_parts (nat_le 1 i.span.first) (nat_le i.span.first (largest_of width)) two.0 in (
      record { from = leb-true 1 i.span.first one.0; to = leb-true i.span.first (largest_of width) one.1 },
      record { from = leb-true 1 i.span.last two.1; to = leb-true i.span.last (largest_of width) three.1 },
    )

last_label : (width : ℕ) (i : Item) (items : List Item) → list_all (span_fits width) (i ∷ items) ≡ true → HasLabel width (last_number i.span.last items)
last_label width i [] fits = (item_labels width i (and_parts (span_fits width i) true fits).0).1
last_label width i (j ∷ items) fits = last_label width j items (and_parts (span_fits width i) (list_all (span_fits width) (j ∷ items)) fits).1

items_labels : (width : ℕ) (items : List Item) → not (length items == 0) ≡ true → list_all (span_fits width) items ≡ true → HasLabel width (first_number items) × HasLabel width (last_number 0 items)
items_labels width [] some fits = absurd cc
items_labels width (i ∷ items) some fits =
    ((item_labels width i (and_parts (span_fits width i) (list_all (span_fits width) items) fits).0).0, last_label width i items fits)

-- what a look-up by a text that is an id found, and what it didn't
pub none_found : (rows : List ProductionRow) (text id : List ℕ) (found : Option (Bor Production)) → option_copied found ≡ kept_production rows text → text ≡ id → found ≡ None → kept_production rows id ≡ None
none_found rows text id found copied same is = ap (kept_production rows) (sym same) ∙ sym copied ∙ ap option_copied is

pub some_found : (rows : List ProductionRow) (text id : List ℕ) (found : Option (Bor Production)) (f : Bor Production) → option_copied found ≡ kept_production rows text → text ≡ id → found ≡ Some f → kept_production rows id ≡ Some f.now
some_found rows text id found f copied same is = ap (kept_production rows) (sym same) ∙ sym copied ∙ ap option_copied is

pub kept_logged : (m : Matter) → IsValid m → (f : Production) → KeepsProduction m f → CanBeLogged f
kept_logged m valid f kept = (kept-pressed m valid f kept).logged

-- the row of a production that is kept, and its test
abbrev has_id : Production → ProductionRow → Bool
has_id f row = bytes_eq row.production.request.id f.request.id

kept_by : (m : Matter) (f : Production) (o : Option ProductionRow) → find (has_id f) m.productions ≡ o → of_row (λ row. row.production) o ≡ Some f
    → (row : ProductionRow) × (row.production ≡ f) × (find (has_id f) m.productions ≡ Some row)
kept_by m f None is kept = absurd cc
kept_by m f (Some row) is kept =
    let same : row.production ≡ f = cc in
    (row, same, is)

pub kept_labels : (m : Matter) → IsValid m → (f : Production) → KeepsProduction m f → HasLabels f
kept_labels m valid f kept =
    let logged = kept_logged m valid f kept in
    let row = kept_by m f (find (has_id f) m.productions) refl kept in
    let g : Production = row.0.production in
    let all = passes (has_id f) production_written m.productions row.0 row.2 valid.productions.written in
    let named = and_parts (is_word row.0.num) _ all in
    let asked = and_parts (request_written g.request) _ named.1 in
    let held = and_parts (are_few item_written g.items) (same_span g.span (span_of g.items)) asked.1 in
    let span : same_span f.span (span_of f.items) ≡ true = sym (ap (λ (h : Production). same_span h.span (span_of h.items)) row.1) ∙ held.1 in
    let ends = and_parts (f.span.first == first_number f.items) (f.span.last == last_number 0 f.items) span in
    let fits = passes (has_id f) (production_fits m.fields m.docs m.pages) m.productions row.0 row.2 valid.productions.fit in
    let three = and_parts _ (are_whole m.docs 0 1 g.items) fits in
    let two = and_parts _ (list_all (item_fits (length m.fields) m.docs m.pages) g.items) three.0 in
    let one = and_parts (request_fits m.fields (length m.docs) g.request) (not (length g.items == 0)) two.0 in
    let some : not (length f.items == 0) ≡ true = sym (ap (λ (h : Production). not (length h.items == 0)) row.1) ∙ one.1 in
    let labels = items_labels f.request.prefix.width f.items some logged.spans in
    record {
      prefix = logged.prefix;
      first = subst (HasLabel f.request.prefix.width) (sym (eqb-true f.span.first (first_number f.items) ends.0)) labels.0;
      last = subst (HasLabel f.request.prefix.width) (sym (eqb-true f.span.last (last_number 0 f.items) ends.1)) labels.1;
    }
