-- The items of a production that a valid matter keeps follow one another: their labels and the places of their images.
use Rattle.std.proofs.Common.{◌≡◌, ℕ, zero, suc, ◌+◌, ◌^◌, ◌<◌, ◌≤◌, ◌==◌, ◌&&◌, Bool, true, cond, inl, inr, Option, Some, None, List, [], ◌∷◌, length, map, flat_map, get_or, All, nat_le, eqb, refl, sym, ap, ◌∙◌, subst, arith, length-append}
use Rattle.std.specs.List.{find}
use Rattle.std.proofs.Math.Nat.{pow-suc}
use Rattle.std.proofs.lemmas.Bool.{and_parts, cases_Bool, eqb-true, leb-true}
use Rattle.std.proofs.lemmas.List.FromFn.{length-map-range_with_len}
use Rattle.std.proofs.lemmas.Slice.Eq.{bytes_eq-Decides}
use Rattle.std.specs.Str.{bytes_eq}
use Rattle.bp_bates.specs.Spans.{largest_of}
use Rattle.bp_matter.specs.Matter.{Matter}
use Rattle.bp_matter.specs.Valid.{IsValid}
use Rattle.bp_matter.specs.ValidPrefixes.{after_items, after_productions, is_under, prefix_fits, spans_reach}
use Rattle.bp_matter.specs.ValidProductions.{has_prefix}
use Rattle.bp_matter.specs.declared.rows.Item.{Item}
use Rattle.bp_matter.specs.declared.rows.PrefixRow.{PrefixRow}
use Rattle.bp_matter.specs.declared.rows.Production.{Production}
use Rattle.bp_matter.specs.declared.rows.ProductionRow.{ProductionRow}
use Rattle.bp_matter.specs.declared.rows.Request.{Request}
use Rattle.bp_freeze.specs.Keeping.{KeepsProduction}
use Rattle.bp_press.specs.Contents.{part_of}
use Rattle.bp_press.specs.Files.{Placed, placed}
use Rattle.bp_press.specs.LoadFiles.{opt_line, opt_lines}
use Rattle.bp_press.specs.Pressing.{image_total}
use Rattle.bp_press.proofs.KeptItemLemmas.{KeptRow, found_passes, is_row_of, items-stand, kept-row}
use Rattle.bp_press.proofs.KeptPageLemmas.{finds, passes}
use Rattle.bp_press.proofs.PlacedLemmas.{CountFits, count_fits, image_count-part}
use Rattle.bp_press.proofs.SpanLemmas.{number_is}

-- ---- items that follow one another

-- an item with its images at a place and its labels from a number on
pub record IsPlaced (place number : ℕ) (p : Placed) : Type 0 where
  pub place_is : p.place ≡ place
  pub first : p.item.span.first ≡ number
  pub last : p.item.span.last + 1 ≡ number + length p.content.images
  pub some : 1 ≤ length p.content.images
  pub few : length p.content.images ≤ 20000

abbrev pub AreInTurn : ℕ → ℕ → List Placed → Type 0
AreInTurn place number [] = Unit {0}
AreInTurn place number (p ∷ ps) =
    IsPlaced place number p × AreInTurn (place + length p.content.images) (number + length p.content.images) ps

-- how many images they have
abbrev pub total_of : List Placed → ℕ
total_of [] = 0
total_of (p ∷ ps) = length p.content.images + total_of ps

pub lines_counted : (q : Request) (ps : List Placed) → length (flat_map (opt_lines q) ps) ≡ total_of ps
lines_counted q [] = refl
lines_counted q (p ∷ ps) =
    omega (
      arith,
      length-append (opt_lines q p) (flat_map (opt_lines q) ps),
      length-map-range_with_len (opt_line q p) 0 (length p.content.images),
      lines_counted q ps,
    )

pub total_is : (f : Production) (m : Matter) (place : ℕ) (items : List Item)
    → total_of (placed place (map (part_of f m) items)) ≡ image_total f m items
total_is f m place [] = refl
total_is f m place (i ∷ items) =
    ap (λ n. length (part_of f m i).content.images + n) (total_is f m (place + length (part_of f m i).content.images) items)

-- spans that follow one another, each as long as its item has images
pub record InTurn (f : Production) (m : Matter) (place number next : ℕ) (items : List Item) : Type 0 where
  pub turn : AreInTurn place number (placed place (map (part_of f m) items))
  pub reach : number + image_total f m items ≡ next

pub items_in_turn : (f : Production) (m : Matter) (place number next : ℕ) (items : List Item)
    → All (CountFits m) items
    → after_items number items ≡ Some next
    → InTurn f m place number next items
items_in_turn f m place number next [] fit is =
    let same : number ≡ next = cc in
    record { turn = tt; reach = omega arith }
items_in_turn f m place number next (i ∷ items) fit is =
    let test = (i.span.first == number) && nat_le number i.span.last in
    let fits = fit 0 i (omega arith) in
    let count = length (part_of f m i).content.images in
    elim (cases_Bool test) [
      | inl here ↦ (
          let first : i.span.first ≡ number =
          eqb-true i.span.first number (and_parts (i.span.first == number) (nat_le number i.span.last) here).0 in
          let many = image_count-part f m i in
          let last : i.span.last + 1 ≡ number + count = omega (arith, fits.span, first, many) in
          let then : after_items (i.span.last + 1) items ≡ Some next =
          sym (ap (λ b. cond b (after_items (i.span.last + 1) items) None) here) ∙ is in
          let rest =
          items_in_turn f m (place + count) (number + count) next items (λ k d l. fit (suc k) d (omega arith))
          (sym (ap (λ n. after_items n items) last) ∙ then) in
          let one : IsPlaced place number (record { place = place; item = i; content = (part_of f m i).content }) =
          record { place_is = refl; first = first; last = last; some = omega (arith, fits.some, many); few = omega (arith, fits.few, many) } in
          record { turn = (one, rest.turn); reach = omega (arith, rest.reach) })
      | inr other ↦ (
          let none : None ≡ Some next = sym (ap (λ b. cond b (after_items (i.span.last + 1) items) None) other) ∙ is in
          absurd cc)
    ]

-- ---- the items of a production that is kept

-- from a number on, up to one that its prefix has not passed
pub record StartsAt (width : ℕ) (items : List Item) : Type 0 where
  pub number : ℕ
  pub next : ℕ
  pub is : after_items number items ≡ Some next
  pub most : next ≤ 10 ^ width

pow_positive : (w : ℕ) → 0 < 10 ^ w
pow_positive zero = omega arith
pow_positive (suc w) = omega (arith, pow-suc 10 w, pow_positive w)

at_most : (width n : ℕ) → n ≤ largest_of width + 1 → n ≤ 10 ^ width
at_most width n most = omega (arith, pow_positive width)

none_after : (text : List ℕ) (rows : List ProductionRow) (next : ℕ)
    → after_productions text None rows ≡ Some next
    → ⊥
none_after text [] next is = cc
none_after text (row ∷ rows) next is = cc

abbrev after_row : List ℕ → ℕ → ProductionRow → Option ℕ
after_row text n row = cond (is_under text row) (after_items n row.production.items) (Some n)

reached : (text : List ℕ) (rows : List ProductionRow) (next : ℕ) (o : Option ℕ)
    → after_productions text o rows ≡ Some next
    → (k : ℕ) × (o ≡ Some k) × (after_productions text (Some k) rows ≡ Some next)
reached text rows next None is = absurd (none_after text rows next is)
reached text rows next (Some k) is = (k, refl, is)

items_grow : (n : ℕ) (items : List Item) (next : ℕ) → after_items n items ≡ Some next → n ≤ next
items_grow n [] next is =
    let same : n ≡ next = cc in
    omega arith
items_grow n (i ∷ items) next is =
    elim (cases_Bool ((i.span.first == n) && nat_le n i.span.last)) [
      | inl here ↦ (
          let order = leb-true n i.span.last (and_parts (i.span.first == n) (nat_le n i.span.last) here).1 in
          let then : after_items (i.span.last + 1) items ≡ Some next =
          sym (ap (λ b. cond b (after_items (i.span.last + 1) items) None) here) ∙ is in
          omega (arith, order, items_grow (i.span.last + 1) items next then))
      | inr other ↦ (
          let none : None ≡ Some next = sym (ap (λ b. cond b (after_items (i.span.last + 1) items) None) other) ∙ is in
          absurd cc)
    ]

row_grows : (text : List ℕ) (n : ℕ) (row : ProductionRow) (next : ℕ)
    → after_row text n row ≡ Some next
    → n ≤ next
row_grows text n row next is =
    elim (cases_Bool (is_under text row)) [
      | inl under ↦ items_grow n row.production.items next (sym (ap (λ b. cond b (after_items n row.production.items) (Some n)) under) ∙ is)
      | inr other ↦ (
          let same : Some n ≡ Some next = sym (ap (λ b. cond b (after_items n row.production.items) (Some n)) other) ∙ is in
          let number : n ≡ next = cc in
          omega arith)
    ]

rows_grow : (text : List ℕ) (n : ℕ) (rows : List ProductionRow) (next : ℕ)
    → after_productions text (Some n) rows ≡ Some next
    → n ≤ next
rows_grow text n [] next is =
    let same : n ≡ next = cc in
    omega arith
rows_grow text n (row ∷ rows) next is =
    let past = reached text rows next (after_row text n row) is in
    omega (arith, row_grows text n row past.0 past.1, rows_grow text past.0 rows next past.2)

found_starts : (text : List ℕ) (width n : ℕ) (rows : List ProductionRow) (next : ℕ)
    (test : ProductionRow → Bool) (row : ProductionRow)
    → find test rows ≡ Some row
    → is_under text row ≡ true
    → after_productions text (Some n) rows ≡ Some next
    → next ≤ 10 ^ width
    → StartsAt width row.production.items
found_starts text width n [] next test row found under is most = absurd cc
found_starts text width n (first ∷ rows) next test row found under is most =
    let past = reached text rows next (after_row text n first) is in
    elim (cases_Bool (test first)) [
      | inl here ↦ (
          let same : first ≡ row = cc in
          let own : is_under text first ≡ true = ap (is_under text) same ∙ under in
          let items : after_items n first.production.items ≡ Some past.0 =
          sym (ap (λ b. cond b (after_items n first.production.items) (Some n)) own) ∙ past.1 in
          let start : StartsAt width first.production.items =
          record { number = n; next = past.0; is = items; most = omega (arith, rows_grow text past.0 rows next past.2) } in
          subst (λ (r : ProductionRow). StartsAt width r.production.items) same start)
      | inr later ↦ (
          let rest : find test rows ≡ Some row = cc in
          found_starts text width past.0 rows next test row rest under past.2 most)
    ]

abbrev is_prefix_of : ProductionRow → PrefixRow → Bool
is_prefix_of row kept =
    bytes_eq kept.prefix.text row.production.request.prefix.text && eqb kept.prefix.width row.production.request.prefix.width

row_starts : (m : Matter)
    → IsValid m
    → (f : Production) (kept : KeptRow m f) (p : PrefixRow)
    → find (is_prefix_of kept.row) m.prefixes ≡ Some p
    → StartsAt kept.row.production.request.prefix.width kept.row.production.items
row_starts m valid f kept p found =
    let q : Request = kept.row.production.request in
    let test =
    and_parts (bytes_eq p.prefix.text q.prefix.text) (eqb p.prefix.width q.prefix.width)
    (found_passes (is_prefix_of kept.row) m.prefixes p found) in
    let text : p.prefix.text ≡ q.prefix.text = (bytes_eq-Decides p.prefix.text q.prefix.text).0 test.0 in
    let width : p.prefix.width ≡ q.prefix.width = eqb-true p.prefix.width q.prefix.width test.1 in
    let fits = and_parts _ _ (passes (is_prefix_of kept.row) prefix_fits m.prefixes p found valid.prefixes.fit) in
    let next = and_parts (nat_le 1 p.next) (nat_le p.next (largest_of p.prefix.width + 1)) fits.1 in
    let most : p.next ≤ largest_of q.prefix.width + 1 =
    subst (λ w. p.next ≤ largest_of w + 1) width (leb-true p.next (largest_of p.prefix.width + 1) next.1) in
    let reach = passes (is_prefix_of kept.row) (spans_reach m.productions) m.prefixes p found valid.prefixes.spans_reach in
    let under : is_under p.prefix.text kept.row ≡ true = (bytes_eq-Decides q.prefix.text p.prefix.text).1 (sym text) in
    let below : p.next ≤ 10 ^ q.prefix.width = at_most q.prefix.width p.next most in
    found_starts p.prefix.text q.prefix.width 1 m.productions p.next (is_row_of f) kept.row kept.found under
    (number_is (after_productions p.prefix.text (Some 1) m.productions) p.next reach) below

pub kept_starts : (m : Matter)
    → IsValid m
    → (f : Production)
    → KeepsProduction m f
    → StartsAt f.request.prefix.width f.items
kept_starts m valid f keeps =
    let kept = kept-row m f keeps in
    let has = passes (is_row_of f) (has_prefix m.prefixes) m.productions kept.row kept.found valid.productions.prefixes_kept in
    let prefix = finds (is_prefix_of kept.row) m.prefixes has in
    subst (λ (g : Production). StartsAt g.request.prefix.width g.items) kept.same (row_starts m valid f kept prefix.0 prefix.1)

pub kept_counts : (m : Matter) → IsValid m → (f : Production) → KeepsProduction m f → All (CountFits m) f.items
kept_counts m valid f keeps k d l = count_fits m valid (get_or f.items k d) (items-stand m valid f keeps k d l)
