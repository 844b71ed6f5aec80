-- What writing the files of a production needs is given by a valid matter that keeps it.
use Rattle.std.proofs.Common.{◌≡◌, ℕ, suc, ◌+◌, ◌*◌, ◌^◌, ◌≤◌, ◌<◌, ◌||◌, not, true, List, [], ◌∷◌, length, get_or, All, Option, Some, None, nat_le, is_none, refl, sym, ◌∙◌, arith}
use Rattle.std.specs.List.{list_all}
use Rattle.std.proofs.lemmas.Bool.{and_from, and_parts, leb-true}
use Rattle.std.proofs.lemmas.Bool.Decides.{nat_tests}
use Rattle.std.proofs.lemmas.List.FromFn.{length-map-range_with_len}
use Rattle.std.proofs.lemmas.List.Sums.{list_all-from_AllPass}
use Rattle.std.proofs.Math.Nat.{one-le-pow, pow-le-pow_right}
use Rattle.bp_core.specs.declared.review.Basis.{Basis}
use Rattle.bp_bates.specs.Spans.{largest_of}
use Rattle.bp_burn.specs.Drawn.{has_glyph}
use Rattle.bp_bates.specs.Prefixes.{is_allowed, is_good_prefix}
use Rattle.bp_bates.proofs.PrefixLemmas.{IsGood-from_test}
use Rattle.bp_matter.specs.Matter.{Matter}
use Rattle.bp_matter.specs.Texts.{is_designation_character}
use Rattle.bp_matter.specs.Valid.{IsValid}
use Rattle.bp_matter.specs.Treatments.{is_redact}
use Rattle.bp_matter.specs.ValidItems.{has_marks, is_logged, item_texts_fit, optional_fits}
use Rattle.bp_matter.specs.declared.rows.Item.{Item}
use Rattle.bp_matter.specs.declared.rows.Production.{Production}
use Rattle.bp_freeze.specs.Keeping.{KeepsProduction}
use Rattle.bp_freeze.specs.Log.{CanBeLogged, entry_stands, label_in, span_fits}
use Rattle.bp_freeze.specs.Seeing.{page_count}
use Rattle.bp_press.specs.Contents.{content_by, ground_of, page_image, label_count, part_of, produced_page, slip_sheet}
use Rattle.bp_press.specs.Pressing.{AreLabels, AreSheetsFew, CanAllBePlaced, CanBePlaced, count_by}
use Rattle.bp_press.proofs.CharacterLemmas.{all-wider, glyph-allowed, glyph-designation, label_allowed}
use Rattle.bp_press.proofs.KeptItemLemmas.{ItemStands, KeptNumbers, items-few, items-stand, kept-numbers}
use Rattle.bp_press.proofs.KeptPageLemmas.{IsScan, pages-there}
use Rattle.bp_press.proofs.SpanLemmas.{SpanLies}

-- ---- one item

-- an item has as many images as labels
pub count_is : (m : Matter) (i : Item) (stands : ItemStands m i) (ground : Option Basis) → ground_of i.treatment ≡ ground → count_by m i ground ≡ stands.numbers
count_is m i stands None is = stands.pages ∙ sym (stands.shown is)
count_is m i stands (Some basis) is = omega (arith, stands.span)

-- so many, which is at most the pages of a matter
pub record CountFits (m : Matter) (i : Item) : Type 0 where
  pub some : 1 ≤ count_by m i (ground_of i.treatment)
  pub few : count_by m i (ground_of i.treatment) ≤ 20000
  pub span : i.span.last + 1 ≡ i.span.first + count_by m i (ground_of i.treatment)

pub count_fits : (m : Matter) → IsValid m → (i : Item) → ItemStands m i → CountFits m i
count_fits m valid i stands =
    let is = count_is m i stands (ground_of i.treatment) refl in
    let most = leb-true _ 20000 valid.pages.few in
    record { some = omega (arith, is, stands.some_numbers); few = omega (arith, is, stands.few_numbers, stands.few, most); span = omega (arith, stands.span, is) }

are_labels : (f : Production) → KeptNumbers f → (first count : ℕ) → 1 ≤ first → first + count ≤ largest_of f.request.prefix.width + 1 → AreLabels f.request first count
are_labels f numbers first count from to = record {
  prefix = numbers.good;
  from = from;
  to = to;
  drawn = λ k l.
      all-wider is_allowed has_glyph (label_in f.request.prefix (first + k)) glyph-allowed
      (label_allowed f.request.prefix.text f.request.prefix.width (first + k) numbers.good);
}

-- the scans of an item
abbrev pub AreSound : Matter → Item → Type 0
AreSound m i = (page : ℕ) → 1 ≤ page → page ≤ page_count m i.doc.0 → IsScan (page_image m i.doc.0 page)

-- the sheets of an item can be counted
sheets_few : (m : Matter) (i : Item) (ground : Option Basis) → count_by m i ground ≤ 20000 → i.span.last + 1 < 2 ^ 64 → AreSheetsFew i ground
sheets_few m i None few last = tt
sheets_few m i (Some basis) few last = record { last = last; few = omega (arith, few) }

-- each number of a production is far from the last of 64 bits
numbers_small : (f : Production) (numbers : KeptNumbers f) → numbers.next < 2 ^ 64
numbers_small f numbers =
    let width = f.request.prefix.width in
    let good = IsGood-from_test f.request.prefix.text width numbers.good in
    let one : 1 ≤ 10 ^ width = one-le-pow width 10 (omega arith) in
    let ten : 10 ^ width ≤ 10 ^ 10 = pow-le-pow_right {n = 10} (omega arith) good.narrow in
    omega (arith, numbers.most, one, ten)

-- a number that has a label isn't the last of 64 bits
pub label_small : (prefix : List ℕ) (width number : ℕ) → is_good_prefix prefix width ≡ true → number ≤ largest_of width → number + 1 < 2 ^ 64
label_small prefix width number good most =
    let fits = IsGood-from_test prefix width good in
    let one : 1 ≤ 10 ^ width = one-le-pow width 10 (omega arith) in
    let ten : 10 ^ width ≤ 10 ^ 10 = pow-le-pow_right {n = 10} (omega arith) fits.narrow in
    omega (arith, most, one, ten)

can_be_placed : (m : Matter) → IsValid m → (f : Production) (numbers : KeptNumbers f) (i : Item) → SpanLies 1 numbers.next i → ItemStands m i → AreSound m i → CanBePlaced f.request m i
can_be_placed m valid f numbers i lies stands sound =
    let fits = count_fits m valid i stands in
    record {
      doc = stands.doc;
      there = stands.there;
      labels = are_labels f numbers i.span.first (count_by m i (ground_of i.treatment)) lies.low (omega (arith, fits.span, lies.high, numbers.most));
      some = fits.some;
      sheets = sheets_few m i (ground_of i.treatment) fits.few (omega (arith, lies.high, numbers_small f numbers));
      designation = all-wider is_designation_character has_glyph i.designation glyph-designation (and_parts _ (list_all is_designation_character i.designation) stands.designation).1;
      scans = λ page low high. (sound page low high).sides;
    }

-- ---- all items

images_counted : (f : Production) (m : Matter) (i : Item) (ground : Option Basis) → length (content_by f m i ground).images ≡ count_by m i ground
images_counted f m i None = length-map-range_with_len (produced_page f m i) 1 (page_count m i.doc.0)
images_counted f m i (Some basis) = length-map-range_with_len (slip_sheet f.request i basis) 0 (label_count i)

pub image_count-part : (f : Production) (m : Matter) (i : Item) → length (part_of f m i).content.images ≡ count_by m i (ground_of i.treatment)
image_count-part f m i = images_counted f m i (ground_of i.treatment)

all_placed : (f : Production) (m : Matter) (place : ℕ) (items : List Item) → All (CanBePlaced f.request m) items → All (CountFits m) items → place + 20000 * length items ≤ 20000 * 10000 → CanAllBePlaced f m place items
all_placed f m place [] placed fit few = tt
all_placed f m place (i ∷ items) placed fit few =
    let one = fit 0 i (omega arith) in (
      placed 0 i (omega arith),
      (
        omega arith,
        all_placed f m (place + length (part_of f m i).content.images) items (λ k d l. placed (suc k) d (omega arith)) (λ k d l. fit (suc k) d (omega arith))
            (omega (arith, one.few, image_count-part f m i)),
      ),
    )

-- the items of a production stand in a matter, with their pages, under numbers that lie apart
pub record Presses (m : Matter) (f : Production) : Type 0 where
  pub numbers : KeptNumbers f
  pub stand : All (ItemStands m) f.items
  pub sound : All (AreSound m) f.items
  pub few : length f.items ≤ length m.docs

pub kept-presses : (m : Matter) → IsValid m → (f : Production) → KeepsProduction m f → Presses m f
kept-presses m valid f kept = record {
  numbers = kept-numbers m valid f kept;
  stand = items-stand m valid f kept;
  sound = pages-there m valid f kept;
  few = items-few m valid f kept;
}

pub placed-by : (m : Matter) → IsValid m → (f : Production) → Presses m f → CanAllBePlaced f m 0 f.items
placed-by m valid f presses =
    all_placed f m 0 f.items
    (λ k d l. can_be_placed m valid f presses.numbers (get_or f.items k d) (presses.numbers.lie k d l) (presses.stand k d l) (presses.sound k d l))
    (λ k d l. count_fits m valid (get_or f.items k d) (presses.stand k d l))
    (omega (arith, presses.few, leb-true (length m.docs) 10000 valid.docs.few))

-- ---- the log

span_stands : (f : Production) (numbers : KeptNumbers f) (i : Item) → SpanLies 1 numbers.next i → span_fits f.request.prefix.width i ≡ true
span_stands f numbers i lies =
    let low = lies.low in
    let order = lies.order in
    let high = lies.high in
    let most = numbers.most in
    let a : nat_le 1 i.span.first ≡ true = leb-from (omega arith) in
    and_from _ _ (and_from _ _ (and_from _ _ a (leb-from (omega arith))) (leb-from (omega arith))) (leb-from (omega arith))
  where
    leb-from : {a b : ℕ} → a ≤ b → nat_le a b ≡ true
    leb-from {a = a} {b = b} l = grind (arith, nat_tests)

entry_stands_by : (i : Item) → item_texts_fit i ≡ true → entry_stands i ≡ true
entry_stands_by i fits =
    let outer = and_parts _ (optional_fits i.entry) fits in
    let inner = and_parts (is_redact i.treatment || not (has_marks i)) (not (is_logged i) || not (is_none i.entry)) outer.0 in
    and_from (not (is_logged i) || not (is_none i.entry)) (optional_fits i.entry) inner.1 outer.1

pub logged-by : (m : Matter) (f : Production) → Presses m f → CanBeLogged f
logged-by m f presses = record {
  prefix = presses.numbers.good;
  spans = list_all-from_AllPass (span_fits f.request.prefix.width) f.items (λ k d l. span_stands f presses.numbers (get_or f.items k d) (presses.numbers.lie k d l));
  entries = list_all-from_AllPass entry_stands f.items (λ k d l. entry_stands_by (get_or f.items k d) (presses.stand k d l).texts);
}
