-- What a volume shows of each item is the same in two matters that show the same of the production.
use Rattle.std.proofs.Common.{◌≡◌, ℕ, zero, suc, ◌+◌, ◌-◌, ◌≤◌, ◌<◌, ◌==◌, filter, false, sym, subst, List, [], ◌∷◌, ◌++◌, map, flat_map, get_or, All, Option, Some, None, unwrap_or, refl, ap, ap₂, ◌∙◌, arith}
use Rattle.std.specs.List.{range_with_len}
use Rattle.bp_core.specs.declared.review.Basis.{Basis}
use Rattle.bp_core.specs.declared.review.Treatment.{Treatment}
use Rattle.bp_core.specs.declared.review.Treatment.TheVariants.{Produce, Redact, Withhold}
use Rattle.bp_core.specs.declared.stamps.Ink.{Ink}
use Rattle.bp_core.specs.declared.stamps.Stamp.{Stamp}
use Rattle.bp_rows.specs.Image.{Image}
use Rattle.bp_burn.specs.Band.{banded}
use Rattle.bp_burn.specs.Covered.{covered, rects_of}
use Rattle.bp_text.specs.PageText.{page_text_of}
use Rattle.bp_text.specs.declared.words.Word.{Word}
use Rattle.bp_matter.specs.LookUps.{of_row, page_with}
use Rattle.bp_matter.specs.Matter.{Matter}
use Rattle.bp_matter.specs.Treatments.{is_withheld}
use Rattle.bp_matter.specs.declared.rows.BoxRow.{BoxRow}
use Rattle.bp_matter.specs.declared.rows.HeldRow.{HeldRow}
use Rattle.bp_matter.specs.declared.rows.Item.{Item}
use Rattle.bp_matter.specs.declared.rows.Production.{Production}
use Rattle.bp_freeze.specs.Agree.{Agree, ItemAgrees, PagesAgree, ValueAgrees, field_number, held_of_number, rects_on, value_of_field}
use Rattle.bp_freeze.specs.Log.{label_in}
use Rattle.bp_freeze.specs.Seeing.{page_count}
use Rattle.bp_freeze.proofs.AlikeLemmas.{map_over_range}
use Rattle.bp_press.specs.Contents.{Content, content_by, ground_of, kept_text, pages_of, part_of, produced_content, produced_page, stamp_of, stamps_on, value_by, value_shown, value_unless}
use Rattle.bp_press.specs.Volume.{files_of, volume_of}
use Rattle.bp_press.proofs.CoveredLemmas.{covered-AgreeOutside}

-- over the members of a list
map_over : {A B : Type 0} (f g : A → B) (xs : List A) → All (λ x. f x ≡ g x) xs → map f xs ≡ map g xs
map_over f g [] h = refl
map_over f g (x ∷ xs) h = ap₂ (λ y ys. y ∷ ys) (h 0 x (omega arith)) (map_over f g xs (λ k d l. h (suc k) d (omega arith)))

-- over the numbers a to a + n - 1
texts_over_range : (f g : ℕ → List ℕ) (a n : ℕ) → ((k : ℕ) → a ≤ k → k < a + n → f k ≡ g k) → flat_map f (range_with_len a n) ≡ flat_map g (range_with_len a n)
texts_over_range f g a zero h = refl
texts_over_range f g a (suc n) h = ap₂ (λ x xs. x ++ xs) (h a (omega arith) (omega arith)) (texts_over_range f g (a + 1) n (λ k low high. h k (omega arith) (omega arith)))

-- ---- pages

same_covered : (ink : Ink) (stamps : List Stamp) (none : Image) (o p : Option Image) → PagesAgree (rects_of stamps) o p → covered ink (unwrap_or o none) stamps ≡ covered ink (unwrap_or p none) stamps
same_covered ink stamps none None None agree = refl
same_covered ink stamps none None (Some q) agree = absurd agree
same_covered ink stamps none (Some p) None agree = absurd agree
same_covered ink stamps none (Some p) (Some q) agree = covered-AgreeOutside ink stamps p q agree

-- the page of an item, if it is there
abbrev image_of : Matter → Item → ℕ → Option Image
image_of m i page = of_row (λ row. row.image) (page_with i.doc.0 page m)

same_rects : (boxes : List BoxRow) → rects_of (map stamp_of boxes) ≡ map (λ box. box.rect) boxes
same_rects [] = refl
same_rects (box ∷ boxes) = ap (λ rects. box.rect ∷ rects) (same_rects boxes)

-- the rectangles of the stamps are those of the boxes
stamped : (boxes : List BoxRow) (page : ℕ) → rects_of (stamps_on boxes page) ≡ rects_on boxes page
stamped boxes page = same_rects (filter (λ box. box.page.0 == page) boxes)

same_page : (f : Production) (m n : Matter) (i : Item) (page : ℕ) → PagesAgree (rects_on i.boxes page) (image_of m i page) (image_of n i page) → produced_page f m i page ≡ produced_page f n i page
unfolding produced_page
same_page f m n i page agree =
    let rects = stamped i.boxes page in
    let agrees = subst (λ rs. PagesAgree rs (image_of m i page) (image_of n i page)) (sym rects) agree in
    ap (λ (p : Image). banded p (label_in f.request.prefix (i.span.first + page - 1)) i.designation)
    (same_covered f.ink (stamps_on i.boxes page) _ (image_of m i page) (image_of n i page) agrees)

same_images : (f : Production) (m n : Matter) (i : Item) → ItemAgrees f m n i → map (produced_page f m i) (pages_of m i.doc.0) ≡ map (produced_page f n i) (pages_of n i.doc.0)
same_images f m n i agree =
    map_over_range (produced_page f m i) (produced_page f n i) 1 (page_count m i.doc.0)
    (λ page low high. same_page f m n i page (agree.pages page low (omega arith)).image)
    ∙ ap (λ count. map (produced_page f n i) (range_with_len 1 count)) agree.counts

-- ---- words

same_text : (f : Production) (m n : Matter) (i : Item) → ItemAgrees f m n i → flat_map (kept_text m i) (pages_of m i.doc.0) ≡ flat_map (kept_text n i) (pages_of n i.doc.0)
same_text f m n i agree =
    texts_over_range (kept_text m i) (kept_text n i) 1 (page_count m i.doc.0)
    (λ page low high. ap (λ (words : Option (List Word)). page_text_of (unwrap_or words [])) (agree.pages page low (omega arith)).words)
    ∙ ap (λ count. flat_map (kept_text n i) (range_with_len 1 count)) agree.counts

-- ---- values

same_unless : (held : Option HeldRow) (o p : Option (List ℕ)) → (held ≡ None → o ≡ p) → value_unless held o ≡ value_unless held p
same_unless (Some held) o p h = refl
same_unless None o p h = ap (λ value. unwrap_or value []) (h refl)

same_by : (m n : Matter) (i : Item) (o : Option ℕ) → ((field : ℕ) → o ≡ Some field → held_of_number i.held field ≡ None → value_of_field m i.doc.0 field ≡ value_of_field n i.doc.0 field) → value_by m i o ≡ value_by n i o
same_by m n i None h = refl
same_by m n i (Some field) h = same_unless (held_of_number i.held field) (value_of_field m i.doc.0 field) (value_of_field n i.doc.0 field) (h field refl)

same_value : (m n : Matter) (i : Item) (name : List ℕ) → field_number m name ≡ field_number n name → ValueAgrees m n i name → value_shown m i name ≡ value_shown n i name
same_value m n i name number agree = same_by m n i (field_number m name) agree ∙ ap (value_by n i) number

same_values : (f : Production) (m n : Matter) (i : Item) → Agree f m n → ItemAgrees f m n i → map (value_shown m i) f.request.fields ≡ map (value_shown n i) f.request.fields
same_values f m n i both agree =
    map_over (value_shown m i) (value_shown n i) f.request.fields
    (λ k d l. same_value m n i (get_or f.request.fields k d) (both.numbers k d l) (agree.values k d l))

-- ---- items

content : List Image → List ℕ → List (List ℕ) → Content
content images text values = record { images = images; text = text; values = values }

same_produced : (f : Production) (m n : Matter) (i : Item) → Agree f m n → ItemAgrees f m n i → produced_content f m i ≡ produced_content f n i
unfolding content
same_produced f m n i both agree =
    let fields : List (List ℕ) = f.request.fields in
    ap (λ images. content images (flat_map (kept_text m i) (pages_of m i.doc.0)) (map (value_shown m i) fields)) (same_images f m n i agree)
    ∙ ap (λ text. content (map (produced_page f n i) (pages_of n i.doc.0)) text (map (value_shown m i) fields)) (same_text f m n i agree)
    ∙ ap (λ values. content (map (produced_page f n i) (pages_of n i.doc.0)) (flat_map (kept_text n i) (pages_of n i.doc.0)) values) (same_values f m n i both agree)

-- of a withheld item nothing is asked, since it shows nothing of the matter
same_content : (f : Production) (m n : Matter) (i : Item) (ground : Option Basis) → (ground ≡ None → produced_content f m i ≡ produced_content f n i) → content_by f m i ground ≡ content_by f n i ground
same_content f m n i (Some basis) h = refl
same_content f m n i None h = h refl

not_withheld : (t : Treatment) → ground_of t ≡ None → is_withheld t ≡ false
not_withheld Produce h = refl
not_withheld Redact h = refl
not_withheld (Withhold basis) h = absurd cc

same_part : (f : Production) (m n : Matter) (i : Item) → Agree f m n → (is_withheld i.treatment ≡ false → ItemAgrees f m n i) → part_of f m i ≡ part_of f n i
same_part f m n i both agrees =
    ap (λ (c : Content). record { item = i; content = c })
    (same_content f m n i (ground_of i.treatment) (λ none. same_produced f m n i both (agrees (not_withheld i.treatment none))))

same_parts : (f : Production) (m n : Matter) → Agree f m n → map (part_of f m) f.items ≡ map (part_of f n) f.items
same_parts f m n both =
    map_over (part_of f m) (part_of f n) f.items
    (λ k d l. same_part f m n (get_or f.items k d) both (both.items k d l))

pub volume-same : (f : Production) (m n : Matter) → Agree f m n → volume_of f m ≡ volume_of f n
unfolding volume_of
volume-same f m n both = ap (files_of f) (same_parts f m n both)
