-- The image files of a volume are read as what they were made of.
use Rattle.std.proofs.Common.{◌≡◌, ℕ, zero, suc, ◌+◌, ◌-◌, ◌≤◌, ◌<◌, ◌||◌, List, [], ◌∷◌, ◌++◌, length, map, flat_map, get_or, All, Option, Some, None, refl, ap, subst, sym, ◌∙◌, arith, append_assoc}
use Rattle.std.specs.Prelude.{◌↔◌, IsTrue}
use Rattle.std.specs.List.{range_with_len}
use Rattle.bp_core.specs.Characters.{solidus}
use Rattle.bp_core.specs.declared.stamps.Ink.{Ink}
use Rattle.bp_core.specs.declared.stamps.Stamp.{Stamp}
use Rattle.bp_core.specs.declared.review.Basis.{Basis}
use Rattle.bp_rows.specs.Image.{FitsRes, Image, IsPage, pixel, white_image}
use Rattle.bp_rows.proofs.GridLemmas.{grid_of_is_grid}
use Rattle.bp_burn.specs.Band.{band_texts, banded, produced_of, slip_of, slip_resolution, slip_text}
use Rattle.bp_burn.specs.Drawn.{is_drawn}
use Rattle.bp_burn.specs.Ink.{inked}
use Rattle.bp_burn.specs.Covered.{covered}
use Rattle.bp_rows.specs.Limits.{sides_are_allowed}
use Rattle.bp_rows.specs.declared.resolution.Unit.TheVariants.{Inch}
use Rattle.bp_burn.proofs.BandLemmas.{band_fits}
use Rattle.bp_tiff.specs.Read.{TiffReads}
use Rattle.bp_tiff.specs.Tiff.{tiff_fields, tiff_of}
use Rattle.bp_tiff.specs.declared.fields.Fields.{Fields}
use Rattle.bp_tiff.specs.declared.form.Form.{Form}
use Rattle.bp_tiff.specs.declared.form.Form.TheVariants.{G4}
use Rattle.bp_outside.specs.Folder.{file}
use Rattle.bp_outside.specs.declared.files.FileRow.{FileRow}
use Rattle.bp_matter.specs.Images.{in_frame}
use Rattle.bp_matter.specs.declared.kept_page.Frame.{Frame}
use Rattle.bp_matter.specs.Matter.{Matter}
use Rattle.bp_matter.specs.Valid.{IsValid}
use Rattle.bp_matter.specs.declared.rows.Item.{Item}
use Rattle.bp_matter.specs.declared.rows.Production.{Production}
use Rattle.bp_matter.specs.declared.rows.Request.{Request}
use Rattle.bp_freeze.specs.Keeping.{KeepsProduction}
use Rattle.bp_freeze.specs.Log.{label_in}
use Rattle.bp_freeze.specs.Seeing.{page_count}
use Rattle.bp_press.specs.Contents.{Content, content_by, ground_of, page_image, label_count, pages_of, part_of, produced_page, slip_sheet, slip_sheets, stamps_on}
use Rattle.bp_press.specs.Files.{Placed, image_files, item_files, placed, text_file}
use Rattle.bp_press.specs.Paths.{image_path, manifest_path}
use Rattle.bp_press.specs.Manifest.{manifest_of}
use Rattle.bp_press.specs.ReadBack.{HoldsImages, HoldsItem, HoldsPage, IsReadBack}
use Rattle.bp_press.specs.Volume.{data_files, files_before, files_of, placed_items, volume_of}
use Rattle.bp_press.proofs.KeptPageLemmas.{IsScan, pages-there}

-- what bp_tiff says of the file of a page
abbrev pub ReadLaw : Type 0
ReadLaw = (form : Form) (p q : Image) → IsPage p → TiffReads (tiff_of form p) q ↔ (q ≡ p)

-- the file of a page is read as this page and as no other
abbrev CanBeRead : Image → Type 0
CanBeRead page = (p : Image) → TiffReads (tiff_of G4 page) p ↔ (p ≡ page)

-- ---- pages that go out

abbrev paper : Image
paper = white_image 1700 2200 slip_resolution slip_resolution Inch

pub banded_is_page : (p : Image) (label designation : List ℕ) → IsTrue (sides_are_allowed p.width (p.height + 32)) → FitsRes p.xres → FitsRes p.yres → IsPage (banded p label designation)
banded_is_page p label designation sides xres yres = record {
  sides = sides;
  xres = xres;
  yres = yres;
  grid = grid_of_is_grid p.width (p.height + 32) (λ r c. band_texts p.width p.height label designation r c || pixel p r c);
}

pub produced_is_page : (ink : Ink) (p : Image) (stamps : List Stamp) (label designation : List ℕ) → IsScan p → IsPage (produced_of ink p stamps label designation)
produced_is_page ink p stamps label designation scan = banded_is_page (covered ink p stamps) label designation (band_fits p.width p.height scan.sides) scan.page.xres scan.page.yres

-- what its file says beside the pixels, from the frame of the page
pub banded_fields : (ink : Ink) (p : Image) (frame : Frame) (stamps : List Stamp) (label designation : List ℕ) → p ≡ in_frame frame p.rows
    → tiff_fields (produced_of ink p stamps label designation)
    ≡ record { width = frame.width; height = frame.height + 32; xres = frame.xres; yres = frame.yres; unit = frame.unit }
banded_fields ink p frame stamps label designation is =
    let below : Image → Fields = λ q. record { width = q.width; height = q.height + 32; xres = q.xres; yres = q.yres; unit = q.unit } in
    ap below is

pub slip_is_page : (basis : Basis) (label designation : List ℕ) → IsPage (slip_of basis label designation)
slip_is_page basis label designation =
    banded_is_page (inked paper (is_drawn (slip_text basis) 1000 200 0)) label designation refl (record { num = omega arith; den = omega arith }) (record { num = omega arith; den = omega arith })

page_is_read : ReadLaw → (f : Production) (m : Matter) (i : Item) (page : ℕ) → IsScan (page_image m i.doc.0 page) → CanBeRead (produced_page f m i page)
unfolding produced_page
page_is_read law f m i page scan p =
    law G4 (produced_page f m i page) p
    (produced_is_page f.ink (page_image m i.doc.0 page) (stamps_on i.boxes page) (label_in f.request.prefix (i.span.first + page - 1)) i.designation scan)

slip_is_read : ReadLaw → (q : Request) (i : Item) (basis : Basis) (k : ℕ) → CanBeRead (slip_sheet q i basis k)
unfolding slip_sheet
slip_is_read law q i basis k p =
    law G4 (slip_sheet q i basis k) p (slip_is_page basis (label_in q.prefix (i.span.first + k)) i.designation)

-- ---- files among files

holds_first : (path : List ℕ) (page : Image) (files : List FileRow) → CanBeRead page → HoldsPage (file path (tiff_of G4 page) ∷ files) path page
holds_first path page files reads = record { before = []; bytes = tiff_of G4 page; after = files; there = refl; reads = reads }

holds_left : (xs ys : List FileRow) (path : List ℕ) (page : Image) → HoldsPage xs path page → HoldsPage (xs ++ ys) path page
holds_left xs ys path page h = record {
  before = h.before;
  bytes = h.bytes;
  after = h.after ++ ys;
  there = ap (λ files. files ++ ys) h.there ∙ append_assoc h.before (file path h.bytes ∷ h.after) ys;
  reads = h.reads;
}

holds_right : (xs ys : List FileRow) (path : List ℕ) (page : Image) → HoldsPage ys path page → HoldsPage (xs ++ ys) path page
holds_right xs ys path page h = record {
  before = xs ++ h.before;
  bytes = h.bytes;
  after = h.after;
  there = ap (λ files. xs ++ files) h.there ∙ sym (append_assoc xs h.before (file path h.bytes ∷ h.after));
  reads = h.reads;
}

holds_among : {T : Type 0} (f : T → List FileRow) (rows : List T) (k : ℕ) (d : T) (path : List ℕ) (page : Image) → k < length rows → HoldsPage (f (get_or rows k d)) path page → HoldsPage (flat_map f rows) path page
holds_among f [] k d path page l h = absurd (omega arith)
holds_among f (row ∷ rows) zero d path page l h = holds_left (f row) (flat_map f rows) path page h
holds_among f (row ∷ rows) (suc k) d path page l h = holds_right (f row) (flat_map f rows) path page (holds_among f rows k d path page (omega arith) h)

-- ---- the images of an item

at_next : (q : Request) (files : List FileRow) (place number k : ℕ) (page : Image) → HoldsPage files (image_path solidus q ((place + 1) + k) ((number + 1) + k)) page → HoldsPage files (image_path solidus q (place + suc k) (number + suc k)) page
at_next q files place number k page h =
    let there : (place + 1) + k ≡ place + suc k = omega arith in
    let said : (number + 1) + k ≡ number + suc k = omega arith in
    subst (λ n. HoldsPage files (image_path solidus q (place + suc k) n) page) said
    (subst (λ p. HoldsPage files (image_path solidus q p ((number + 1) + k)) page) there h)

-- the image of each of so many pages, from one on
at_first : (q : Request) (f : ℕ → Image) (files : List FileRow) (first place number : ℕ) → CanBeRead (f (first + 0))
    → HoldsPage (file (image_path solidus q place number) (tiff_of G4 (f first)) ∷ files) (image_path solidus q (place + 0) (number + 0)) (f (first + 0))
at_first q f files first place number reads =
    let none : (n : ℕ) → n + 0 ≡ n = λ n. omega arith in
    rw (none first, none place, none number) (holds_first (image_path solidus q place number) (f first) files (rw (sym (none first)) reads))

holds_page : (q : Request) (f : ℕ → Image) (n first k place number : ℕ) → k < n → CanBeRead (f (first + k))
    → HoldsPage (image_files q place number (map f (range_with_len first n))) (image_path solidus q (place + k) (number + k)) (f (first + k))
holds_page q f zero first k place number l reads = absurd (omega arith)
holds_page q f (suc n) first zero place number l reads =
    at_first q f (image_files q (place + 1) (number + 1) (map f (range_with_len (first + 1) n))) first place number reads
holds_page q f (suc n) first (suc k) place number l reads =
    let at : (first + 1) + k ≡ first + suc k = omega arith in
    let rest : HoldsPage (image_files q (place + 1) (number + 1) (map f (range_with_len (first + 1) n))) (image_path solidus q ((place + 1) + k) ((number + 1) + k)) (f (first + suc k)) =
    subst (λ j. HoldsPage (image_files q (place + 1) (number + 1) (map f (range_with_len (first + 1) n))) (image_path solidus q ((place + 1) + k) ((number + 1) + k)) (f j)) at
    (holds_page q f n (first + 1) k (place + 1) (number + 1) (omega arith) (subst (λ j. CanBeRead (f j)) (sym at) reads)) in
    holds_right (file (image_path solidus q place number) (tiff_of G4 (f first)) ∷ []) (image_files q (place + 1) (number + 1) (map f (range_with_len (first + 1) n)))
    (image_path solidus q (place + suc k) (number + suc k)) (f (first + suc k))
    (at_next q (image_files q (place + 1) (number + 1) (map f (range_with_len (first + 1) n))) place number k (f (first + suc k)) rest)

abbrev placed_at : ℕ → Item → Content → Placed
placed_at place i content = record { place = place; item = i; content = content }

-- each page of the item can be read
abbrev PagesRead : Production → Matter → Item → Type 0
PagesRead f m i = (page : ℕ) → 1 ≤ page → page ≤ page_count m i.doc.0 → CanBeRead (produced_page f m i page)

holds_images : ReadLaw → (f : Production) (m : Matter) (i : Item) (place : ℕ) (ground : Option Basis) → PagesRead f m i
    → HoldsImages (item_files f.request (placed_at place i (content_by f m i ground))) f m (placed_at place i (content_by f m i ground)) ground
holds_images law f m i place (Some basis) read = λ k less.
    let q = f.request in
    let files : List FileRow = image_files q place i.span.first (slip_sheets q i basis) in
    let at : 0 + k ≡ k = omega arith in
    let held = holds_page q (slip_sheet q i basis) (label_count i) 0 k place i.span.first less (slip_is_read law q i basis (0 + k)) in
    holds_left files (text_file q (placed_at place i (content_by f m i (Some basis))) ∷ []) (image_path solidus q (place + k) (i.span.first + k)) (slip_sheet q i basis k)
    (subst (λ j. HoldsPage files (image_path solidus q (place + k) (i.span.first + k)) (slip_sheet q i basis j)) at held)
holds_images law f m i place None read = λ page low high.
    let page_at : ℕ → Image = produced_page f m i in
    let at : 1 + (page - 1) ≡ page = omega arith in
    let there : place + (page - 1) ≡ place + page - 1 = omega arith in
    let said : i.span.first + (page - 1) ≡ i.span.first + page - 1 = omega arith in
    let files : List FileRow = image_files f.request place i.span.first (map page_at (pages_of m i.doc.0)) in
    let held = holds_page f.request page_at (page_count m i.doc.0) 1 (page - 1) place i.span.first (omega arith) (subst (λ j. CanBeRead (page_at j)) (sym at) (read page low high)) in
    let one : HoldsPage files (image_path solidus f.request (place + (page - 1)) (i.span.first + (page - 1))) (page_at page) = subst (λ j. HoldsPage files (image_path solidus f.request (place + (page - 1)) (i.span.first + (page - 1))) (page_at j)) at held in
    let two : HoldsPage files (image_path solidus f.request (place + page - 1) (i.span.first + (page - 1))) (page_at page) = subst (λ j. HoldsPage files (image_path solidus f.request j (i.span.first + (page - 1))) (page_at page)) there one in
    holds_left files (text_file f.request (placed_at place i (content_by f m i None)) ∷ []) (image_path solidus f.request (place + page - 1) (i.span.first + page - 1)) (page_at page)
    (subst (λ j. HoldsPage files (image_path solidus f.request (place + page - 1) j) (page_at page)) said two)

-- ---- the items

holds_items : ReadLaw → (f : Production) (m : Matter) (items : List Item) (start : ℕ) → All (PagesRead f m) items
    → All (λ p. HoldsItem (item_files f.request p) f m p) (placed start (map (part_of f m) items))
holds_items law f m [] start read k d l = absurd (omega arith)
holds_items law f m (i ∷ items) start read zero d l = holds_images law f m i start (ground_of i.treatment) (read 0 i (omega arith))
holds_items law f m (i ∷ items) start read (suc k) d l =
    holds_items law f m items (start + length (content_by f m i (ground_of i.treatment)).images) (λ j e s. read (suc j) e (omega arith)) k d (omega arith)

-- what some files hold, more files hold
wider : (f : Production) (m : Matter) (p : Placed) (some all : List FileRow) (ground : Option Basis) → ((path : List ℕ) (page : Image) → HoldsPage some path page → HoldsPage all path page)
    → HoldsImages some f m p ground → HoldsImages all f m p ground
wider f m p some all (Some basis) wide h = λ k less. wide (image_path solidus f.request (p.place + k) (p.item.span.first + k)) (slip_sheet f.request p.item basis k) (h k less)
wider f m p some all None wide h = λ page low high. wide (image_path solidus f.request (p.place + page - 1) (p.item.span.first + page - 1)) (produced_page f m p.item page) (h page low high)

in_volume : (f : Production) (m : Matter) (path : List ℕ) (page : Image) → HoldsPage (flat_map (item_files f.request) (placed_items f m)) path page → HoldsPage (volume_of f m) path page
unfolding volume_of files_of
in_volume f m path page h =
    holds_left (files_before f (placed_items f m)) (file (manifest_path f.request) (manifest_of (files_before f (placed_items f m))) ∷ []) path page
    (holds_left (flat_map (item_files f.request) (placed_items f m)) (data_files f (placed_items f m)) path page h)

pub read-back : ReadLaw → (f : Production) (m : Matter) → IsValid m → KeepsProduction m f → IsReadBack f m
read-back law f m valid kept k d l =
    let q : Request = f.request in
    let p : Placed = get_or (placed_items f m) k d in
    wider f m p (item_files q p) (volume_of f m) (ground_of p.item.treatment)
    (λ path page h. in_volume f m path page (holds_among (item_files q) (placed_items f m) k d path page l h))
    (holds_items law f m f.items 0 (λ j e s page low high. page_is_read law f m (get_or f.items j e) page (pages-there m valid f kept j e s page low high)) k d l)
