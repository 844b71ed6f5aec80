-- What a replacement leaves as it was.
use Rattle.std.proofs.Common.{◌≡◌, ℕ, zero, suc, ◌+◌, Bool, true, false, cond, not, List, [], ◌∷◌, ◌++◌, length, map, flat_map, get_or, All, Option, Some, None, refl, sym, ap, ap₂, ◌∙◌, arith}
use Rattle.std.specs.Prelude.{◌==◌, encode_utf8_all, if◌then◌else◌}
use Rattle.std.specs.Fmt.{decimal}
use Rattle.std.specs.List.{list_all, range_with_len}
use Rattle.std.proofs.lemmas.Bool.{not-true}
use Rattle.std.proofs.lemmas.List.{map-append}
use Rattle.bp_core.specs.Characters.{reverse_solidus, solidus}
use Rattle.bp_core.specs.declared.review.Basis.{Basis}
use Rattle.bp_bates.specs.declared.spans.Span.{Span}
use Rattle.bp_load.specs.Opt.{opt_text}
use Rattle.bp_load.specs.declared.opt.OptLine.{OptLine}
use Rattle.bp_rows.specs.Image.{Image}
use Rattle.bp_tiff.specs.Tiff.{tiff_of}
use Rattle.bp_tiff.specs.declared.form.Form.TheVariants.{G4}
use Rattle.bp_outside.specs.Folder.{file}
use Rattle.bp_outside.specs.declared.files.FileRow.{FileRow}
use Rattle.bp_matter.specs.Matter.{Matter}
use Rattle.bp_matter.specs.Valid.{IsValid}
use Rattle.bp_matter.specs.declared.rows.Item.{Item}
use Rattle.bp_matter.specs.declared.rows.Production.{Production}
use Rattle.bp_matter.specs.declared.rows.Request.{Request}
use Rattle.bp_freeze.specs.Keeping.{KeepsProduction}
use Rattle.bp_freeze.specs.Log.{label_in}
use Rattle.bp_press.specs.Contents.{Content, content_by, ground_of, part_of, produced_page, slip_sheet}
use Rattle.bp_press.specs.Files.{Placed, image_files, item_files, placed}
use Rattle.bp_press.specs.LoadFiles.{opt_lines}
use Rattle.bp_press.specs.Manifest.{manifest_of}
use Rattle.bp_press.specs.Paths.{image_path, manifest_path, text_path}
use Rattle.bp_press.specs.Volume.{data_files, files_before, files_of, placed_items, volume_of}
use Rattle.bp_press.proofs.KeptItemLemmas.{ItemStands}
use Rattle.bp_press.proofs.PlacedLemmas.{count_is, image_count-part, kept-presses}
use Rattle.bp_claw.specs.Claims.{claim_fits, claim_for, is_named}
use Rattle.bp_claw.specs.Replacement.{renamed, replaced, replaced_by, replaced_item, replacement_of}
use Rattle.bp_claw.specs.Staying.{Standing, StaysInPlace, others_in, standing_of}
use Rattle.bp_claw.specs.declared.notices.Claim.{Claim}
use Rattle.bp_claw.proofs.AgreeLemmas.{unnamed}
use Rattle.bp_claw.proofs.ReplacedLemmas.{ClaimFits, found_fits, numbers_stay, stands_by}

-- ---- where items stand

span_stays : (found : Option Claim) (i : Item) → (replaced_by found i).span ≡ i.span
span_stays None i = refl
span_stays (Some claim) i = refl

images_are : (f : Production) (m : Matter) (i : Item) (stands : ItemStands m i) → length (part_of f m i).content.images ≡ stands.numbers
images_are f m i stands = image_count-part f m i ∙ count_is m i stands (ground_of i.treatment) refl

images_stay : (f g : Production) (m : Matter) (found : Option Claim) (i : Item) → ClaimFits found → ItemStands m i → length (part_of g m (replaced_by found i)).content.images ≡ length (part_of f m i).content.images
images_stay f g m found i fit stands =
    images_are g m (replaced_by found i) (stands_by m found i fit stands) ∙ numbers_stay m found i fit stands ∙ sym (images_are f m i stands)

abbrev standing : ℕ → Span → ℕ → Standing
standing place span images = record { span = span; place = place; images = images }

standings_stay : (f g : Production) (m : Matter) (notice : List Claim) → list_all claim_fits notice ≡ true → (place : ℕ) (items : List Item) → All (ItemStands m) items
    → map standing_of (placed place (map (part_of g m) (map (replaced_item notice) items))) ≡ map standing_of (placed place (map (part_of f m) items))
standings_stay f g m notice fit place [] stand = refl
standings_stay f g m notice fit place (i ∷ items) stand =
    let found : Option Claim = claim_for notice i.doc.0 in
    let many = images_stay f g m found i (found_fits notice fit i.doc.0) (stand 0 i (omega arith)) in
    ap₂ (λ (s : Standing) (others : List Standing). s ∷ others)
    (ap₂ (standing place) (span_stays found i) many)
    (ap (λ n. map standing_of (placed (place + n) (map (part_of g m) (map (replaced_item notice) items)))) many
    ∙ standings_stay f g m notice fit (place + length (part_of f m i).content.images) items (λ k d l. stand (suc k) d (omega arith)))

-- ---- paths

abbrev path_of : FileRow → List ℕ
path_of row = row.path

-- the paths of images that follow one another
abbrev paths_from : Request → ℕ → ℕ → ℕ → List (List ℕ)
paths_from q place number zero = []
paths_from q place number (suc n) = image_path solidus q place number ∷ paths_from q (place + 1) (number + 1) n

image_paths : (q : Request) (place number : ℕ) (images : List Image) → map path_of (image_files q place number images) ≡ paths_from q place number (length images)
image_paths q place number [] = refl
image_paths q place number (image ∷ images) = ap (λ others. image_path solidus q place number ∷ others) (image_paths q (place + 1) (number + 1) images)

-- those of an item
abbrev item_paths : Request → Standing → List (List ℕ)
item_paths q s = paths_from q s.place s.span.first s.images ++ text_path solidus q s.place s.span.first ∷ []

paths_of_item : (q : Request) (p : Placed) → map path_of (item_files q p) ≡ item_paths q (standing_of p)
paths_of_item q p =
    map-append path_of (image_files q p.place p.item.span.first p.content.images) _
    ∙ ap (λ paths. paths ++ text_path solidus q p.place p.item.span.first ∷ []) (image_paths q p.place p.item.span.first p.content.images)

paths_of_items : (q : Request) (ps : List Placed) → map path_of (flat_map (item_files q) ps) ≡ flat_map (item_paths q) (map standing_of ps)
paths_of_items q [] = refl
paths_of_items q (p ∷ ps) =
    map-append path_of (item_files q p) (flat_map (item_files q) ps) ∙ ap₂ (λ xs ys. xs ++ ys) (paths_of_item q p) (paths_of_items q ps)

-- those of a volume
abbrev volume_paths : Production → List Standing → List (List ℕ)
volume_paths f standings =
    (flat_map (item_paths f.request) standings ++ map path_of (data_files f [])) ++ manifest_path f.request ∷ []

paths_of_volume : (f : Production) (m : Matter) → map path_of (volume_of f m) ≡ volume_paths f (map standing_of (placed_items f m))
unfolding volume_of files_of
paths_of_volume f m =
    let rows = placed_items f m in
    map-append path_of (files_before f rows) (file (manifest_path f.request) (manifest_of (files_before f rows)) ∷ [])
    ∙ ap (λ paths. paths ++ manifest_path f.request ∷ [])
    (map-append path_of (flat_map (item_files f.request) rows) (data_files f rows)
    ∙ ap (λ paths. paths ++ map path_of (data_files f [])) (paths_of_items f.request rows))

-- ---- the OPT

abbrev line_at : Request → Standing → ℕ → OptLine
line_at q s k = record {
  image = label_in q.prefix (s.span.first + k);
  volume = q.volume;
  path = image_path reverse_solidus q (s.place + k) (s.span.first + k);
  doc_break = k == 0;
  folder_break = false;
  box_break = false;
  pages = if k == 0 then decimal s.images else [];
}

abbrev lines_at : Request → Standing → List OptLine
lines_at q s = map (line_at q s) (range_with_len 0 s.images)

lines_stand : (q : Request) (ps : List Placed) → flat_map (opt_lines q) ps ≡ flat_map (lines_at q) (map standing_of ps)
lines_stand q [] = refl
lines_stand q (p ∷ ps) = ap (λ lines. opt_lines q p ++ lines) (lines_stand q ps)

-- ---- what is shown of the others

content_after : (f : Production) (notice : List Claim) (volume : List ℕ) (m : Matter) (i : Item) (ground : Option Basis) → content_by (replaced f notice volume) m i ground ≡ content_by f m i ground
unfolding produced_page slip_sheet
content_after f notice volume m i None = refl
content_after f notice volume m i (Some basis) = refl

others_stay : (f : Production) (notice : List Claim) (volume : List ℕ) (m : Matter) (i : Item) → is_named notice i.doc.0 ≡ false
    → (part_of (replaced f notice volume) m (replaced_item notice i)).content ≡ (part_of f m i).content
others_stay f notice volume m i none =
    ap (λ (found : Option Claim). (part_of (replaced f notice volume) m (replaced_by found i)).content) (unnamed notice i.doc.0 none)
    ∙ content_after f notice volume m i (ground_of i.treatment)

-- ---- the files of the others

doc_stays : (found : Option Claim) (i : Item) → (replaced_by found i).doc.0 ≡ i.doc.0
doc_stays None i = refl
doc_stays (Some claim) i = refl

-- one more of two lists that are picked alike
picked : (b c : Bool) (p q : Placed) (ps qs : List Placed) → b ≡ c → (c ≡ true → p ≡ q) → ps ≡ qs → cond b (p ∷ ps) ps ≡ cond c (q ∷ qs) qs
picked b true p q ps qs same head rest = ap (λ (t : Bool). cond t (p ∷ ps) ps) same ∙ ap₂ (λ (x : Placed) (xs : List Placed). x ∷ xs) (head refl) rest
picked b false p q ps qs same head rest = ap (λ (t : Bool). cond t (p ∷ ps) ps) same ∙ rest

abbrev placed_at : ℕ → Item → Content → Placed
placed_at place item content = record { place = place; item = item; content = content }

others_placed : (f : Production) (volume : List ℕ) (m : Matter) (notice : List Claim) → list_all claim_fits notice ≡ true → (place : ℕ) (items : List Item) → All (ItemStands m) items
    → others_in notice (placed place (map (part_of (replaced f notice volume) m) (map (replaced_item notice) items))) ≡ others_in notice (placed place (map (part_of f m) items))
others_placed f volume m notice fit place [] stand = refl
others_placed f volume m notice fit place (i ∷ items) stand =
    let g = replaced f notice volume in
    let found : Option Claim = claim_for notice i.doc.0 in
    let many = images_stay f g m found i (found_fits notice fit i.doc.0) (stand 0 i (omega arith)) in
    let after = placed (place + length (part_of g m (replaced_by found i)).content.images) (map (part_of g m) (map (replaced_item notice) items)) in
    let before = placed (place + length (part_of f m i).content.images) (map (part_of f m) items) in
    let rest : others_in notice after ≡ others_in notice before =
    ap (λ n. others_in notice (placed (place + n) (map (part_of g m) (map (replaced_item notice) items)))) many
    ∙ others_placed f volume m notice fit (place + length (part_of f m i).content.images) items (λ k d l. stand (suc k) d (omega arith)) in
    picked (not (is_named notice (replaced_by found i).doc.0)) (not (is_named notice i.doc.0))
    (placed_at place (replaced_by found i) (part_of g m (replaced_by found i)).content) (placed_at place i (part_of f m i).content)
    (others_in notice after) (others_in notice before)
    (ap (λ (d : ℕ). not (is_named notice d)) (doc_stays found i))
    (λ shown.
    let none : is_named notice i.doc.0 ≡ false = not-true (is_named notice i.doc.0) shown in
    ap₂ (placed_at place) (ap (λ (o : Option Claim). replaced_by o i) (unnamed notice i.doc.0 none)) (others_stay f notice volume m i none))
    rest

abbrev bytes_at : FileRow → List ℕ
bytes_at row = row.bytes

-- the bytes of images don't hang on paths
image_bytes : (q r : Request) (place number : ℕ) (images : List Image) → map bytes_at (image_files q place number images) ≡ map bytes_at (image_files r place number images)
image_bytes q r place number [] = refl
image_bytes q r place number (image ∷ images) = ap (λ (others : List (List ℕ)). tiff_of G4 image ∷ others) (image_bytes q r (place + 1) (number + 1) images)

item_bytes : (q r : Request) (p : Placed) → map bytes_at (item_files q p) ≡ map bytes_at (item_files r p)
item_bytes q r p =
    map-append bytes_at (image_files q p.place p.item.span.first p.content.images) _
    ∙ ap (λ (xs : List (List ℕ)). xs ++ encode_utf8_all p.content.text ∷ []) (image_bytes q r p.place p.item.span.first p.content.images)
    ∙ sym (map-append bytes_at (image_files r p.place p.item.span.first p.content.images) _)

bytes_of_items : (q r : Request) (ps : List Placed) → map bytes_at (flat_map (item_files q) ps) ≡ map bytes_at (flat_map (item_files r) ps)
bytes_of_items q r [] = refl
bytes_of_items q r (p ∷ ps) =
    map-append bytes_at (item_files q p) (flat_map (item_files q) ps)
    ∙ ap₂ (λ (xs ys : List (List ℕ)). xs ++ ys) (item_bytes q r p) (bytes_of_items q r ps)
    ∙ sym (map-append bytes_at (item_files r p) (flat_map (item_files r) ps))

-- ---- all of it

pub replacement-stays : (m : Matter) → IsValid m → (f : Production) → KeepsProduction m f → (notice : List Claim) → list_all claim_fits notice ≡ true → (volume : List ℕ) → StaysInPlace f notice volume m
unfolding replacement_of
replacement-stays m valid f kept notice fit volume =
    let r = (renamed f volume).request in
    let stand = (kept-presses m valid f kept).stand in
    let items = standings_stay f (replaced f notice volume) m notice fit 0 f.items stand in
    let same = standings_stay (renamed f volume) (replaced f notice volume) m notice fit 0 f.items stand in
    let after = placed_items (replaced f notice volume) m in
    let before = placed_items (renamed f volume) m in
    record {
      items = items;
      paths = paths_of_volume (replaced f notice volume) m ∙ ap (volume_paths (renamed f volume)) same ∙ sym (paths_of_volume (renamed f volume) m);
      opt = ap opt_text (lines_stand r after ∙ ap (flat_map (lines_at r)) same ∙ sym (lines_stand r before));
      others = λ k d l none. others_stay f notice volume m (get_or f.items k d) none;
      taken =
          bytes_of_items r f.request (others_in notice after)
          ∙ ap (λ (ps : List Placed). map bytes_at (flat_map (item_files f.request) ps)) (others_placed f volume m notice fit 0 f.items stand);
    }
