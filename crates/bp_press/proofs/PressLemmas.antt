-- The files of a list, and then the manifest: the whole volume.
use Rattle.std.proofs.Common.{◌≡◌, ℕ, ◌+◌, List, [], ◌∷◌, ◌++◌, ◌<◌, ◌^◌, length, map, flat_map, suc, refl, sym, ap, subst, ◌∙◌, arith, length-append}
use Rattle.std.proofs.lemmas.List.{length-map}
use Rattle.sha2.specs.Sha256.{sha256}
use Rattle.bp_rows.specs.Image.{Image}
use Rattle.bp_outside.specs.Folder.{FolderView, file}
use Rattle.bp_outside.specs.declared.files.FileRow.{FileRow}
use Rattle.bp_outside.specs.declared.refusals.FolderRefusal.{FolderRefusal}
use Rattle.bp_outside.specs.declared.refusals.FolderRefusal.TheVariants.{OutOfMemory}
use Rattle.bp_matter.specs.Matter.{Matter}
use Rattle.bp_matter.specs.declared.rows.Item.{Item}
use Rattle.bp_matter.specs.declared.rows.Production.{Production}
use Rattle.bp_matter.specs.declared.rows.Request.{Request}
use Rattle.bp_press.specs.declared.pressing.Pressed.{Pressed}
use Rattle.bp_press.specs.declared.volume_files.VolumeFile.{VolumeFile}
use Rattle.bp_press.specs.Contents.{part_of}
use Rattle.bp_press.specs.Files.{image_files, text_file}
use Rattle.bp_press.specs.Manifest.{manifest_line, manifest_of}
use Rattle.bp_press.specs.Needs.{CanBePressed}
use Rattle.bp_press.specs.Paths.{manifest_path}
use Rattle.bp_press.specs.Pressed.{last_bytes, pressed_of}
use Rattle.bp_press.specs.Pressing.{files_from, image_total, images_in, placed_at}
use Rattle.bp_press.specs.Volume.{data_files, files_before, files_of, placed_items, volume_of}
use Rattle.bp_press.specs.VolumeFiles.{IsListed, file_of_entry}
use Rattle.bp_press.specs.Writing.{AddsAll, LeavesCut}
use Rattle.bp_press.proofs.WritingLemmas.{cut_none, pair_end, pair_first, pair_second}

-- the files before the manifest
abbrev pub rows_before : Production → Matter → List FileRow
rows_before f m = files_before f (placed_items f m)

-- the file of the manifest
abbrev pub manifest_row : Production → Matter → FileRow
manifest_row f m = file (manifest_path f.request) (manifest_of (rows_before f m))

pub volume-is : (f : Production) (m : Matter) → rows_before f m ++ manifest_row f m ∷ [] ≡ volume_of f m
unfolding volume_of files_of
volume-is f m = refl

-- the same list, lent
pub lent_listed : (f : Production) (m : Matter) (list lent : List VolumeFile) (rows : List FileRow) → lent ≡ list → IsListed f m list rows → IsListed f m lent rows
lent_listed f m list lent rows same h = subst (λ (l : List VolumeFile). IsListed f m l rows) (sym same) h

-- ---- what is left of it

none_before : (xs : List FileRow) (last : FileRow) (folder : FolderView) (r : FolderRefusal) → r ≡ OutOfMemory → LeavesCut folder (xs ++ last ∷ []) r folder
none_before [] last folder r is = cut_none folder last [] r is
none_before (x ∷ xs) last folder r is = cut_none folder x (xs ++ last ∷ []) r is

pub nothing_pressed : (f : Production) (m : Matter) (before : FolderView) (r : FolderRefusal) → r ≡ OutOfMemory → LeavesCut before (volume_of f m) r before
nothing_pressed f m before r is = subst (λ (files : List FileRow). LeavesCut before files r before) (volume-is f m) (none_before (rows_before f m) (manifest_row f m) before r is)

pub files_cut : (f : Production) (m : Matter) (list : List VolumeFile) (before : FolderView) (r : FolderRefusal) (after : FolderView) → IsListed f m list (files_before f (placed_items f m))
    → LeavesCut before (map (file_of_entry f m) list) r after → LeavesCut before (volume_of f m) r after
files_cut f m list before r after h cut =
    subst (λ (files : List FileRow). LeavesCut before files r after) (volume-is f m)
    (pair_first before (rows_before f m) (manifest_row f m ∷ []) r after (subst (λ (files : List FileRow). LeavesCut before files r after) h.files cut))

-- the manifest's bytes, gathered with the files
pub gathered : (f : Production) (m : Matter) (list : List VolumeFile) (none text : List ℕ) → IsListed f m list (files_before f (placed_items f m)) → none ≡ []
    → text ≡ none ++ flat_map manifest_line (map (file_of_entry f m) list) → text ≡ manifest_of (files_before f (placed_items f m))
gathered f m list none text h is grown = grown ∙ ap (λ t. t ++ flat_map manifest_line (map (file_of_entry f m) list)) is ∙ ap (flat_map manifest_line) h.files

pub manifest_cut : (f : Production) (m : Matter) (list : List VolumeFile) (before one : FolderView) (text : List ℕ) (r : FolderRefusal) (after : FolderView) → IsListed f m list (files_before f (placed_items f m))
    → AddsAll before (map (file_of_entry f m) list) one → text ≡ manifest_of (files_before f (placed_items f m)) → LeavesCut one (file (manifest_path f.request) text ∷ []) r after
    → LeavesCut before (volume_of f m) r after
manifest_cut f m list before one text r after h put is cut =
    subst (λ (files : List FileRow). LeavesCut before files r after) (volume-is f m)
    (pair_second before one (rows_before f m) (manifest_row f m ∷ []) r after (subst (λ (files : List FileRow). AddsAll before files one) h.files put)
    (subst (λ (t : List ℕ). LeavesCut one (file (manifest_path f.request) t ∷ []) r after) is cut))

pub volume_end : (f : Production) (m : Matter) (list : List VolumeFile) (before one : FolderView) (text : List ℕ) (after : FolderView) → IsListed f m list (files_before f (placed_items f m))
    → AddsAll before (map (file_of_entry f m) list) one → text ≡ manifest_of (files_before f (placed_items f m)) → AddsAll one (file (manifest_path f.request) text ∷ []) after
    → AddsAll before (volume_of f m) after
volume_end f m list before one text after h put is last =
    subst (λ (files : List FileRow). AddsAll before files after) (volume-is f m)
    (pair_end before one after (rows_before f m) (manifest_row f m ∷ []) (subst (λ (files : List FileRow). AddsAll before files one) h.files put)
    (subst (λ (t : List ℕ). AddsAll one (file (manifest_path f.request) t ∷ []) after) is last))

-- ---- how many files there are

length-image_files : (q : Request) (place number : ℕ) (images : List Image) → length (image_files q place number images) ≡ length images
length-image_files q place number [] = refl
length-image_files q place number (image ∷ images) = ap suc (length-image_files q (place + 1) (number + 1) images)

length-files : (f : Production) (m : Matter) (place : ℕ) (items : List Item) → length (files_from f m place items) ≡ image_total f m items + length items
length-files f m place [] = refl
length-files f m place (i ∷ items) =
    let own : List FileRow = images_in f.request (placed_at f m i place) in
    let rest : List FileRow = files_from f m (place + length (part_of f m i).content.images) items in
    omega (
      arith,
      length-append (own ++ text_file f.request (placed_at f m i place) ∷ []) rest,
      length-append own (text_file f.request (placed_at f m i place) ∷ []),
      length-image_files f.request place i.span.first (part_of f m i).content.images,
      length-files f m (place + length (part_of f m i).content.images) items,
    )

length-before : (f : Production) (m : Matter) → length (rows_before f m) ≡ image_total f m f.items + length f.items + 3
length-before f m = omega (arith, length-append (files_from f m 0 f.items) (data_files f (placed_items f m)), length-files f m 0 f.items)

length-list : (f : Production) (m : Matter) (list : List VolumeFile) → IsListed f m list (files_before f (placed_items f m)) → length list ≡ length (rows_before f m)
length-list f m list h = sym (length-map list (file_of_entry f m)) ∙ ap length h.files

-- there are some
pub some_listed : (f : Production) (m : Matter) (list : List VolumeFile) → IsListed f m list (files_before f (placed_items f m)) → 0 < length list
some_listed f m list h = omega (arith, length-list f m list h, length-before f m)

-- the files can be counted in 32 bits
pub few_files : (f : Production) (m : Matter) (list : List VolumeFile) → CanBePressed f m → IsListed f m list (files_before f (placed_items f m)) → length list + 1 < 2 ^ 32
few_files f m list fit h = omega (arith, fit.files, length-list f m list h, length-before f m)

-- and so can those with the manifest, which is one of them
pub volume_count : (f : Production) (m : Matter) → CanBePressed f m → (0 < length (volume_of f m)) × (length (volume_of f m) < 2 ^ 32)
volume_count f m fit =
    let long : length (volume_of f m) ≡ length (rows_before f m) + 1 = sym (ap length (volume-is f m)) ∙ length-append (rows_before f m) (manifest_row f m ∷ []) in
    (omega (arith, long), omega (arith, long, fit.files, length-before f m))

pub last_after : (files : List FileRow) (row : FileRow) → last_bytes (files ++ row ∷ []) ≡ row.bytes
last_after [] row = refl
last_after (x ∷ []) row = refl
last_after (x ∷ y ∷ files) row = last_after (y ∷ files) row

told : ℕ → List ℕ → Pressed
told files manifest = record { files = files; manifest = manifest }

volume-length : (f : Production) (m : Matter) (list : List VolumeFile) → IsListed f m list (files_before f (placed_items f m)) → length list + 1 ≡ length (volume_of f m)
volume-length f m list h = omega (arith, length-list f m list h, length-append (rows_before f m) (manifest_row f m ∷ [])) ∙ ap length (volume-is f m)

volume-last : (f : Production) (m : Matter) → manifest_of (rows_before f m) ≡ last_bytes (volume_of f m)
volume-last f m = sym (last_after (rows_before f m) (manifest_row f m)) ∙ ap last_bytes (volume-is f m)

pub told-is : (f : Production) (m : Matter) (list : List VolumeFile) (files : ℕ) (text digest : List ℕ) → IsListed f m list (files_before f (placed_items f m)) → files ≡ length list + 1
    → text ≡ manifest_of (files_before f (placed_items f m)) → digest ≡ sha256 text → record { files = files; manifest = digest } ≡ pressed_of (volume_of f m)
unfolding told
told-is f m list files text digest h many is made =
    ap (λ n. told n digest) (many ∙ volume-length f m list h) ∙ ap (told (length (volume_of f m))) (made ∙ ap sha256 (is ∙ volume-last f m))
