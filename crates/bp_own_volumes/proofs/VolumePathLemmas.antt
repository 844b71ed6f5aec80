-- No two files of a volume have one path, and each path is one of parts that may stand.
use Rattle.std.proofs.Common.{◌≡◌, ◌≢◌, ℕ, ◌+◌, ◌/◌, ◌^◌, ◌<◌, ◌≤◌, false, true, ◌⊎◌, inl, inr, List, [], ◌∷◌, ◌++◌, length, flat_map, codes, refl, sym, subst, arith}
use Rattle.std.specs.List.{AllByRecursion, join_with_byte}
use Rattle.std.specs.Str.{bytes_eq}
use Rattle.std.proofs.lemmas.List.{append_cancel_left}
use Rattle.bp_core.specs.Characters.{solidus}
use Rattle.bp_bates.proofs.LabelLemmas.{length-padded}
use Rattle.bp_outside.specs.Folder.{file}
use Rattle.bp_outside.specs.Memory.{paths_differ}
use Rattle.bp_outside.specs.declared.files.FileRow.{FileRow}
use Rattle.bp_rows.specs.Image.{Image}
use Rattle.bp_tiff.specs.Tiff.{tiff_of}
use Rattle.bp_tiff.specs.declared.form.Form.TheVariants.{G4}
use Rattle.bp_matter.specs.declared.rows.Production.{Production}
use Rattle.bp_matter.specs.declared.rows.Request.{Request}
use Rattle.bp_press.specs.Files.{Placed, image_files, item_files, text_file}
use Rattle.bp_press.specs.Manifest.{manifest_of}
use Rattle.bp_press.specs.Paths.{data_path, folder_of, image_path, manifest_path, text_path}
use Rattle.bp_press.specs.Volume.{dat_file, data_files, files_before, log_file, opt_file, with_manifest}
use Rattle.bp_own_volumes.proofs.ApartLemmas.{IsEnding, IsItemPath, IsNamed, IsPathOf, ended_step, item_parts, label_step, long_step, numbers_differ, second_differs, third_differs, volume_step, wider_path, words_differ}
use Rattle.bp_own_volumes.proofs.EachLemmas.{each_both, each_weaker}
use Rattle.bp_own_volumes.proofs.FoundLemmas.{HasNone, differ_both, differ_more}
use Rattle.bp_own_volumes.proofs.NameLemmas.{folder_plain, volume_plain}
use Rattle.bp_own_volumes.proofs.TurnLemmas.{AreInTurn, total_of}

-- ---- the paths of images and texts

abbrev IsImagePath : Request → ℕ → ℕ → List ℕ → Type 0
IsImagePath q low high path = IsItemPath q (codes "IMAGES") (codes ".TIF") low high path

abbrev IsTextPath : Request → ℕ → ℕ → List ℕ → Type 0
IsTextPath q low high path = IsItemPath q (codes "TEXT") (codes ".TXT") low high path

-- a file of items with labels from a number on and below another
abbrev IsOfItems : Request → ℕ → ℕ → FileRow → Type 0
IsOfItems q low high row = IsImagePath q low high row.path ⊎ IsTextPath q low high row.path

folder_long : (place : ℕ) → IsEnding (folder_of place)
folder_long place = record { plain = folder_plain 4 (place / 1000 + 1); long = omega (arith, length-padded 4 (place / 1000 + 1)) }

ending_tif : IsEnding (codes ".TIF")
ending_tif = record { plain = refl; long = omega arith }

ending_txt : IsEnding (codes ".TXT")
ending_txt = record { plain = refl; long = omega arith }

kind_images : IsEnding (codes "IMAGES")
kind_images = record { plain = refl; long = omega arith }

kind_text : IsEnding (codes "TEXT")
kind_text = record { plain = refl; long = omega arith }

path_of_parts : (q : Request)
    → IsNamed q
    → (kind ending : List ℕ) (place number : ℕ) (path : List ℕ)
    → IsEnding kind
    → IsEnding ending
    → path ≡ join_with_byte solidus (item_parts q kind (folder_of place) ending number)
    → IsPathOf path (item_parts q kind (folder_of place) ending number)
path_of_parts q named kind ending place number path is_kind is_ending is = record {
  some = omega arith;
  steps = (volume_step q named, (long_step kind is_kind, (long_step (folder_of place) (folder_long place), (label_step q number ending named is_ending, tt))));
  path_is = is;
}

pub image_steps : (q : Request)
    → IsNamed q
    → (place number : ℕ)
    → IsPathOf (image_path solidus q place number) (item_parts q (codes "IMAGES") (folder_of place) (codes ".TIF") number)
image_steps q named place number =
    path_of_parts q named (codes "IMAGES") (codes ".TIF") place number (image_path solidus q place number) kind_images ending_tif refl

pub text_steps : (q : Request)
    → IsNamed q
    → (place number : ℕ)
    → IsPathOf (text_path solidus q place number) (item_parts q (codes "TEXT") (folder_of place) (codes ".TXT") number)
text_steps q named place number =
    path_of_parts q named (codes "TEXT") (codes ".TXT") place number (text_path solidus q place number) kind_text ending_txt refl

image_of : (q : Request)
    → IsNamed q
    → (place number high : ℕ)
    → number < high
    → IsImagePath q number high (image_path solidus q place number)
image_of q named place number high less =
    record { folder = folder_of place; number = number; from = omega arith; to = less; is = image_steps q named place number }

text_of : (q : Request)
    → IsNamed q
    → (place number high : ℕ)
    → number < high
    → IsTextPath q number high (text_path solidus q place number)
text_of q named place number high less =
    record { folder = folder_of place; number = number; from = omega arith; to = less; is = text_steps q named place number }

-- ---- the images of an item

images_paths : (q : Request)
    → IsNamed q
    → (place number : ℕ) (images : List Image)
    → AllByRecursion (λ (row : FileRow). IsImagePath q number (number + length images) row.path) (image_files q place number images)
images_paths q named place number [] = tt
images_paths q named place number (image ∷ images) = (
  image_of q named place number (number + length (image ∷ images)) (omega arith),
  each_weaker (λ (row : FileRow). IsImagePath q (number + 1) (number + 1 + length images) row.path)
      (λ (row : FileRow). IsImagePath q number (number + length (image ∷ images)) row.path)
      (λ row is. wider_path q (codes "IMAGES") (codes ".TIF") (number + 1) (number + 1 + length images) number (number + length (image ∷ images)) row.path (omega arith) (omega arith) is)
      (image_files q (place + 1) (number + 1) images) (images_paths q named (place + 1) (number + 1) images),
)

images_differ : (q : Request)
    → IsNamed q
    → (place number : ℕ) (images : List Image)
    → number + length images ≤ 10 ^ q.prefix.width
    → paths_differ (image_files q place number images) ≡ true
images_differ q named place number [] most = refl
images_differ q named place number (image ∷ images) most =
    let path = image_path solidus q place number in
    let rest = image_files q (place + 1) (number + 1) images in
    let high = number + 1 + length images in
    differ_more (file path (tiff_of G4 image)) rest
    (each_weaker (λ (row : FileRow). IsImagePath q (number + 1) high row.path) (λ (row : FileRow). row.path ≢ path)
    (λ row is. numbers_differ q named (codes "IMAGES") (codes ".TIF") number (number + 1) high path row.path (omega arith) (omega arith) (image_of q named place number (number + 1) (omega arith)) is)
    rest (images_paths q named (place + 1) (number + 1) images))
    (images_differ q named (place + 1) (number + 1) images (omega arith))

-- ---- the files of an item

image_no_text : (q : Request) (a b c d : ℕ) (path other : List ℕ)
    → IsImagePath q a b path
    → IsTextPath q c d other
    → other ≢ path
image_no_text q a b c d path other is are =
    second_differs other path (item_parts q (codes "TEXT") are.folder (codes ".TXT") are.number)
    (item_parts q (codes "IMAGES") is.folder (codes ".TIF") is.number) are.is is.is refl

text_no_image : (q : Request) (a b c d : ℕ) (path other : List ℕ)
    → IsTextPath q a b path
    → IsImagePath q c d other
    → other ≢ path
text_no_image q a b c d path other is are same = image_no_text q c d a b other path are is (sym same)

item_paths : (q : Request)
    → IsNamed q
    → (p : Placed) (number : ℕ)
    → p.item.span.first ≡ number
    → 1 ≤ length p.content.images
    → AllByRecursion (IsOfItems q number (number + length p.content.images)) (item_files q p)
item_paths q named p number first some =
    let count = length p.content.images in
    let from = p.item.span.first in
    let all : AllByRecursion (IsOfItems q from (from + count)) (item_files q p) =
    each_both (IsOfItems q from (from + count)) (image_files q p.place from p.content.images) (text_file q p ∷ [])
    (each_weaker (λ (row : FileRow). IsImagePath q from (from + count) row.path) (IsOfItems q from (from + count)) (λ row is. inl is) (image_files q p.place from p.content.images) (images_paths q named p.place from p.content.images))
    (inr (text_of q named p.place from (from + count) (omega arith)), tt) in
    subst (λ n. AllByRecursion (IsOfItems q n (n + count)) (item_files q p)) first all

item_differ : (q : Request)
    → IsNamed q
    → (p : Placed)
    → p.item.span.first + length p.content.images ≤ 10 ^ q.prefix.width
    → 1 ≤ length p.content.images
    → paths_differ (item_files q p) ≡ true
item_differ q named p most some =
    let from = p.item.span.first in
    let high = from + length p.content.images in
    let images = image_files q p.place from p.content.images in
    let text = text_file q p in
    differ_both images (text ∷ []) (images_differ q named p.place from p.content.images most) refl
    (each_weaker (λ (row : FileRow). IsImagePath q from high row.path) (λ (row : FileRow). HasNone row.path (text ∷ []))
    (λ row is. (image_no_text q from high from high row.path text.path is (text_of q named p.place from high (omega arith)), tt))
    images (images_paths q named p.place from p.content.images))

-- ---- the files of all items

items_apart : (q : Request)
    → IsNamed q
    → (low middle high : ℕ)
    → high ≤ 10 ^ q.prefix.width
    → middle ≤ high
    → (row other : FileRow)
    → IsOfItems q low middle row
    → IsOfItems q middle high other
    → other.path ≢ row.path
items_apart q named low middle high most order row other (inl is) (inl are) =
    numbers_differ q named (codes "IMAGES") (codes ".TIF") low middle high row.path other.path most order is are
items_apart q named low middle high most order row other (inl is) (inr are) =
    image_no_text q low middle middle high row.path other.path is are
items_apart q named low middle high most order row other (inr is) (inl are) =
    text_no_image q low middle middle high row.path other.path is are
items_apart q named low middle high most order row other (inr is) (inr are) =
    numbers_differ q named (codes "TEXT") (codes ".TXT") low middle high row.path other.path most order is are

wider_items : (q : Request) (low high lower higher : ℕ)
    → lower ≤ low
    → high ≤ higher
    → (row : FileRow)
    → IsOfItems q low high row
    → IsOfItems q lower higher row
wider_items q low high lower higher down up row (inl is) =
    inl (wider_path q (codes "IMAGES") (codes ".TIF") low high lower higher row.path down up is)
wider_items q low high lower higher down up row (inr is) =
    inr (wider_path q (codes "TEXT") (codes ".TXT") low high lower higher row.path down up is)

items_paths : (q : Request)
    → IsNamed q
    → (place number : ℕ) (ps : List Placed)
    → AreInTurn place number ps
    → AllByRecursion (IsOfItems q number (number + total_of ps)) (flat_map (item_files q) ps)
items_paths q named place number [] turn = tt
items_paths q named place number (p ∷ ps) turn =
    let count = length p.content.images in
    let all = number + total_of (p ∷ ps) in
    each_both (IsOfItems q number all) (item_files q p) (flat_map (item_files q) ps)
    (each_weaker (IsOfItems q number (number + count)) (IsOfItems q number all) (wider_items q number (number + count) number all (omega arith) (omega arith)) (item_files q p) (item_paths q named p number turn.0.first turn.0.some))
    (each_weaker (IsOfItems q (number + count) (number + count + total_of ps)) (IsOfItems q number all) (wider_items q (number + count) (number + count + total_of ps) number all (omega arith) (omega arith))
    (flat_map (item_files q) ps) (items_paths q named (place + count) (number + count) ps turn.1))

items_differ : (q : Request)
    → IsNamed q
    → (place number : ℕ) (ps : List Placed)
    → AreInTurn place number ps
    → number + total_of ps ≤ 10 ^ q.prefix.width
    → paths_differ (flat_map (item_files q) ps) ≡ true
items_differ q named place number [] turn most = refl
items_differ q named place number (p ∷ ps) turn most =
    let count = length p.content.images in
    let middle = number + count in
    let high = middle + total_of ps in
    let rest = flat_map (item_files q) ps in
    let others = items_paths q named (place + count) middle ps turn.1 in
    differ_both (item_files q p) rest (item_differ q named p (omega (arith, turn.0.first)) turn.0.some)
    (items_differ q named (place + count) middle ps turn.1 (omega arith))
    (each_weaker (IsOfItems q number middle) (λ (row : FileRow). HasNone row.path rest)
    (λ row is. each_weaker (IsOfItems q middle high) (λ (other : FileRow). other.path ≢ row.path) (λ other are. items_apart q named number middle high (omega arith) (omega arith) row other is are) rest others)
    (item_files q p) (item_paths q named p number turn.0.first turn.0.some))

-- ---- the files of data

abbrev pub data_parts : Request → List ℕ → List (List ℕ)
data_parts q ending = q.volume ∷ codes "DATA" ∷ (q.volume ++ ending) ∷ []

abbrev pub manifest_parts : Request → List (List ℕ)
manifest_parts q = q.volume ∷ codes "MANIFEST.TXT" ∷ []

data_steps : (q : Request)
    → IsNamed q
    → (ending : List ℕ)
    → IsEnding ending
    → IsPathOf (data_path q ending) (data_parts q ending)
data_steps q named ending is = record {
  some = omega arith;
  steps = (volume_step q named, (long_step (codes "DATA") (record { plain = refl; long = omega arith }), (ended_step q.volume ending (volume_plain q.volume named.volume) is, tt)));
  path_is = refl;
}

pub manifest_steps : (q : Request) → IsNamed q → IsPathOf (manifest_path q) (manifest_parts q)
manifest_steps q named = record {
  some = omega arith;
  steps = (volume_step q named, (long_step (codes "MANIFEST.TXT") (record { plain = refl; long = omega arith }), tt));
  path_is = refl;
}

ending_dat : IsEnding (codes ".DAT")
ending_dat = record { plain = refl; long = omega arith }

ending_opt : IsEnding (codes ".OPT")
ending_opt = record { plain = refl; long = omega arith }

ending_log : IsEnding (codes "-LOG.CSV")
ending_log = record { plain = refl; long = omega arith }

pub dat_steps : (q : Request)
    → IsNamed q
    → IsPathOf (data_path q (codes ".DAT")) (data_parts q (codes ".DAT"))
dat_steps q named = data_steps q named (codes ".DAT") ending_dat

pub opt_steps : (q : Request)
    → IsNamed q
    → IsPathOf (data_path q (codes ".OPT")) (data_parts q (codes ".OPT"))
opt_steps q named = data_steps q named (codes ".OPT") ending_opt

log_steps : (q : Request)
    → IsNamed q
    → IsPathOf (data_path q (codes "-LOG.CSV")) (data_parts q (codes "-LOG.CSV"))
log_steps q named = data_steps q named (codes "-LOG.CSV") ending_log

endings_differ : (q : Request) (one two : List ℕ)
    → IsPathOf (data_path q one) (data_parts q one)
    → IsPathOf (data_path q two) (data_parts q two)
    → bytes_eq one two ≡ false
    → data_path q one ≢ data_path q two
endings_differ q one two is are other =
    third_differs (data_path q one) (data_path q two) (data_parts q one) (data_parts q two) is are
    (λ same. words_differ one two other (append_cancel_left q.volume one two same))

data_differ : (f : Production) (ps : List Placed) → IsNamed f.request → paths_differ (data_files f ps) ≡ true
data_differ f ps named =
    let q = f.request in
    differ_more (dat_file f ps) (opt_file f ps ∷ log_file f ∷ [])
    (endings_differ q (codes ".OPT") (codes ".DAT") (opt_steps q named) (dat_steps q named) refl, (endings_differ q (codes "-LOG.CSV") (codes ".DAT") (log_steps q named) (dat_steps q named) refl, tt))
    (differ_more (opt_file f ps) (log_file f ∷ []) (endings_differ q (codes "-LOG.CSV") (codes ".OPT") (log_steps q named) (opt_steps q named) refl, tt) refl)

-- ---- all files

-- a path of parts that may stand
abbrev pub HasParts : FileRow → Type 0
HasParts row = (parts : List (List ℕ)) × IsPathOf row.path parts

item_has : (q : Request) (low high : ℕ) (row : FileRow) → IsOfItems q low high row → HasParts row
item_has q low high row (inl is) = (item_parts q (codes "IMAGES") is.folder (codes ".TIF") is.number, is.is)
item_has q low high row (inr is) = (item_parts q (codes "TEXT") is.folder (codes ".TXT") is.number, is.is)

-- each path of a volume but the manifest's
pub before_has : (f : Production) (place number : ℕ) (ps : List Placed)
    → IsNamed f.request
    → AreInTurn place number ps
    → AllByRecursion HasParts (files_before f ps)
before_has f place number ps named turn =
    let q = f.request in
    each_both HasParts (flat_map (item_files q) ps) (data_files f ps)
    (each_weaker (IsOfItems q number (number + total_of ps)) HasParts (item_has q number (number + total_of ps)) (flat_map (item_files q) ps) (items_paths q named place number ps turn))
    ((data_parts q (codes ".DAT"), dat_steps q named), ((data_parts q (codes ".OPT"), opt_steps q named), ((data_parts q (codes "-LOG.CSV"), log_steps q named), tt)))

item_no_data : (q : Request) (low high : ℕ) (path : List ℕ) (ending : List ℕ)
    → IsPathOf path (data_parts q ending)
    → (row : FileRow)
    → IsOfItems q low high row
    → path ≢ row.path
item_no_data q low high path ending are row (inl is) =
    second_differs path row.path (data_parts q ending) (item_parts q (codes "IMAGES") is.folder (codes ".TIF") is.number) are is.is refl
item_no_data q low high path ending are row (inr is) =
    second_differs path row.path (data_parts q ending) (item_parts q (codes "TEXT") is.folder (codes ".TXT") is.number) are is.is refl

before_differ : (f : Production) (place number : ℕ) (ps : List Placed)
    → IsNamed f.request
    → AreInTurn place number ps
    → number + total_of ps ≤ 10 ^ f.request.prefix.width
    → paths_differ (files_before f ps) ≡ true
before_differ f place number ps named turn most =
    let q = f.request in
    let high = number + total_of ps in
    differ_both (flat_map (item_files q) ps) (data_files f ps) (items_differ q named place number ps turn most) (data_differ f ps named)
    (each_weaker (IsOfItems q number high) (λ (row : FileRow). HasNone row.path (data_files f ps))
    (λ row is. (item_no_data q number high (data_path q (codes ".DAT")) (codes ".DAT") (dat_steps q named) row is, (item_no_data q number high (data_path q (codes ".OPT")) (codes ".OPT") (opt_steps q named) row is, (item_no_data q number high (data_path q (codes "-LOG.CSV")) (codes "-LOG.CSV") (log_steps q named) row is, tt))))
    (flat_map (item_files q) ps) (items_paths q named place number ps turn))

item_no_manifest : (q : Request)
    → IsNamed q
    → (low high : ℕ) (row : FileRow)
    → IsOfItems q low high row
    → manifest_path q ≢ row.path
item_no_manifest q named low high row (inl is) =
    second_differs (manifest_path q) row.path (manifest_parts q)
    (item_parts q (codes "IMAGES") is.folder (codes ".TIF") is.number) (manifest_steps q named) is.is refl
item_no_manifest q named low high row (inr is) =
    second_differs (manifest_path q) row.path (manifest_parts q)
    (item_parts q (codes "TEXT") is.folder (codes ".TXT") is.number) (manifest_steps q named) is.is refl

data_no_manifest : (q : Request)
    → IsNamed q
    → (ending : List ℕ)
    → IsPathOf (data_path q ending) (data_parts q ending)
    → manifest_path q ≢ data_path q ending
data_no_manifest q named ending are =
    second_differs (manifest_path q) (data_path q ending) (manifest_parts q) (data_parts q ending) (manifest_steps q named) are refl

-- the manifest has another path than each file before it
before_no_manifest : (f : Production) (place number : ℕ) (ps : List Placed)
    → IsNamed f.request
    → AreInTurn place number ps
    → AllByRecursion (λ (row : FileRow). manifest_path f.request ≢ row.path) (files_before f ps)
before_no_manifest f place number ps named turn =
    let q = f.request in
    each_both (λ (row : FileRow). manifest_path q ≢ row.path) (flat_map (item_files q) ps) (data_files f ps)
    (each_weaker (IsOfItems q number (number + total_of ps)) (λ (row : FileRow). manifest_path q ≢ row.path) (item_no_manifest q named number (number + total_of ps)) (flat_map (item_files q) ps) (items_paths q named place number ps turn))
    (data_no_manifest q named (codes ".DAT") (dat_steps q named), (data_no_manifest q named (codes ".OPT") (opt_steps q named), (data_no_manifest q named (codes "-LOG.CSV") (log_steps q named), tt)))

-- no two files of the volume have one path
pub volume_differ : (f : Production) (place number : ℕ) (ps : List Placed)
    → IsNamed f.request
    → AreInTurn place number ps
    → number + total_of ps ≤ 10 ^ f.request.prefix.width
    → paths_differ (with_manifest f.request (files_before f ps)) ≡ true
volume_differ f place number ps named turn most =
    let q = f.request in
    let before = files_before f ps in
    let manifest = file (manifest_path q) (manifest_of before) in
    differ_both before (manifest ∷ []) (before_differ f place number ps named turn most) refl
    (each_weaker (λ (row : FileRow). manifest_path q ≢ row.path) (λ (row : FileRow). HasNone row.path (manifest ∷ [])) (λ row other. (other, tt)) before (before_no_manifest f place number ps named turn))
