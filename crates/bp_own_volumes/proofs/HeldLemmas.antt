-- The images and the texts that the load files of a volume name are there.
use Rattle.std.proofs.Common.{◌≡◌, ◌≢◌, ℕ, ◌+◌, ◌-◌, ◌<◌, ◌≤◌, true, inl, inr, Option, Some, None, Result, Ok, List, [], ◌∷◌, ◌++◌, length, map, flat_map, codes, encode_utf8_all, refl, sym, ap, ◌∙◌, subst, arith, append_assoc, length-append}
use Rattle.std.specs.List.{AllByRecursion, join_with_byte, range_with_len}
use Rattle.std.specs.Str.{bytes_eq}
use Rattle.std.proofs.lemmas.Bool.{or_cases, or_left, or_right}
use Rattle.std.proofs.lemmas.Slice.Eq.{bytes_eq-Decides}
use Rattle.bp_core.specs.Characters.{reverse_solidus, solidus}
use Rattle.bp_core.specs.Paths.{path_in}
use Rattle.bp_core.specs.declared.review.Basis.{Basis}
use Rattle.bp_core.specs.declared.rules.Rule.{Rule}
use Rattle.bp_load.specs.declared.opt.OptLine.{OptLine}
use Rattle.bp_bates.specs.Labels.{bates_label}
use Rattle.bp_outside.specs.Folder.{file}
use Rattle.bp_outside.specs.Memory.{file_map, paths_differ}
use Rattle.bp_outside.specs.declared.files.FileRow.{FileRow}
use Rattle.bp_rows.specs.Image.{Image}
use Rattle.bp_tiff.specs.Read.{TiffAnswers}
use Rattle.bp_matter.specs.Matter.{Matter}
use Rattle.bp_matter.specs.Texts.{columns}
use Rattle.bp_matter.specs.declared.rows.Item.{Item}
use Rattle.bp_matter.specs.declared.rows.Production.{Production}
use Rattle.bp_matter.specs.declared.rows.Request.{Request}
use Rattle.bp_press.specs.Contents.{content_by, ground_of, part_of, produced_page, slip_sheet}
use Rattle.bp_press.specs.Files.{Placed, image_files, item_files, placed}
use Rattle.bp_press.specs.LoadFiles.{dat_row, opt_line, opt_lines}
use Rattle.bp_press.specs.Manifest.{manifest_of}
use Rattle.bp_press.specs.Paths.{folder_of, image_path, manifest_path, text_path}
use Rattle.bp_press.specs.ReadBack.{HoldsImages, HoldsItem, HoldsPage}
use Rattle.bp_press.specs.Volume.{data_files, files_before, with_manifest}
use Rattle.bp_press.proofs.ListLemmas.{image_count, sheet_count}
use Rattle.bp_check.specs.Images.{IsTiff, Judging}
use Rattle.bp_check.specs.Listing.{lists}
use Rattle.bp_check.specs.declared.files.TheConstants.{FILE_LIMIT}
use Rattle.bp_own_volumes.proofs.ApartLemmas.{IsNamed, item_parts, second_differs}
use Rattle.bp_own_volumes.proofs.CellLemmas.{textpath_cell}
use Rattle.bp_own_volumes.proofs.EachLemmas.{each_both, each_map, each_number}
use Rattle.bp_own_volumes.proofs.FoundLemmas.{found_under}
use Rattle.bp_own_volumes.proofs.NameLemmas.{steps_named}
use Rattle.bp_own_volumes.proofs.ThereLemmas.{CanBeRead, HasPage, HasText, Names, Stands, listed_of, stands_listed}
use Rattle.bp_own_volumes.proofs.VolumePathLemmas.{image_steps, manifest_parts, manifest_steps, text_steps}

-- a file has one answer, as bp_tiff says
abbrev pub OneAnswer : Type 0
OneAnswer = (bytes : List ℕ) (first second : Result Image Rule) → TiffAnswers bytes first → TiffAnswers bytes second → first ≡ second

-- the files of a volume, and what lies before its manifest
pub record IsVolume (q : Request) (rows before : List FileRow) : Type 0 where
  pub rows_are : rows ≡ with_manifest q before
  pub differ : paths_differ rows ≡ true
  pub short : AllByRecursion (λ (row : FileRow). length row.bytes ≤ FILE_LIMIT) rows

-- ---- a file of the volume

each_at : (P : FileRow → Type 0) (before after : List FileRow) (row : FileRow)
    → AllByRecursion P (before ++ row ∷ after)
    → P row
each_at P [] after row all = all.0
each_at P (first ∷ before) after row all = each_at P before after row all.1

pub stands_read : (q : Request) (rows before : List FileRow) (path bytes : List ℕ)
    → IsVolume q rows before
    → Stands rows path bytes
    → CanBeRead (file_map rows) path bytes
stands_read q rows before path bytes is stands = record {
  there = found_under rows stands.before stands.after path bytes is.differ stands.there;
  short = each_at (λ (row : FileRow). length row.bytes ≤ FILE_LIMIT) stands.before stands.after (file path bytes)
      (subst (λ rs. AllByRecursion (λ (row : FileRow). length row.bytes ≤ FILE_LIMIT) rs) stands.there is.short);
}

-- listed with the manifest itself, it is listed without
but_last : (path : List ℕ) (before : List FileRow) (last : FileRow)
    → last.path ≢ path
    → lists (map listed_of (before ++ last ∷ [])) path ≡ true
    → lists (map listed_of before) path ≡ true
but_last path [] last other is =
    elim (or_cases (bytes_eq last.path path) _ is) [
      | inl same ↦ absurd (other ((bytes_eq-Decides last.path path).0 same))
      | inr none ↦ none
    ]
but_last path (row ∷ before) last other is =
    elim (or_cases (bytes_eq row.path path) (lists (map listed_of (before ++ last ∷ [])) path) is) [
      | inl here ↦ or_left (bytes_eq row.path path) _ here
      | inr later ↦ or_right (bytes_eq row.path path) _ (but_last path before last other later)
    ]

pub stands_named : (q : Request) (rows before : List FileRow) (text path bytes : List ℕ)
    → IsVolume q rows before
    → path_in text ≡ Some path
    → manifest_path q ≢ path
    → Stands rows path bytes
    → Names (file_map rows) (map listed_of before) text path bytes
stands_named q rows before text path bytes is named other stands = record {
  named = named;
  reads = stands_read q rows before path bytes is stands;
  is_listed = but_last path before (file (manifest_path q) (manifest_of before)) other
      (sym (ap (λ rs. lists (map listed_of rs) path) is.rows_are) ∙ stands_listed rows path bytes stands);
}

-- ---- the images

-- some page is held under the path
pub record HoldsOne (rows : List FileRow) (path : List ℕ) : Type 0 where
  pub page : Image
  pub holds : HoldsPage rows path page

holds_one : (rows : List FileRow) (f : Production) (m : Matter) (i : Item) (place : ℕ) (ground : Option Basis)
    → HoldsImages rows f m (record { place = place; item = i; content = content_by f m i ground }) ground
    → (k : ℕ)
    → k < length (content_by f m i ground).images
    → HoldsOne rows (image_path solidus f.request (place + k) (i.span.first + k))
holds_one rows f m i place (Some basis) holds k within =
    record { page = slip_sheet f.request i basis k; holds = holds k (omega (arith, sheet_count f.request i basis, within)) }
holds_one rows f m i place None holds k within =
    let at : place + (k + 1) - 1 ≡ place + k = omega arith in
    let said : i.span.first + (k + 1) - 1 ≡ i.span.first + k = omega arith in
    let one = holds (k + 1) (omega arith) (omega (arith, image_count f m i)) in
    record { page = produced_page f m i (k + 1); holds = subst (λ n. HoldsPage rows (image_path solidus f.request n (i.span.first + k)) (produced_page f m i (k + 1))) at (subst (λ n. HoldsPage rows (image_path solidus f.request (place + (k + 1) - 1) n) (produced_page f m i (k + 1))) said one) }

line_has : (rows before : List FileRow) (tiff : Judging) (q : Request) (p : Placed) (k : ℕ)
    → OneAnswer
    → IsTiff tiff
    → IsNamed q
    → IsVolume q rows before
    → HoldsOne rows (image_path solidus q (p.place + k) (p.item.span.first + k))
    → HasPage (file_map rows) (map listed_of before) tiff (opt_line q p k)
line_has rows before tiff q p k only is_tiff named is holds =
    let number = p.item.span.first + k in
    let place = p.place + k in
    let path = image_path solidus q place number in
    let held = holds.holds in
    let steps = image_steps q named place number in
    let other : manifest_path q ≢ path =
    second_differs (manifest_path q) path (manifest_parts q)
    (item_parts q (codes "IMAGES") (folder_of place) (codes ".TIF") number) (manifest_steps q named) steps refl in
    record {
      path = path;
      bytes = held.bytes;
      page = holds.page;
      names = stands_named q rows before (image_path reverse_solidus q place number) path held.bytes is
          (steps_named reverse_solidus (item_parts q (codes "IMAGES") (folder_of place) (codes ".TIF") number) refl steps.some steps.steps) other
          (record { before = held.before; after = held.after; there = held.there });
      is_page = only held.bytes (tiff held.bytes) (Ok holds.page) (is_tiff held.bytes) ((held.reads holds.page).1 refl);
    }

lines_have : (rows before : List FileRow) (tiff : Judging) (f : Production) (m : Matter) (place : ℕ)
    (items : List Item)
    → OneAnswer
    → IsTiff tiff
    → IsNamed f.request
    → IsVolume f.request rows before
    → AllByRecursion (HoldsItem rows f m) (placed place (map (part_of f m) items))
    → AllByRecursion (HasPage (file_map rows) (map listed_of before) tiff) (flat_map (opt_lines f.request) (placed place (map (part_of f m) items)))
lines_have rows before tiff f m place [] only is_tiff named is holds = tt
lines_have rows before tiff f m place (i ∷ items) only is_tiff named is holds =
    let Fits : OptLine → Type 0 = HasPage (file_map rows) (map listed_of before) tiff in
    let content = (part_of f m i).content in
    let count = length content.images in
    let p : Placed = record { place = place; item = i; content = content } in
    each_both Fits (opt_lines f.request p) (flat_map (opt_lines f.request) (placed (place + count) (map (part_of f m) items)))
    (each_map Fits (opt_line f.request p) (range_with_len 0 count)
    (each_number (λ k. Fits (opt_line f.request p k)) 0 count
    (λ k low high. line_has rows before tiff f.request p k only is_tiff named is (holds_one rows f m i place (ground_of i.treatment) holds.0 k (omega arith)))))
    (lines_have rows before tiff f m (place + count) items only is_tiff named is holds.1)

pub images_there : (rows before : List FileRow) (tiff : Judging) (f : Production) (m : Matter)
    (items : List Item)
    → OneAnswer
    → IsTiff tiff
    → IsNamed f.request
    → IsVolume f.request rows before
    → AllByRecursion (HoldsItem rows f m) (placed 0 (map (part_of f m) items))
    → AllByRecursion (HasPage (file_map rows) (map listed_of before) tiff) (flat_map (opt_lines f.request) (placed 0 (map (part_of f m) items)))
images_there rows before tiff f m items only is_tiff named is holds = lines_have rows before tiff f m 0 items only is_tiff named is holds

-- ---- the texts

pub stands_left : (xs ys : List FileRow) (path bytes : List ℕ)
    → Stands xs path bytes
    → Stands (xs ++ ys) path bytes
stands_left xs ys path bytes s = record {
  before = s.before;
  after = s.after ++ ys;
  there = ap (λ files. files ++ ys) s.there ∙ append_assoc s.before (file path bytes ∷ s.after) ys;
}

pub stands_right : (xs ys : List FileRow) (path bytes : List ℕ)
    → Stands ys path bytes
    → Stands (xs ++ ys) path bytes
stands_right xs ys path bytes s = record {
  before = xs ++ s.before;
  after = s.after;
  there = ap (λ files. xs ++ files) s.there ∙ sym (append_assoc xs s.before (file path bytes ∷ s.after));
}

-- the text of an item is among some files
abbrev pub HasTextFile : Request → List FileRow → Placed → Type 0
HasTextFile q rows p = Stands rows (text_path solidus q p.place p.item.span.first) (encode_utf8_all p.content.text)

texts_stand : (q : Request) (ps : List Placed) (front : List FileRow)
    → AllByRecursion (HasTextFile q (front ++ flat_map (item_files q) ps)) ps
texts_stand q [] front = tt
texts_stand q (p ∷ ps) front =
    let path = text_path solidus q p.place p.item.span.first in
    let bytes = encode_utf8_all p.content.text in
    let images = image_files q p.place p.item.span.first p.content.images in
    let rest = flat_map (item_files q) ps in
    let own : Stands (item_files q p) path bytes = record { before = images; after = []; there = refl } in
    let here : Stands (front ++ (item_files q p ++ rest)) path bytes =
    stands_right front (item_files q p ++ rest) path bytes (stands_left (item_files q p) rest path bytes own) in
    (here, subst (λ rs. AllByRecursion (HasTextFile q rs) ps) (append_assoc front (item_files q p) rest) (texts_stand q ps (front ++ item_files q p)))

row_has : (f : Production) (rows before : List FileRow) (p : Placed)
    → IsNamed f.request
    → IsVolume f.request rows before
    → HasTextFile f.request rows p
    → HasText (file_map rows) (map listed_of before) (columns ++ f.request.fields) (dat_row f p)
row_has f rows before p named is stands =
    let q = f.request in
    let number = p.item.span.first in
    let path = text_path solidus q p.place number in
    let text = text_path reverse_solidus q p.place number in
    let bytes = encode_utf8_all p.content.text in
    let parts = item_parts q (codes "TEXT") (folder_of p.place) (codes ".TXT") number in
    let steps = text_steps q named p.place number in
    let other : manifest_path q ≢ path =
    second_differs (manifest_path q) path (manifest_parts q) parts (manifest_steps q named) steps refl in
    record {
      path = path;
      bytes = bytes;
      some = omega (arith, ap length (textpath_cell f p), text_some q.volume (join_with_byte reverse_solidus (codes "TEXT" ∷ folder_of p.place ∷ (bates_label q.prefix.text q.prefix.width number ++ codes ".TXT") ∷ [])));
      names = subst (λ t. Names (file_map rows) (map listed_of before) t path bytes) (sym (textpath_cell f p))
          (stands_named q rows before text path bytes is (steps_named reverse_solidus parts refl steps.some steps.steps) other stands);
    }
  where
    text_some : (volume rest : List ℕ) → 1 ≤ length (volume ++ reverse_solidus ∷ rest)
    text_some volume rest = omega (arith, length-append volume (reverse_solidus ∷ rest))

rows_have : (f : Production) (rows before : List FileRow) (ps : List Placed)
    → IsNamed f.request
    → IsVolume f.request rows before
    → AllByRecursion (HasTextFile f.request rows) ps
    → AllByRecursion (HasText (file_map rows) (map listed_of before) (columns ++ f.request.fields)) (map (dat_row f) ps)
rows_have f rows before [] named is stands = tt
rows_have f rows before (p ∷ ps) named is stands = (row_has f rows before p named is stands.0, rows_have f rows before ps named is stands.1)

widened : (f : Production) (ps : List Placed) (rows : List FileRow) (some : List Placed)
    → rows ≡ with_manifest f.request (files_before f ps)
    → AllByRecursion (HasTextFile f.request (flat_map (item_files f.request) ps)) some
    → AllByRecursion (HasTextFile f.request rows) some
widened f ps rows [] are stand = tt
widened f ps rows (p ∷ some) are stand =
    let q = f.request in
    let path = text_path solidus q p.place p.item.span.first in
    let bytes = encode_utf8_all p.content.text in
    let items = flat_map (item_files q) ps in
    let before = files_before f ps in
    let one : Stands (with_manifest q before) path bytes =
    stands_left before (file (manifest_path q) (manifest_of before) ∷ []) path bytes
    (stands_left items (data_files f ps) path bytes stand.0) in
    (subst (λ rs. Stands rs path bytes) (sym are) one, widened f ps rows some are stand.1)

pub texts_there : (f : Production) (rows : List FileRow) (ps : List Placed)
    → IsNamed f.request
    → IsVolume f.request rows (files_before f ps)
    → AllByRecursion (HasText (file_map rows) (map listed_of (files_before f ps)) (columns ++ f.request.fields)) (map (dat_row f) ps)
texts_there f rows ps named is =
    rows_have f rows (files_before f ps) ps named is (widened f ps rows ps is.rows_are (texts_stand f.request ps []))
