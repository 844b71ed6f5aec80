-- The list of the files of a volume, as it grows.
use Rattle.std.proofs.Common.{◌≡◌, ℕ, ◌+◌, ◌<◌, ◌≤◌, ◌^◌, List, [], ◌∷◌, ◌++◌, length, map, All, Option, Some, None, refl, sym, ap, ap₂, subst, ◌∙◌, arith, append_assoc, append-nil}
use Rattle.std.specs.List.{Contains}
use Rattle.std.proofs.lemmas.List.{map-append}
use Rattle.std.proofs.lemmas.List.Elements.{All-append, All-contains_itself, All-push}
use Rattle.std.proofs.lemmas.List.FromFn.{length-map-range_with_len}
use denote.Bor.{Bor}
use Rattle.bp_core.specs.declared.review.Basis.{Basis}
use Rattle.bp_outside.specs.declared.files.FileRow.{FileRow}
use Rattle.bp_matter.specs.Matter.{Matter}
use Rattle.bp_matter.specs.declared.rows.Item.{Item}
use Rattle.bp_matter.specs.declared.rows.Production.{Production}
use Rattle.bp_matter.specs.declared.rows.Request.{Request}
use Rattle.bp_freeze.specs.Seeing.{page_count}
use Rattle.bp_press.specs.Contents.{content_by, ground_of, label_count, pages_of, part_of, produced_page, slip_sheet, slip_sheets}
use Rattle.bp_press.specs.Files.{image_files, item_files, text_file}
use Rattle.bp_press.specs.Needs.{CanBePressed}
use Rattle.bp_press.specs.Pressing.{AreLabels, CanAllBePlaced, CanBePlaced, count_by, files_from, image_at, images_after, images_in, placed_at, sheet_at, sheets_after}
use Rattle.bp_press.specs.Volume.{data_files, files_before, placed_items}
use Rattle.bp_press.specs.VolumeFiles.{EntryCanBeMade, HasName, IsListed, Lists, file_of_entry}
use Rattle.bp_press.specs.declared.volume_files.VolumeFile.{VolumeFile}
use Rattle.bp_press.specs.declared.volume_files.VolumeFile.TheVariants.{Dat, Log, Opt, Page, Sheet, Text}
use Rattle.bp_press.proofs.FamilyLemmas.{all-others}
use Rattle.bp_press.proofs.ItemLemmas.{images_first, images_more, images_none, sheets_first, sheets_more, sheets_none}

pub lists_none : (f : Production) (m : Matter) (before : List VolumeFile) → Lists f m before [] before
lists_none f m before = record { added = []; there = sym (append-nil before); files = refl; made = λ k d l. absurd (omega arith) }

pub lists_one : (f : Production) (m : Matter) (before after : List VolumeFile) (entry : VolumeFile) (row : FileRow) → after ≡ before ++ entry ∷ [] → file_of_entry f m entry ≡ row → EntryCanBeMade f m entry
    → Lists f m before (row ∷ []) after
lists_one f m before after entry row grown is made = record {
  added = entry ∷ [];
  there = grown;
  files = ap (λ r. r ∷ []) is;
  made = All-push (EntryCanBeMade f m) [] entry (λ k d l. absurd (omega arith)) made;
}

pub lists_then : (f : Production) (m : Matter) (before mid after : List VolumeFile) (xs ys : List FileRow) → Lists f m before xs mid → Lists f m mid ys after → Lists f m before (xs ++ ys) after
lists_then f m before mid after xs ys a b = record {
  added = a.added ++ b.added;
  there = b.there ∙ ap (λ l. l ++ b.added) a.there ∙ append_assoc before a.added b.added;
  files = map-append (file_of_entry f m) a.added b.added ∙ ap₂ (λ x y. x ++ y) a.files b.files;
  made = All-append (EntryCanBeMade f m) a.added b.added a.made b.made;
}

-- the entries that are added to no others are the list
pub listed : (f : Production) (m : Matter) (none after : List VolumeFile) (rows : List FileRow) → none ≡ [] → Lists f m none rows after → IsListed f m after rows
listed f m none after rows is h =
    let whole : after ≡ h.added = h.there ∙ ap (λ l. l ++ h.added) is in
    record { files = ap (map (file_of_entry f m)) whole ∙ h.files; made = subst (λ (l : List VolumeFile). All (EntryCanBeMade f m) l) (sym whole) h.made }

-- ---- some of the files, while others are to come

-- the files but the rest were listed
pub record ListsUpTo (f : Production) (m : Matter) (before : List VolumeFile) (all rest : List FileRow) (list : List VolumeFile) : Type 0 where
  pub done : List FileRow
  pub lists : Lists f m before done list
  pub whole : done ++ rest ≡ all

pub upto_begin : (f : Production) (m : Matter) (before : List VolumeFile) (all : List FileRow) → ListsUpTo f m before all all before
upto_begin f m before all = record { done = []; lists = lists_none f m before; whole = refl }

pub upto_next : (f : Production) (m : Matter) (before : List VolumeFile) (all xs rest : List FileRow) (mid after : List VolumeFile) → ListsUpTo f m before all (xs ++ rest) mid → Lists f m mid xs after
    → ListsUpTo f m before all rest after
upto_next f m before all xs rest mid after u h = record {
  done = u.done ++ xs;
  lists = lists_then f m before mid after u.done xs u.lists h;
  whole = append_assoc u.done xs rest ∙ u.whole;
}

pub upto_end : (f : Production) (m : Matter) (before : List VolumeFile) (all : List FileRow) (list : List VolumeFile) → ListsUpTo f m before all [] list → Lists f m before all list
upto_end f m before all list u = subst (λ (rows : List FileRow). Lists f m before rows list) (sym (append-nil u.done) ∙ u.whole) u.lists

-- ---- the images of an item that isn't withheld

-- the pages from one on are still to be listed
pub record ArePagesAfter (f : Production) (m : Matter) (i : Item) (place page : ℕ) (before list : List VolumeFile) : Type 0 where
  pub upto : ListsUpTo f m before (images_after f m i place 0) (images_after f m i place page) list

pub pages_begin : (f : Production) (m : Matter) (i : Item) (place : ℕ) (before : List VolumeFile) → ArePagesAfter f m i place 0 before before
pages_begin f m i place before = record { upto = upto_begin f m before (images_after f m i place 0) }

-- an item that isn't withheld has as many labels as pages
page_labels : (f : Production) (m : Matter) (i : Item) → CanBePlaced f.request m i → ground_of i.treatment ≡ None → AreLabels f.request i.span.first (page_count m i.doc.0)
page_labels f m i fit shown = subst (AreLabels f.request i.span.first) (ap (count_by m i) shown) fit.labels

page_named : (f : Production) (m : Matter) (i : Item) (place page : ℕ) → CanBePlaced f.request m i → ground_of i.treatment ≡ None → place + 2 ^ 32 < 2 ^ 64 → page < page_count m i.doc.0 → page + 1 < 2 ^ 32
    → HasName f.request (place + page) (i.span.first + page)
page_named f m i place page fit shown room less small =
    let many : count_by m i (ground_of i.treatment) ≡ page_count m i.doc.0 = ap (count_by m i) shown in
    record {
      prefix = fit.labels.prefix;
      label = record { from = omega (arith, fit.labels.from); to = omega (arith, fit.labels.to, many, less) };
      fits = omega (arith, room, small);
    }

pub pages_turn : (f : Production) (m : Matter) (item : Bor Item) (place page : ℕ) (before list after : List VolumeFile) → CanBePlaced f.request m item.now → Contains f.items item.now → ground_of item.now.treatment ≡ None
    → place + 2 ^ 32 < 2 ^ 64 → page < page_count m item.now.doc.0 → page + 1 < 2 ^ 32 → after ≡ list ++ Page item place page ∷ []
    → ArePagesAfter f m item.now place page before list → ArePagesAfter f m item.now place (page + 1) before after
pages_turn f m item place page before list after fit own shown room less small grown h =
    record {
      upto =
          upto_next f m before (images_after f m item.now place 0) (image_at f m item.now place page ∷ []) (images_after f m item.now place (page + 1)) list after
          (subst (λ (rest : List FileRow). ListsUpTo f m before (images_after f m item.now place 0) rest list) (images_more f m item.now place page less) h.upto)
          (lists_one f m list after (Page item place page) (image_at f m item.now place page) grown refl
          (record {
            named = page_named f m item.now place page fit shown room less small;
            filled = record { own = own; shown = shown; there = less; number = small; labels = page_labels f m item.now fit shown; scans = fit.scans; designation = fit.designation };
          }));
    }

-- the images of an item that isn't withheld are those of its pages
shown_images : (f : Production) (m : Matter) (i : Item) (place : ℕ) → ground_of i.treatment ≡ None → images_after f m i place 0 ≡ images_in f.request (placed_at f m i place)
shown_images f m i place shown =
    sym (images_first f m i place)
    ∙ ap (λ (ground : Option Basis). image_files f.request place i.span.first (content_by f m i ground).images) (sym shown)

pub pages_end : (f : Production) (m : Matter) (i : Item) (place page : ℕ) (before list : List VolumeFile) → ground_of i.treatment ≡ None → page_count m i.doc.0 ≤ page
    → ArePagesAfter f m i place page before list → Lists f m before (images_in f.request (placed_at f m i place)) list
pages_end f m i place page before list shown past h =
    subst (λ (rows : List FileRow). Lists f m before rows list) (shown_images f m i place shown)
    (upto_end f m before (images_after f m i place 0) list
    (subst (λ (rest : List FileRow). ListsUpTo f m before (images_after f m i place 0) rest list) (images_none f m i place page past) h.upto))

-- ---- the sheets of an item that is withheld

-- the sheets from one on are still to be listed
pub record AreSheetsAfter (f : Production) (m : Matter) (i : Item) (basis : Basis) (place sheet : ℕ) (before list : List VolumeFile) : Type 0 where
  pub upto : ListsUpTo f m before (sheets_after f.request i basis place 0) (sheets_after f.request i basis place sheet) list

pub sheets_begin : (f : Production) (m : Matter) (i : Item) (basis : Basis) (place : ℕ) (before : List VolumeFile) → AreSheetsAfter f m i basis place 0 before before
sheets_begin f m i basis place before = record { upto = upto_begin f m before (sheets_after f.request i basis place 0) }

-- an item that is withheld has a sheet for each label
sheet_labels : (f : Production) (m : Matter) (i : Item) (basis : Basis) → CanBePlaced f.request m i → ground_of i.treatment ≡ Some basis → AreLabels f.request i.span.first (label_count i)
sheet_labels f m i basis fit withheld = subst (AreLabels f.request i.span.first) (ap (count_by m i) withheld) fit.labels

sheet_named : (f : Production) (m : Matter) (i : Item) (basis : Basis) (place sheet : ℕ) → CanBePlaced f.request m i → ground_of i.treatment ≡ Some basis → place + 2 ^ 32 < 2 ^ 64 → sheet < label_count i → sheet + 1 < 2 ^ 32
    → HasName f.request (place + sheet) (i.span.first + sheet)
sheet_named f m i basis place sheet fit withheld room less small =
    let labels = sheet_labels f m i basis fit withheld in
    record {
      prefix = labels.prefix;
      label = record { from = omega (arith, labels.from); to = omega (arith, labels.to, less) };
      fits = omega (arith, room, small);
    }

pub sheets_turn : (f : Production) (m : Matter) (item : Bor Item) (basis : Basis) (place sheet : ℕ) (before list after : List VolumeFile) → CanBePlaced f.request m item.now → ground_of item.now.treatment ≡ Some basis
    → place + 2 ^ 32 < 2 ^ 64 → sheet < label_count item.now → sheet + 1 < 2 ^ 32 → after ≡ list ++ Sheet item place basis sheet ∷ []
    → AreSheetsAfter f m item.now basis place sheet before list → AreSheetsAfter f m item.now basis place (sheet + 1) before after
sheets_turn f m item basis place sheet before list after fit withheld room less small grown h =
    let q = f.request in
    record {
      upto =
          upto_next f m before (sheets_after q item.now basis place 0) (sheet_at q item.now basis place sheet ∷ []) (sheets_after q item.now basis place (sheet + 1)) list after
          (subst (λ (rest : List FileRow). ListsUpTo f m before (sheets_after q item.now basis place 0) rest list) (sheets_more q item.now basis place sheet less) h.upto)
          (lists_one f m list after (Sheet item place basis sheet) (sheet_at q item.now basis place sheet) grown refl
          (record {
            named = sheet_named f m item.now basis place sheet fit withheld room less small;
            filled = record { there = less; labels = sheet_labels f m item.now basis fit withheld; designation = fit.designation };
          }));
    }

-- the images of an item that is withheld are its sheets
withheld_images : (f : Production) (m : Matter) (i : Item) (basis : Basis) (place : ℕ) → ground_of i.treatment ≡ Some basis → sheets_after f.request i basis place 0 ≡ images_in f.request (placed_at f m i place)
withheld_images f m i basis place withheld =
    sym (sheets_first f.request i basis place)
    ∙ ap (λ (ground : Option Basis). image_files f.request place i.span.first (content_by f m i ground).images) (sym withheld)

pub sheets_end : (f : Production) (m : Matter) (i : Item) (basis : Basis) (place sheet : ℕ) (before list : List VolumeFile) → ground_of i.treatment ≡ Some basis → label_count i ≤ sheet
    → AreSheetsAfter f m i basis place sheet before list → Lists f m before (images_in f.request (placed_at f m i place)) list
sheets_end f m i basis place sheet before list withheld past h =
    let q = f.request in
    subst (λ (rows : List FileRow). Lists f m before rows list) (withheld_images f m i basis place withheld)
    (upto_end f m before (sheets_after q i basis place 0) list
    (subst (λ (rest : List FileRow). ListsUpTo f m before (sheets_after q i basis place 0) rest list) (sheets_none q i basis place sheet past) h.upto))

-- ---- an item

one_named : (f : Production) (m : Matter) (i : Item) (place : ℕ) → CanBePlaced f.request m i → place + 2 ^ 32 < 2 ^ 64 → HasName f.request place i.span.first
one_named f m i place fit room = record {
  prefix = fit.labels.prefix;
  label = record { from = fit.labels.from; to = omega (arith, fit.labels.to, fit.some) };
  fits = omega (arith, room);
}

pub text_listed : (f : Production) (m : Matter) (item : Bor Item) (place : ℕ) (before mid after : List VolumeFile) → CanBePlaced f.request m item.now → Contains f.items item.now → place + 2 ^ 32 < 2 ^ 64
    → Lists f m before (images_in f.request (placed_at f m item.now place)) mid → after ≡ mid ++ Text item place ∷ []
    → Lists f m before (item_files f.request (placed_at f m item.now place)) after
text_listed f m item place before mid after fit own room images grown =
    let p = placed_at f m item.now place in
    lists_then f m before mid after (images_in f.request p) (text_file f.request p ∷ []) images
    (lists_one f m mid after (Text item place) (text_file f.request p) grown refl
    (record { named = one_named f m item.now place fit room; filled = record { own = own; placed = fit } }))

-- ---- the items

pub fit_turn : (f : Production) (m : Matter) (place : ℕ) (rest : List Item) (item : Item) (others : List Item) → rest ≡ item ∷ others → CanAllBePlaced f m place rest → CanAllBePlaced f m place (item ∷ others)
fit_turn f m place rest item others e h = subst (λ (r : List Item). CanAllBePlaced f m place r) e h

pub sheet_count : (q : Request) (item : Item) (basis : Basis) → length (slip_sheets q item basis) ≡ label_count item
sheet_count q item basis = length-map-range_with_len (slip_sheet q item basis) 0 (label_count item)

pub image_count : (f : Production) (m : Matter) (item : Item) → length (map (produced_page f m item) (pages_of m item.doc.0)) ≡ page_count m item.doc.0
image_count f m item = length-map-range_with_len (produced_page f m item) 1 (page_count m item.doc.0)

-- what holds where the items of rest are still to be listed, from a place of the volume on
pub record AreItemsListed (f : Production) (m : Matter) (all : List Item) (place : ℕ) (rest : List Item) (before list : List VolumeFile) : Type 0 where
  pub upto : ListsUpTo f m before (files_from f m 0 all) (files_from f m place rest) list
  pub fit : CanAllBePlaced f m place rest
  pub own : All (Contains f.items) rest

pub items_begin : (f : Production) (m : Matter) (rest : List Item) (before : List VolumeFile) → rest ≡ f.items → CanAllBePlaced f m 0 f.items → AreItemsListed f m f.items 0 rest before before
items_begin f m rest before is fit =
    subst (λ (r : List Item). AreItemsListed f m f.items 0 r before before) (sym is)
    (record { upto = upto_begin f m before (files_from f m 0 f.items); fit = fit; own = All-contains_itself f.items })

pub items_turn : (f : Production) (m : Matter) (all : List Item) (place next : ℕ) (rest : List Item) (item : Item) (others : List Item) (before list after : List VolumeFile)
    → rest ≡ item ∷ others → next ≡ place + length (part_of f m item).content.images
    → AreItemsListed f m all place rest before list
    → Lists f m list (item_files f.request (placed_at f m item place)) after
    → AreItemsListed f m all next others before after
items_turn f m all place next rest item others before list after e n h put =
    let count = length (part_of f m item).content.images in
    let here = subst (λ (r : List Item). AreItemsListed f m all place r before list) e h in
    subst (λ k. AreItemsListed f m all k others before after) (sym n)
    (record {
      upto = upto_next f m before (files_from f m 0 all) (item_files f.request (placed_at f m item place)) (files_from f m (place + count) others) list after here.upto put;
      fit = here.fit.1.1;
      own = all-others (Contains f.items) rest others item e h.own;
    })

-- ---- DAT, OPT and log

pub all_listed : (f : Production) (m : Matter) (none items dat opt log : List VolumeFile) → CanBePressed f m → none ≡ [] → Lists f m none (files_from f m 0 f.items) items
    → dat ≡ items ++ Dat ∷ [] → opt ≡ dat ++ Opt ∷ [] → log ≡ opt ++ Log ∷ [] → IsListed f m log (files_before f (placed_items f m))
all_listed f m none items dat opt log fit is h a b c =
    let rows = placed_items f m in
    let x = file_of_entry f m Dat in
    let y = file_of_entry f m Opt in
    let z = file_of_entry f m Log in
    listed f m none log (files_before f rows) is
    (lists_then f m none items log (files_from f m 0 f.items) (data_files f rows) h
    (lists_then f m items dat log (x ∷ []) (y ∷ z ∷ []) (lists_one f m items dat Dat x a refl (record { named = tt; filled = fit }))
    (lists_then f m dat opt log (y ∷ []) (z ∷ []) (lists_one f m dat opt Opt y b refl (record { named = tt; filled = fit })) (lists_one f m opt log Log z c refl (record { named = tt; filled = fit })))))
