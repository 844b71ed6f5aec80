-- The files among which a path is sought, as their list grows.
use Rattle.std.proofs.Common.{◌≡◌, ℕ, ◌+◌, ◌<◌, ◌≤◌, ◌⊎◌, List, [], ◌∷◌, ◌++◌, length, take, drop, map, All, true, false, Option, Some, None, refl, sym, ap, subst, ◌∙◌, arith, inl, inr, append_assoc, append-nil, length-append, encode_utf8_all}
use Rattle.std.specs.List.{Contains}
use Rattle.std.specs.Prelude.{IfSome, codes}
use Rattle.std.specs.Str.{bytes_eq}
use Rattle.std.proofs.lemmas.Bool.{cases_Bool}
use Rattle.std.proofs.lemmas.List.{drop_at, map-append, take_at}
use Rattle.std.proofs.lemmas.List.Elements.{All-append, All-contains_itself}
use Rattle.std.proofs.lemmas.Slice.Eq.{bytes_eq-Decides}
use Rattle.bp_core.specs.Characters.{solidus}
use Rattle.bp_core.specs.declared.review.Basis.{Basis}
use Rattle.bp_bates.specs.Labels.{padded}
use Rattle.bp_bates.specs.Prefixes.{is_good_prefix}
use Rattle.bp_bates.specs.Spans.{largest_of}
use Rattle.bp_bates.specs.declared.prefixes.Prefix.{Prefix}
use Rattle.bp_bates.proofs.LabelLemmas.{labels_same, length-padded}
use Rattle.bp_bates.proofs.PrefixLemmas.{IsGood-from_test}
use Rattle.bp_rows.specs.Image.{Image}
use Rattle.bp_tiff.specs.Tiff.{tiff_of}
use Rattle.bp_tiff.specs.declared.form.Form.TheVariants.{G4}
use Rattle.bp_outside.specs.Folder.{file}
use Rattle.bp_outside.specs.declared.files.FileRow.{FileRow}
use Rattle.bp_matter.specs.Matter.{Matter}
use Rattle.bp_matter.specs.declared.rows.Item.{Item}
use Rattle.bp_matter.specs.declared.rows.Production.{Production}
use Rattle.bp_matter.specs.declared.rows.Request.{Request}
use Rattle.bp_freeze.specs.Log.{label_in}
use Rattle.bp_press.specs.Contents.{content_by, ground_of, part_of}
use Rattle.bp_press.specs.Files.{image_files, item_files, text_file}
use Rattle.bp_press.specs.Needs.{CanBePressed}
use Rattle.bp_press.specs.Paths.{folder_of, image_path, text_path}
use Rattle.bp_press.specs.Pressing.{CanAllBePlaced, CanBePlaced, count_by, files_from, placed_at}
use Rattle.bp_press.specs.Sought.{BearsLabel, IsOutside, IsSought, Seeks}
use Rattle.bp_press.specs.Volume.{data_files, file_at, files_before, placed_items}
use Rattle.bp_press.specs.VolumeFiles.{EntryCanBeMade, Lists, file_of_entry}
use Rattle.bp_press.specs.declared.volume_files.VolumeFile.{VolumeFile}
use Rattle.bp_press.specs.declared.volume_files.VolumeFile.TheVariants.{Dat, Log, Opt}
use Rattle.bp_press.proofs.FamilyLemmas.{all-others}
use Rattle.bp_press.proofs.FindLemmas.{earlier, four_end, later, missed, path_bytes}
use Rattle.bp_press.proofs.ListLemmas.{image_count, lists_one, sheet_count}

-- ---- a path has one label

fronts_long : (xs ys s t : List ℕ) → length s ≡ length t → xs ++ s ≡ ys ++ t → length xs ≡ length ys
fronts_long xs ys s t long is = omega (arith, ap length is, length-append xs s, length-append ys t, long)

-- equal texts whose ends are equally long have the same front
fronts_same : (xs ys s t : List ℕ) → length s ≡ length t → xs ++ s ≡ ys ++ t → xs ≡ ys
fronts_same xs ys s t long is =
    sym (take_at xs s (length xs) refl)
    ∙ ap (take (length xs)) is
    ∙ take_at ys t (length xs) (sym (fronts_long xs ys s t long is))

-- and the same end
ends_same : (xs ys s t : List ℕ) → length s ≡ length t → xs ++ s ≡ ys ++ t → s ≡ t
ends_same xs ys s t long is =
    sym (drop_at xs s (length xs) refl)
    ∙ ap (drop (length xs)) is
    ∙ drop_at ys t (length xs) (sym (fronts_long xs ys s t long is))

labels_long : (p : Prefix) (m n : ℕ) → length (label_in p m) ≡ length (label_in p n)
labels_long p m n =
    omega (arith, length-append p.text (padded p.width m), length-append p.text (padded p.width n), length-padded p.width m, length-padded p.width n)

one_number : (p : Prefix) (a b s t : List ℕ) (m n : ℕ)
    → is_good_prefix p.text p.width ≡ true
    → m ≤ largest_of p.width
    → n ≤ largest_of p.width
    → length s ≡ length t
    → (a ++ label_in p m) ++ s ≡ (b ++ label_in p n) ++ t
    → m ≡ n
one_number p a b s t m n good small few long is =
    let labels : a ++ label_in p m ≡ b ++ label_in p n =
    fronts_same (a ++ label_in p m) (b ++ label_in p n) s t long is in
    let same : label_in p m ≡ label_in p n = ends_same a b (label_in p m) (label_in p n) (labels_long p m n) labels in
    let whole = IsGood-from_test p.text p.width good in
    (labels_same p.text p.text p.width p.width m n whole whole small few same).number

-- a path with a label isn't one with the label of another number
other_label : (own path front end : List ℕ) (p : Prefix) (m n : ℕ)
    → own ≡ front ++ (label_in p m ++ end)
    → encode_utf8_all end ≡ end
    → length end ≡ 4
    → m ≤ largest_of p.width
    → BearsLabel path p n
    → (n ≡ m → ⊥)
    → bytes_eq own path ≡ false
other_label own path front end p m n is ascii four small has other =
    elim (cases_Bool (bytes_eq own path)) [
      | inl same ↦ absurd (
          let bytes : (encode_utf8_all front ++ label_in p m) ++ end ≡ (has.ends.front ++ label_in p n) ++ has.end =
          sym (path_bytes front p.text end p.width m has.good ascii)
          ∙ ap encode_utf8_all (sym is ∙ (bytes_eq-Decides own path).0 same)
          ∙ has.ends.is in
          other (sym (one_number p (encode_utf8_all front) has.ends.front end has.end m n has.good small has.small (four ∙ sym has.four) bytes)))
      | inr differ ↦ differ
    ]

image_end : encode_utf8_all (codes ".TIF") ≡ codes ".TIF"
unfolding lib.Utf8.encode
image_end = refl

text_end : encode_utf8_all (codes ".TXT") ≡ codes ".TXT"
unfolding lib.Utf8.encode
text_end = refl

image_other : (q : Request) (place m n : ℕ) (path : List ℕ)
    → m ≤ largest_of q.prefix.width
    → BearsLabel path q.prefix n
    → (n ≡ m → ⊥)
    → bytes_eq (image_path solidus q place m) path ≡ false
image_other q place m n path small has other =
    other_label (image_path solidus q place m) path _ (codes ".TIF") q.prefix m n
    (four_end q.volume (codes "IMAGES") (folder_of place) (label_in q.prefix m ++ codes ".TIF") solidus) image_end refl small has other

text_other : (q : Request) (place m n : ℕ) (path : List ℕ)
    → m ≤ largest_of q.prefix.width
    → BearsLabel path q.prefix n
    → (n ≡ m → ⊥)
    → bytes_eq (text_path solidus q place m) path ≡ false
text_other q place m n path small has other =
    other_label (text_path solidus q place m) path _ (codes ".TXT") q.prefix m n
    (four_end q.volume (codes "TEXT") (folder_of place) (label_in q.prefix m ++ codes ".TXT") solidus) text_end refl small has other

-- ---- the files of an item that doesn't have the number

outside_from : (number first count : ℕ)
    → (number < first) ⊎ (first + count ≤ number)
    → number < first + count
    → number < first
outside_from number first count (inl below) less = below
outside_from number first count (inr past) less = absurd (omega arith)

images_other : (q : Request) (number : ℕ) (path : List ℕ)
    → BearsLabel path q.prefix number
    → (place first : ℕ) (images : List Image)
    → first + length images ≤ largest_of q.prefix.width + 1
    → (number < first + length images → number < first)
    → None ≡ file_at path (image_files q place first images)
images_other q number path has place first [] fit out = refl
images_other q number path has place first (image ∷ images) fit out =
    let own = image_path solidus q place first in
    let row = file own (tiff_of G4 image) in
    let differs : number ≡ first → ⊥ = λ same. let less : number < first = out (omega (arith, same)) in omega arith in
    let small : first ≤ largest_of q.prefix.width = omega (arith, fit) in
    let more : number < first + 1 + length images → number < first + 1 = λ less. let below : number < first = out (omega arith) in omega arith in
    images_other q number path has (place + 1) (first + 1) images (omega (arith, fit)) more
    ∙ later path (row ∷ []) (image_files q (place + 1) (first + 1) images)
    (missed path own row refl (image_other q place first number path small has differs))

-- an item has as many images as labels
count_is : (f : Production) (m : Matter) (i : Item) (ground : Option Basis) → length (content_by f m i ground).images ≡ count_by m i ground
count_is f m i None = image_count f m i
count_is f m i (Some basis) = sheet_count f.request i basis

item_other : (f : Production) (m : Matter) (i : Item) (place number : ℕ) (path : List ℕ)
    → CanBePlaced f.request m i
    → BearsLabel path f.request.prefix number
    → (number < i.span.first) ⊎ (i.span.first + length (part_of f m i).content.images ≤ number)
    → None ≡ file_at path (item_files f.request (placed_at f m i place))
item_other f m i place number path fit has out =
    let q = f.request in
    let first = i.span.first in
    let images = (part_of f m i).content.images in
    let many : length images ≡ count_by m i (ground_of i.treatment) = count_is f m i (ground_of i.treatment) in
    let most : first + length images ≤ largest_of q.prefix.width + 1 = omega (arith, fit.labels.to, many) in
    let some : 1 ≤ length images = omega (arith, fit.some, many) in
    let outside = outside_from number first (length images) out in
    let own = text_path solidus q place first in
    let row = text_file q (placed_at f m i place) in
    let differs : number ≡ first → ⊥ = λ same. let less : number < first = outside (omega (arith, same, some)) in omega arith in
    let small : first ≤ largest_of q.prefix.width = omega (arith, most, some) in
    missed path own row refl (text_other q place first number path small has differs)
    ∙ later path (image_files q place first images) (row ∷ []) (images_other q number path has place first images most outside)

-- ---- what is found among files, and others after them

found_by : (path : List ℕ) (a b c d : List FileRow) (r : Option (List ℕ))
    → file_at path a ≡ r
    → file_at path a ≡ file_at path b
    → file_at path c ≡ file_at path d
    → file_at path (a ++ c) ≡ file_at path (b ++ d)
found_by path a b c d None is first second =
    sym (later path a c (sym is)) ∙ second ∙ later path b d (sym is ∙ first)
found_by path a b c d (Some bytes) is first second =
    sym (earlier path a c bytes (sym is)) ∙ earlier path b d bytes (sym is ∙ first)

found_both : (path : List ℕ) (a b c d : List FileRow)
    → file_at path a ≡ file_at path b
    → file_at path c ≡ file_at path d
    → file_at path (a ++ c) ≡ file_at path (b ++ d)
found_both path a b c d first second = found_by path a b c d (file_at path a) refl first second

-- ---- the list

seeks_same : (f : Production) (m : Matter) (path : List ℕ) (list : List VolumeFile) (rows : List FileRow)
    → None ≡ file_at path rows
    → Seeks f m path list rows list
seeks_same f m path list rows none =
    record { added = []; there = sym (append-nil list); found = none; made = λ k d l. absurd (omega arith) }

pub seeks_listed : (f : Production) (m : Matter) (path : List ℕ) (before after : List VolumeFile) (rows : List FileRow)
    → Lists f m before rows after
    → Seeks f m path before rows after
seeks_listed f m path before after rows h =
    record { added = h.added; there = h.there; found = ap (file_at path) h.files; made = h.made }

seeks_then : (f : Production) (m : Matter) (path : List ℕ) (before mid after : List VolumeFile) (xs ys : List FileRow)
    → Seeks f m path before xs mid
    → Seeks f m path mid ys after
    → Seeks f m path before (xs ++ ys) after
seeks_then f m path before mid after xs ys a b =
    let made = file_of_entry f m in
    record {
      added = a.added ++ b.added;
      there = b.there ∙ ap (λ l. l ++ b.added) a.there ∙ append_assoc before a.added b.added;
      found =
          ap (file_at path) (map-append made a.added b.added)
          ∙ found_both path (map made a.added) xs (map made b.added) ys a.found b.found;
      made = All-append (EntryCanBeMade f m) a.added b.added a.made b.made;
    }

-- the files of an item that doesn't have the number of the path aren't listed
pub seeks_passed : (f : Production) (m : Matter) (i : Item) (place : ℕ) (path : List ℕ) (list : List VolumeFile) (count : ℕ) (number : Option ℕ)
    → CanBePlaced f.request m i
    → count ≡ length (part_of f m i).content.images
    → IfSome number (λ n. BearsLabel path f.request.prefix n)
    → IsOutside number i.span.first count
    → Seeks f m path list (item_files f.request (placed_at f m i place)) list
seeks_passed f m i place path list count None fit many has out = absurd out
seeks_passed f m i place path list count (Some number) fit many has out =
    seeks_same f m path list (item_files f.request (placed_at f m i place))
    (item_other f m i place number path fit has (subst (λ c. (number < i.span.first) ⊎ (i.span.first + c ≤ number)) many out))

-- ---- the items

-- the files of the items of rest are still to be listed, from a place of the volume on
pub record AreItemsSought (f : Production) (m : Matter) (path : List ℕ) (place : ℕ) (rest : List Item) (before list : List VolumeFile) : Type 0 where
  pub done : List FileRow
  pub seeks : Seeks f m path before done list
  pub whole : done ++ files_from f m place rest ≡ files_from f m 0 f.items
  pub fit : CanAllBePlaced f m place rest
  pub own : All (Contains f.items) rest

pub sought_from : (f : Production) (m : Matter) (path : List ℕ) (rest : List Item) (before : List VolumeFile)
    → rest ≡ f.items
    → CanAllBePlaced f m 0 f.items
    → AreItemsSought f m path 0 rest before before
sought_from f m path rest before is fit =
    subst (λ (r : List Item). AreItemsSought f m path 0 r before before) (sym is)
    (record { done = []; seeks = seeks_same f m path before [] refl; whole = refl; fit = fit; own = All-contains_itself f.items })

pub sought_turn : (f : Production) (m : Matter) (path : List ℕ) (place next : ℕ) (rest : List Item) (item : Item) (others : List Item) (before list after : List VolumeFile)
    → rest ≡ item ∷ others
    → next ≡ place + length (part_of f m item).content.images
    → AreItemsSought f m path place rest before list
    → Seeks f m path list (item_files f.request (placed_at f m item place)) after
    → AreItemsSought f m path next others before after
sought_turn f m path place next rest item others before list after e n h put =
    let count = length (part_of f m item).content.images in
    let here = subst (λ (r : List Item). AreItemsSought f m path place r before list) e h in
    let rows = item_files f.request (placed_at f m item place) in
    subst (λ k. AreItemsSought f m path k others before after) (sym n)
    (record {
      done = here.done ++ rows;
      seeks = seeks_then f m path before list after here.done rows here.seeks put;
      whole = append_assoc here.done rows (files_from f m (place + count) others) ∙ here.whole;
      fit = here.fit.1.1;
      own = all-others (Contains f.items) rest others item e h.own;
    })

pub sought_through : (f : Production) (m : Matter) (path : List ℕ) (place : ℕ) (rest : List Item) (before list : List VolumeFile)
    → rest ≡ []
    → AreItemsSought f m path place rest before list
    → Seeks f m path before (files_from f m 0 f.items) list
sought_through f m path place rest before list e h =
    let here = subst (λ (r : List Item). AreItemsSought f m path place r before list) e h in
    subst (λ (rows : List FileRow). Seeks f m path before rows list) (sym (append-nil here.done) ∙ here.whole) here.seeks

-- ---- all of them, and DAT, OPT and log

seeks_all : (f : Production) (m : Matter) (path : List ℕ) (none after : List VolumeFile) (rows : List FileRow)
    → none ≡ []
    → Seeks f m path none rows after
    → IsSought f m path after rows
seeks_all f m path none after rows is h =
    let whole : after ≡ h.added = h.there ∙ ap (λ l. l ++ h.added) is in
    record {
      found = ap (λ (l : List VolumeFile). file_at path (map (file_of_entry f m) l)) whole ∙ h.found;
      made = subst (λ (l : List VolumeFile). All (EntryCanBeMade f m) l) (sym whole) h.made;
    }

one_sought : (f : Production) (m : Matter) (path : List ℕ) (before after : List VolumeFile) (entry : VolumeFile)
    → after ≡ before ++ entry ∷ []
    → EntryCanBeMade f m entry
    → Seeks f m path before (file_of_entry f m entry ∷ []) after
one_sought f m path before after entry grown made =
    seeks_listed f m path before after (file_of_entry f m entry ∷ []) (lists_one f m before after entry (file_of_entry f m entry) grown refl made)

pub all_sought : (f : Production) (m : Matter) (path : List ℕ) (none items dat opt log : List VolumeFile)
    → CanBePressed f m
    → none ≡ []
    → Seeks f m path none (files_from f m 0 f.items) items
    → dat ≡ items ++ Dat ∷ []
    → opt ≡ dat ++ Opt ∷ []
    → log ≡ opt ++ Log ∷ []
    → IsSought f m path log (files_before f (placed_items f m))
all_sought f m path none items dat opt log fit is h a b c =
    let rows = placed_items f m in
    let x = file_of_entry f m Dat in
    let y = file_of_entry f m Opt in
    let z = file_of_entry f m Log in
    let first = one_sought f m path items dat Dat a (record { named = tt; filled = fit }) in
    let second = one_sought f m path dat opt Opt b (record { named = tt; filled = fit }) in
    let third = one_sought f m path opt log Log c (record { named = tt; filled = fit }) in
    seeks_all f m path none log (files_before f rows) is
    (seeks_then f m path none items log (files_from f m 0 f.items) (data_files f rows) h
    (seeks_then f m path items dat log (x ∷ []) (y ∷ z ∷ []) first
    (seeks_then f m path dat opt log (y ∷ []) (z ∷ []) second third)))

-- the same list, lent
pub lent_sought : (f : Production) (m : Matter) (path : List ℕ) (list lent : List VolumeFile) (rows : List FileRow)
    → lent ≡ list
    → IsSought f m path list rows
    → IsSought f m path lent rows
lent_sought f m path list lent rows same h = subst (λ (l : List VolumeFile). IsSought f m path l rows) (sym same) h
