-- Worked examples of what the files of a volume need.
use Rattle.std.proofs.Common.{◌≡◌, ℕ, zero, suc, ◌+◌, ◌^◌, ◌-◌, ◌<◌, ◌≤◌, ◌==◌, true, false, [], ◌∷◌, get_or, Some, None, refl, arith}
use Rattle.std.specs.Prelude.{codes, slice_index}
use Rattle.std.specs.Fmt.{digits}
use Rattle.std.specs.List.{filter}
use Rattle.bp_codes.specs.Glyphs.{glyph_rows}
use Rattle.bp_core.specs.declared.review.Basis.TheVariants.{Wp}
use Rattle.bp_burn.specs.Drawn.{has_glyphs}
use Rattle.bp_outside.specs.Folder.{file}
use Rattle.bp_matter.specs.declared.rows.Item.{Item}
use Rattle.bp_matter.specs.declared.rows.Production.{Production}
use Rattle.bp_freeze.specs.Log.{label_in}
use Rattle.bp_freeze.specs.Selecting.{first_of_items, last_of_items}
use Rattle.bp_press.specs.Needs.{AreFamilyNumbers, CanBeListed, CanBePressed, IsInFamily, IsLabelled}
use Rattle.bp_press.specs.Pressing.{AreLabels, AreScans, AreSheetsFew, CanAllBePlaced, CanBePlaced, HasFewLabels, count_by, image_total}
use Rattle.bp_press.specs.VolumeFiles.{CanBeImage, EntryCanBeMade, CanBeNamed, CanBeSheet, HasName, IsListed, Lists}
use Rattle.bp_press.specs.declared.volume_files.VolumeFile.{VolumeFile}
use Rattle.bp_press.specs.declared.volume_files.VolumeFile.TheVariants.{Dat, Page, Sheet, Text}
use Rattle.bp_press.proofs.BatchExamples.{lent, tiny, tiny_item, tiny_production}
use Rattle.bp_press.proofs.Examples.{asked, entry, frozen, redacted, smith, withheld}

-- ---- labels of four digits

first_label : IsLabelled 4 1
first_label = record { from = omega arith; to = omega arith }

last_label : IsLabelled 4 9999
last_label = record { from = omega arith; to = omega arith }

no_label_zero : IsLabelled 4 0 → ⊥
no_label_zero label = let from : 1 ≤ 0 = label.from in omega arith

no_label_past : IsLabelled 4 10000 → ⊥
no_label_past label = let to : 10000 ≤ 9999 = label.to in omega arith

two_drawn : (k : ℕ) → k < 2 → has_glyphs (label_in asked.prefix (9998 + k)) ≡ true
unfolding glyph_rows
two_drawn zero low = refl
two_drawn (suc zero) low = refl
two_drawn (suc (suc k)) low = absurd (omega arith)

-- two labels from a number on
last_two : AreLabels asked 9998 2
last_two = record { prefix = refl; from = omega arith; to = omega arith; drawn = two_drawn }

no_three : AreLabels asked 9998 3 → ⊥
no_three labels = let to : 10001 ≤ 10000 = labels.to in omega arith

none_from_zero : AreLabels asked 0 2 → ⊥
none_from_zero labels = let from : 1 ≤ 0 = labels.from in omega arith

-- ---- counts

counted_pages : count_by smith redacted None ≡ 1
counted_pages = refl

-- three labels of an item that is withheld, whatever pages its document has
counted_sheets : count_by smith (record withheld { span = record { first = 4; last = 6 } }) (Some Wp) ≡ 3
counted_sheets = refl

two_images : image_total frozen smith frozen.items ≡ 2
two_images = refl

few_labels : HasFewLabels (record withheld { span = record { first = 1; last = 2 ^ 32 - 1 } })
few_labels = record { last = omega arith; few = omega arith }

many_labels : HasFewLabels (record withheld { span = record { first = 1; last = 2 ^ 32 } }) → ⊥
many_labels labels = let few : 2 ^ 32 < 2 ^ 32 = labels.few in omega arith

many_sheets : AreSheetsFew (record withheld { span = record { first = 1; last = 2 ^ 32 } }) (Some Wp) → ⊥
many_sheets labels = many_labels labels

-- ---- families

in_family : IsInFamily 2 withheld
in_family = omega arith

not_in_family : IsInFamily 1 withheld → ⊥
not_in_family within = let high : 2 ≤ 1 = within in omega arith

-- each of the two items is a family of its own
listed_item : CanBeListed frozen withheld
listed_item = record {
  first = record { from = omega arith; to = omega arith };
  last = record { from = omega arith; to = omega arith };
  family_first = record { from = omega arith; to = omega arith };
  family_last = record { from = omega arith; to = omega arith };
}

no_listed_zero : CanBeListed frozen (record withheld { span = record { first = 0; last = 2 } }) → ⊥
no_listed_zero listed = let from : 1 ≤ 0 = listed.first.from in omega arith

own_firsts : (p : ℕ) → p ≤ 2 → slice_index (0 ∷ 1 ∷ 2 ∷ []) p ≡ first_of_items (filter (λ (i : Item). i.parent.0 == p) frozen.items)
own_firsts zero low = refl
own_firsts (suc zero) low = refl
own_firsts (suc (suc zero)) low = refl
own_firsts (suc (suc (suc p))) low = absurd (omega arith)

own_lasts : (p : ℕ) → p ≤ 2 → slice_index (0 ∷ 1 ∷ 2 ∷ []) p ≡ last_of_items (filter (λ (i : Item). i.parent.0 == p) frozen.items)
own_lasts zero low = refl
own_lasts (suc zero) low = refl
own_lasts (suc (suc zero)) low = refl
own_lasts (suc (suc (suc p))) low = absurd (omega arith)

-- no document has the number 0, and document 1 has label 1, and document 2 label 2
family_numbers : AreFamilyNumbers frozen 2 (0 ∷ 1 ∷ 2 ∷ []) (0 ∷ 1 ∷ 2 ∷ [])
family_numbers = record { many_firsts = refl; many_lasts = refl; first = own_firsts; last = own_lasts }

no_other_numbers : AreFamilyNumbers frozen 2 (0 ∷ 2 ∷ 1 ∷ []) (0 ∷ 1 ∷ 2 ∷ []) → ⊥
no_other_numbers numbers = let first : ◌≡◌ {A = ℕ} 2 1 = numbers.first 1 (omega arith) in absurd (omega arith)

-- ---- names

named_text : CanBeNamed frozen (Text (lent withheld) (2 ^ 64 - 1))
named_text = record { prefix = refl; label = record { from = omega arith; to = omega arith }; fits = omega arith }

no_place : HasName asked (2 ^ 64) 1 → ⊥
no_place name = let fits : 2 ^ 64 < 2 ^ 64 = name.fits in omega arith

-- label 2 and page 9,997 is the last label
last_page_named : CanBeNamed frozen (Page (lent withheld) 0 9997)
last_page_named = record { prefix = refl; label = last_label; fits = omega arith }

no_page_named : CanBeNamed frozen (Page (lent withheld) 0 9998) → ⊥
no_page_named name = no_label_past name.label

no_sheet_named : CanBeNamed frozen (Sheet (lent withheld) 0 Wp 9998) → ⊥
no_sheet_named name = no_label_past name.label

all_named : CanBeNamed frozen Dat
all_named = tt

-- ---- scans: each page of a document is there

tiny_scans : AreScans tiny 1
tiny_scans zero low high = absurd (omega arith)
tiny_scans (suc zero) low high = refl
tiny_scans (suc (suc page)) low high = let past : suc (suc page) ≤ 1 = high in absurd (omega arith)

no_scans : AreScans (record tiny { pages = [] }) 1 → ⊥
no_scans scans = let no : false ≡ true = scans 1 (omega arith) (omega arith) in absurd cc

-- ---- what an item needs: a document of one page, under label 1

tiny_drawn : (k : ℕ) → k < 1 → has_glyphs (label_in asked.prefix (1 + k)) ≡ true
unfolding glyph_rows
tiny_drawn zero low = refl
tiny_drawn (suc k) low = absurd (omega arith)

tiny_labels : AreLabels asked 1 1
tiny_labels = record { prefix = refl; from = omega arith; to = omega arith; drawn = tiny_drawn }

tiny_placed : CanBePlaced asked tiny tiny_item
tiny_placed = record {
  doc = omega arith;
  there = omega arith;
  labels = tiny_labels;
  some = omega arith;
  sheets = tt;
  designation = refl;
  scans = tiny_scans;
}

no_second_document : CanBePlaced asked tiny (record tiny_item { doc = record { 0 = 2 } }) → ⊥
no_second_document placed = let there : 2 ≤ 1 = placed.there in omega arith

-- the places of all its images are numbers of 64 bits
all_placed : CanAllBePlaced tiny_production tiny 0 (tiny_item ∷ [])
all_placed = (tiny_placed, (omega arith, tt))

none_placed : CanAllBePlaced tiny_production tiny (2 ^ 64 - 2 ^ 32) (tiny_item ∷ []) → ⊥
none_placed placed = let room : 2 ^ 64 < 2 ^ 64 = placed.1.0 in omega arith

image_made : CanBeImage tiny_production tiny tiny_item 0
image_made = record {
  own = (0, omega arith, refl);
  shown = refl;
  there = omega arith;
  number = omega arith;
  labels = tiny_labels;
  scans = tiny_scans;
  designation = refl;
}

no_second_image : CanBeImage tiny_production tiny tiny_item 1 → ⊥
no_second_image image = let there : 1 < 1 = image.there in omega arith

no_image_of_withheld : CanBeImage frozen smith withheld 0 → ⊥
no_image_of_withheld image = let no : Some Wp ≡ None = image.shown in absurd cc

sheet_made : CanBeSheet asked (record withheld { span = record { first = 1; last = 1 } }) 0
sheet_made = record { there = omega arith; labels = tiny_labels; designation = refl }

no_second_sheet : CanBeSheet asked withheld 1 → ⊥
no_second_sheet sheet = let there : 1 < 1 = sheet.there in omega arith

-- ---- an entry, and a list of them

text_made : EntryCanBeMade tiny_production tiny (Text (lent tiny_item) 0)
text_made = record {
  named = record { prefix = refl; label = first_label; fits = omega arith };
  filled = record { own = (0, omega arith, refl); placed = tiny_placed };
}

no_text_past : EntryCanBeMade tiny_production tiny (Text (lent tiny_item) (2 ^ 64)) → ⊥
no_text_past made = no_place made.named

one_made : (k : ℕ) (d : VolumeFile) → k < 1 → EntryCanBeMade tiny_production tiny (get_or (Text (lent tiny_item) 0 ∷ []) k d)
one_made zero d low = text_made
one_made (suc k) d low = absurd (omega arith)

-- the text of a page without words: no line, and a form feed
text_listed : Lists tiny_production tiny (Dat ∷ []) (file (codes "V1/TEXT/0001/AB-0001.TXT") (12 ∷ []) ∷ []) (Dat ∷ Text (lent tiny_item) 0 ∷ [])
unfolding lib.Utf8.encode
text_listed = record { added = Text (lent tiny_item) 0 ∷ []; there = refl; files = refl; made = one_made }

one_listed : IsListed tiny_production tiny (Text (lent tiny_item) 0 ∷ []) (file (codes "V1/TEXT/0001/AB-0001.TXT") (12 ∷ []) ∷ [])
unfolding lib.Utf8.encode
one_listed = record { files = refl; made = one_made }

-- no entry is left out
none_left_out : IsListed tiny_production tiny [] (file (codes "V1/TEXT/0001/AB-0001.TXT") (12 ∷ []) ∷ []) → ⊥
none_left_out listed = let no : [] ≡ file (codes "V1/TEXT/0001/AB-0001.TXT") (12 ∷ []) ∷ [] = listed.files in absurd cc

-- ---- a whole production, of one item, whose box for AC has its entry in the log

abbrev logged_item : Item
logged_item = record tiny_item { entry = Some (entry (codes "2020-01-02") (codes "Ng") [] (codes "Note")) }

abbrev logged_production : Production
logged_production = record tiny_production { items = logged_item ∷ [] }

each_listed : (k : ℕ) (d : Item) → k < 1 → CanBeListed logged_production (get_or logged_production.items k d)
each_listed zero d low = record { first = first_label; last = first_label; family_first = first_label; family_last = first_label }
each_listed (suc k) d low = absurd (omega arith)

each_in_family : (k : ℕ) (d : Item) → k < 1 → IsInFamily 1 (get_or logged_production.items k d)
each_in_family zero d low = omega arith
each_in_family (suc k) d low = absurd (omega arith)

logged_placed : CanBePlaced asked tiny logged_item
logged_placed = record {
  doc = omega arith;
  there = omega arith;
  labels = tiny_labels;
  some = omega arith;
  sheets = tt;
  designation = refl;
  scans = tiny_scans;
}

can_be_pressed : CanBePressed logged_production tiny
unfolding digits lib.Utf8.encode
can_be_pressed = record {
  placed = (logged_placed, (omega arith, tt));
  listed = each_listed;
  families = each_in_family;
  even = refl;
  writable = refl;
  lines = refl;
  logged = record { prefix = refl; spans = refl; entries = refl };
  documents = omega arith;
  files = omega arith;
}

none_without_its_entry : CanBePressed tiny_production tiny → ⊥
none_without_its_entry can = let no : false ≡ true = can.logged.entries in absurd cc
