-- Worked examples of the files that stand in a volume, one by one.
use Rattle.std.proofs.Common.{◌≡◌, ℕ, false, true, List, [], ◌∷◌, map, Some, None, refl}
use Rattle.std.specs.Prelude.{codes}
use Rattle.std.specs.Fmt.{digits}
use Rattle.bp_core.specs.declared.review.Basis.TheVariants.{Pi, Wp}
use Rattle.bp_core.specs.declared.review.Treatment.TheVariants.{Produce, Redact, Withhold}
use Rattle.bp_outside.specs.Folder.{file}
use Rattle.bp_outside.specs.declared.files.FileRow.{FileRow}
use Rattle.bp_matter.specs.declared.rows.Item.{Item}
use Rattle.bp_press.specs.Contents.{ground_of, held_text, label_count, pages_of, part_of, stamps_on, value_in_column, value_shown, value_unless}
use Rattle.bp_press.specs.Files.{Placed, placed}
use Rattle.bp_press.specs.LoadFiles.{family_of, opt_line, optional_code}
use Rattle.bp_press.specs.Pressing.{image_at, images_after, placed_at, sheet_at, sheets_after}
use Rattle.bp_press.specs.VolumeFiles.{bytes_of_entry, entry_path, file_of_entry}
use Rattle.bp_press.specs.declared.volume_files.VolumeFile.TheVariants.{Dat, Log, Opt, Page, Sheet, Text}
use Rattle.bp_press.proofs.BatchExamples.{lent}
use Rattle.bp_press.proofs.Examples.{area, asked, frozen, redacted, smith, withheld}

-- ---- what is shown of an item

two_labels : label_count (record withheld { span = record { first = 4; last = 5 } }) ≡ 2
two_labels = refl

grounds : map ground_of (Produce ∷ Redact ∷ Withhold Wp ∷ []) ≡ None ∷ None ∷ Some Wp ∷ []
grounds = refl

-- the boxes of a page alone
stamps_of_page : stamps_on redacted.boxes 1 ≡ record { rect = area; basis = Pi } ∷ []
stamps_of_page = refl

no_stamps : stamps_on redacted.boxes 2 ≡ []
no_stamps = refl

-- pages are counted from 1
page_one : pages_of smith 1 ≡ 1 ∷ []
page_one = refl

held_for_pi : held_text (record { field = 1; basis = Pi }) ≡ codes "WITHHELD - PI"
held_for_pi = refl

not_held : value_unless None (Some (codes "Ng")) ≡ codes "Ng"
not_held = refl

no_value : value_unless None None ≡ []
no_value = refl

-- AUTHOR is held for PI; were it not, its value stands for itself
held_author : value_shown smith redacted (codes "AUTHOR") ≡ codes "WITHHELD - PI"
held_author = refl

own_author : value_shown smith (record redacted { held = [] }) (codes "AUTHOR") ≡ codes "Smith"
own_author = refl

no_such_field : value_shown smith redacted (codes "TITLE") ≡ []
no_such_field = refl

-- of an item that is withheld a column is empty
withheld_author : value_in_column smith (record redacted { held = [] }) (Some Wp) (codes "AUTHOR") ≡ []
withheld_author = refl

author_in_column : value_in_column smith (record redacted { held = [] }) None (codes "AUTHOR") ≡ codes "Smith"
author_in_column = refl

-- ---- paths and bytes of entries

-- image 1,000 lies in the second folder, under the second label of its item
paths_of_entries : map (entry_path frozen) (Page (lent redacted) 999 1 ∷ Sheet (lent withheld) 1999 Wp 1 ∷ Text (lent withheld) 1000 ∷ Dat ∷ Opt ∷ Log ∷ [])
    ≡ codes "V1/IMAGES/0002/AB-0002.TIF" ∷ codes "V1/IMAGES/0003/AB-0003.TIF" ∷ codes "V1/TEXT/0002/AB-0002.TXT"
    ∷ codes "V1/DATA/V1.DAT" ∷ codes "V1/DATA/V1.OPT" ∷ codes "V1/DATA/V1-LOG.CSV" ∷ []
paths_of_entries = refl

text_entry : file_of_entry frozen smith (Text (lent redacted) 0) ≡ file (codes "V1/TEXT/0001/AB-0001.TXT") (12 ∷ [])
unfolding lib.Utf8.encode
text_entry = refl

opt_entry : bytes_of_entry frozen smith Opt
    ≡ codes "AB-0001,V1,V1\\IMAGES\\0001\\AB-0001.TIF,Y,,,1\r\nAB-0002,V1,V1\\IMAGES\\0001\\AB-0002.TIF,Y,,,1\r\n"
unfolding digits lib.Utf8.encode
opt_entry = refl

-- ---- images that follow one another

abbrev path : FileRow → List ℕ
path row = row.path

-- an item of two labels at place 999
abbrev two_sheets : Item
two_sheets = record withheld { span = record { first = 4; last = 5 } }

second_sheet : path (sheet_at asked two_sheets Wp 999 1) ≡ codes "V1/IMAGES/0002/AB-0005.TIF"
second_sheet = refl

all_sheets : map path (sheets_after asked two_sheets Wp 999 0) ≡ codes "V1/IMAGES/0001/AB-0004.TIF" ∷ codes "V1/IMAGES/0002/AB-0005.TIF" ∷ []
all_sheets = refl

last_sheet : map path (sheets_after asked two_sheets Wp 999 1) ≡ codes "V1/IMAGES/0002/AB-0005.TIF" ∷ []
last_sheet = refl

first_image : path (image_at frozen smith redacted 5 0) ≡ codes "V1/IMAGES/0001/AB-0001.TIF"
first_image = refl

one_image : map path (images_after frozen smith redacted 999 0) ≡ codes "V1/IMAGES/0001/AB-0001.TIF" ∷ []
one_image = refl

no_image : map path (images_after frozen smith redacted 999 1) ≡ []
no_image = refl

-- the second part begins behind the one image of the first
places : map (λ (p : Placed). p.place) (placed 7 (map (part_of frozen smith) frozen.items)) ≡ 7 ∷ 8 ∷ []
places = refl

-- ---- lines

first_line : opt_line asked (placed_at frozen smith withheld 999) 0
    ≡ record {
      image = codes "AB-0002";
      volume = codes "V1";
      path = codes "V1\\IMAGES\\0001\\AB-0002.TIF";
      doc_break = true;
      folder_break = false;
      box_break = false;
      pages = codes "1";
    }
unfolding digits
first_line = refl

later_line : opt_line asked (placed_at frozen smith withheld 999) 1
    ≡ record {
      image = codes "AB-0003";
      volume = codes "V1";
      path = codes "V1\\IMAGES\\0002\\AB-0003.TIF";
      doc_break = false;
      folder_break = false;
      box_break = false;
      pages = [];
    }
later_line = refl

codes_of_grounds : map optional_code (None ∷ Some Wp ∷ []) ≡ [] ∷ codes "WP" ∷ []
codes_of_grounds = refl

-- those of the same first document
family : family_of (record frozen { items = redacted ∷ record withheld { parent = record { 0 = 1 } } ∷ withheld ∷ [] }) redacted
    ≡ redacted ∷ record withheld { parent = record { 0 = 1 } } ∷ []
family = refl
