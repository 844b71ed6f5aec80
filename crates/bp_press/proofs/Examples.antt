-- Worked examples of the definitions in specs/, each run by the check.
use Rattle.std.proofs.Common.{◌≡◌, ℕ, zero, suc, ◌<◌, ◌||◌, ◌==◌, Bool, true, false, List, [], ◌∷◌, ◌++◌, map, replicate, Some, None, Result, Ok, Err, get_or, refl, sym, ap, subst, ◌∙◌, arith, if◌then◌else◌}
use Rattle.std.specs.Prelude.{codes, encode_utf8_all, ◌≤◌, length, not, take, unwrap_or}
use Rattle.std.specs.List.{range_with_len}
use Rattle.std.specs.Fmt.{digits}
use Rattle.bp_core.specs.declared.rectangle.Rect.{Rect}
use Rattle.bp_core.specs.declared.review.Basis.TheVariants.{Ac, Wp, Pi}
use Rattle.bp_core.specs.declared.review.Role.TheVariants.{Lead, Second}
use Rattle.bp_core.specs.declared.review.Treatment.{Treatment}
use Rattle.bp_core.specs.declared.review.Treatment.TheVariants.{Produce, Redact, Withhold}
use Rattle.bp_core.specs.declared.stamps.Ink.{Ink}
use Rattle.bp_core.specs.declared.stamps.Ink.TheVariants.{Black, Lettered}
use Rattle.bp_core.specs.declared.rules.Rule.{Rule}
use Rattle.bp_codes.specs.Glyphs.{glyph_rows}
use Rattle.bp_rows.specs.Burned.{burned}
use Rattle.bp_rows.specs.Image.{Image, pixel, white_image}
use Rattle.bp_rows.specs.declared.resolution.Unit.TheVariants.{Inch}
use Rattle.bp_text.specs.declared.words.Word.{Word}
use Rattle.bp_outside.specs.declared.files.FileRow.{FileRow}
use Rattle.bp_matter.specs.LookUps.{of_row, words_with}
use Rattle.bp_matter.specs.Matter.{Matter}
use Rattle.bp_matter.specs.declared.rows.CallRow.{CallRow}
use Rattle.bp_matter.specs.declared.rows.DocRow.{DocRow}
use Rattle.bp_matter.specs.declared.rows.Entry.{Entry}
use Rattle.bp_matter.specs.declared.rows.Item.{Item}
use Rattle.bp_matter.specs.declared.rows.PageRow.{PageRow}
use Rattle.bp_matter.specs.declared.rows.PageWords.{PageWords}
use Rattle.bp_matter.specs.declared.rows.Production.{Production}
use Rattle.bp_matter.specs.declared.rows.Request.{Request}
use Rattle.bp_matter.specs.declared.rows.State.TheVariants.{Confirmed}
use Rattle.bp_matter.specs.Treatments.{is_withheld}
use Rattle.bp_matter.specs.Valid.{IsValid}
use Rattle.bp_freeze.specs.Agree.{Agree, ItemAgrees, PageAgrees, ValueAgrees, field_number, value_of_field}
use Rattle.bp_freeze.specs.Alike.{Alike, is_withheld_doc}
use Rattle.bp_freeze.specs.Freezing.{freeze_of}
use Rattle.bp_freeze.specs.Log.{log_of}
use Rattle.bp_freeze.specs.Seeing.{page_count}
use Rattle.bp_rows.proofs.BurnedLemmas.{pixel-burned}
use Rattle.hex.specs.Hex.{encode_with}
use Rattle.sha2.specs.Sha256.{compress, digest_bytes, first_words, hash_after, rounds, schedule, sha256}
use Rattle.bp_burn.specs.Band.{slip_of}
use Rattle.bp_press.specs.Contents.{page_image, produced_page, slip_sheet, slip_sheets}
use Rattle.bp_press.specs.Manifest.{manifest_line, manifest_of}
use Rattle.bp_press.specs.Paths.{folder_of}
use Rattle.bp_press.specs.declared.paths.TheConstants.{FOLDER_DIGITS, IMAGES_A_FOLDER}
use Rattle.bp_press.specs.Volume.{file_at, files_of, volume_of}

-- ---- folders of a thousand images

images_a_folder : IMAGES_A_FOLDER ≡ 1000
images_a_folder = refl

folder_digits : FOLDER_DIGITS ≡ 4
folder_digits = refl

first_folder : folder_of 0 ≡ codes "0001"
first_folder = refl

last_of_first : folder_of 999 ≡ codes "0001"
last_of_first = refl

second_folder : folder_of 1000 ≡ codes "0002"
second_folder = refl

-- ---- matters

abbrev pub doc : ℕ → ℕ → ℕ → List ℕ → DocRow
doc n parent pages author = record {
  doc = record { 0 = n };
  parent = record { 0 = parent };
  pages = pages;
  batch = 1;
  id = codes "P";
  values = author ∷ [];
}

abbrev pub call : ℕ → Treatment → CallRow
call n treatment = record {
  doc = record { 0 = n };
  state = Confirmed (record { 0 = 1 }) (record { 0 = 2 });
  responsive = true;
  treatment = treatment;
  designation = [];
}

abbrev pub empty : Matter
empty = record {
  staff = [];
  fields = record { field = 1; name = codes "AUTHOR" } ∷ [];
  docs = [];
  pages = [];
  calls = [];
  boxes = [];
  held = [];
  entries = [];
  prefixes = [];
  productions = [];
  batches = [];
  words = [];
}

abbrev pub entry : List ℕ → List ℕ → List ℕ → List ℕ → Entry
entry date author recipients description =
    record { date = date; author = author; recipients = recipients; description = description }

-- the volume of what a matter freezes
abbrev pub pressed : Matter → Result Production Rule → List FileRow
pressed m (Ok f) = volume_of f m
pressed m (Err rule) = []

abbrev paths : List FileRow → List (List ℕ)
paths files = map (λ row. row.path) files

-- a line of a DAT, with a dot for the byte between two values
abbrev with_separators : ℕ → ℕ
with_separators c = if c == 0xB7 then 0x14 else c

abbrev pub dat_line : List ℕ → List ℕ
dat_line text = encode_utf8_all (map with_separators text) ++ codes "\r\n"

-- ---- two documents: a page with a box for PI, whose field is held for PI; and one that is withheld
-- for WP, with some pages of 8 by 1 pixels. The whole matter is valid

abbrev pub blank : Image
blank = white_image 64 32 (record { num = 200; den = 1 }) (record { num = 200; den = 1 }) Inch

abbrev pub area : Rect
area = record { left = 8; top = 8; width = 16; height = 8 }

abbrev word : ℕ → List ℕ → Word
word left text = record {
  line = 1;
  rect = record { left = left; top = 9; width = 4; height = 4 };
  text = text;
}

abbrev pub scan : ℕ → ℕ → Image → PageRow
scan n page image = record { doc = record { 0 = n }; page = record { 0 = page }; image = image }

abbrev worded_page : ℕ → ℕ → List Word → PageWords
worded_page n page words = record { doc = record { 0 = n }; page = record { 0 = page }; words = words }

abbrev pub small : Image
small = white_image 8 1 (record { num = 200; den = 1 }) (record { num = 200; den = 1 }) Inch

abbrev two : Image → List Word → List ℕ → List ℕ → Matter
two image words author withheld = record empty {
  staff =
      record { staff = record { 0 = 1 }; role = Lead; digest = replicate 32 0; name = codes "Lee" }
      ∷ record { staff = record { 0 = 2 }; role = Second; digest = replicate 32 1; name = codes "Berg" } ∷ [];
  docs = doc 1 1 1 author ∷ doc 2 2 (length withheld) (codes "Ng") ∷ [];
  pages = scan 1 1 image ∷ map (λ page. scan 2 page small) withheld;
  calls = call 1 Redact ∷ call 2 (Withhold Wp) ∷ [];
  boxes = record { doc = record { 0 = 1 }; row = record { num = 1; page = record { 0 = 1 }; rect = area; basis = Pi } } ∷ [];
  held = record { doc = record { 0 = 1 }; row = record { field = 1; basis = Pi } } ∷ [];
  entries = record { doc = record { 0 = 2 }; entry = entry (codes "2020-01-02") (codes "Ng") (codes "A, B") (codes "Draft") } ∷ [];
  batches = record { num = 1; digest = replicate 32 0; documents = 2; pages = suc (length withheld); name = codes "B" } ∷ [];
  words = worded_page 1 1 words ∷ map (λ page. worded_page 2 page []) withheld;
}

abbrev pub smith : Matter
smith = two blank (word 10 (codes "Smith") ∷ []) (codes "Smith") (1 ∷ [])

abbrev jones : Matter
jones = two (burned blank (area ∷ [])) (word 9 (codes "Jo") ∷ word 14 (codes "Hart") ∷ []) (codes "Jones") (1 ∷ 2 ∷ 3 ∷ [])

smith_valid : IsValid smith
unfolding lib.Utf8.encode
smith_valid = record {
  staff = record { numbered = refl; few = refl; lead_first = refl; digests_differ = refl; fit = refl; written = refl };
  fields = record { numbered = refl; few = refl; names_differ = refl; fit = refl; written = refl };
  docs = record { numbered = refl; few = refl; families = refl; fit = refl; written = refl };
  pages = record { ascend = refl; paged = refl; few = refl; pixels_few = refl; strips_few = refl; fit = refl; written = refl };
  calls = record { ascend = refl; fit = refl; written = refl };
  boxes = record { ascend = refl; fit = refl; written = refl };
  held = record { ascend = refl; fit = refl; written = refl };
  entries = record { ascend = refl; fit = refl; written = refl };
  prefixes = record { numbered = refl; fit = refl; used = refl; texts_differ = refl; spans_reach = refl; written = refl };
  productions = record { numbered = refl; few = refl; ids_differ = refl; volumes_differ = refl; fit = refl; prefixes_kept = refl; families_once = refl; written = refl };
  batches = record { numbered = refl; few = refl; names_differ = refl; fit = refl; written = refl };
  words = record { ascend = refl; paged = refl; fit = refl; written = refl };
  review = record { boxes_held = refl; fields_held = refl; confirmed = refl };
}

jones_valid : IsValid jones
unfolding lib.Utf8.encode
jones_valid = record {
  staff = smith_valid.staff;
  fields = smith_valid.fields;
  docs = record { numbered = refl; few = refl; families = refl; fit = refl; written = refl };
  pages = record { ascend = refl; paged = refl; few = refl; pixels_few = refl; strips_few = refl; fit = refl; written = refl };
  calls = smith_valid.calls;
  boxes = record { ascend = refl; fit = refl; written = refl };
  held = smith_valid.held;
  entries = smith_valid.entries;
  prefixes = smith_valid.prefixes;
  productions = record { numbered = refl; few = refl; ids_differ = refl; volumes_differ = refl; fit = refl; prefixes_kept = refl; families_once = refl; written = refl };
  batches = record { numbered = refl; few = refl; names_differ = refl; fit = refl; written = refl };
  words = record { ascend = refl; paged = refl; fit = refl; written = refl };
  review = record { boxes_held = refl; fields_held = refl; confirmed = refl };
}

-- they differ in a pixel under the box, in the words that it touches, in the value that is held, and
-- in how many pages the withheld document has
pixels_differ : (pixel (page_image smith 1 1) 8 8 ∷ pixel (page_image jones 1 1) 8 8 ∷ []) ≡ (false ∷ true ∷ [])
pixels_differ = refl

abbrev texts_on : Matter → List (List ℕ)
texts_on m = map (λ (w : Word). w.text) (unwrap_or (of_row (λ row. row.words) (words_with 1 1 m)) [])

words_differ : (texts_on smith ∷ texts_on jones ∷ []) ≡ ((codes "Smith" ∷ []) ∷ (codes "Jo" ∷ codes "Hart" ∷ []) ∷ [])
words_differ = refl

values_differ : (value_of_field smith 1 1 ≡ Some (codes "Smith")) × (value_of_field jones 1 1 ≡ Some (codes "Jones"))
values_differ = (refl, refl)

counts_differ : (page_count smith 2 ∷ page_count jones 2 ∷ []) ≡ (1 ∷ 3 ∷ [])
counts_differ = refl

abbrev pub asked : Request
asked = record {
  id = codes "R";
  volume = codes "V1";
  prefix = record { text = codes "AB-"; width = 4 };
  from = record { 0 = 1 };
  to = record { 0 = 2 };
  fields = codes "AUTHOR" ∷ [];
}

eight_paths : paths (pressed smith (freeze_of smith asked))
    ≡ (codes "V1/IMAGES/0001/AB-0001.TIF" ∷ codes "V1/TEXT/0001/AB-0001.TXT"
    ∷ codes "V1/IMAGES/0001/AB-0002.TIF" ∷ codes "V1/TEXT/0001/AB-0002.TXT"
    ∷ codes "V1/DATA/V1.DAT" ∷ codes "V1/DATA/V1.OPT" ∷ codes "V1/DATA/V1-LOG.CSV"
    ∷ codes "V1/MANIFEST.TXT" ∷ [])
unfolding freeze_of volume_of files_of lib.Utf8.encode
eight_paths = refl

-- the word in the box leaves nothing, not even the end of its line
boxed_text : file_at (codes "V1/TEXT/0001/AB-0001.TXT") (pressed jones (freeze_of jones asked)) ≡ Some (12 ∷ [])
unfolding freeze_of volume_of files_of lib.Utf8.encode
boxed_text = refl

withheld_text : file_at (codes "V1/TEXT/0001/AB-0002.TXT") (pressed jones (freeze_of jones asked)) ≡ Some (codes "DOCUMENT WITHHELD - WP\r\n" ++ 12 ∷ [])
unfolding freeze_of volume_of files_of lib.Utf8.encode
withheld_text = refl

-- the held field, and no value of the withheld document
two_in_dat : file_at (codes "V1/DATA/V1.DAT") (pressed jones (freeze_of jones asked))
    ≡ Some (dat_line (codes "þBEGDOCþ·þENDDOCþ·þBEGATTACHþ·þENDATTACHþ·þPAGECOUNTþ·þDESIGNATIONþ·þWITHHELDþ·þTEXTPATHþ·þAUTHORþ")
    ++ dat_line (codes "þAB-0001þ·þAB-0001þ·þAB-0001þ·þAB-0001þ·þ1þ·þþ·þþ·þV1\\TEXT\\0001\\AB-0001.TXTþ·þWITHHELD - PIþ")
    ++ dat_line (codes "þAB-0002þ·þAB-0002þ·þAB-0002þ·þAB-0002þ·þ1þ·þþ·þWPþ·þV1\\TEXT\\0001\\AB-0002.TXTþ·þþ"))
unfolding freeze_of volume_of files_of digits lib.Utf8.encode
two_in_dat = refl

two_in_opt : file_at (codes "V1/DATA/V1.OPT") (pressed jones (freeze_of jones asked))
    ≡ Some (codes "AB-0001,V1,V1\\IMAGES\\0001\\AB-0001.TIF,Y,,,1\r\nAB-0002,V1,V1\\IMAGES\\0001\\AB-0002.TIF,Y,,,1\r\n")
unfolding freeze_of volume_of files_of digits lib.Utf8.encode
two_in_opt = refl

withheld_in_log : file_at (codes "V1/DATA/V1-LOG.CSV") (pressed jones (freeze_of jones asked))
    ≡ Some (codes "BEGLABEL,ENDLABEL,TREATMENT,BASIS,DATE,AUTHOR,RECIPIENTS,DESCRIPTION\nAB-0002,AB-0002,Withheld,WP,2020-01-02,Ng,\"A, B\",Draft\n")
unfolding freeze_of volume_of files_of log_of lib.Utf8.encode
withheld_in_log = refl

-- digests as another program gives them
boxed_in_manifest : manifest_line (record { path = codes "V1/TEXT/0001/AB-0001.TXT"; bytes = 12 ∷ [] })
    ≡ codes "ef6cbd2161eaea7943ce8693b9824d23d1793ffb1c0fca05b600d3899b44c977  V1/TEXT/0001/AB-0001.TXT\n"
unfolding manifest_line sha256 first_words schedule rounds compress hash_after digest_bytes encode_with lib.Utf8.encode
boxed_in_manifest = refl

withheld_in_manifest : manifest_line (record { path = codes "V1/TEXT/0001/AB-0002.TXT"; bytes = codes "DOCUMENT WITHHELD - WP\r\n" ++ 12 ∷ [] })
    ≡ codes "6a0593e61d42aca7441c5661a40fb1f836edeb85dae6c2d80d86c09f81b40edb  V1/TEXT/0001/AB-0002.TXT\n"
unfolding manifest_line sha256 first_words schedule rounds compress hash_after digest_bytes encode_with lib.Utf8.encode
withheld_in_manifest = refl

-- the manifest has a line for each of the other seven files
seven_in_manifest : file_at (codes "V1/MANIFEST.TXT") (pressed smith (freeze_of smith asked))
    ≡ Some (manifest_of (take 7 (pressed smith (freeze_of smith asked))))
unfolding freeze_of volume_of files_of lib.Utf8.encode
seven_in_manifest = refl

-- ---- the two matters differ, and nothing shows it

abbrev pub redacted : Item
redacted = record {
  doc = record { 0 = 1 };
  parent = record { 0 = 1 };
  treatment = Redact;
  boxes = record { num = 1; page = record { 0 = 1 }; rect = area; basis = Pi } ∷ [];
  held = record { field = 1; basis = Pi } ∷ [];
  entry = None;
  designation = [];
  span = record { first = 1; last = 1 };
}

abbrev pub withheld : Item
withheld = record {
  doc = record { 0 = 2 };
  parent = record { 0 = 2 };
  treatment = Withhold Wp;
  boxes = [];
  held = [];
  entry = Some (entry (codes "2020-01-02") (codes "Ng") (codes "A, B") (codes "Draft"));
  designation = [];
  span = record { first = 2; last = 2 };
}

abbrev pub frozen : Production
frozen = record {
  ink = Lettered;
  request = asked;
  items = redacted ∷ withheld ∷ [];
  span = record { first = 1; last = 2 };
}

frozen_in_smith : freeze_of smith asked ≡ Ok frozen
unfolding freeze_of lib.Utf8.encode
frozen_in_smith = refl

frozen_in_jones : freeze_of jones asked ≡ Ok frozen
unfolding freeze_of lib.Utf8.encode
frozen_in_jones = refl

-- the page with its band
page_sides : ((produced_page frozen smith redacted 1).width ∷ (produced_page frozen smith redacted 1).height ∷ []) ≡ (64 ∷ 64 ∷ [])
unfolding produced_page
page_sides = refl

sheet_sides : ((slip_sheet asked withheld Wp 0).width ∷ (slip_sheet asked withheld Wp 0).height ∷ []) ≡ (1700 ∷ 2232 ∷ [])
unfolding slip_sheet
sheet_sides = refl

-- a freeze gives a withheld item one label, so that it has one sheet; under three labels it has three
one_sheet : slip_sheets asked withheld Wp ≡ slip_sheet asked withheld Wp 0 ∷ []
one_sheet = refl

three_sheets : slip_sheets asked (record withheld { span = record { first = 2; last = 4 } }) Wp
    ≡ slip_of Wp (codes "AB-0002") [] ∷ slip_of Wp (codes "AB-0003") [] ∷ slip_of Wp (codes "AB-0004") [] ∷ []
unfolding slip_sheet
three_sheets = refl

-- the box is black, and what is left of it isn't
box_is_black : (pixel (produced_page frozen smith redacted 1) 8 7 ∷ pixel (produced_page frozen smith redacted 1) 8 8 ∷ pixel (produced_page frozen smith redacted 1) 15 23 ∷ []) ≡ (false ∷ true ∷ true ∷ [])
unfolding produced_page
box_is_black = refl

-- the label ends in 1, whose glyph has one bit in its first row, where that of 0 and of 2 has three
label_is_drawn : (pixel (produced_page frozen smith redacted 1) 37 36 ∷ pixel (produced_page frozen smith redacted 1) 37 39 ∷ pixel (produced_page frozen smith redacted 1) 37 42 ∷ []) ≡ (false ∷ true ∷ false ∷ [])
unfolding produced_page glyph_rows
label_is_drawn = refl

-- ---- a box with room for the code of its ground, frozen before boxes were lettered and after: row 7
-- of its page, the first of the letters

abbrev page_shown : Matter
page_shown = record empty {
  docs = doc 1 1 1 [] ∷ [];
  pages = scan 1 1 (white_image 64 40 (record { num = 200; den = 1 }) (record { num = 200; den = 1 }) Inch) ∷ [];
}

abbrev large_box : Item
large_box = record redacted {
  boxes = record { num = 1; page = record { 0 = 1 }; rect = record { left = 4; top = 4; width = 39; height = 27 }; basis = Ac } ∷ [];
  held = [];
}

abbrev row_seven : Ink → List Bool
row_seven ink =
    let f : Production = record frozen { ink = ink; items = large_box ∷ [] } in
    map (pixel (produced_page f page_shown large_box 1) 7) (range_with_len 0 64)

abbrev pub runs : Bool → List ℕ → List Bool
runs colour [] = []
runs colour (n ∷ ns) = replicate n colour ++ runs (not colour) ns

frozen_before : row_seven Black ≡ runs false (4 ∷ 39 ∷ 21 ∷ [])
unfolding produced_page
frozen_before = refl

frozen_after : row_seven Lettered ≡ runs false (4 ∷ 6 ∷ 9 ∷ 9 ∷ 9 ∷ 6 ∷ 21 ∷ [])
unfolding produced_page glyph_rows
frozen_after = refl

page_agrees : PageAgrees smith jones redacted 1
page_agrees = record {
  image = record {
    width = refl;
    height = refl;
    xres = refl;
    yres = refl;
    unit = refl;
    pixels = λ r c down across out. sym (pixel-burned blank (area ∷ []) r c down across ∙ ap (λ b. b || pixel blank r c) out);
  };
  words = refl;
}

value_agrees : (k : ℕ) (d : List ℕ) → k < 1 → ValueAgrees smith jones redacted (get_or asked.fields k d)
value_agrees zero d l field is free = absurd cc
value_agrees (suc k) d l field is free = absurd (omega arith)

number_agrees : (k : ℕ) (d : List ℕ) → k < 1 → field_number smith (get_or asked.fields k d) ≡ field_number jones (get_or asked.fields k d)
number_agrees zero d l = refl
number_agrees (suc k) d l = absurd (omega arith)

item_agrees : (k : ℕ) (d : Item) → k < 2 → is_withheld (get_or frozen.items k d).treatment ≡ false → ItemAgrees frozen smith jones (get_or frozen.items k d)
item_agrees zero d l shown = record {
  counts = refl;
  pages = λ page low high. subst (PageAgrees smith jones redacted) (omega (arith, low, high)) page_agrees;
  values = value_agrees;
}
item_agrees (suc zero) d l shown = absurd cc
item_agrees (suc (suc k)) d l shown = absurd (omega arith)

they_agree : Agree frozen smith jones
they_agree = record { numbers = number_agrees; items = item_agrees }

same_count : (doc : ℕ) → 1 ≤ doc → doc ≤ 2 → is_withheld_doc smith doc ≡ false → page_count smith doc ≡ page_count jones doc
same_count zero low high shown = absurd (omega arith)
same_count (suc zero) low high shown = refl
same_count (suc (suc zero)) low high shown = absurd cc
same_count (suc (suc (suc n))) low high shown = absurd (omega arith)

ok_only : {f g : Production} → (the : Result Production Rule) → the ≡ Ok f → the ≡ Ok g → f ≡ g
ok_only the h k = cc

they_are_alike : Alike asked smith jones
they_are_alike = record {
  decided = record { decisions = refl; counts = same_count };
  shown = λ f e. subst (λ g. Agree g smith jones) (ok_only (freeze_of smith asked) frozen_in_smith e) they_agree;
}

-- ---- a family of three, the second withheld: how many pages that has makes no difference

abbrev family : ℕ → Matter
family pages = record empty {
  docs = doc 1 1 2 [] ∷ doc 2 1 pages [] ∷ doc 3 1 3 [] ∷ [];
  calls = call 1 Produce ∷ call 2 (Withhold Ac) ∷ call 3 Produce ∷ [];
  entries = record { doc = record { 0 = 2 }; entry = entry [] [] [] [] } ∷ [];
}

abbrev family_asked : Request
family_asked = record asked { to = record { 0 = 3 }; fields = [] }

family_frozen : freeze_of (family 40) family_asked ≡ freeze_of (family 1) family_asked
unfolding freeze_of
family_frozen = refl

family_pressed : pressed (family 40) (freeze_of (family 40) family_asked) ≡ pressed (family 1) (freeze_of (family 1) family_asked)
unfolding freeze_of volume_of files_of produced_page
family_pressed = refl

-- ---- a document of two pages, the second without words

abbrev line_word : ℕ → List ℕ → Word
line_word line text = record {
  line = line;
  rect = record { left = 0; top = 0; width = 4; height = 4 };
  text = text;
}

abbrev worded : Matter
worded = record empty {
  docs = doc 1 1 2 [] ∷ [];
  calls = call 1 Produce ∷ [];
  words =
      record { doc = record { 0 = 1 }; page = record { 0 = 1 }; words = line_word 1 (codes "a") ∷ line_word 1 (0xE9 ∷ []) ∷ line_word 2 (codes "b") ∷ [] }
      ∷ record { doc = record { 0 = 1 }; page = record { 0 = 2 }; words = [] } ∷ [];
}

-- U+00E9 has two bytes in UTF-8
two_page_texts : file_at (codes "V1/TEXT/0001/AB-0001.TXT") (pressed worded (freeze_of worded (record asked { to = record { 0 = 1 } })))
    ≡ Some (codes "a " ++ 0xC3 ∷ 0xA9 ∷ codes "\r\nb\r\n" ++ 12 ∷ 12 ∷ [])
unfolding freeze_of volume_of files_of lib.Utf8.encode
two_page_texts = refl

-- ---- a document of a thousand pages, and one after it

abbrev thousand : Matter
thousand = record empty {
  docs = doc 1 1 1000 [] ∷ doc 2 2 1 [] ∷ [];
  calls = call 1 Produce ∷ call 2 Produce ∷ [];
}

abbrev thousand_paths : List (List ℕ)
unfolding freeze_of lib.Utf8.encode
thousand_paths = paths (pressed thousand (freeze_of thousand asked))

-- its last image and its text, and then the image and the text of the other
around_a_thousand : (get_or thousand_paths 999 [] ∷ get_or thousand_paths 1000 [] ∷ get_or thousand_paths 1001 [] ∷ get_or thousand_paths 1002 [] ∷ [])
    ≡ (codes "V1/IMAGES/0001/AB-1000.TIF" ∷ codes "V1/TEXT/0001/AB-0001.TXT"
    ∷ codes "V1/IMAGES/0002/AB-1001.TIF" ∷ codes "V1/TEXT/0002/AB-1001.TXT" ∷ [])
unfolding freeze_of lib.Utf8.encode thousand_paths volume_of files_of
around_a_thousand = refl
