-- Worked examples of the definitions in specs/, each run by the check.
use Rattle.std.proofs.Common.{ℕ, ◌≡◌, Bool, true, false, List, [], ◌∷◌, ◌++◌, Some, None, Ok, Err, refl}
use Rattle.std.specs.Prelude.{codes, if◌then◌else◌, Result}
use Rattle.std.specs.Str.{bytes_eq, chars, is_utf8}
use Rattle.std.proofs.Math.Utf8.{encode}
use Rattle.bp_core.specs.declared.rules.Rule.{Rule}
use Rattle.bp_core.specs.Rules.{bare_rule, rule_at_line}
use Rattle.bp_core.specs.declared.rules.RuleKind.TheVariants as kinds
use Rattle.bp_load.specs.declared.opt.OptLine.{OptLine}
use Rattle.bp_rows.specs.Image.{Image}
use Rattle.bp_rows.specs.declared.resolution.Unit.TheVariants as units
use Rattle.bp_text.specs.declared.words.Word.{Word}
use Rattle.bp_text.specs.declared.words.WordRow.{WordRow}
use Rattle.csv.proofs.OnLiterals.{csv_on_literals}
use Rattle.bp_matter.specs.declared.batches.BatchDoc.{BatchDoc}
use Rattle.bp_matter.specs.declared.batches.BatchPage.{BatchPage}
use Rattle.bp_outside.specs.Source.{FileMap}
use Rattle.bp_import.specs.Batch.{Plan, batch_of_images, docs_of, pages_of_lines, plan_by}
use Rattle.bp_import.specs.Breaks.{breaks_of, cut, page_counts}
use Rattle.bp_import.specs.Columns.{are_columns, is_column, tested_table}
use Rattle.bp_import.specs.Digest.{framed}
use Rattle.bp_import.specs.Documents.{with_words, words_of_lines}
use Rattle.bp_import.specs.Families.{parents_of}
use Rattle.bp_import.specs.Files.{dat_path, file_read, file_rule}
use Rattle.bp_import.specs.Records.{fields_of, record_of}
use Rattle.bp_import.specs.Scans.{LinesAnswer, Scan, scan_of, scan_read}
use Rattle.bp_import.specs.WordPages.{places_of, words_inside, words_on}
use Rattle.bp_import.specs.declared.columns.TheConstants.{MAX_COLUMN}
use Rattle.bp_import.specs.declared.files.TheConstants.{DAT, FILE_LIMIT, IMAGE, OPT, WORDS}
use Rattle.bp_import.specs.declared.records.Record.{Record}

-- ---- which file a rule is of

dat_file : DAT ≡ 0
dat_file = refl

opt_file : OPT ≡ 1
opt_file = refl

words_file : WORDS ≡ 2
words_file = refl

image_file : IMAGE ≡ 3
image_file = refl

-- ---- columns

most_of_a_column : MAX_COLUMN ≡ 64
most_of_a_column = refl

abbrev least : List (List ℕ)
least = codes "BEGDOC" ∷ codes "BEGATTACH" ∷ []

both_columns : are_columns least ≡ true
unfolding encode
both_columns = refl

no_begattach : are_columns (codes "BEGDOC" ∷ codes "NOTE" ∷ []) ≡ false
unfolding encode
no_begattach = refl

-- another name for it isn't known
no_begdoc : are_columns (codes "DOCID" ∷ codes "BEGATTACH" ∷ []) ≡ false
unfolding encode
no_begdoc = refl

a_name_twice : are_columns (codes "NOTE" ∷ codes "BEGDOC" ∷ codes "BEGATTACH" ∷ codes "NOTE" ∷ []) ≡ false
unfolding encode
a_name_twice = refl

empty_name : is_column [] ≡ false
empty_name = refl

newline_in_a_name : is_column (codes "A\nB") ≡ false
unfolding encode
newline_in_a_name = refl

abbrev sixteen : List ℕ
sixteen = codes "ABCDEFGHIJKLMNOP"

sixty_four_bytes : is_column (sixteen ++ sixteen ++ sixteen ++ sixteen) ≡ true
unfolding encode
sixty_four_bytes = refl

sixty_five_bytes : is_column (codes "A" ++ sixteen ++ sixteen ++ sixteen ++ sixteen) ≡ false
unfolding encode
sixty_five_bytes = refl

-- ---- tables

-- a value between two quotes, in UTF-8
abbrev quoted : List ℕ → List ℕ
quoted text = 0xC3 ∷ 0xBE ∷ (text ++ 0xC3 ∷ 0xBE ∷ [])

abbrev header : List ℕ
header = quoted (codes "BEGDOC") ++ 0x14 ∷ quoted (codes "BEGATTACH") ++ 10 ∷ []

no_records : tested_table header ≡ Ok (record { columns = least; rows = [] })
unfolding chars is_utf8 encode
no_records = refl

not_utf8 : tested_table (0xFF ∷ 0xFE ∷ []) ≡ Err (rule_at_line kinds.DatEncoding 0)
unfolding chars is_utf8 encode
not_utf8 = refl

-- a header out of form comes before its names
bad_header : tested_table (codes "DOCID") ≡ Err (rule_at_line kinds.DatShape 1)
unfolding chars is_utf8 encode
bad_header = refl

-- its names come before a bad line behind it
bad_names : tested_table (quoted (codes "DOCID") ++ 10 ∷ codes "x") ≡ Err (bare_rule kinds.DatColumns)
unfolding chars is_utf8 encode
bad_names = refl

bad_record : tested_table (header ++ codes "x") ≡ Err (rule_at_line kinds.DatShape 2)
unfolding chars is_utf8 encode
bad_record = refl

-- ---- records

abbrev columns : List (List ℕ)
columns = codes "NOTE" ∷ codes "BEGATTACH" ∷ codes "ENDDOC" ∷ codes "BEGDOC" ∷ codes "AUTHOR" ∷ []

abbrev row : List (List ℕ)
row = codes "one" ∷ codes "A1" ∷ codes "A4" ∷ codes "A3" ∷ codes "Ng" ∷ []

-- ENDDOC is no field, and the fields keep their order
two_fields : fields_of columns ≡ codes "NOTE" ∷ codes "AUTHOR" ∷ []
unfolding encode
two_fields = refl

record_by_names : record_of columns row ≡ record { id = codes "A3"; attach = codes "A1"; values = codes "one" ∷ codes "Ng" ∷ [] }
unfolding encode
record_by_names = refl

-- ---- breaks

abbrev line : List ℕ → Bool → OptLine
line image break = record {
  image = image;
  volume = [];
  path = codes "a.tif";
  doc_break = break;
  folder_break = false;
  box_break = false;
  pages = [];
}

abbrev first_of : List ℕ → OptLine
first_of image = line image true

abbrev next_of : List ℕ → OptLine
next_of image = line image false

abbrev doc : List ℕ → List ℕ → Record
doc id attach = record { id = id; attach = attach; values = [] }

abbrev two_docs : List Record
two_docs = doc (codes "A1") [] ∷ doc (codes "A3") (codes "A1") ∷ []

abbrev three_lines : List OptLine
three_lines = first_of (codes "A1") ∷ next_of (codes "A2") ∷ first_of (codes "A3") ∷ []

breaks_fit : breaks_of two_docs three_lines ≡ Ok tt
breaks_fit = refl

-- nothing and no line
no_lines : breaks_of [] [] ≡ Ok tt
no_lines = refl

no_break_at_line_1 : breaks_of two_docs (next_of (codes "A0") ∷ three_lines) ≡ Err (rule_at_line kinds.DocBreaks 1)
no_break_at_line_1 = refl

image_twice : breaks_of two_docs (first_of (codes "A1") ∷ next_of (codes "A2") ∷ next_of (codes "A1") ∷ []) ≡ Err (rule_at_line kinds.DocBreaks 3)
image_twice = refl

break_without_record : breaks_of (doc (codes "A1") [] ∷ []) three_lines ≡ Err (rule_at_line kinds.DocBreaks 3)
break_without_record = refl

break_of_another : breaks_of (doc (codes "A1") [] ∷ doc (codes "A4") [] ∷ []) three_lines ≡ Err (rule_at_line kinds.DocBreaks 3)
break_of_another = refl

-- a record that is left shows one past the last line
record_left : breaks_of (two_docs ++ doc (codes "A4") [] ∷ []) three_lines ≡ Err (rule_at_line kinds.DocBreaks 4)
record_left = refl

record_without_lines : breaks_of two_docs [] ≡ Err (rule_at_line kinds.DocBreaks 1)
record_without_lines = refl

counted : page_counts three_lines ≡ 2 ∷ 1 ∷ []
counted = refl

in_two_pieces : cut (2 ∷ 1 ∷ []) (codes "abc") ≡ codes "ab" ∷ codes "c" ∷ []
in_two_pieces = refl

-- ---- families

-- an empty first page is its own
two_families : parents_of (two_docs ++ doc (codes "A4") (codes "A4") ∷ doc (codes "A5") (codes "A4") ∷ []) ≡ Ok (1 ∷ 1 ∷ 3 ∷ 3 ∷ [])
two_families = refl

-- a family that has ended isn't taken up again
family_ended : parents_of (doc (codes "A1") [] ∷ doc (codes "A2") [] ∷ doc (codes "A3") (codes "A1") ∷ []) ≡ Err (rule_at_line kinds.FamilyBroken 3)
family_ended = refl

parent_after : parents_of (doc (codes "A1") (codes "A2") ∷ doc (codes "A2") [] ∷ []) ≡ Err (rule_at_line kinds.FamilyBroken 1)
parent_after = refl

-- ---- words

abbrev word : List ℕ → ℕ → ℕ → Word
word text left width = record {
  line = 1;
  rect = record { left = left; top = 0; width = width; height = 2 };
  text = text;
}

abbrev on : List ℕ → Word → WordRow
on image w = record { image = image; word = w }

abbrev three_words : List WordRow
three_words = on (codes "A2") (word (codes "b") 0 4) ∷ on (codes "A1") (word (codes "a") 0 4) ∷ on (codes "A2") (word (codes "c") 4 5) ∷ []

places : places_of three_lines three_words ≡ Ok (1 ∷ 0 ∷ 1 ∷ [])
places = refl

unknown_image : places_of three_lines (three_words ++ on (codes "A9") (word (codes "d") 0 1) ∷ []) ≡ Err (rule_at_line kinds.WordsPage 4)
unknown_image = refl

words_of_a_page : words_on (codes "A2") three_words ≡ word (codes "b") 0 4 ∷ word (codes "c") 4 5 ∷ []
words_of_a_page = refl

abbrev page : ℕ → ℕ → Image
page width height = record {
  width = width;
  height = height;
  xres = record { num = 300; den = 1 };
  yres = record { num = 300; den = 1 };
  unit = units.Inch;
  rows = [];
}

-- the second and the third word end at the right edge of their pages
all_inside : words_inside three_lines (page 4 2 ∷ page 9 2 ∷ page 1 1 ∷ []) three_words ≡ Ok (word (codes "b") 0 4 ∷ word (codes "a") 0 4 ∷ word (codes "c") 4 5 ∷ [])
all_inside = refl

third_outside : words_inside three_lines (page 4 2 ∷ page 8 2 ∷ page 1 1 ∷ []) three_words ≡ Err (rule_at_line kinds.WordOutside 3)
third_outside = refl

-- ---- pages and documents

abbrev scan : ℕ → Scan
scan width = record { bytes = []; page = page width 2 }

abbrev three_scans : List Scan
three_scans = scan 4 ∷ scan 9 ∷ scan 1 ∷ []

abbrev first_page : BatchPage
first_page = record { page = page 4 2; words = word (codes "a") 0 4 ∷ [] }

abbrev second_page : BatchPage
second_page = record { page = page 9 2; words = word (codes "b") 0 4 ∷ word (codes "c") 4 5 ∷ [] }

abbrev third_page : BatchPage
third_page = record { page = page 1 2; words = [] }

-- the words of a page keep their order
three_pages : pages_of_lines three_words three_lines three_scans ≡ first_page ∷ second_page ∷ third_page ∷ []
three_pages = refl

abbrev batch_doc : List ℕ → List BatchPage → BatchDoc
batch_doc id own = record { id = id; parent = 1; values = []; pages = own }

-- the second document is of the first's family
two_batch_docs : docs_of two_docs (1 ∷ 1 ∷ []) (cut (page_counts three_lines) (pages_of_lines three_words three_lines three_scans)) ≡ batch_doc (codes "A1") (first_page ∷ second_page ∷ []) ∷ batch_doc (codes "A3") (third_page ∷ []) ∷ []
two_batch_docs = refl

-- the same as the import puts them together
words_by_lines : words_of_lines three_lines three_words ≡ first_page.words ∷ second_page.words ∷ [] ∷ []
words_by_lines = refl

pages_put_together : with_words (page 4 2 ∷ page 9 2 ∷ page 1 2 ∷ []) (words_of_lines three_lines three_words) ≡ pages_of_lines three_words three_lines three_scans
pages_put_together = refl

-- ---- files and images

path_of_the_dat : dat_path (codes "B1") ≡ codes "B1/load.dat"
path_of_the_dat = refl

absent_dat : file_read DAT 0 None ≡ Err (record (bare_rule kinds.FileAbsent) { a = 0 })
absent_dat = refl

absent_opt : file_read OPT 0 None ≡ Err (record (bare_rule kinds.FileAbsent) { a = 1 })
absent_opt = refl

absent_words : file_read WORDS 0 None ≡ Err (record (bare_rule kinds.FileAbsent) { a = 2 })
absent_words = refl

long_image : file_rule kinds.FileTooLong IMAGE 7 ≡ record { kind = kinds.FileTooLong; line = 7; a = 3; b = 0 }
long_image = refl

-- 128 MiB
the_limit : FILE_LIMIT ≡ 134217728
the_limit = refl

absent_image : file_read IMAGE 7 None ≡ Err (record (rule_at_line kinds.FileAbsent 7) { a = 3 })
absent_image = refl

file_that_is_there : file_read DAT 0 (Some (codes "x")) ≡ Ok (codes "x")
file_that_is_there = refl

-- the limits of an import: 20,000 rows and no more, 200,000,000 pixels and no more
tallest : scan_of 2 [] (page 10000 20000) ≡ Ok (record { bytes = []; page = page 10000 20000 })
tallest = refl

too_tall : scan_of 2 [] (page 1 20001) ≡ Err (record { kind = kinds.PageLimit; line = 2; a = 1; b = 20001 })
too_tall = refl

too_many_pixels : scan_of 2 [] (page 20000 10001) ≡ Err (record { kind = kinds.PageLimit; line = 2; a = 20000; b = 10001 })
too_many_pixels = refl

-- a rule of the file is told with the line
bad_file : scan_read 5 [] (Err (record (bare_rule kinds.TiffCompression) { a = 5 })) ≡ Err (record { kind = kinds.TiffCompression; line = 5; a = 5; b = 0 })
bad_file = refl

-- a fault of the codes keeps its row and its bit
bad_codes : scan_read 5 [] (Err (record (bare_rule kinds.T6BadCode) { a = 3; b = 17 })) ≡ Err (record { kind = kinds.T6BadCode; line = 5; a = 3; b = 17 })
bad_codes = refl

framed_bytes : framed (codes "ab") ≡ 2 ∷ 0 ∷ 0 ∷ 0 ∷ 0 ∷ 0 ∷ 0 ∷ 0 ∷ codes "ab"
framed_bytes = refl

-- ---- what a folder comes to

-- what is read of a file in a folder of these three
abbrev folder : List ℕ → List ℕ → List ℕ → ℕ → List ℕ → Result (List ℕ) Rule
folder dat opt csv which path =
    file_read which 0
    (if bytes_eq path (codes "B0/load.dat") then Some dat
    else (if bytes_eq path (codes "B0/load.opt") then Some opt
    else (if bytes_eq path (codes "B0/words.csv") then Some csv else None)))

abbrev no_documents : Plan
no_documents = record {
  name = codes "B0";
  files = header ∷ [] ∷ [] ∷ [];
  fields = [];
  docs = [];
  parents = [];
  lines = [];
  words = [];
}

empty_folder : plan_by (folder header [] []) (codes "B0") ≡ Ok no_documents
unfolding csv_on_literals chars is_utf8 encode
empty_folder = refl

-- no document is in it, once its images are read
empty_docs : (batch_of_images no_documents []).docs ≡ []
empty_docs = refl

-- with no image to read
no_images : (files : FileMap) → LinesAnswer files (codes "B0") 1 [] (Ok [])
no_images files = refl

bad_name : plan_by (folder header [] []) (codes "B/0") ≡ Err (bare_rule kinds.PathRefused)
bad_name = refl

no_folder : plan_by (folder header [] []) (codes "B1") ≡ Err (bare_rule kinds.FileAbsent)
no_folder = refl

-- the DAT file's columns come before the OPT file, which has two fields
columns_first : plan_by (folder (quoted (codes "DOCID")) (codes "A,B") []) (codes "B0") ≡ Err (bare_rule kinds.DatColumns)
unfolding chars is_utf8 encode
columns_first = refl

opt_next : plan_by (folder header (codes "A,B") (codes "x")) (codes "B0") ≡ Err (rule_at_line kinds.OptShape 1)
unfolding chars is_utf8 encode
opt_next = refl

-- a line without a record comes before the words
breaks_next : plan_by (folder header (codes "A,,a.tif,Y") (codes "x")) (codes "B0") ≡ Err (rule_at_line kinds.DocBreaks 1)
unfolding chars is_utf8 encode
breaks_next = refl

words_last : plan_by (folder header [] (codes "x")) (codes "B0") ≡ Err (rule_at_line kinds.WordShape 1)
unfolding csv_on_literals chars is_utf8 encode
words_last = refl
