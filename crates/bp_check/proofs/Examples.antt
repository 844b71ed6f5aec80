-- Worked examples of the definitions in specs/, each run by the check.
use Rattle.std.proofs.Common.{ℕ, ◌≡◌, ◌+◌, ◌%◌, Bool, true, false, List, [], ◌∷◌, ◌++◌, map, sum, replicate, Option, Some, None, Result, Ok, Err, refl, not}
use Rattle.std.specs.Prelude.{codes, if◌then◌else◌}
use Rattle.std.specs.Fmt.{digits}
use Rattle.std.specs.List.{flat_map, join_with_byte}
use Rattle.std.specs.Str.{bytes_eq, chars, is_utf8}
use Rattle.std.proofs.Math.Utf8.{encode}
use Rattle.bp_core.specs.Rules.{bare_rule, rule_at_line}
use Rattle.bp_core.specs.declared.rules.Rule.{Rule}
use Rattle.bp_core.specs.declared.rules.RuleKind.TheVariants as kinds
use Rattle.bp_load.specs.declared.opt.OptLine.{OptLine}
use Rattle.bp_outside.specs.Source.{SourceView}
use Rattle.bp_outside.specs.declared.files.FileRow.{FileRow}
use Rattle.bp_rows.specs.Image.{Image}
use Rattle.bp_rows.specs.declared.resolution.Unit.TheVariants as units
use Rattle.bp_check.specs.Breaks.{breaks_hold}
use Rattle.bp_check.specs.Check.{Operands, check_by}
use Rattle.bp_check.specs.Checking.{after_check_step}
use Rattle.bp_check.specs.Counts.{counts_of, says_number}
use Rattle.bp_check.specs.Files.{checked_file, file_rule}
use Rattle.bp_check.specs.Images.{Judging, Reading}
use Rattle.bp_core.specs.declared.rules.RuleKind.TheVariants.{CheckBreaks, CheckColumns, CheckCount, CheckGap, CheckLabel, DigestDiffers, ManifestShape, NotListed}
use Rattle.bp_check.specs.Labels.{end_digits, label_of, labels_of}
use Rattle.bp_check.specs.Manifest.{listed_in, listed_files}
use Rattle.bp_check.specs.declared.checked.Checked.{Checked}
use Rattle.bp_check.specs.declared.files.TheConstants.{DAT, FILE_LIMIT, IMAGE, LISTED, MANIFEST, OPT, TEXT}
use Rattle.bp_check.specs.declared.labels.TheConstants.{MOST_LABEL_DIGITS}
use Rattle.bp_check.specs.declared.records.Record.{Record}
use Rattle.bp_check.specs.declared.refusals.ImportRefusal.TheVariants as refusals

-- ---- numbers

file_limit : FILE_LIMIT ≡ 134217728
file_limit = refl

-- the files that a rule speaks of
dat_file : DAT ≡ 0
dat_file = refl

opt_file : OPT ≡ 1
opt_file = refl

manifest_file : MANIFEST ≡ 2
manifest_file = refl

image_file : IMAGE ≡ 3
image_file = refl

text_file : TEXT ≡ 4
text_file = refl

listed_file : LISTED ≡ 5
listed_file = refl

most_label_digits : MOST_LABEL_DIGITS ≡ 18
most_label_digits = refl

-- ---- labels

at_the_end : end_digits (codes "AB-12-0034") ≡ codes "0034"
at_the_end = refl

all_digits : end_digits (codes "0034") ≡ codes "0034"
all_digits = refl

no_digit : end_digits (codes "12A") ≡ []
no_digit = refl

a_label : label_of (codes "AB-0034") ≡ Some (record { head = codes "AB-"; width = 4; number = 34 })
a_label = refl

eighteen_digits : label_of (codes "123456789012345678") ≡ Some (record { head = []; width = 18; number = 123456789012345678 })
eighteen_digits = refl

nineteen_digits : label_of (codes "A1234567890123456789") ≡ None
nineteen_digits = refl

abbrev line : List ℕ → Bool → List ℕ → OptLine
line image break pages = record {
  image = image;
  volume = [];
  path = codes "a.tif";
  doc_break = break;
  folder_break = false;
  box_break = false;
  pages = pages;
}

abbrev labels : List (List ℕ) → List OptLine
labels images = map (λ image. line image false []) images

-- a prefix may have digits, and the number of digits stays
no_gap : labels_of (labels (codes "A1-09" ∷ codes "A1-10" ∷ codes "A1-11" ∷ [])) ≡ Ok tt
unfolding encode
no_gap = refl

a_gap : labels_of (labels (codes "A9" ∷ codes "A8" ∷ [])) ≡ Err (record (rule_at_line CheckGap 2) { a = 10; b = 8 })
unfolding encode
a_gap = refl

-- the next number, with one digit more
a_longer_number : labels_of (labels (codes "A9" ∷ codes "A10" ∷ [])) ≡ Err (record (rule_at_line CheckGap 2) { a = 10; b = 10 })
unfolding encode
a_longer_number = refl

another_text : labels_of (labels (codes "A09" ∷ codes "B10" ∷ [])) ≡ Err (record (rule_at_line CheckGap 2) { a = 10; b = 10 })
unfolding encode
another_text = refl

-- each line is tested before the next: the gap at line 2 comes before line 3, which is no label
first_of_two : labels_of (labels (codes "A1" ∷ codes "A3" ∷ codes "A" ∷ [])) ≡ Err (record (rule_at_line CheckGap 2) { a = 2; b = 3 })
unfolding encode
first_of_two = refl

-- ---- breaks and counts

abbrev doc : List ℕ → List ℕ → List ℕ → Record
doc first last pages = record { first = first; last = last; pages = pages; text = [] }

abbrev three_lines : List OptLine
three_lines = line (codes "A1") true (codes "2") ∷ line (codes "A2") false [] ∷ line (codes "A3") true [] ∷ []

abbrev two_docs : List Record
two_docs = doc (codes "A1") (codes "A2") (codes "2") ∷ doc (codes "A3") (codes "A3") [] ∷ []

breaks_fit : breaks_hold two_docs three_lines ≡ Ok tt
breaks_fit = refl

nothing : breaks_hold [] [] ≡ Ok tt
nothing = refl

ends_early : breaks_hold (doc (codes "A1") (codes "A1") [] ∷ doc (codes "A3") (codes "A3") [] ∷ []) three_lines ≡ Err (rule_at_line CheckBreaks 1)
ends_early = refl

begins_elsewhere : breaks_hold (doc (codes "A1") (codes "A2") [] ∷ doc (codes "A4") (codes "A3") [] ∷ []) three_lines ≡ Err (rule_at_line CheckBreaks 3)
begins_elsewhere = refl

no_record : breaks_hold (doc (codes "A1") (codes "A2") [] ∷ []) three_lines ≡ Err (rule_at_line CheckBreaks 3)
no_record = refl

record_left : breaks_hold (two_docs ++ doc (codes "A4") (codes "A4") [] ∷ []) three_lines ≡ Err (rule_at_line CheckBreaks 4)
record_left = refl

no_break : breaks_hold two_docs (line (codes "A1") false [] ∷ []) ≡ Err (rule_at_line CheckBreaks 1)
no_break = refl

counts_right : counts_of two_docs three_lines ≡ Ok tt
unfolding encode digits
counts_right = refl

-- leading zeros count in the DAT alone
zeros_in_the_opt : says_number (codes "002") 2 ≡ true
unfolding encode digits
zeros_in_the_opt = refl

zeros_in_the_dat : counts_of (doc (codes "A1") (codes "A2") (codes "02") ∷ []) three_lines ≡ Err (rule_at_line CheckCount 1)
unfolding encode digits
zeros_in_the_dat = refl

count_without_break : counts_of two_docs (line (codes "A1") true [] ∷ line (codes "A2") false (codes "1") ∷ []) ≡ Err (rule_at_line CheckCount 2)
unfolding encode digits
count_without_break = refl

-- ---- a small volume: two documents of one page each, the second withheld

-- a text between two quotes, in UTF-8
abbrev quoted : List ℕ → List ℕ
quoted text = 0xC3 ∷ 0xBE ∷ (text ++ 0xC3 ∷ 0xBE ∷ [])

abbrev dat_line : List (List ℕ) → List ℕ
dat_line values = join_with_byte 0x14 (map quoted values) ++ 13 ∷ 10 ∷ []

abbrev columns : List (List ℕ)
columns = codes "BEGDOC" ∷ codes "ENDDOC" ∷ codes "PAGECOUNT" ∷ codes "TEXTPATH" ∷ codes "AUTHOR" ∷ []

abbrev dat_with : List (List ℕ) → List ℕ
dat_with names =
    dat_line names
    ++ dat_line (codes "AB-0001" ∷ codes "AB-0001" ∷ codes "1" ∷ codes "V1\\TEXT\\0001\\AB-0001.TXT" ∷ codes "WITHHELD - PI" ∷ [])
    ++ dat_line (codes "AB-0002" ∷ codes "AB-0002" ∷ codes "1" ∷ codes "V1\\TEXT\\0001\\AB-0002.TXT" ∷ [] ∷ [])

abbrev dat : List ℕ
dat = dat_with columns

abbrev first_line : List ℕ
first_line = codes "AB-0001,V1,V1\\IMAGES\\0001\\AB-0001.TIF,Y,,,1\r\n"

abbrev second_line : List ℕ
second_line = codes "AB-0002,V1,V1\\IMAGES\\0001\\AB-0002.TIF,Y,,,1\r\n"

abbrev log : List ℕ
log = codes "AB-0002,AB-0002,Withheld,WP,2020-01-02,A,\"B, C\",memo\n"

abbrev changed_log : List ℕ
changed_log = codes "AB-0002,AB-0002,Withheld,WP,2020-01-02,A,\"B, C\",memp\n"

-- this stands for a file of one page
abbrev image : List ℕ
image = codes "page"

abbrev page : Image
page = record {
  width = 1;
  height = 1;
  xres = record { num = 200; den = 1 };
  yres = record { num = 200; den = 1 };
  unit = units.Inch;
  rows = (true ∷ []) ∷ [];
}

abbrev tiff : Judging
tiff bytes = if bytes_eq bytes image then Ok page else Err (bare_rule kinds.TiffHead)

-- and this for a digest: it tells bytes apart whose sum differs
abbrev digest : List ℕ → List ℕ
digest bytes = replicate 64 (97 + sum bytes % 6)

abbrev row : List ℕ → List ℕ → FileRow
row path bytes = record { path = path; bytes = bytes }

abbrev volume : List ℕ → List ℕ → List ℕ → List FileRow
volume dat' opt log' =
    row (codes "V1/IMAGES/0001/AB-0001.TIF") image
    ∷ row (codes "V1/TEXT/0001/AB-0001.TXT") (codes "\u{c}")
    ∷ row (codes "V1/IMAGES/0001/AB-0002.TIF") image
    ∷ row (codes "V1/TEXT/0001/AB-0002.TXT") (codes "DOCUMENT WITHHELD - WP\r\n\u{c}")
    ∷ row (codes "V1/DATA/V1.DAT") dat'
    ∷ row (codes "V1/DATA/V1.OPT") opt
    ∷ row (codes "V1/DATA/V1-LOG.CSV") log'
    ∷ []

abbrev listing_line : FileRow → List ℕ
listing_line file = digest file.bytes ++ codes "  " ++ file.path ++ 10 ∷ []

abbrev manifest : List ℕ
manifest = flat_map listing_line (volume dat (first_line ++ second_line) log)

abbrev find_in : List FileRow → List ℕ → Option (List ℕ)
find_in [] path = None
find_in (file ∷ files) path = if bytes_eq file.path path then Some file.bytes else find_in files path

abbrev reading : List FileRow → Reading
reading files which line path = checked_file which line (find_in files path)

abbrev all_three : Operands
all_three = record { dat = codes "V1/DATA/V1.DAT"; opt = codes "V1/DATA/V1.OPT"; manifest = Some (codes "V1/MANIFEST.TXT") }

-- the volume with these load files, this log, and the manifest of the whole one
abbrev checked : List ℕ → List ℕ → List ℕ → Result Checked Rule
checked dat' opt log' =
    check_by digest (reading (row (codes "V1/MANIFEST.TXT") manifest ∷ volume dat' opt log')) tiff all_three

whole_volume : checked dat (first_line ++ second_line) log ≡ Ok (record { documents = 2; images = 2; files = 7 })
unfolding chars is_utf8 encode digits
whole_volume = refl

-- the second line of the OPT is gone
line_gone : checked dat first_line log ≡ Err (rule_at_line CheckBreaks 2)
unfolding chars is_utf8 encode digits
line_gone = refl

-- its label is AB-0003
label_changed : checked dat (first_line ++ codes "AB-0003,V1,V1\\IMAGES\\0001\\AB-0002.TIF,Y,,,1\r\n") log ≡ Err (record (rule_at_line CheckGap 2) { a = 2; b = 3 })
unfolding chars is_utf8 encode digits
label_changed = refl

-- one byte of the log is changed
log_changed : checked dat (first_line ++ second_line) changed_log ≡ Err (rule_at_line DigestDiffers 7)
unfolding chars is_utf8 encode digits
log_changed = refl

-- the digest of the OPT comes after all else: a line without a count is taken, but it was changed
opt_changed : checked dat (first_line ++ codes "AB-0002,V1,V1\\IMAGES\\0001\\AB-0002.TIF,Y\n") log ≡ Err (rule_at_line DigestDiffers 6)
unfolding chars is_utf8 encode digits
opt_changed = refl

-- without a manifest no file is listed
no_manifest : check_by digest (reading (volume dat (first_line ++ second_line) changed_log)) tiff (record all_three { manifest = None }) ≡ Ok (record { documents = 2; images = 2; files = 0 })
unfolding chars is_utf8 encode digits
no_manifest = refl

-- the operands come before any file
bad_operand : check_by digest (reading []) tiff (record all_three { manifest = Some (codes "../M") }) ≡ Err (bare_rule kinds.PathRefused)
bad_operand = refl

no_files : check_by digest (reading []) tiff all_three ≡ Err (file_rule kinds.FileAbsent 0 0)
no_files = refl

no_opt : check_by digest (reading (row (codes "V1/DATA/V1.DAT") dat ∷ [])) tiff all_three ≡ Err (file_rule kinds.FileAbsent OPT 0)
unfolding chars is_utf8 encode digits
no_opt = refl

-- the manifest is read before the columns are tested
manifest_first : check_by digest (reading (volume (dat_line (codes "X" ∷ [])) first_line log)) tiff all_three ≡ Err (file_rule kinds.FileAbsent MANIFEST 0)
unfolding chars is_utf8 encode digits
manifest_first = refl

-- an image that isn't there, at its line
no_image : checked dat (first_line ++ codes "AB-0002,V1,V1\\AB-0002.TIF,Y,,,1\r\n") log ≡ Err (file_rule kinds.FileAbsent IMAGE 2)
unfolding chars is_utf8 encode digits
no_image = refl

-- an image that is none
bad_image : checked dat (first_line ++ codes "AB-0002,V1,V1\\DATA\\V1-LOG.CSV,Y,,,1\r\n") log ≡ Err (rule_at_line kinds.TiffHead 2)
unfolding chars is_utf8 encode digits
bad_image = refl

-- an OPT without lines, and a DAT without records
empty_volume : check_by digest (reading (row (codes "V1/DATA/V1.DAT") (dat_line columns) ∷ row (codes "V1/DATA/V1.OPT") [] ∷ [])) tiff (record all_three { manifest = None }) ≡ Ok (record { documents = 0; images = 0; files = 0 })
unfolding chars is_utf8 encode digits
empty_volume = refl

-- ---- manifests

abbrev sixty_four : List ℕ
sixty_four = replicate 64 97

one_listed : listed_files (sixty_four ++ codes "  V\\a\n") ≡ Ok (record { digest = sixty_four; path = codes "V/a" } ∷ [])
unfolding chars is_utf8 encode digits
one_listed = refl

empty_manifest : listed_files [] ≡ Ok []
empty_manifest = refl

no_end : listed_files (sixty_four ++ codes "  a") ≡ Err (rule_at_line ManifestShape 1)
unfolding chars is_utf8 encode digits
no_end = refl

-- no line may be empty
empty_line : listed_files (sixty_four ++ codes "  a\n\n") ≡ Err (rule_at_line ManifestShape 2)
unfolding chars is_utf8 encode digits
empty_line = refl

one_space : listed_in (sixty_four ++ codes " ab") ≡ None
unfolding chars is_utf8 encode digits
one_space = refl

capital_digits : listed_in (replicate 64 65 ++ codes "  a") ≡ None
unfolding chars is_utf8 encode digits
capital_digits = refl

path_leads_out : listed_in (sixty_four ++ codes "  ../a") ≡ None
unfolding chars is_utf8 encode digits
path_leads_out = refl

-- ---- what is left of a source

abbrev quiet : SourceView
quiet = record { files = None; faults = 0; absences = 0; overlong = 0; sure = false }

-- where the digest of line 2 differs no count rose
digest_differs : after_check_step {X = Checked} quiet (Err (refusals.Rule (rule_at_line DigestDiffers 2))) ≡ quiet
digest_differs = refl

-- where the file of line 4 is absent that count alone rose
file_is_absent : after_check_step {X = Checked} quiet (Err (refusals.Rule (file_rule kinds.FileAbsent LISTED 4))) ≡ record quiet { absences = 1 }
file_is_absent = refl

-- a source that failed has that count risen, and no other
failed_alone : after_check_step {X = Checked} quiet (Err refusals.SourceFault) ≡ record quiet { faults = 1 }
failed_alone = refl
