-- Worked examples of the definitions in specs/, each run by the check.
use Rattle.std.proofs.Common.{ℕ, ◌≡◌, Bool, true, false, List, [], ◌∷◌, ◌++◌, replicate, Some, None, Ok, Err, refl}
use Rattle.std.specs.Prelude.{codes}
use Rattle.std.specs.Fmt.{digits}
use Rattle.std.specs.Str.{chars}
use Rattle.bp_core.specs.declared.rules.RuleKind.TheVariants as kinds
use Rattle.bp_core.specs.Rules.{bare_rule, check_gap_rule, page_limit_rule}
use Rattle.bp_outside.specs.Folder.{file}
use Rattle.bp_rows.specs.declared.resolution.Unit.TheVariants as units
use Rattle.bp_rows.specs.Image.{Image}
use Rattle.bp_tiff.specs.declared.form.Form.TheVariants.{Plain, G4}
use Rattle.bp_tiff.specs.Tiff.{tiff_of}
use Rattle.bp_tiff.specs.Rules.{tiff_head}
use Rattle.bp_cli.specs.declared.stops.Stop.TheVariants as stops
use Rattle.bp_cli.specs.Words.{operand_number, is_bad_word}
use Rattle.bp_core.specs.declared.rectangle.Rect.{Rect}
use Rattle.bp_cli.specs.Burn.{BurnLine, PathAnswers, burn_page, burn_read, burn_gives, burn_paths}
use Rattle.hex.proofs.OnLiterals.{hex_on_literals}
use Rattle.hex.specs.Hex.{encode_with}
use Rattle.std.proofs.Math.Utf8.{encode}
use Rattle.bp_core.specs.declared.kept.Row.{Row}
use Rattle.bp_matter.specs.Batches.{BatchShown}
use Rattle.bp_matter.specs.Fields.{word}
use Rattle.bp_core.specs.declared.stamps.Ink.TheVariants.{Lettered}
use Rattle.bp_matter.specs.Matter.{Matter}
use Rattle.bp_matter.specs.declared.rows.Production.{Production}
use Rattle.bp_matter.specs.declared.rows.Request.{Request}
use Rattle.bp_rules.specs.Beginning.{begun}
use Rattle.bp_rules.specs.Importing.{import_of}
use Rattle.bp_cli.specs.Import.{import_gives}
use Rattle.bp_cli.specs.Kept.{MatterAnswers}
use Rattle.bp_cli.specs.Init.{key_digest_of, init_gives}
use Rattle.bp_cli.specs.Check.{check_gives}
use Rattle.bp_cli.specs.Claw.{ClawAsked, claw_gives, replacement_line}
use Rattle.bp_cli.specs.Commands.{burn, init, import, produce, press, log, check, claw, demo, command_of}
use Rattle.bp_cli.specs.Demo.{DemoAsked, demo_gives}
use Rattle.bp_cli.specs.Press.{log_gives, press_gives}
use Rattle.bp_cli.specs.Endings.{done, refused, status_of, ending_text}
use Rattle.bp_cli.specs.Runs.{all_statuses}
use Rattle.bp_cli.specs.declared.burn.TheConstants.{FILE_LIMIT}
use Rattle.bp_cli.specs.declared.init.TheConstants.{DIGEST_BYTES}
use Rattle.bp_cli.specs.declared.produce.TheConstants.{MAX_WIDTH_WORD, REQUEST_WORDS}
use Rattle.bp_cli.specs.declared.serve.TheConstants.{MAX_CONNECTIONS, MAX_DESKS, SERVE_WORDS}
use Rattle.bp_cli.specs.declared.statuses.TheConstants.{DONE, WORDS_REFUSED, RULE_BROKEN, SOURCE_FAULT, FOLDER_FAULT, KEEPER_FAULT, OUT_OF_MEMORY, OUT_FAULT}
use Rattle.bp_cli.specs.Produce.{produce_gives, volume_line, width_of}
use Rattle.bp_cli.specs.Deliver.{deliver_of, delivered_line, opening_of}
use Rattle.bp_cli.specs.NamedFiles.{named_file_read}
use Rattle.bp_cli.specs.declared.claw.TheConstants.{CLAW_WORDS}
use Rattle.bp_cli.specs.declared.deliver.TheConstants.{DELIVER_WORDS}
use Rattle.bp_cli.specs.declared.demo.TheConstants.{DEMO_WORDS}
use Rattle.bp_cli.specs.Serve.{serve_of}

-- ---- words

number_0 : operand_number (codes "0") ≡ Some 0
number_0 = refl

number_leading_zero : operand_number (codes "01") ≡ None
number_leading_zero = refl

number_empty : operand_number [] ≡ None
number_empty = refl

number_nine_digits : operand_number (codes "123456789") ≡ Some 123456789
number_nine_digits = refl

number_ten_digits : operand_number (codes "1234567890") ≡ None
number_ten_digits = refl

number_sign : operand_number (codes "+1") ≡ None
number_sign = refl

bad_words : (is_bad_word [] ≡ true) × (is_bad_word (codes "-a") ≡ true) × (is_bad_word (codes "a-") ≡ false)
bad_words = (refl, refl, refl)

box : ℕ → ℕ → ℕ → ℕ → BurnLine
box l t w h = record { from = codes "a.tif"; area = record { left = l; top = t; width = w; height = h }; to = codes "b.tif"; form = Plain }

line_of_form : List ℕ → List ℕ → List (List ℕ)
line_of_form left form =
    codes "burn" ∷ codes "a.tif" ∷ left ∷ codes "0" ∷ codes "8" ∷ codes "1" ∷ codes "b.tif" ∷ form ∷ []

line : List ℕ → List (List ℕ)
line left = line_of_form left (codes "plain")

worked_line : command_of (line (codes "0")) ≡ Some (burn (box 0 0 8 1))
unfolding box line line_of_form chars
worked_line = refl

-- left, top, width and height in this order
worked_places : command_of (codes "burn" ∷ codes "a.tif" ∷ codes "1" ∷ codes "2" ∷ codes "3" ∷ codes "4" ∷ codes "b.tif" ∷ codes "plain" ∷ []) ≡ Some (burn (box 1 2 3 4))
unfolding box chars
worked_places = refl

g4_line : command_of (line_of_form (codes "0") (codes "g4")) ≡ Some (burn (record (box 0 0 8 1) { form = G4 }))
unfolding box line_of_form chars
g4_line = refl

no_form : command_of (line_of_form (codes "0") (codes "g3")) ≡ None
unfolding line_of_form
no_form = refl

no_left : command_of (line (codes "x")) ≡ None
unfolding line line_of_form
no_left = refl

burn_alone : command_of (codes "burn" ∷ []) ≡ None
burn_alone = refl

no_words : command_of [] ≡ None
no_words = refl

-- ---- init

-- the SHA-256 of `abc`, of FIPS 180-4
abc : List ℕ
abc = codes "ba7816bf8f01cfea414140de5dae2223b00361a396177a9cb410ff61f20015ad"

abc_bytes : List ℕ
abc_bytes =
    186 ∷ 120 ∷ 22 ∷ 191 ∷ 143 ∷ 1 ∷ 207 ∷ 234 ∷ 65 ∷ 65 ∷ 64 ∷ 222 ∷ 93 ∷ 174 ∷ 34 ∷ 35
    ∷ 176 ∷ 3 ∷ 97 ∷ 163 ∷ 150 ∷ 23 ∷ 122 ∷ 156 ∷ 180 ∷ 16 ∷ 255 ∷ 97 ∷ 242 ∷ 0 ∷ 21 ∷ 173 ∷ []

init_line : command_of (codes "init" ∷ abc ∷ []) ≡ Some (init abc_bytes)
unfolding abc abc_bytes hex_on_literals
init_line = refl

init_alone : command_of (codes "init" ∷ []) ≡ None
init_alone = refl

init_more : command_of (codes "init" ∷ abc ∷ codes "x" ∷ []) ≡ None
unfolding abc
init_more = refl

high_hex : key_digest_of (codes "BA7816bf8f01cfea414140de5dae2223b00361a396177a9cb410ff61f20015ad") ≡ None
high_hex = refl

short_hex : key_digest_of (codes "ba7816bf8f01cfea414140de5dae2223b00361a396177a9cb410ff61f20015") ≡ None
unfolding hex_on_literals
short_hex = refl

-- the kept row of staff 1: version, lead, the digest, and `lead`
lead_row : Row
lead_row =
    record { kind = 1; k1 = 1; k2 = 0; body = 1 ∷ 2 ∷ (abc_bytes ++ (4 ∷ 0 ∷ 0 ∷ 0 ∷ codes "lead")) }

matter_made : init_gives abc_bytes [] ≡ done (codes "matter made\n") [] (Some (lead_row ∷ []))
unfolding abc_bytes lead_row word lib.Utf8.encode
matter_made = refl

matter_there : init_gives abc_bytes (lead_row ∷ []) ≡ refused (bare_rule kinds.MatterThere)
matter_there = refl

-- ---- import

import_line : command_of (codes "import" ∷ codes "B0" ∷ []) ≡ Some (import (codes "B0"))
import_line = refl

import_alone : command_of (codes "import" ∷ []) ≡ None
import_alone = refl

import_more : command_of (codes "import" ∷ codes "B0" ∷ codes "B1" ∷ []) ≡ None
import_more = refl

no_matter : MatterAnswers [] (Err (bare_rule kinds.NoMatter))
no_matter = refl

-- a matter that is missing comes before a name that is refused
matter_first : import_gives (codes "a b") (Err (bare_rule kinds.NoMatter)) (Err (bare_rule kinds.PathRefused)) ≡ refused (bare_rule kinds.NoMatter)
matter_first = refl

-- the batch B0 without fields and documents, whose files have this digest
empty_batch : ℕ → BatchShown
empty_batch n = record { name = codes "B0"; digest = replicate 32 n; fields = []; docs = [] }

-- its kept row: version, the digest, no document, no page, and `B0`
batch_kept : Row
batch_kept =
    record { kind = 11; k1 = 1; k2 = 0; body = 1 ∷ (replicate 32 7 ++ (0 ∷ 0 ∷ 0 ∷ 0 ∷ 0 ∷ 0 ∷ 0 ∷ 0 ∷ 2 ∷ 0 ∷ 0 ∷ 0 ∷ codes "B0")) }

batch_imported : import_gives (codes "B0") (Ok (begun abc_bytes)) (Ok (empty_batch 7)) ≡ done (codes "batch B0 documents 0 pages 0\n") [] (Some (lead_row ∷ batch_kept ∷ []))
unfolding abc_bytes lead_row batch_kept empty_batch import_of word digits lib.Utf8.encode
batch_imported = refl

-- the matter with that batch
with_batch : Matter
with_batch = record (begun abc_bytes) {
  batches = record { num = 1; digest = replicate 32 7; documents = 0; pages = 0; name = codes "B0" } ∷ [];
}

-- again: the same line, and nothing changed
batch_again : import_gives (codes "B0") (Ok with_batch) (Ok (empty_batch 7)) ≡ done (codes "batch B0 documents 0 pages 0\n") [] (Some (lead_row ∷ batch_kept ∷ []))
unfolding abc_bytes lead_row batch_kept empty_batch with_batch import_of word digits lib.Utf8.encode
batch_again = refl

-- other files under that name
batch_differs : import_gives (codes "B0") (Ok with_batch) (Ok (empty_batch 8)) ≡ refused (bare_rule kinds.BatchDiffers)
unfolding empty_batch with_batch import_of
batch_differs = refl

-- ---- check

check_line : command_of (codes "check" ∷ codes "V.DAT" ∷ codes "V.OPT" ∷ []) ≡ Some (check (record { dat = codes "V.DAT"; opt = codes "V.OPT"; manifest = None }))
unfolding chars
check_line = refl

check_listed : command_of (codes "check" ∷ codes "V.DAT" ∷ codes "V.OPT" ∷ codes "M" ∷ []) ≡ Some (check (record { dat = codes "V.DAT"; opt = codes "V.OPT"; manifest = Some (codes "M") }))
unfolding chars
check_listed = refl

check_one_file : command_of (codes "check" ∷ codes "V.DAT" ∷ []) ≡ None
check_one_file = refl

check_more : command_of (codes "check" ∷ codes "V.DAT" ∷ codes "V.OPT" ∷ codes "M" ∷ codes "M" ∷ []) ≡ None
check_more = refl

volume_checked : check_gives (Ok (record { documents = 2; images = 3; files = 7 })) ≡ done (codes "checked documents 2 images 3 files 7\n") [] None
unfolding digits
volume_checked = refl

volume_refused : check_gives (Err (check_gap_rule 2 2 3)) ≡ refused (check_gap_rule 2 2 3)
volume_refused = refl

gap_line : ending_text (Err (stops.Broken (check_gap_rule 2 2 3))) ≡ codes "refused 112 CheckGap 2 2 3\n"
unfolding digits
gap_line = refl

-- ---- the file, or the first broken rule

-- a page of 8 by 1 pixels at 200 to the inch, all of one colour
page : Bool → Image
page black =
    record {
      width = 8;
      height = 1;
      xres = record { num = 200; den = 1 };
      yres = record { num = 200; den = 1 };
      unit = units.Inch;
      rows = (black ∷ black ∷ black ∷ black ∷ black ∷ black ∷ black ∷ black ∷ []) ∷ [];
    }

whole_box : Rect
whole_box = record { left = 0; top = 0; width = 8; height = 1 }

burned_whole : burn_page whole_box (page false) ≡ Ok (page true)
unfolding whole_box page
burned_whole = refl

outside : burn_page (record whole_box { left = 1 }) (page false) ≡ Err (bare_rule kinds.BoxOutside)
unfolding whole_box page
outside = refl

-- a box without a width that lies outside as well
no_width : burn_page (record whole_box { left = 9; width = 0 }) (page false) ≡ Err (bare_rule kinds.BoxShape)
unfolding whole_box page
no_width = refl

-- a page that no import may have, and a box without a width
too_high : burn_page (record whole_box { width = 0 }) (record (page false) { height = 20001 }) ≡ Err (page_limit_rule 8 20001)
unfolding whole_box page
too_high = refl

-- what a file breaks comes before what the box breaks
no_page : burn_read (record whole_box { width = 0 }) (Err tiff_head) ≡ Err tiff_head
unfolding whole_box
no_page = refl

no_file : PathAnswers None (Err (bare_rule kinds.FileAbsent))
no_file = refl

-- OUT leads out of the folder, and IN names a path; then the other way round
leads_out : burn_paths (record (box 0 0 8 1) { to = codes "../b.tif" }) ≡ None
unfolding box
leads_out = refl

leads_out_too : burn_paths (record (box 0 0 8 1) { from = codes "../a.tif" }) ≡ None
unfolding box
leads_out_too = refl

paths_kept : burn_paths (record (box 0 0 8 1) { from = codes "./p/a.tif" }) ≡ Some (record { from = codes "p/a.tif"; to = codes "b.tif" })
unfolding box
paths_kept = refl

told : burn_gives Plain (codes "b.tif") (Ok (page true)) ≡ done (codes "burned 187\n") (file (codes "b.tif") (tiff_of Plain (page true)) ∷ []) None
unfolding page digits
told = refl

-- ---- what is printed

outside_line : ending_text (Err (stops.Broken (bare_rule kinds.BoxOutside))) ≡ codes "refused 13 BoxOutside 0 0 0\n"
unfolding digits
outside_line = refl

fault_line : (ending_text (Err stops.SourceFault) ≡ codes "source fault\n") × (status_of (Err stops.SourceFault) ≡ 3)
fault_line = (refl, refl)

keeper_line : (ending_text (Err stops.KeeperFault) ≡ codes "keeper fault\n") × (status_of (Err stops.KeeperFault) ≡ 5)
keeper_line = (refl, refl)

-- ---- the numbers of the program

eight_statuses : all_statuses ≡ 0 ∷ 1 ∷ 2 ∷ 3 ∷ 4 ∷ 5 ∷ 6 ∷ 7 ∷ []
eight_statuses = refl

done_status : status_of (Ok []) ≡ 0
done_status = refl

other_statuses : (status_of (Err stops.WordsRefused) ≡ 1) × (status_of (Err (stops.Broken (bare_rule kinds.BoxShape))) ≡ 2)
other_statuses = (refl, refl)

last_statuses : (status_of (Err stops.FolderFault) ≡ 4) × (status_of (Err stops.OutOfMemory) ≡ 6)
last_statuses = (refl, refl)

statuses_of_work : (DONE ≡ 0) × (WORDS_REFUSED ≡ 1) × (RULE_BROKEN ≡ 2) × (SOURCE_FAULT ≡ 3) × (FOLDER_FAULT ≡ 4) × (KEEPER_FAULT ≡ 5) × (OUT_OF_MEMORY ≡ 6) × (OUT_FAULT ≡ 7)
statuses_of_work = (refl, refl, refl, refl, refl, refl, refl, refl)

longest_file : FILE_LIMIT ≡ 134217728
longest_file = refl

digest_bytes : DIGEST_BYTES ≡ 32
digest_bytes = refl

words_before_fields : REQUEST_WORDS ≡ 6
words_before_fields = refl

greatest_width : MAX_WIDTH_WORD ≡ 255
greatest_width = refl

widths : (width_of (codes "255") ≡ Some 255) × (width_of (codes "256") ≡ None)
widths = (refl, refl)

-- ---- produce

-- eight digits behind ABC, documents 1 to 12
abbrev asked_first : List (List ℕ) → Request
asked_first fields = record {
  id = codes "R-1";
  volume = codes "VOL001";
  prefix = record { text = codes "ABC"; width = 8 };
  from = record { 0 = 1 };
  to = record { 0 = 12 };
  fields = fields;
}

-- a production of it, of 23 labels
abbrev produced : Production
produced = record { ink = Lettered; request = asked_first []; items = []; span = record { first = 1; last = 23 } }

-- with a field, and with none
one_field : command_of (codes "produce" ∷ codes "R-1" ∷ codes "VOL001" ∷ codes "ABC" ∷ codes "8" ∷ codes "1" ∷ codes "12" ∷ codes "AUTHOR" ∷ [])
    ≡ Some (produce (asked_first (codes "AUTHOR" ∷ [])))
unfolding chars
one_field = refl

without_fields : command_of (codes "produce" ∷ codes "R-1" ∷ codes "VOL001" ∷ codes "ABC" ∷ codes "8" ∷ codes "1" ∷ codes "12" ∷ [])
    ≡ Some (produce (asked_first []))
unfolding chars
without_fields = refl

no_last_document : command_of (codes "produce" ∷ codes "R-1" ∷ codes "VOL001" ∷ codes "ABC" ∷ codes "8" ∷ codes "1" ∷ []) ≡ None
no_last_document = refl

too_wide : command_of (codes "produce" ∷ codes "R-1" ∷ codes "VOL001" ∷ codes "ABC" ∷ codes "256" ∷ codes "1" ∷ codes "12" ∷ []) ≡ None
too_wide = refl

-- what is printed of its volume
volume_told : volume_line produced (record { files = 37; manifest = 0 ∷ 171 ∷ [] })
    ≡ codes "production R-1 labels ABC00000001 to ABC00000023 files 37 manifest 00ab\n"
unfolding digits encode encode_with
volume_told = refl

-- a rule of the rows comes first
produce_rows_first : produce_gives (asked_first []) (Err (bare_rule kinds.NoMatter)) ≡ refused (bare_rule kinds.NoMatter)
produce_rows_first = refl

-- ---- press and log

press_line : command_of (codes "press" ∷ codes "R-1" ∷ []) ≡ Some (press (codes "R-1"))
unfolding chars
press_line = refl

log_line : command_of (codes "log" ∷ codes "R-1" ∷ []) ≡ Some (log (codes "R-1"))
unfolding chars
log_line = refl

press_alone : command_of (codes "press" ∷ []) ≡ None
press_alone = refl

press_two : command_of (codes "press" ∷ codes "R-1" ∷ codes "R-2" ∷ []) ≡ None
press_two = refl

-- a new matter keeps no production
none_to_press : press_gives (codes "R-1") (Ok (begun abc_bytes)) ≡ refused (bare_rule kinds.NoProduction)
none_to_press = refl

none_to_log : log_gives (codes "R-1") (Ok (begun abc_bytes)) ≡ refused (bare_rule kinds.NoProduction)
none_to_log = refl

-- ---- claw

-- its documents that a notice names
abbrev claimed : ClawAsked
claimed = record { id = codes "R-1"; volume = codes "VOL002"; notice = codes "n.csv" }

claw_line : command_of (codes "claw" ∷ codes "R-1" ∷ codes "VOL002" ∷ codes "n.csv" ∷ []) ≡ Some (claw claimed)
unfolding chars
claw_line = refl

claw_short : command_of (codes "claw" ∷ codes "R-1" ∷ codes "VOL002" ∷ []) ≡ None
claw_short = refl

-- the rules of the rows come before those of the file, and these before the production
claw_rows_first : claw_gives claimed (Err (bare_rule kinds.NoMatter)) (Err (bare_rule kinds.FileAbsent)) ≡ refused (bare_rule kinds.NoMatter)
claw_rows_first = refl

claw_file_first : claw_gives claimed (Ok (begun abc_bytes)) (Err (bare_rule kinds.FileAbsent)) ≡ refused (bare_rule kinds.FileAbsent)
claw_file_first = refl

none_to_claw : claw_gives claimed (Ok (begun abc_bytes)) (Ok []) ≡ refused (bare_rule kinds.NoProduction)
none_to_claw = refl

replacement_told : replacement_line (codes "VOL002") produced (record { files = 37; manifest = 0 ∷ 171 ∷ [] })
    ≡ codes "replacement VOL002 labels ABC00000001 to ABC00000023 files 37 manifest 00ab\n"
unfolding digits encode encode_with
replacement_told = refl

-- ---- demo

demo_line : command_of (codes "demo" ∷ codes "7" ∷ codes "1" ∷ []) ≡ Some (demo (record { seed = 7; pages = 1 }))
demo_line = refl

demo_most : command_of (codes "demo" ∷ codes "0" ∷ codes "2000" ∷ []) ≡ Some (demo (record { seed = 0; pages = 2000 }))
demo_most = refl

demo_nothing : command_of (codes "demo" ∷ codes "7" ∷ codes "0" ∷ []) ≡ None
demo_nothing = refl

demo_more : command_of (codes "demo" ∷ codes "7" ∷ codes "2001" ∷ []) ≡ None
demo_more = refl

demo_alone : command_of (codes "demo" ∷ codes "7" ∷ []) ≡ None
demo_alone = refl

demo_three : command_of (codes "demo" ∷ codes "7" ∷ codes "1" ∷ codes "1" ∷ []) ≡ None
demo_three = refl

-- where a row is kept nothing is drawn
matter_stays : (asked : DemoAsked) → demo_gives asked (lead_row ∷ []) ≡ refused (bare_rule kinds.MatterThere)
matter_stays asked = refl

-- ---- serve

serve_five : serve_of 16 (codes "serve" ∷ codes "1" ∷ codes "5" ∷ [])
    ≡ Some (record { desks = 1; connections = 5 })
serve_five = refl

serve_all_doors : serve_of 16 (codes "serve" ∷ codes "16" ∷ codes "2" ∷ [])
    ≡ Some (record { desks = 16; connections = 2 })
serve_all_doors = refl

-- no more desks than doors, nor than sixteen
serve_few_doors : serve_of 1 (codes "serve" ∷ codes "2" ∷ codes "5" ∷ []) ≡ None
serve_few_doors = refl

serve_seventeen : serve_of 20 (codes "serve" ∷ codes "17" ∷ codes "5" ∷ []) ≡ None
serve_seventeen = refl

serve_at_no_door : serve_of 0 (codes "serve" ∷ codes "1" ∷ codes "5" ∷ []) ≡ None
serve_at_no_door = refl

serve_nobody : serve_of 16 (codes "serve" ∷ codes "1" ∷ codes "0" ∷ []) ≡ None
serve_nobody = refl

serve_is_no_other_command : command_of (codes "serve" ∷ codes "1" ∷ codes "5" ∷ []) ≡ None
serve_is_no_other_command = refl

serve_words : SERVE_WORDS ≡ 3
serve_words = refl

most_desks : MAX_DESKS ≡ 16
most_desks = refl

most_connections : MAX_CONNECTIONS ≡ 1000000
most_connections = refl

-- ---- deliver

deliver_five : deliver_of 16 (codes "deliver" ∷ codes "5" ∷ codes "g.csv" ∷ []) ≡ Some (record { connections = 5; grants = codes "g.csv" })
unfolding chars
deliver_five = refl

deliver_nobody : deliver_of 16 (codes "deliver" ∷ codes "0" ∷ codes "g.csv" ∷ []) ≡ None
deliver_nobody = refl

deliver_too_many : deliver_of 16 (codes "deliver" ∷ codes "1000001" ∷ codes "g.csv" ∷ []) ≡ None
deliver_too_many = refl

deliver_at_no_door : deliver_of 0 (codes "deliver" ∷ codes "5" ∷ codes "g.csv" ∷ []) ≡ None
deliver_at_no_door = refl

deliver_no_file : deliver_of 16 (codes "deliver" ∷ codes "5" ∷ []) ≡ None
deliver_no_file = refl

deliver_option : deliver_of 16 (codes "deliver" ∷ codes "5" ∷ codes "-g" ∷ []) ≡ None
deliver_option = refl

deliver_words : DELIVER_WORDS ≡ 3
deliver_words = refl

claw_words : CLAW_WORDS ≡ 3
claw_words = refl

demo_words : DEMO_WORDS ≡ 2
demo_words = refl

-- a file that isn't there is no file of grants; neither is one with a bad record
grants_absent : (m : Matter) → opening_of (Ok m) (named_file_read None) ≡ Err (bare_rule kinds.FileAbsent)
grants_absent m = refl

rows_first : opening_of (Err (bare_rule kinds.NoMatter)) (named_file_read None) ≡ Err (bare_rule kinds.NoMatter)
rows_first = refl

two_delivered : delivered_line 2 ≡ codes "delivered 2\n"
unfolding digits
two_delivered = refl
