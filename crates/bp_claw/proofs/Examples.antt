-- Worked examples of the definitions in specs/, each run by the check.
use Rattle.std.proofs.Common.{◌≡◌, ℕ, zero, suc, ◌<◌, true, false, List, [], ◌∷◌, ◌++◌, drop, get_or, length, map, Option, Some, None, Result, Ok, Err, refl, arith}
use Rattle.std.specs.Prelude.{codes, option_map, take}
use Rattle.std.specs.Fmt.{digits}
use Rattle.std.specs.Str.{chars, is_utf8}
use Rattle.std.proofs.Math.Utf8.{encode}
use Rattle.csv.proofs.OnLiterals.{csv_on_literals}
use Rattle.bp_core.specs.Rules.{bare_rule, not_produced_rule, notice_twice_rule, rule_at_line}
use Rattle.bp_core.specs.declared.review.Basis.{Basis}
use Rattle.bp_core.specs.declared.review.Basis.TheVariants.{Ac, Wp}
use Rattle.bp_core.specs.declared.review.Treatment.TheVariants.{Redact, Withhold}
use Rattle.bp_core.specs.declared.rules.Rule.{Rule}
use Rattle.bp_core.specs.declared.rules.RuleKind.TheVariants.{BadVolume, NoticeEmpty, NoticeShape, VolumeTaken}
use Rattle.bp_outside.specs.declared.files.FileRow.{FileRow}
use Rattle.bp_matter.specs.Matter.{Matter}
use Rattle.bp_matter.specs.declared.rows.Entry.{Entry}
use Rattle.bp_matter.specs.declared.rows.Item.{Item}
use Rattle.bp_matter.specs.declared.rows.Production.{Production}
use Rattle.bp_freeze.specs.Freezing.{freeze_of}
use Rattle.bp_freeze.specs.Keeping.{with_production}
use Rattle.bp_freeze.specs.Log.{log_of}
use Rattle.bp_freeze.specs.Agree.{ItemAgrees, field_number}
use Rattle.bp_rows.specs.Burned.{burned}
use Rattle.bp_rows.specs.Image.{pixel}
use Rattle.bp_matter.specs.Treatments.{is_withheld}
use Rattle.bp_burn.specs.Band.{slip_of}
use Rattle.bp_tiff.specs.Tiff.{tiff_of}
use Rattle.bp_tiff.specs.declared.form.Form.TheVariants.{G4}
use Rattle.bp_press.specs.Contents.{page_image, slip_sheet}
use Rattle.bp_press.specs.Volume.{file_at, files_of, volume_of}
use Rattle.bp_press.proofs.Examples.{area, blank, dat_line, doc, entry, frozen, smith}
use Rattle.bp_press.proofs.TwelveExamples.{twelve, twelve_asked}
use Rattle.bp_claw.specs.AgreeBut.{AgreeBut}
use Rattle.bp_claw.specs.Claims.{claim_fits, is_named}
use Rattle.bp_claw.specs.NoticeFiles.{notice_of}
use Rattle.bp_claw.specs.Refusing.{replace_rule}
use Rattle.bp_claw.specs.Replacement.{replaced_item, replacement_of}
use Rattle.bp_claw.specs.declared.notice_files.TheConstants.{AUTHOR, BASIS, DATE, DESCRIPTION, DOCUMENT, FIELDS, RECIPIENTS}
use Rattle.bp_claw.specs.declared.notices.Claim.{Claim}

-- ---- notices

abbrev claim : ℕ → Basis → Entry → Claim
claim doc basis entry = record { doc = record { 0 = doc }; basis = basis; entry = entry }

-- a letter to counsel that was produced
abbrev letter_entry : Entry
letter_entry = entry (codes "2019-01-07") (codes "Ng") (codes "Ortiz") (codes "Letter to counsel")

abbrev letter : Claim
letter = claim 1 Ac letter_entry

one_claim : notice_of (codes "1,AC,2019-01-07,Ng,Ortiz,Letter to counsel\n") ≡ Ok (letter ∷ [])
unfolding csv_on_literals chars is_utf8 encode
one_claim = refl

-- a mark at the head is dropped, empty lines are passed over, quotes are taken away, and texts may be empty
two_claims : notice_of (0xEF ∷ 0xBB ∷ 0xBF ∷ codes "\r\n1,AC,2019-01-07,Ng,Ortiz,\"Letter to counsel\"\r\n\r\n12,WP,,,,\r\n")
    ≡ Ok (letter ∷ claim 12 Wp (entry [] [] [] []) ∷ [])
unfolding csv_on_literals chars is_utf8 encode
two_claims = refl

-- an empty line isn't counted, and the first bad record is told
second_record : notice_of (codes "1,AC,,,,\n\n2,PI,,,,\n3,TS,,,,\n") ≡ Err (rule_at_line NoticeShape 2)
unfolding csv_on_literals chars is_utf8 encode
second_record = refl

leading_zero : notice_of (codes "01,AC,,,,") ≡ Err (rule_at_line NoticeShape 1)
unfolding csv_on_literals chars is_utf8 encode
leading_zero = refl

no_number : notice_of (codes "0,AC,,,,") ≡ Err (rule_at_line NoticeShape 1)
unfolding csv_on_literals chars is_utf8 encode
no_number = refl

ten_digits : notice_of (codes "1234567890,AC,,,,") ≡ Err (rule_at_line NoticeShape 1)
unfolding csv_on_literals chars is_utf8 encode
ten_digits = refl

small_basis : notice_of (codes "1,ac,,,,") ≡ Err (rule_at_line NoticeShape 1)
unfolding csv_on_literals chars is_utf8 encode
small_basis = refl

five_fields : notice_of (codes "1,AC,,,") ≡ Err (rule_at_line NoticeShape 1)
unfolding csv_on_literals chars is_utf8 encode
five_fields = refl

seven_fields : notice_of (codes "1,AC,,,,,") ≡ Err (rule_at_line NoticeShape 1)
unfolding csv_on_literals chars is_utf8 encode
seven_fields = refl

control_character : notice_of (codes "1,AC,,a\tb,,") ≡ Err (rule_at_line NoticeShape 1)
unfolding csv_on_literals chars is_utf8 encode
control_character = refl

broken_utf8 : notice_of (codes "1,AC,,," ++ 0xFF ∷ codes ",") ≡ Err (rule_at_line NoticeShape 1)
unfolding csv_on_literals chars is_utf8 encode
broken_utf8 = refl

-- no record is empty; a bad one comes before that
no_record : notice_of [] ≡ Err (bare_rule NoticeEmpty)
unfolding csv_on_literals
no_record = refl

no_line : notice_of (codes "\r\n\n") ≡ Err (bare_rule NoticeEmpty)
unfolding csv_on_literals
no_line = refl

field_places : (FIELDS ∷ DOCUMENT ∷ BASIS ∷ DATE ∷ AUTHOR ∷ RECIPIENTS ∷ DESCRIPTION ∷ []) ≡ (6 ∷ 0 ∷ 1 ∷ 2 ∷ 3 ∷ 4 ∷ 5 ∷ [])
field_places = refl

claims_fit : (map claim_fits (letter ∷ record letter { basis = Wp } ∷ [])) ≡ (true ∷ true ∷ [])
unfolding encode
claims_fit = refl

-- ---- a usual volume, of which a letter of three pages is claimed back

abbrev replaced_in : List Claim → Result Production Rule → List FileRow
replaced_in notice (Ok f) = replacement_of f notice (codes "VOL002") twelve
replaced_in notice (Err rule) = []

abbrev letter_back : List FileRow
unfolding freeze_of lib.Utf8.encode
letter_back = replaced_in (letter ∷ []) (freeze_of twelve twelve_asked)

as_many_files : length letter_back ≡ 37
unfolding freeze_of lib.Utf8.encode letter_back replacement_of volume_of files_of
as_many_files = refl

-- a sheet under each of its three labels, and its text
letter_files : map (λ row. row.path) (take 5 letter_back)
    ≡ (codes "VOL002/IMAGES/0001/ABC00000001.TIF" ∷ codes "VOL002/IMAGES/0001/ABC00000002.TIF"
    ∷ codes "VOL002/IMAGES/0001/ABC00000003.TIF" ∷ codes "VOL002/TEXT/0001/ABC00000001.TXT"
    ∷ codes "VOL002/IMAGES/0001/ABC00000004.TIF" ∷ [])
unfolding freeze_of lib.Utf8.encode letter_back replacement_of volume_of files_of
letter_files = refl

letter_sheets : map (λ row. row.bytes) (take 3 letter_back)
    ≡ map (tiff_of G4) (slip_of Ac (codes "ABC00000001") [] ∷ slip_of Ac (codes "ABC00000002") [] ∷ slip_of Ac (codes "ABC00000003") [] ∷ [])
unfolding freeze_of lib.Utf8.encode letter_back replacement_of volume_of files_of slip_sheet
letter_sheets = refl

letter_text : file_at (codes "VOL002/TEXT/0001/ABC00000001.TXT") letter_back ≡ Some (codes "DOCUMENT WITHHELD - AC\r\n" ++ 12 ∷ [])
unfolding freeze_of lib.Utf8.encode letter_back replacement_of volume_of files_of
letter_text = refl

-- its labels and their number stay; its field doesn't
letter_in_dat : file_at (codes "VOL002/DATA/VOL002.DAT") letter_back
    ≡ Some (dat_line (codes "þBEGDOCþ·þENDDOCþ·þBEGATTACHþ·þENDATTACHþ·þPAGECOUNTþ·þDESIGNATIONþ·þWITHHELDþ·þTEXTPATHþ·þAUTHORþ")
    ++ dat_line (codes "þABC00000001þ·þABC00000003þ·þABC00000001þ·þABC00000006þ·þ3þ·þþ·þACþ·þVOL002\\TEXT\\0001\\ABC00000001.TXTþ·þþ")
    ++ dat_line (codes "þABC00000004þ·þABC00000005þ·þABC00000001þ·þABC00000006þ·þ2þ·þþ·þþ·þVOL002\\TEXT\\0001\\ABC00000004.TXTþ·þNgþ")
    ++ dat_line (codes "þABC00000006þ·þABC00000006þ·þABC00000001þ·þABC00000006þ·þ1þ·þCONFIDENTIALþ·þACþ·þVOL002\\TEXT\\0001\\ABC00000006.TXTþ·þþ")
    ++ dat_line (codes "þABC00000007þ·þABC00000007þ·þABC00000007þ·þABC00000013þ·þ1þ·þþ·þþ·þVOL002\\TEXT\\0001\\ABC00000007.TXTþ·þOrtizþ")
    ++ dat_line (codes "þABC00000008þ·þABC00000011þ·þABC00000007þ·þABC00000013þ·þ4þ·þþ·þþ·þVOL002\\TEXT\\0001\\ABC00000008.TXTþ·þWITHHELD - PIþ")
    ++ dat_line (codes "þABC00000012þ·þABC00000013þ·þABC00000007þ·þABC00000013þ·þ2þ·þþ·þþ·þVOL002\\TEXT\\0001\\ABC00000012.TXTþ·þOrtizþ")
    ++ dat_line (codes "þABC00000014þ·þABC00000015þ·þABC00000014þ·þABC00000023þ·þ2þ·þþ·þþ·þVOL002\\TEXT\\0001\\ABC00000014.TXTþ·þBergþ")
    ++ dat_line (codes "þABC00000016þ·þABC00000019þ·þABC00000014þ·þABC00000023þ·þ4þ·þþ·þþ·þVOL002\\TEXT\\0001\\ABC00000016.TXTþ·þBergþ")
    ++ dat_line (codes "þABC00000020þ·þABC00000020þ·þABC00000014þ·þABC00000023þ·þ1þ·þþ·þþ·þVOL002\\TEXT\\0001\\ABC00000020.TXTþ·þþ")
    ++ dat_line (codes "þABC00000021þ·þABC00000023þ·þABC00000014þ·þABC00000023þ·þ3þ·þþ·þþ·þVOL002\\TEXT\\0001\\ABC00000021.TXTþ·þLee®Chanþ"))
unfolding freeze_of lib.Utf8.encode letter_back replacement_of volume_of files_of digits
letter_in_dat = refl

letter_in_opt : option_map (take 179) (file_at (codes "VOL002/DATA/VOL002.OPT") letter_back)
    ≡ Some (codes "ABC00000001,VOL002,VOL002\\IMAGES\\0001\\ABC00000001.TIF,Y,,,3\r\n"
    ++ codes "ABC00000002,VOL002,VOL002\\IMAGES\\0001\\ABC00000002.TIF,,,,\r\n"
    ++ codes "ABC00000003,VOL002,VOL002\\IMAGES\\0001\\ABC00000003.TIF,,,,\r\n")
unfolding freeze_of lib.Utf8.encode letter_back replacement_of volume_of files_of digits
letter_in_opt = refl

-- the claim is in the log, before the two that were there
letter_in_log : file_at (codes "VOL002/DATA/VOL002-LOG.CSV") letter_back
    ≡ Some (codes "BEGLABEL,ENDLABEL,TREATMENT,BASIS,DATE,AUTHOR,RECIPIENTS,DESCRIPTION\nABC00000001,ABC00000003,Withheld,AC,2019-01-07,Ng,Ortiz,Letter to counsel\nABC00000006,ABC00000006,Withheld,AC,2019-03-04,Ng,\"Ortiz, Berg\",Letter asking counsel for advice on the lease\nABC00000016,ABC00000019,Redacted,AC,2019-05-02,Berg,Ng,Note quoting counsel\n")
unfolding freeze_of lib.Utf8.encode letter_back replacement_of volume_of files_of log_of
letter_in_log = refl

-- a redacted document that is named has no box and no held field left, so that its old ground is gone
abbrev boxed : Item
boxed = record {
  doc = record { 0 = 10 };
  parent = record { 0 = 9 };
  treatment = Redact;
  boxes = record { num = 1; page = record { 0 = 1 }; rect = area; basis = Ac } ∷ [];
  held = [];
  entry = None;
  designation = codes "SECRET";
  span = record { first = 16; last = 19 };
}

boxed_back : replaced_item (letter ∷ record letter { doc = record { 0 = 10 }; basis = Wp } ∷ []) boxed
    ≡ record {
      doc = record { 0 = 10 };
      parent = record { 0 = 9 };
      treatment = Withhold Wp;
      boxes = [];
      held = [];
      entry = Some letter_entry;
      designation = codes "SECRET";
      span = record { first = 16; last = 19 };
    }
boxed_back = refl

-- another item stays
boxed_stays : replaced_item (letter ∷ []) boxed ≡ boxed
boxed_stays = refl

-- ---- what is refused

abbrev ruled_in : List ℕ → List Claim → Result Production Rule → Option Rule
ruled_in volume notice (Ok f) = replace_rule (with_production f twelve) f volume notice
ruled_in volume notice (Err rule) = None

abbrev ruled : List ℕ → List Claim → Option Rule
unfolding freeze_of lib.Utf8.encode
ruled volume notice = ruled_in volume notice (freeze_of twelve twelve_asked)

none_broken : ruled (codes "VOL002") (letter ∷ []) ≡ None
unfolding freeze_of lib.Utf8.encode ruled
none_broken = refl

-- the third document is withheld, the seventh isn't produced, and there is no thirteenth
not_produced : (ruled (codes "VOL002") (record letter { doc = record { 0 = 3 } } ∷ [])
    ∷ ruled (codes "VOL002") (letter ∷ record letter { doc = record { 0 = 7 } } ∷ [])
    ∷ ruled (codes "VOL002") (record letter { doc = record { 0 = 13 } } ∷ []) ∷ [])
    ≡ (Some (not_produced_rule 1 3) ∷ Some (not_produced_rule 2 7) ∷ Some (not_produced_rule 1 13) ∷ [])
unfolding freeze_of lib.Utf8.encode ruled
not_produced = refl

-- named twice comes before not produced, and the first record that breaks a rule is told
named_twice : (ruled (codes "VOL002") (letter ∷ letter ∷ [])
    ∷ ruled (codes "VOL002") (letter ∷ record letter { doc = record { 0 = 3 } } ∷ letter ∷ []) ∷ [])
    ≡ (Some (notice_twice_rule 2 1) ∷ Some (not_produced_rule 2 3) ∷ [])
unfolding freeze_of lib.Utf8.encode ruled
named_twice = refl

-- the name of the volume is tried first
bad_name : (ruled (codes "vol002") (letter ∷ letter ∷ []) ∷ ruled [] (letter ∷ []) ∷ ruled (codes "VOL001") (letter ∷ letter ∷ []) ∷ [])
    ≡ (Some (bare_rule BadVolume) ∷ Some (bare_rule BadVolume) ∷ Some (bare_rule VolumeTaken) ∷ [])
unfolding freeze_of lib.Utf8.encode ruled
bad_name = refl

-- ---- two matters that differ in all of a document that is claimed back, and nothing shows it

-- another page, other words and another value
abbrev other_letter : Matter
other_letter = record smith {
  docs = doc 1 1 1 (codes "Mole") ∷ drop 1 smith.docs;
  pages = record { doc = record { 0 = 1 }; page = record { 0 = 1 }; image = burned blank (record { left = 0; top = 0; width = 64; height = 32 } ∷ []) } ∷ drop 1 smith.pages;
  words = record { doc = record { 0 = 1 }; page = record { 0 = 1 }; words = [] } ∷ drop 1 smith.words;
}

letters_differ : (pixel (page_image smith 1 1) 0 0 ∷ pixel (page_image other_letter 1 1) 0 0 ∷ []) ≡ (false ∷ true ∷ [])
letters_differ = refl

number_agrees : (k : ℕ) (d : List ℕ) → k < 1 → field_number smith (get_or frozen.request.fields k d) ≡ field_number other_letter (get_or frozen.request.fields k d)
number_agrees zero d l = refl
number_agrees (suc k) d l = absurd (omega arith)

item_agrees : (k : ℕ) (d : Item) → k < 2 → is_withheld (get_or frozen.items k d).treatment ≡ false → is_named (letter ∷ []) (get_or frozen.items k d).doc.0 ≡ false
    → ItemAgrees frozen smith other_letter (get_or frozen.items k d)
item_agrees zero d l shown none = absurd cc
item_agrees (suc zero) d l shown none = absurd cc
item_agrees (suc (suc k)) d l shown none = absurd (omega arith)

they_agree_but : AgreeBut frozen (letter ∷ []) smith other_letter
they_agree_but = record { numbers = number_agrees; items = item_agrees }
