-- The files of a usual volume, of ten items and twenty-three images.
use Rattle.std.proofs.Common.{◌≡◌, List, [], ◌∷◌, ◌++◌, length, Some, false, refl}
use Rattle.std.specs.Prelude.{codes}
use Rattle.std.specs.Fmt.{digits}
use Rattle.bp_core.specs.declared.review.Basis.TheVariants.{Ac, Pi}
use Rattle.bp_core.specs.declared.review.Treatment.TheVariants.{Produce, Redact, Withhold}
use Rattle.bp_outside.specs.declared.files.FileRow.{FileRow}
use Rattle.bp_matter.specs.Matter.{Matter}
use Rattle.bp_matter.specs.declared.rows.Request.{Request}
use Rattle.bp_freeze.specs.Freezing.{freeze_of}
use Rattle.bp_freeze.specs.Log.{log_of}
use Rattle.bp_press.specs.Volume.{file_at, files_of, volume_of}
use Rattle.bp_press.proofs.Examples.{area, call, dat_line, doc, empty, entry, pressed}

-- ---- twelve documents in four families, of which one isn't responsive; the third is withheld for AC,
-- the fifth holds AUTHOR for PI, and the tenth has an AC box

abbrev pub twelve : Matter
twelve = record empty {
  docs =
      doc 1 1 3 (codes "Ng") ∷ doc 2 1 2 (codes "Ng") ∷ doc 3 1 5 (codes "Ng")
      ∷ doc 4 4 1 (codes "Ortiz") ∷ doc 5 4 4 (codes "Ortiz") ∷ doc 6 4 2 (codes "Ortiz")
      ∷ doc 7 7 3 (codes "Berg") ∷ doc 8 7 1 (codes "Berg")
      ∷ doc 9 9 2 (codes "Berg") ∷ doc 10 9 4 (codes "Berg") ∷ doc 11 9 1 [] ∷ doc 12 9 3 (codes "Lee\nChan")
      ∷ [];
  calls =
      call 1 Produce ∷ call 2 Produce
      ∷ record (call 3 (Withhold Ac)) { designation = codes "CONFIDENTIAL" }
      ∷ call 4 Produce ∷ call 5 Redact ∷ call 6 Produce
      ∷ record (call 7 Produce) { responsive = false } ∷ record (call 8 Produce) { responsive = false }
      ∷ call 9 Produce ∷ call 10 Redact ∷ call 11 Produce ∷ call 12 Produce ∷ [];
  boxes = record { doc = record { 0 = 10 }; row = record { num = 1; page = record { 0 = 1 }; rect = area; basis = Ac } } ∷ [];
  held = record { doc = record { 0 = 5 }; row = record { field = 1; basis = Pi } } ∷ [];
  entries =
      record { doc = record { 0 = 3 }; entry = entry (codes "2019-03-04") (codes "Ng") (codes "Ortiz, Berg") (codes "Letter asking counsel for advice on the lease") }
      ∷ record { doc = record { 0 = 10 }; entry = entry (codes "2019-05-02") (codes "Berg") (codes "Ng") (codes "Note quoting counsel") }
      ∷ [];
}

abbrev pub twelve_asked : Request
twelve_asked = record {
  id = codes "R-1";
  volume = codes "VOL001";
  prefix = record { text = codes "ABC"; width = 8 };
  from = record { 0 = 1 };
  to = record { 0 = 12 };
  fields = codes "AUTHOR" ∷ [];
}

abbrev twelve_pressed : List FileRow
unfolding freeze_of lib.Utf8.encode
twelve_pressed = pressed twelve (freeze_of twelve twelve_asked)

twelve_files : length twelve_pressed ≡ 37
unfolding freeze_of lib.Utf8.encode twelve_pressed volume_of files_of
twelve_files = refl

twelve_in_dat : file_at (codes "VOL001/DATA/VOL001.DAT") twelve_pressed
    ≡ Some (dat_line (codes "þBEGDOCþ·þENDDOCþ·þBEGATTACHþ·þENDATTACHþ·þPAGECOUNTþ·þDESIGNATIONþ·þWITHHELDþ·þTEXTPATHþ·þAUTHORþ")
    ++ dat_line (codes "þABC00000001þ·þABC00000003þ·þABC00000001þ·þABC00000006þ·þ3þ·þþ·þþ·þVOL001\\TEXT\\0001\\ABC00000001.TXTþ·þNgþ")
    ++ dat_line (codes "þABC00000004þ·þABC00000005þ·þABC00000001þ·þABC00000006þ·þ2þ·þþ·þþ·þVOL001\\TEXT\\0001\\ABC00000004.TXTþ·þNgþ")
    ++ dat_line (codes "þABC00000006þ·þABC00000006þ·þABC00000001þ·þABC00000006þ·þ1þ·þCONFIDENTIALþ·þACþ·þVOL001\\TEXT\\0001\\ABC00000006.TXTþ·þþ")
    ++ dat_line (codes "þABC00000007þ·þABC00000007þ·þABC00000007þ·þABC00000013þ·þ1þ·þþ·þþ·þVOL001\\TEXT\\0001\\ABC00000007.TXTþ·þOrtizþ")
    ++ dat_line (codes "þABC00000008þ·þABC00000011þ·þABC00000007þ·þABC00000013þ·þ4þ·þþ·þþ·þVOL001\\TEXT\\0001\\ABC00000008.TXTþ·þWITHHELD - PIþ")
    ++ dat_line (codes "þABC00000012þ·þABC00000013þ·þABC00000007þ·þABC00000013þ·þ2þ·þþ·þþ·þVOL001\\TEXT\\0001\\ABC00000012.TXTþ·þOrtizþ")
    ++ dat_line (codes "þABC00000014þ·þABC00000015þ·þABC00000014þ·þABC00000023þ·þ2þ·þþ·þþ·þVOL001\\TEXT\\0001\\ABC00000014.TXTþ·þBergþ")
    ++ dat_line (codes "þABC00000016þ·þABC00000019þ·þABC00000014þ·þABC00000023þ·þ4þ·þþ·þþ·þVOL001\\TEXT\\0001\\ABC00000016.TXTþ·þBergþ")
    ++ dat_line (codes "þABC00000020þ·þABC00000020þ·þABC00000014þ·þABC00000023þ·þ1þ·þþ·þþ·þVOL001\\TEXT\\0001\\ABC00000020.TXTþ·þþ")
    ++ dat_line (codes "þABC00000021þ·þABC00000023þ·þABC00000014þ·þABC00000023þ·þ3þ·þþ·þþ·þVOL001\\TEXT\\0001\\ABC00000021.TXTþ·þLee®Chanþ"))
unfolding freeze_of lib.Utf8.encode twelve_pressed volume_of files_of digits
twelve_in_dat = refl

twelve_in_opt : file_at (codes "VOL001/DATA/VOL001.OPT") twelve_pressed
    ≡ Some (codes "ABC00000001,VOL001,VOL001\\IMAGES\\0001\\ABC00000001.TIF,Y,,,3\r\n"
    ++ codes "ABC00000002,VOL001,VOL001\\IMAGES\\0001\\ABC00000002.TIF,,,,\r\n"
    ++ codes "ABC00000003,VOL001,VOL001\\IMAGES\\0001\\ABC00000003.TIF,,,,\r\n"
    ++ codes "ABC00000004,VOL001,VOL001\\IMAGES\\0001\\ABC00000004.TIF,Y,,,2\r\n"
    ++ codes "ABC00000005,VOL001,VOL001\\IMAGES\\0001\\ABC00000005.TIF,,,,\r\n"
    ++ codes "ABC00000006,VOL001,VOL001\\IMAGES\\0001\\ABC00000006.TIF,Y,,,1\r\n"
    ++ codes "ABC00000007,VOL001,VOL001\\IMAGES\\0001\\ABC00000007.TIF,Y,,,1\r\n"
    ++ codes "ABC00000008,VOL001,VOL001\\IMAGES\\0001\\ABC00000008.TIF,Y,,,4\r\n"
    ++ codes "ABC00000009,VOL001,VOL001\\IMAGES\\0001\\ABC00000009.TIF,,,,\r\n"
    ++ codes "ABC00000010,VOL001,VOL001\\IMAGES\\0001\\ABC00000010.TIF,,,,\r\n"
    ++ codes "ABC00000011,VOL001,VOL001\\IMAGES\\0001\\ABC00000011.TIF,,,,\r\n"
    ++ codes "ABC00000012,VOL001,VOL001\\IMAGES\\0001\\ABC00000012.TIF,Y,,,2\r\n"
    ++ codes "ABC00000013,VOL001,VOL001\\IMAGES\\0001\\ABC00000013.TIF,,,,\r\n"
    ++ codes "ABC00000014,VOL001,VOL001\\IMAGES\\0001\\ABC00000014.TIF,Y,,,2\r\n"
    ++ codes "ABC00000015,VOL001,VOL001\\IMAGES\\0001\\ABC00000015.TIF,,,,\r\n"
    ++ codes "ABC00000016,VOL001,VOL001\\IMAGES\\0001\\ABC00000016.TIF,Y,,,4\r\n"
    ++ codes "ABC00000017,VOL001,VOL001\\IMAGES\\0001\\ABC00000017.TIF,,,,\r\n"
    ++ codes "ABC00000018,VOL001,VOL001\\IMAGES\\0001\\ABC00000018.TIF,,,,\r\n"
    ++ codes "ABC00000019,VOL001,VOL001\\IMAGES\\0001\\ABC00000019.TIF,,,,\r\n"
    ++ codes "ABC00000020,VOL001,VOL001\\IMAGES\\0001\\ABC00000020.TIF,Y,,,1\r\n"
    ++ codes "ABC00000021,VOL001,VOL001\\IMAGES\\0001\\ABC00000021.TIF,Y,,,3\r\n"
    ++ codes "ABC00000022,VOL001,VOL001\\IMAGES\\0001\\ABC00000022.TIF,,,,\r\n"
    ++ codes "ABC00000023,VOL001,VOL001\\IMAGES\\0001\\ABC00000023.TIF,,,,\r\n")
unfolding freeze_of lib.Utf8.encode twelve_pressed volume_of files_of digits
twelve_in_opt = refl

twelve_in_log : file_at (codes "VOL001/DATA/VOL001-LOG.CSV") twelve_pressed
    ≡ Some (codes "BEGLABEL,ENDLABEL,TREATMENT,BASIS,DATE,AUTHOR,RECIPIENTS,DESCRIPTION\nABC00000006,ABC00000006,Withheld,AC,2019-03-04,Ng,\"Ortiz, Berg\",Letter asking counsel for advice on the lease\nABC00000016,ABC00000019,Redacted,AC,2019-05-02,Berg,Ng,Note quoting counsel\n")
unfolding freeze_of lib.Utf8.encode twelve_pressed volume_of files_of log_of
twelve_in_log = refl
