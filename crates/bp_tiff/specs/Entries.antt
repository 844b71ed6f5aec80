-- The directory of a page file (TIFF 6.0, section 2, Image File Directory), and its entries
-- (section 8).
use Rattle.std.specs.Prelude.{ℕ, List, [], ◌∷◌, ◌++◌, length}
use Rattle.std.specs.Int.{to_le_bytes, w16, w32}
use Rattle.std.specs.List.{flat_map}
use Rattle.bp_tiff.specs.declared.entries.Entry.{Entry}
use Rattle.bp_tiff.specs.declared.entries.Value.{Value}
use Rattle.bp_tiff.specs.declared.entries.Value.TheVariants as values
use Rattle.bp_tiff.specs.declared.fields.Fields.{Fields}
use Rattle.bp_tiff.specs.declared.form.Form.{Form}
use Rattle.bp_tiff.specs.declared.form.Form.TheVariants.{Plain, G4}
use Rattle.bp_tiff.specs.declared.places.TheConstants.{PLAIN_XRES_AT, PLAIN_YRES_AT, PLAIN_STRIP_AT, G4_XRES_AT, G4_YRES_AT, G4_STRIP_AT}
use Rattle.bp_tiff.specs.declared.tags.TheConstants as tags
use Rattle.bp_tiff.specs.Units.{unit_code}

-- ---- the bytes of a directory

-- section 2, IFD Entry: a type, and a count of one value
-- by TIFF 6.0, section 2, IFD Entry
abbrev pub one_value : ℕ → List ℕ
one_value kind = to_le_bytes w16 kind ++ to_le_bytes w32 1

-- section 2, IFD Entry: and four bytes, which begin with the value, or say where it stands
-- by TIFF 6.0, section 2, IFD Entry
abbrev pub value_bytes : Value → List ℕ
value_bytes (values.Short n) = one_value tags.SHORT ++ to_le_bytes w16 n ++ 0 ∷ 0 ∷ []
value_bytes (values.Long n) = one_value tags.LONG ++ to_le_bytes w32 n
value_bytes (values.RationalAt at) = one_value tags.RATIONAL ++ to_le_bytes w32 at

-- section 2, IFD Entry: after the tag
-- by TIFF 6.0, section 2, IFD Entry
abbrev pub entry_bytes : Entry → List ℕ
entry_bytes e = to_le_bytes w16 e.tag ++ value_bytes e.value

-- section 2, Image File Directory: the count of entries, the entries, and 0 for no next directory
-- by TIFF 6.0, section 8, each field, and section 11, T6Options; section 2, Image File Directory
abbrev pub directory : List Entry → List ℕ
directory es = to_le_bytes w16 (length es) ++ flat_map entry_bytes es ++ to_le_bytes w32 0

-- ---- the entries of each form

-- an entry of one SHORT
-- by TIFF 6.0, section 2, IFD Entry
abbrev pub short : ℕ → ℕ → Entry
short tag n = record { tag = tag; value = values.Short n }

-- an entry of one LONG
-- by TIFF 6.0, section 2, IFD Entry
abbrev pub long : ℕ → ℕ → Entry
long tag n = record { tag = tag; value = values.Long n }

-- an entry of one RATIONAL, which stands at an offset
-- by TIFF 6.0, section 2, IFD Entry
abbrev pub ratio : ℕ → ℕ → Entry
ratio tag at = record { tag = tag; value = values.RationalAt at }

-- Sections 8 and 11, in the order of the tags. Compression 1 is none, 4 is T.6, here without
-- uncompressed mode. White is zero, the first pixel stands in the high bit, all rows in one strip.
-- by TIFF 6.0, section 8, each field, and section 11, T6Options; section 2, Image File Directory
abbrev pub entries : Form → Fields → ℕ → List Entry
entries Plain f strip_bytes =
    long tags.IMAGE_WIDTH f.width
    ∷ long tags.IMAGE_LENGTH f.height
    ∷ short tags.BITS_PER_SAMPLE 1
    ∷ short tags.COMPRESSION 1
    ∷ short tags.PHOTOMETRIC 0
    ∷ short tags.FILL_ORDER 1
    ∷ long tags.STRIP_OFFSETS PLAIN_STRIP_AT
    ∷ short tags.SAMPLES_PER_PIXEL 1
    ∷ long tags.ROWS_PER_STRIP f.height
    ∷ long tags.STRIP_BYTE_COUNTS strip_bytes
    ∷ ratio tags.X_RESOLUTION PLAIN_XRES_AT
    ∷ ratio tags.Y_RESOLUTION PLAIN_YRES_AT
    ∷ short tags.RESOLUTION_UNIT (unit_code f.unit)
    ∷ []
entries G4 f strip_bytes =
    long tags.IMAGE_WIDTH f.width
    ∷ long tags.IMAGE_LENGTH f.height
    ∷ short tags.BITS_PER_SAMPLE 1
    ∷ short tags.COMPRESSION 4
    ∷ short tags.PHOTOMETRIC 0
    ∷ short tags.FILL_ORDER 1
    ∷ long tags.STRIP_OFFSETS G4_STRIP_AT
    ∷ short tags.SAMPLES_PER_PIXEL 1
    ∷ long tags.ROWS_PER_STRIP f.height
    ∷ long tags.STRIP_BYTE_COUNTS strip_bytes
    ∷ ratio tags.X_RESOLUTION G4_XRES_AT
    ∷ ratio tags.Y_RESOLUTION G4_YRES_AT
    ∷ long tags.T6_OPTIONS 0
    ∷ short tags.RESOLUTION_UNIT (unit_code f.unit)
    ∷ []
