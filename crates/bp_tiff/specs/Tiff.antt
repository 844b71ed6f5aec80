-- The page file that this product writes (TIFF 6.0): the least byte first, one directory, and one
-- strip, with which the file ends.
use Rattle.std.specs.Prelude.{ℕ, List, ◌++◌, length, codes}
use Rattle.std.specs.Int.{to_le_bytes, w16, w32}
use Rattle.bp_rows.specs.declared.resolution.Res.{Res}
use Rattle.bp_rows.specs.Image.{Image}
use Rattle.bp_rows.specs.Packed.{packed_rows}
use Rattle.bp_t6.specs.Written.{bits_strip as t6_strip}
use Rattle.bp_tiff.specs.declared.fields.Fields.{Fields}
use Rattle.bp_tiff.specs.declared.form.Form.{Form}
use Rattle.bp_tiff.specs.declared.form.Form.TheVariants.{Plain, G4}
use Rattle.bp_tiff.specs.declared.places.TheConstants.{DIRECTORY_AT, MAGIC}
use Rattle.bp_tiff.specs.Entries.{entries, directory}

-- what a file says of its page beside the pixels
abbrev pub tiff_fields : Image → Fields
tiff_fields p = record {
  width = p.width;
  height = p.height;
  xres = p.xres;
  yres = p.yres;
  unit = p.unit;
}

-- section 2, Image File Header: the byte order, 42, and where the directory begins
-- by TIFF 6.0, section 2, Image File Header
abbrev pub header : List ℕ
header = codes "II" ++ to_le_bytes w16 MAGIC ++ to_le_bytes w32 DIRECTORY_AT

-- section 2, RATIONAL: numerator and denominator
-- by TIFF 6.0, section 2, RATIONAL
abbrev pub rational : Res → List ℕ
rational r = to_le_bytes w32 r.num ++ to_le_bytes w32 r.den

-- all that stands before the strip
-- by TIFF 6.0, section 2, RATIONAL
abbrev pub head_of : Form → Fields → ℕ → List ℕ
head_of form f strip_bytes =
    header ++ directory (entries form f strip_bytes) ++ rational f.xres ++ rational f.yres

-- section 8, Compression 1: packed rows; section 11, Compression 4: the codes of ITU-T T.6
-- by TIFF 6.0, section 8, Compression 1; section 11, Compression 4
abbrev pub strip_of : Form → Image → List ℕ
strip_of Plain p = packed_rows p.rows
strip_of G4 p = t6_strip p

-- TiffOf: the file of a page
-- by TIFF 6.0, section 8, Compression 1; section 11, Compression 4
abbrev pub tiff_of : Form → Image → List ℕ
tiff_of form p = head_of form (tiff_fields p) (length (strip_of form p)) ++ strip_of form p
