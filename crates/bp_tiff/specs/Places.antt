-- Where the parts of a page file stand, in bytes from its first.
use Rattle.std.specs.Prelude.{ℕ}
use Rattle.bp_tiff.specs.declared.form.Form.{Form}
use Rattle.bp_tiff.specs.declared.form.Form.TheVariants.{Plain, G4}
use Rattle.bp_tiff.specs.declared.places.TheConstants.{PLAIN_STRIP_AT, G4_STRIP_AT}

-- the strip, and so how many bytes stand before it
abbrev pub strip_at : Form → ℕ
strip_at Plain = PLAIN_STRIP_AT
strip_at G4 = G4_STRIP_AT
