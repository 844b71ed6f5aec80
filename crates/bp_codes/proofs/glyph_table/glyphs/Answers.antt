use Rattle.std.proofs.Common.{refl}
use Rattle.bp_codes.specs.Glyphs.{glyph_rows}
use Rattle.bp_codes.proofs.glyph_table.glyphs.Goals as goal

pub returns : goal.returns
unfolding glyph_rows
returns c = refl
