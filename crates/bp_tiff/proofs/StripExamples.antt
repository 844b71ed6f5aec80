-- What strips hold, under both orders of bits, and the page of the stranger's file; run by the
-- check.
use Rattle.std.proofs.Common.{ℕ, ◌≡◌, Bool, true, false, List, [], ◌∷◌, drop, replicate, refl, arith}
use Rattle.bp_codes.specs.declared.span.Fill.TheVariants.{High, Low}
use Rattle.bp_codes.specs.Bits.{bits_of}
use Rattle.bp_codes.specs.CodeLists.{mode_codes}
use Rattle.bp_rows.specs.declared.resolution.Unit.TheVariants.{Inch}
use Rattle.bp_rows.specs.Image.{Image}
use Rattle.bp_t6.specs.Modes.{Vertical}
use Rattle.bp_t6.specs.Read.{RowReads, StripReads}
use Rattle.bp_t6.specs.Written.{white_line}
use Rattle.bp_tiff.specs.Pixels.{packed_values, value_inked, CodedHolds, PackedBreaks}
use Rattle.bp_tiff.specs.Read.{TiffReads}
use Rattle.bp_tiff.specs.Rules.{tiff_strips}
use Rattle.bp_tiff.proofs.Examples.{two_hundred}
use Rattle.bp_tiff.proofs.ReadExamples.{strange_file, strange_layout, strange_read}

-- ---- packed strips

first_bit_high : packed_values High 3 1 (0xB0 ∷ []) ≡ (true ∷ false ∷ true ∷ []) ∷ []
first_bit_high = refl

-- the bits past the width are unread
first_bit_low :
    packed_values Low 3 2 (0x05 ∷ 0xFA ∷ [])
    ≡ (true ∷ false ∷ true ∷ []) ∷ (false ∷ true ∷ false ∷ []) ∷ []
first_bit_low = refl

one_is_black : value_inked false ((true ∷ false ∷ []) ∷ []) ≡ (true ∷ false ∷ []) ∷ []
one_is_black = refl

zero_is_black : value_inked true ((true ∷ false ∷ []) ∷ []) ≡ (false ∷ true ∷ []) ∷ []
zero_is_black = refl

-- two rows of nine pixels need four bytes
too_short : PackedBreaks 9 2 (0 ∷ 0 ∷ 0 ∷ []) tiff_strips
too_short = record { short = omega arith; says = refl }

-- ---- the stranger's strips of T.6: each has one row of values 0, and 0 is black

abbrev strip : List ℕ
strip = 0x01 ∷ 0x10 ∷ 0x00 ∷ 0x01 ∷ []

-- one vertical mode, and what follows it is unread
row : RowReads (white_line 8) (bits_of Low strip) (replicate 8 false) (drop 1 (bits_of Low strip))
unfolding mode_codes
row = record {
  modes = Vertical 3 ∷ [];
  move = (record { coded = omega arith; onward = omega arith; within = omega arith }, tt);
  codes = refl;
  end = refl;
  paint = refl;
}

zeros : StripReads (bits_of Low strip) 8 1 (replicate 8 false ∷ [])
zeros = record { count = refl; read = (drop 1 (bits_of Low strip), row, tt) }

abbrev black : List (List Bool)
black = replicate 8 true ∷ []

black_held : CodedHolds strange_layout.coding 8 1 strip black
black_held = record { values = replicate 8 false ∷ []; reads = zeros; means = refl }

-- ---- and the page that its file holds

abbrev strange_page : Image
strange_page = record {
  width = 8;
  height = 3;
  xres = two_hundred;
  yres = two_hundred;
  unit = Inch;
  rows = replicate 3 (replicate 8 true);
}

strange_reads : TiffReads strange_file strange_page
strange_reads = record {
  layout = strange_layout;
  laid = strange_read;
  held = record {
    these = black;
    rest = replicate 2 (replicate 8 true);
    one = black_held;
    others = record {
      these = black;
      rest = black;
      one = black_held;
      others = record { these = black; rest = []; one = black_held; others = refl; joined = refl };
      joined = refl;
    };
    joined = refl;
  };
  page = refl;
}
