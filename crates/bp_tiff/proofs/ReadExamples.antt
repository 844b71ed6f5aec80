-- Files of strangers and damaged files, read by the definitions in specs/ and run by the check.
use Rattle.std.proofs.Common.{ℕ, ◌≡◌, ◌+◌, true, false, List, [], ◌∷◌, ◌++◌, Ok, Err, Result, take, drop, length, replicate, refl, map, sym, subst, arith}
use Rattle.std.proofs.Math.Nat.{le_refl}
use Rattle.std.specs.List.{range_with_len}
use Rattle.bp_codes.specs.declared.span.Fill.TheVariants.{High, Low}
use Rattle.bp_core.specs.declared.rules.Rule.{Rule}
use Rattle.bp_core.specs.Rules.{page_limit_rule}
use Rattle.bp_rows.specs.declared.resolution.Unit.TheVariants.{Inch}
use Rattle.bp_tiff.specs.declared.layout.Layout.{Layout}
use Rattle.bp_tiff.specs.declared.numbers.ByteOrder.TheVariants.{Little, Big}
use Rattle.bp_tiff.specs.Directory.{directory_in, entry_of_tag}
use Rattle.bp_tiff.specs.Layout.{layout_of, sides_of, coding_of, strips_of, scale_of}
use Rattle.bp_tiff.specs.Rules.{tiff_head, tiff_bounds, tiff_missing, tiff_type, tiff_meaning, tiff_compression, tiff_strips, many_pages}
use Rattle.bp_tiff.specs.Standing.{Follows, StandTogether}
use Rattle.bp_tiff.specs.Values.{number_of_tag, number_among, values_of_tag, resolution_of}
use Rattle.bp_tiff.proofs.Examples.{g4_file, plain_file, two_hundred}

-- ---- whole files

-- the black page of 8 by 1 in the form G4
abbrev g4_layout : Layout
g4_layout = record {
  directory = record { order = Little; first = 10; count = 14 };
  sides = record { width = 8; height = 1 };
  coding = record { is_t6 = true; zero_is_black = false; fill = High };
  strips = record {
    rows = 1;
    count = 1;
    offsets = record { are_long = true; place = 90 };
    lengths = record { are_long = true; place = 126 };
  };
  scale = record { xres = two_hundred; yres = two_hundred; unit = Inch };
}

g4_read : layout_of g4_file ≡ Ok g4_layout
unfolding layout_of directory_in entry_of_tag number_of_tag number_among values_of_tag resolution_of sides_of coding_of strips_of scale_of
g4_read = refl

-- the same page in the plain form
abbrev plain_layout : Layout
plain_layout = record {
  directory = record { order = Little; first = 10; count = 13 };
  sides = record { width = 8; height = 1 };
  coding = record { is_t6 = false; zero_is_black = false; fill = High };
  strips = record {
    rows = 1;
    count = 1;
    offsets = record { are_long = true; place = 90 };
    lengths = record { are_long = true; place = 126 };
  };
  scale = record { xres = two_hundred; yres = two_hundred; unit = Inch };
}

plain_read : layout_of plain_file ≡ Ok plain_layout
unfolding layout_of directory_in entry_of_tag number_of_tag number_among values_of_tag resolution_of sides_of coding_of strips_of scale_of
plain_read = refl

-- a stranger's, of 8 by 3: the highest byte first, the first bit low, 0 is black, three strips, no
-- resolution
abbrev pub strange_file : List ℕ
strange_file =
    0x4D ∷ 0x4D ∷ 0x00 ∷ 0x2A ∷ 0x00 ∷ 0x00 ∷ 0x00 ∷ 0x08  -- the header
    ∷ 0x00 ∷ 0x08  -- eight entries
    ∷ 0x01 ∷ 0x00 ∷ 0x00 ∷ 0x03 ∷ 0x00 ∷ 0x00 ∷ 0x00 ∷ 0x01 ∷ 0x00 ∷ 0x08 ∷ 0x00 ∷ 0x00  -- ImageWidth
    ∷ 0x01 ∷ 0x01 ∷ 0x00 ∷ 0x03 ∷ 0x00 ∷ 0x00 ∷ 0x00 ∷ 0x01 ∷ 0x00 ∷ 0x03 ∷ 0x00 ∷ 0x00  -- ImageLength
    ∷ 0x01 ∷ 0x03 ∷ 0x00 ∷ 0x03 ∷ 0x00 ∷ 0x00 ∷ 0x00 ∷ 0x01 ∷ 0x00 ∷ 0x04 ∷ 0x00 ∷ 0x00  -- Compression
    ∷ 0x01 ∷ 0x06 ∷ 0x00 ∷ 0x03 ∷ 0x00 ∷ 0x00 ∷ 0x00 ∷ 0x01 ∷ 0x00 ∷ 0x01 ∷ 0x00 ∷ 0x00  -- PhotometricInterpretation
    ∷ 0x01 ∷ 0x0A ∷ 0x00 ∷ 0x03 ∷ 0x00 ∷ 0x00 ∷ 0x00 ∷ 0x01 ∷ 0x00 ∷ 0x02 ∷ 0x00 ∷ 0x00  -- FillOrder
    ∷ 0x01 ∷ 0x11 ∷ 0x00 ∷ 0x04 ∷ 0x00 ∷ 0x00 ∷ 0x00 ∷ 0x03 ∷ 0x00 ∷ 0x00 ∷ 0x00 ∷ 0x6E  -- StripOffsets
    ∷ 0x01 ∷ 0x16 ∷ 0x00 ∷ 0x03 ∷ 0x00 ∷ 0x00 ∷ 0x00 ∷ 0x01 ∷ 0x00 ∷ 0x01 ∷ 0x00 ∷ 0x00  -- RowsPerStrip
    ∷ 0x01 ∷ 0x17 ∷ 0x00 ∷ 0x03 ∷ 0x00 ∷ 0x00 ∷ 0x00 ∷ 0x03 ∷ 0x00 ∷ 0x00 ∷ 0x00 ∷ 0x7A  -- StripByteCounts
    ∷ 0x00 ∷ 0x00 ∷ 0x00 ∷ 0x00  -- no next directory
    ∷ 0x00 ∷ 0x00 ∷ 0x00 ∷ 0x80 ∷ 0x00 ∷ 0x00 ∷ 0x00 ∷ 0x84 ∷ 0x00 ∷ 0x00 ∷ 0x00 ∷ 0x88  -- three offsets
    ∷ 0x00 ∷ 0x04 ∷ 0x00 ∷ 0x04 ∷ 0x00 ∷ 0x04  -- three lengths
    ∷ 0x01 ∷ 0x10 ∷ 0x00 ∷ 0x01  -- a strip of one row
    ∷ 0x01 ∷ 0x10 ∷ 0x00 ∷ 0x01  -- another
    ∷ 0x01 ∷ 0x10 ∷ 0x00 ∷ 0x01  -- another
    ∷ []

abbrev pub strange_layout : Layout
strange_layout = record {
  directory = record { order = Big; first = 10; count = 8 };
  sides = record { width = 8; height = 3 };
  coding = record { is_t6 = true; zero_is_black = true; fill = Low };
  strips = record {
    rows = 1;
    count = 3;
    offsets = record { are_long = true; place = 110 };
    lengths = record { are_long = false; place = 122 };
  };
  scale = record { xres = two_hundred; yres = two_hundred; unit = Inch };
}

pub strange_read : layout_of strange_file ≡ Ok strange_layout
unfolding layout_of directory_in entry_of_tag number_of_tag number_among values_of_tag resolution_of sides_of coding_of strips_of scale_of
strange_read = refl

-- ---- every proper prefix of the first and the last of them

abbrev cut : ℕ → ℕ → List ℕ → List (Result Layout Rule)
cut from count bytes = map (λ k. layout_of (take k bytes)) (range_with_len from count)

g4_heads : cut 0 8 g4_file ≡ replicate 8 (Err tiff_head)
unfolding layout_of directory_in entry_of_tag number_of_tag number_among values_of_tag resolution_of sides_of coding_of strips_of scale_of
g4_heads = refl

g4_directories : cut 8 174 g4_file ≡ replicate 174 (Err (tiff_bounds 0))
unfolding layout_of directory_in entry_of_tag number_of_tag number_among values_of_tag resolution_of sides_of coding_of strips_of scale_of
g4_directories = refl

g4_rest :
    cut 182 22 g4_file
    ≡ replicate 8 (Err (tiff_bounds 282)) ++ replicate 8 (Err (tiff_bounds 283)) ++ replicate 6 (Err (tiff_bounds 273))
unfolding layout_of directory_in entry_of_tag number_of_tag number_among values_of_tag resolution_of sides_of coding_of strips_of scale_of
g4_rest = refl

strange_heads : cut 0 8 strange_file ≡ replicate 8 (Err tiff_head)
unfolding layout_of directory_in entry_of_tag number_of_tag number_among values_of_tag resolution_of sides_of coding_of strips_of scale_of
strange_heads = refl

strange_directories : cut 8 102 strange_file ≡ replicate 102 (Err (tiff_bounds 0))
unfolding layout_of directory_in entry_of_tag number_of_tag number_among values_of_tag resolution_of sides_of coding_of strips_of scale_of
strange_directories = refl

strange_rest :
    cut 110 30 strange_file
    ≡ replicate 12 (Err (tiff_bounds 273)) ++ replicate 6 (Err (tiff_bounds 279)) ++ replicate 12 (Err (tiff_bounds 273))
unfolding layout_of directory_in entry_of_tag number_of_tag number_among values_of_tag resolution_of sides_of coding_of strips_of scale_of
strange_rest = refl

-- ---- other bytes at one place of the first

abbrev changed : ℕ → List ℕ → List ℕ
changed at bytes = take at g4_file ++ bytes ++ drop (at + length bytes) g4_file

abbrev changes : List (ℕ × List ℕ)
changes =
    (178, 1 ∷ [])  -- a next directory
    ∷ (18, 0 ∷ [])  -- a width of 0
    ∷ (18, 0x21 ∷ 0x4E ∷ [])  -- of 20,001
    ∷ (36, 1 ∷ [])  -- BitsPerSample as a BYTE
    ∷ (98, 2 ∷ [])  -- two values of SamplesPerPixel
    ∷ (66, 2 ∷ [])  -- Photometric 2
    ∷ (114, 0 ∷ [])  -- no rows in a strip
    ∷ (126, 7 ∷ [])  -- a strip of seven bytes
    ∷ (54, 0x05 ∷ 0x80 ∷ [])  -- Compression 32,773
    ∷ (10, 0xFF ∷ 0 ∷ [])  -- no ImageWidth
    ∷ (12, 5 ∷ [])  -- ImageWidth as a RATIONAL
    ∷ (86, 2 ∷ [])  -- two values of StripOffsets, which would leave the file too
    ∷ (174, 4 ∷ [])  -- ResolutionUnit 4
    ∷ []

answers :
    map (λ (c : ℕ × List ℕ). layout_of (changed c.0 c.1)) changes
    ≡ Err many_pages
    ∷ Err (page_limit_rule 0 1)
    ∷ Err (page_limit_rule 20001 1)
    ∷ Err (tiff_type 258)
    ∷ Err (tiff_type 277)
    ∷ Err (tiff_meaning 262)
    ∷ Err (tiff_meaning 278)
    ∷ Err (tiff_bounds 273)
    ∷ Err (tiff_compression 32773)
    ∷ Err (tiff_missing 256)
    ∷ Err (tiff_type 256)
    ∷ Err tiff_strips
    ∷ Err (tiff_meaning 296)
    ∷ []
unfolding layout_of directory_in entry_of_tag number_of_tag number_among values_of_tag resolution_of sides_of coding_of strips_of scale_of
answers = refl

-- T6Options turned into a second ImageWidth, of 0: the first entry of a tag counts
first_counts : layout_of (changed 154 (0x00 ∷ 0x01 ∷ [])) ≡ Ok g4_layout
unfolding layout_of directory_in entry_of_tag number_of_tag number_among values_of_tag resolution_of sides_of coding_of strips_of scale_of
first_counts = refl

-- ---- and of the last

other_compression : layout_of (take 43 strange_file ++ (5 ∷ []) ++ drop 44 strange_file) ≡ Err (tiff_compression 5)
unfolding layout_of directory_in entry_of_tag number_of_tag number_among values_of_tag resolution_of sides_of coding_of strips_of scale_of
other_compression = refl

-- ---- rows that stand together

-- the one strip of the plain file does
plain_stands : StandTogether plain_file plain_layout
plain_stands = record {
  packed = refl;
  each = λ k within.
      let first : k ≡ 0 = omega arith in
      subst (λ (j : ℕ). Follows plain_file plain_layout 186 j) (sym first) (record { begins = refl; whole = le_refl 1 });
}

-- it doesn't follow on a row that ends a byte further
plain_apart : ¬ (Follows plain_file plain_layout 187 0)
plain_apart follows = let same : 186 ≡ 187 = follows.begins in absurd (omega (arith, same))
