-- Worked examples of pages that are kept as their strips (ITU-T T.6, 2.2): a white row of two pixels is one mode V0, a bit 1,
-- and the end of the facsimile block stands behind it.
use Rattle.std.proofs.Common.{◌≡◌, ◌<◌, ℕ, zero, suc, length, slice_index_or, arith, true, false, List, [], ◌∷◌, None, refl}
use Rattle.bp_codes.specs.CodeLists.{mode_codes}
use Rattle.bp_rows.specs.Image.{Image, IsPage, FitsRes, white_image}
use Rattle.bp_rows.specs.declared.resolution.Unit.TheVariants.{Inch}
use Rattle.bp_matter.specs.Images.{IsKeptPage, all_lines, image_kept, in_frame, lines_of, strip}
use Rattle.bp_matter.specs.declared.kept_page.Frame.{Frame}

-- two pixels by one, 200 to the inch
abbrev two_by_one : Frame
two_by_one = record { width = 2; height = 1; xres = record { num = 200; den = 1 }; yres = record { num = 200; den = 1 }; unit = Inch }

abbrev white : Image
white = white_image 2 1 (record { num = 200; den = 1 }) (record { num = 200; den = 1 }) Inch

abbrev white_strip : List ℕ
white_strip = 128 ∷ 8 ∷ 0 ∷ 128 ∷ []

in_a_frame : in_frame two_by_one ((false ∷ false ∷ []) ∷ []) ≡ white
in_a_frame = refl

-- the four pages of these sides
four_pages : all_lines 2 1 ≡ ((false ∷ false ∷ []) ∷ []) ∷ ((false ∷ true ∷ []) ∷ []) ∷ ((true ∷ false ∷ []) ∷ []) ∷ ((true ∷ true ∷ []) ∷ []) ∷ []
unfolding all_lines
four_pages = refl

-- the one of them whose strip these bytes are
white_is_kept : image_kept two_by_one white_strip ≡ white
unfolding lines_of all_lines strip mode_codes
white_is_kept = refl

-- bytes that are the strip of no page of these sides
none_is_kept : image_kept two_by_one (128 ∷ []) ≡ in_frame two_by_one []
unfolding lines_of all_lines strip mode_codes
none_is_kept = refl

-- a mode alone, without the end of the block
no_strip : lines_of 2 1 (128 ∷ []) ≡ None
unfolding lines_of all_lines strip mode_codes
no_strip = refl

across : (r : ℕ) → r < 1 → length (slice_index_or ((false ∷ false ∷ []) ∷ []) r []) ≡ 2
across zero low = refl
across (suc r) low = omega (arith, low)

two_hundred : FitsRes (record { num = 200; den = 1 })
two_hundred = record { num = omega arith; den = omega arith }

white_is_page : IsPage white
white_is_page = record { sides = refl; xres = two_hundred; yres = two_hundred; grid = record { down = refl; across = across } }

-- its strip is kept of it
kept_white : IsKeptPage white white_strip
unfolding mode_codes
kept_white = record { page = white_is_page; strip = refl }
