-- Worked examples of what is lent of a matter, call by call.
use Rattle.std.proofs.Common.{◌≡◌, ◌⊎◌, ℕ, zero, suc, ◌<◌, Bool, true, false, List, [], ◌∷◌, Some, None, map, refl, sym, ap, ◌∙◌, arith, inl, inr}
use Rattle.std.specs.Prelude.{codes, slice_index_or}
use Rattle.std.specs.List.{range_with_len}
use Rattle.bp_codes.specs.Bits.{bits_of}
use Rattle.bp_codes.specs.CodeLists.{black_codes, mode_codes, white_codes}
use Rattle.bp_codes.specs.Glyphs.{glyph_rows}
use Rattle.bp_codes.specs.declared.span.Fill.TheVariants.{High}
use Rattle.bp_core.specs.declared.review.Basis.TheVariants.{Ac, Pi, Wp}
use Rattle.bp_core.specs.declared.stamps.Ink.{Ink}
use Rattle.bp_core.specs.declared.stamps.Ink.TheVariants.{Black, Lettered}
use Rattle.bp_core.specs.declared.stamps.Stamp.{Stamp}
use Rattle.bp_rows.specs.Image.{Image, pixel}
use Rattle.bp_text.specs.declared.words.Word.{Word}
use Rattle.bp_burn.specs.Band.{slip_of}
use Rattle.bp_matter.specs.Matter.{Matter}
use Rattle.bp_matter.specs.declared.rows.BoxRow.{BoxRow}
use Rattle.bp_matter.specs.declared.rows.HeldRow.{HeldRow}
use Rattle.bp_matter.specs.declared.rows.Item.{Item}
use Rattle.bp_press.specs.Contents.{ground_of, stamps_on}
use Rattle.bp_press.specs.Shown.{CanBeCoded, CanBeCovered, IsOwnJob, IsOwnPage, Lends, covers, end_before, image_lent, in_hand, page_lent, rows_lent, shown_words, value_lent, words_left}
use Rattle.bp_press.specs.declared.lent.CoveredImage.TheVariants as images
use Rattle.bp_press.specs.declared.lent.CoveredPage.{CoveredPage}
use Rattle.bp_press.specs.declared.lent.KeptWords.{KeptWords}
use Rattle.bp_press.specs.declared.lent.ShownValue.TheVariants.{Held, Nothing, Value}
use Rattle.bp_press.specs.declared.jobs.Job.TheVariants as jobs
use Rattle.bp_press.proofs.BatchExamples.{lent, tiny_rows}
use Rattle.bp_press.proofs.Examples.{area, blank, frozen, redacted, runs, small, smith, withheld}

-- ---- words

-- a word of four columns and rows, from this column on
abbrev word_at : ℕ → ℕ → List ℕ → Word
word_at line left text = record {
  line = line;
  rect = record { left = left; top = 9; width = 4; height = 4 };
  text = text;
}

-- a box of page 1, of columns 8 to 23
abbrev box : BoxRow
box = record { num = 1; page = record { 0 = 1 }; rect = area; basis = Pi }

inside : covers box 1 (word_at 1 10 []).rect ≡ true
inside = refl

shares_a_column : covers box 1 (word_at 1 5 []).rect ≡ true
shares_a_column = refl

beside : covers box 1 (word_at 1 4 []).rect ≡ false
beside = refl

behind : covers box 1 (word_at 1 24 []).rect ≡ false
behind = refl

on_another_page : covers box 2 (word_at 1 10 []).rect ≡ false
on_another_page = refl

-- those of page 1 in the box go; the box isn't one of page 2
abbrev two_words : Matter
two_words = record smith {
  words =
      record { doc = record { 0 = 1 }; page = record { 0 = 1 }; words = word_at 1 10 [] ∷ word_at 1 24 [] ∷ [] }
      ∷ record { doc = record { 0 = 1 }; page = record { 0 = 2 }; words = word_at 1 10 [] ∷ [] } ∷ [];
}

words_shown : shown_words two_words redacted 1 ≡ word_at 1 24 [] ∷ []
words_shown = refl

second_words_shown : shown_words two_words redacted 2 ≡ word_at 1 10 [] ∷ []
second_words_shown = refl

no_words_shown : shown_words two_words redacted 3 ≡ []
no_words_shown = refl

-- the boxes of the page alone
abbrev lent_words : ℕ → KeptWords
lent_words page = record {
  words = lent (word_at 1 10 [] ∷ word_at 1 24 [] ∷ []);
  boxes = lent (box ∷ []);
  page = record { 0 = page };
}

left_on_page_one : words_left (lent_words 1) ≡ word_at 1 24 [] ∷ []
left_on_page_one = refl

left_on_page_two : words_left (lent_words 2) ≡ word_at 1 10 [] ∷ word_at 1 24 [] ∷ []
left_on_page_two = refl

lends_the_first : Lends (word_at 1 4 [] ∷ word_at 1 24 [] ∷ []) (Some (word_at 1 4 [])) (word_at 1 24 [] ∷ [])
lends_the_first = refl

lends_none : Lends [] None []
lends_none = (refl, refl)

one_in_hand : in_hand (Some (word_at 1 4 [])) (word_at 1 24 [] ∷ []) ≡ word_at 1 4 [] ∷ word_at 1 24 [] ∷ []
one_in_hand = refl

none_in_hand : in_hand None (word_at 1 24 [] ∷ []) ≡ word_at 1 24 [] ∷ []
none_in_hand = refl

-- U+000D and U+000A behind the last word of a line, and U+0020 between two
behind_the_last : end_before (word_at 1 4 []) None ≡ 13 ∷ 10 ∷ []
behind_the_last = refl

within_a_line : end_before (word_at 1 4 []) (Some (word_at 1 24 [])) ≡ 32 ∷ []
within_a_line = refl

between_lines : end_before (word_at 1 4 []) (Some (word_at 2 4 [])) ≡ 13 ∷ 10 ∷ []
between_lines = refl

-- ---- values

no_value : value_lent Nothing ≡ []
no_value = refl

abbrev held_row : HeldRow
held_row = record { field = 1; basis = Pi }

held_value : value_lent (Held (lent held_row)) ≡ codes "WITHHELD - PI"
held_value = refl

own_value : value_lent (Value (lent (codes "Ng"))) ≡ codes "Ng"
own_value = refl

-- ---- images

abbrev narrow_stamps : List Stamp
narrow_stamps = record { rect = record { left = 2; top = 0; width = 3; height = 1 }; basis = Ac } ∷ []

-- a page under a box for AC of columns 2 to 4, with what stands in its band
abbrev covered_page : Image → List ℕ → List ℕ → CoveredPage
covered_page page label designation = record {
  page = lent page;
  ink = Black;
  stamps = lent narrow_stamps;
  label = lent label;
  designation = lent designation;
}

-- the box black in the one row, and 32 white rows below it
box_lent : page_lent (covered_page small [] []) ≡ record small { height = 33; rows = tiny_rows }
unfolding glyph_rows
box_lent = refl

box_lent_as_image : image_lent (images.Page (covered_page small [] [])) ≡ record small { height = 33; rows = tiny_rows }
unfolding glyph_rows
box_lent_as_image = refl

-- the middle row of the letter I below a page of 64 by 32: of a designation it begins at column 16, and of
-- a label it ends before the last 16 columns; its line is three columns wide, behind six
abbrev middle_row : List ℕ → List ℕ → List Bool
middle_row label designation = map (pixel (page_lent (covered_page blank label designation)) 46) (range_with_len 0 64)

label_lent : middle_row (codes "I") [] ≡ runs false (39 ∷ 3 ∷ 22 ∷ [])
unfolding glyph_rows
label_lent = refl

designation_lent : middle_row [] (codes "I") ≡ runs false (22 ∷ 3 ∷ 39 ∷ [])
unfolding glyph_rows
designation_lent = refl

-- a box for AC of 39 by 27, black and lettered: its row 7
abbrev large_page : Ink → CoveredPage
large_page ink = record (covered_page blank [] []) { ink = ink; stamps = lent (record { rect = record { left = 4; top = 4; width = 39; height = 27 }; basis = Ac } ∷ []) }

abbrev row_seven : Ink → List Bool
row_seven ink = map (pixel (page_lent (large_page ink)) 7) (range_with_len 0 64)

black_lent : row_seven Black ≡ runs false (4 ∷ 39 ∷ 21 ∷ [])
unfolding glyph_rows
black_lent = refl

lettered_lent : row_seven Lettered ≡ runs false (4 ∷ 6 ∷ 9 ∷ 9 ∷ 9 ∷ 6 ∷ 21 ∷ [])
unfolding glyph_rows
lettered_lent = refl

-- a sheet, with its ground, its label and its designation
sheet_lent : image_lent (images.Sheet Wp (lent (codes "AB-0002")) (lent (codes "SECRET"))) ≡ slip_of Wp (codes "AB-0002") (codes "SECRET")
sheet_lent = refl

-- ---- what coding needs

can_cover : CanBeCovered (covered_page small (codes "AB-0001") (codes "SECRET"))
unfolding glyph_rows
can_cover = record { sides = refl; band = record { named = refl; stamped = refl } }

no_page_of_no_width : CanBeCovered (covered_page (record small { width = 0 }) [] []) → ⊥
no_page_of_no_width can = let no : false ≡ true = can.sides in absurd cc

no_small_letters : CanBeCovered (covered_page small (codes "ab") []) → ⊥
unfolding glyph_rows
no_small_letters can = let no : false ≡ true = can.band.named in absurd cc

page_can : CanBeCoded (images.Page (covered_page small (codes "AB-0001") (codes "SECRET")))
page_can = can_cover

page_can_not : CanBeCoded (images.Page (covered_page (record small { width = 0 }) [] [])) → ⊥
page_can_not can = no_page_of_no_width can

sheet_can : CanBeCoded (images.Sheet Wp (lent (codes "AB-0002")) (lent (codes "SECRET")))
unfolding glyph_rows
sheet_can = record { named = refl; stamped = refl }

sheet_can_not : CanBeCoded (images.Sheet Wp (lent (codes "AB-0002")) (lent (codes "Secret"))) → ⊥
unfolding glyph_rows
sheet_can_not band = let no : false ≡ true = band.stamped in absurd cc

-- the strip of a white row of eight: V0 and the end of the page. No row of it was read
rows_of_page : rows_lent (covered_page small [] []) ≡ record {
  bits = bits_of High (0x80 ∷ 0x08 ∷ 0x00 ∷ 0x80 ∷ []);
  width = 8;
  height = 1;
  ink = Black;
  stamps = narrow_stamps;
  row = 0;
}
unfolding white_codes black_codes mode_codes
rows_of_page = refl

-- ---- what may be asked for

abbrev own_stamps : List Stamp
own_stamps = record { rect = area; basis = Pi } ∷ []

own_page : IsOwnPage frozen 1 1 own_stamps
own_page = record { item = redacted; there = (0, omega arith, refl); shown = refl; of = refl; boxed = refl }

-- page 2 has no box
other_page : IsOwnPage frozen 1 2 []
other_page = record { item = redacted; there = (0, omega arith, refl); shown = refl; of = refl; boxed = refl }

one_of_two : (i : Item) (k : ℕ) → k < 2 → slice_index_or frozen.items k i ≡ i → (i ≡ redacted) ⊎ (i ≡ withheld)
one_of_two i zero low is = inl (sym is)
one_of_two i (suc zero) low is = inr (sym is)
one_of_two i (suc (suc k)) low is = absurd (omega arith)

own_item : {doc page : ℕ} {stamps : List Stamp} (own : IsOwnPage frozen doc page stamps) → (own.item ≡ redacted) ⊎ (own.item ≡ withheld)
own_item own = one_of_two own.item own.there.0 own.there.1 own.there.2

-- not without its box
bare : (i : Item) → (i ≡ redacted) ⊎ (i ≡ withheld) → i.doc.0 ≡ 1 → [] ≡ stamps_on i.boxes 1 → ⊥
bare i (inl is) number boxed = let none : [] ≡ own_stamps = boxed ∙ ap (λ (j : Item). stamps_on j.boxes 1) is in absurd cc
bare i (inr is) number boxed = let two : ◌≡◌ {A = ℕ} 1 2 = sym number ∙ ap (λ (j : Item). j.doc.0) is in absurd (omega arith)

no_bare_page : IsOwnPage frozen 1 1 [] → ⊥
no_bare_page own = bare own.item (own_item own) own.of own.boxed

-- nor a page of the document that is withheld
hidden : (i : Item) → (i ≡ redacted) ⊎ (i ≡ withheld) → i.doc.0 ≡ 2 → ground_of i.treatment ≡ None → ⊥
hidden i (inl is) number shown = let two : ◌≡◌ {A = ℕ} 2 1 = sym number ∙ ap (λ (j : Item). j.doc.0) is in absurd (omega arith)
hidden i (inr is) number shown = let none : None ≡ Some Wp = sym shown ∙ ap (λ (j : Item). ground_of j.treatment) is in absurd cc

no_withheld_page : IsOwnPage frozen 2 1 [] → ⊥
no_withheld_page own = hidden own.item (own_item own) own.of own.shown

own_job : IsOwnJob frozen (jobs.Image Lettered (record { 0 = 1 }) (record { 0 = 1 }) own_stamps (codes "AB-0001") [])
own_job = own_page

no_bare_job : IsOwnJob frozen (jobs.Image Lettered (record { 0 = 1 }) (record { 0 = 1 }) [] (codes "AB-0001") []) → ⊥
no_bare_job own = no_bare_page own

own_sheet : IsOwnJob frozen (jobs.Slip Wp (codes "AB-0002") [])
own_sheet = tt
