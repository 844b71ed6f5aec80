-- Lemmas on strips that are coded as the coder does it: carry their rows over to their bytes.
use Rattle.std.proofs.Common.{ℕ, zero, suc, ◌+◌, ◌-◌, ◌<◌, ◌≤◌, ◌≡◌, Bool, true, false, List, [], ◌∷◌, ◌++◌, length, get_or, drop, replicate, refl, ap, sym, ◌∙◌, subst, arith, append_assoc, length-append, length-drop}
use Rattle.std.proofs.lemmas.List.{ext_get_or, get_or-drop, length_push, length-replicate}
use Rattle.bp_codes.specs.declared.span.Fill.TheVariants.{High}
use Rattle.bp_codes.specs.Bits.{bits_of}
use Rattle.bp_codes.specs.CodeLists.{end_of_block}
use Rattle.bp_rows.specs.Changes.{Shows}
use Rattle.bp_rows.specs.Packed.{packed_row}
use Rattle.bp_rows.proofs.ShownLemmas.{shows_white}
use Rattle.bp_t6.specs.declared.canonical_strip.TheConstants.{BLOCK_END}
use Rattle.bp_t6.specs.Written.{row_code, white_line}
use Rattle.bp_t6.specs.SoFar.{last_line, codes_so_far}
use Rattle.bp_t6.specs.Canonical.{IsCanonicalStrip, RowIsCoded, LinesAreCoded, EndsBlock}
use Rattle.bp_t6.proofs.StripLemmas.{last-more}
use Rattle.bp_t6.proofs.SoFarLemmas.{wide_more, codes_more, codes_end}
use Rattle.bp_t6.proofs.FinishLemmas.{AreBytes, packed_again}

-- ---- rows

-- before the first row
pub none_coded : (bits : List Bool) (width : ℕ) (above : List ℕ) → above ≡ [] → LinesAreCoded bits width 0 0 above
none_coded bits width above none = record {
  lines = [];
  long = refl;
  wide = λ i h. absurd (omega arith);
  codes = refl;
  shows = subst (λ (ps : List ℕ). Shows ps width (white_line width)) (sym none) (shows_white width);
}

-- a row more
pub line_coded : (bits : List Bool) (width count at next : ℕ) (old new : List ℕ) → LinesAreCoded bits width count at old → ((over : List Bool) → Shows old width over → RowIsCoded over bits at next width new) → LinesAreCoded bits width (count + 1) next new
line_coded bits width count at next old new so more =
    let white = white_line width in
    let over = last_line white so.lines in
    let one = more over so.shows in
    let before = codes_so_far white so.lines in
    record {
      lines = so.lines ++ one.row ∷ [];
      long = length_push so.lines one.row ∙ omega (arith, so.long);
      wide = wide_more width so.lines one.row so.wide one.shows.long;
      codes = so.codes ∙ ap (λ bs. before ++ bs) one.code ∙ sym (append_assoc before (row_code over one.row) (drop next bits))
          ∙ ap (λ bs. bs ++ drop next bits) (sym (codes_more white so.lines one.row));
      shows = subst (λ (line : List Bool). Shows new width line) (sym (last-more white so.lines one.row)) one.shows;
    }

-- ones below the same row are its code
pub row_below : (bits over : List Bool) (places : List ℕ) (at next width count : ℕ) → Shows places width over → row_code over over ≡ replicate count true → drop at bits ≡ replicate count true ++ drop next bits → RowIsCoded over bits at next width places
row_below bits over places at next width count shows ones reads = record {
  row = over;
  code = reads ∙ ap (λ (bs : List Bool). bs ++ drop next bits) (sym ones);
  shows = shows;
}

-- ---- the end

block_end : BLOCK_END ≡ end_of_block ++ replicate 7 false
block_end = refl

white_at : (k i : ℕ) → get_or (replicate k false) i false ≡ false
white_at zero i = refl
white_at (suc k) zero = refl
white_at (suc k) (suc i) = white_at k i

-- zeros at the end of bits change none of them
padded : (bits : List Bool) (k i : ℕ) → get_or (bits ++ replicate k false) i false ≡ get_or bits i false
padded [] k i = white_at k i
padded (b ∷ bits) k zero = refl
padded (b ∷ bits) k (suc i) = padded bits k i

pub block_ended : (bits : List Bool) (at left : ℕ) → at ≤ length bits → left ≡ length bits - at → 24 ≤ left → left ≤ 31 → ((j : ℕ) → j < left → get_or bits (at + j) false ≡ get_or BLOCK_END j false) → EndsBlock (drop at bits)
block_ended bits at left within is some few same =
    let pad = left - 24 in
    let ends = end_of_block ++ replicate pad false in
    let long : length (drop at bits) ≡ left = length-drop at bits ∙ sym is in
    let size : length ends ≡ left = length-append end_of_block (replicate pad false) ∙ omega (arith, length-replicate pad false) in
    record {
      pad = pad;
      few = omega arith;
      end = ext_get_or false (drop at bits) ends (long ∙ sym size) (λ i h.
          get_or-drop at bits i false ∙ same i (omega (arith, long)) ∙ ap (λ bs. get_or bs i false) block_end
          ∙ padded end_of_block 7 i ∙ sym (padded end_of_block pad i));
    }

-- bytes of such rows, with the end behind them, are the strip of the rows
pub strip_coded : (bytes : List ℕ) (width height at : ℕ) (above : List ℕ) → AreBytes bytes → LinesAreCoded (bits_of High bytes) width height at above → EndsBlock (drop at (bits_of High bytes)) → IsCanonicalStrip width height bytes
strip_coded bytes width height at above small so end =
    let before = codes_so_far (white_line width) so.lines in
    let all = before ++ end_of_block in
    let is : bits_of High bytes ≡ all ++ replicate end.pad false =
    so.codes ∙ ap (λ bs. before ++ bs) end.end ∙ sym (append_assoc before end_of_block (replicate end.pad false)) in
    record {
      lines = so.lines;
      grid = record { down = so.long; across = λ r h. so.wide r (omega (arith, so.long)) };
      strip = packed_again bytes all end.pad small end.few is ∙ ap packed_row (codes_end (white_line width) so.lines);
    }
