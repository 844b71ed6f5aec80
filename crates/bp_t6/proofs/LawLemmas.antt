-- What is written is read again, and as nothing else.
use Rattle.std.proofs.Common.{ℕ, suc, ◌+◌, ◌-◌, ◌*◌, ◌<◌, ◌≡◌, Bool, false, List, [], ◌∷◌, ◌++◌, length, get_or, replicate, refl, sym, ◌∙◌, subst, arith, append_assoc}
use Rattle.std.specs.Prelude.{◌↔◌}
use Rattle.std.proofs.lemmas.List.{length-replicate}
use Rattle.bp_codes.specs.declared.span.Fill.TheVariants.{High}
use Rattle.bp_codes.specs.Bits.{bits_of}
use Rattle.bp_rows.specs.Bits.{row_bytes}
use Rattle.bp_rows.specs.Image.{Image, IsPage}
use Rattle.bp_t6.specs.Places.{start}
use Rattle.bp_t6.specs.Written.{chosen_modes, row_code, lines_code, white_line, strip_bits, bits_strip}
use Rattle.bp_t6.specs.Read.{RowReads, LinesRead, StripReads}
use Rattle.bp_t6.proofs.ChosenLemmas.{chosen_modes_paint}
use Rattle.bp_rows.proofs.PixelLemmas.{pixels_in-packed_row}
use Rattle.bp_t6.proofs.OneReadingLemmas.{AreFree, one_page}

pub row_read : (above line rest : List Bool) → length above ≡ length line → RowReads above (row_code above line ++ rest) line rest
row_read above line rest long =
    let all = chosen_modes_paint (length line + 1) above line start long (omega arith) (omega arith) (λ h. refl) in
    record { modes = chosen_modes (length line + 1) above line start; move = all.move; codes = refl; end = all.end; paint = all.paint }

abbrev pub AreWide : ℕ → List (List Bool) → Type 0
AreWide width lines = (i : ℕ) → i < length lines → length (get_or lines i []) ≡ width

pub lines_read : (width : ℕ) (above rest : List Bool) (lines : List (List Bool)) → length above ≡ width → AreWide width lines → LinesRead above (lines_code above lines ++ rest) lines
lines_read width above rest [] long wide = tt
lines_read width above rest (line ∷ lines) long wide =
    let here : length line ≡ width = wide 0 (omega arith) in
    let bits = lines_code line lines ++ rest in
    let first = row_read above line bits (long ∙ sym here) in
    let P : List Bool → Type 0 = λ bs. RowReads above bs line bits in
    (bits, subst P (sym (append_assoc (row_code above line) (lines_code line lines) rest)) first, lines_read width line rest lines here (λ i h. wide (suc i) (omega arith)))

pub strip_read : (p : Image) → IsPage p → StripReads (bits_of High (bits_strip p)) p.width p.height p.rows
strip_read p page =
    let rest = replicate (8 * row_bytes (length (strip_bits p)) - length (strip_bits p)) false in
    let P : List Bool → Type 0 = λ bs. LinesRead (white_line p.width) bs p.rows in
    record {
      count = page.grid.down;
      read = subst P (sym (pixels_in-packed_row (strip_bits p)))
          (lines_read p.width (white_line p.width) rest p.rows (length-replicate p.width false) (λ i h. page.grid.across i (subst (λ (n : ℕ). i < n) page.grid.down h)));
    }

pub strip_read_only : (p : Image) (lines : List (List Bool)) → AreFree → IsPage p → StripReads (bits_of High (bits_strip p)) p.width p.height lines ↔ (lines ≡ p.rows)
strip_read_only p lines free page =
    let own = strip_read p page in (
      λ h. one_page (white_line p.width) (bits_of High (bits_strip p)) lines p.rows free (h.count ∙ sym own.count) h.read own.read,
      λ e. subst (StripReads (bits_of High (bits_strip p)) p.width p.height) (sym e) own,
    )
