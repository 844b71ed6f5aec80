-- The slip sheet drawn on a page of the final size, against its definition.
use Rattle.std.proofs.Common.{ℕ, ◌≡◌, false, List, replicate, refl, sym, ap, ◌∙◌, arith}
use Rattle.std.proofs.lemmas.List.{replicate-append-replicate}
use Rattle.bp_core.specs.declared.review.Basis.{Basis}
use Rattle.bp_rows.proofs.GridLemmas.{white_is_grid}
use Rattle.bp_rows.specs.Image.{Image, IsPage, white_image}
use Rattle.bp_rows.specs.declared.resolution.Unit.TheVariants.{Inch}
use Rattle.bp_burn.specs.Band.{band_texts, slip_of, slip_resolution, slip_text}
use Rattle.bp_burn.specs.Drawn.{is_drawn}
use Rattle.bp_burn.specs.Ink.{inked, with_white_rows}
use Rattle.bp_burn.proofs.BandLemmas.{higher_banded}
use Rattle.bp_burn.proofs.TextLemmas.{drawn_above}

abbrev paper : ℕ → Image
paper height = white_image 1700 height slip_resolution slip_resolution Inch

-- the paper is a page
pub paper_is_page : IsPage (paper 2232)
paper_is_page = record {
  sides = refl;
  xres = record { num = omega arith; den = omega arith };
  yres = record { num = omega arith; den = omega arith };
  grid = white_is_grid 1700 2232;
}

higher_paper : paper 2232 ≡ with_white_rows (paper 2200) 32
higher_paper =
    ap (λ rows. record (paper 2232) { rows = rows }) (sym (replicate-append-replicate 2200 32 (replicate 1700 false)))

-- the sheet's text, and then the band
pub slip_made : (basis : Basis) (label designation : List ℕ)
    → inked (inked (paper 2232) (is_drawn (slip_text basis) 1000 200 0)) (band_texts 1700 2200 label designation) ≡ slip_of basis label designation
slip_made basis label designation =
    let text = is_drawn (slip_text basis) 1000 200 0 in
    ap (λ page. inked (inked page text) (band_texts 1700 2200 label designation)) higher_paper
    ∙ higher_banded (paper 2200) text text label designation (white_is_grid 1700 2200) (λ r c down across. refl)
    (λ r c past across. drawn_above (slip_text basis) 1000 200 0 r c (omega arith))
