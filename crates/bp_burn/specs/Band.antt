-- The band below a page that goes out, and the sheet that stands for a withheld document. Their
-- look comes from no public standard: it is this product's own.
use Rattle.std.specs.Prelude.{ℕ, ◌+◌, ◌||◌, Bool, List, ◌++◌, codes}
use Rattle.bp_core.specs.Review.{basis_code}
use Rattle.bp_core.specs.declared.review.Basis.{Basis}
use Rattle.bp_core.specs.declared.stamps.Ink.{Ink}
use Rattle.bp_core.specs.declared.stamps.Stamp.{Stamp}
use Rattle.bp_rows.specs.Image.{Image, grid_of, pixel, white_image}
use Rattle.bp_rows.specs.declared.resolution.Res.{Res}
use Rattle.bp_rows.specs.declared.resolution.Unit.TheVariants.{Inch}
use Rattle.bp_burn.specs.Covered.{covered}
use Rattle.bp_burn.specs.Drawn.{columns_of, is_drawn}
use Rattle.bp_burn.specs.Ink.{inked}
use Rattle.bp_burn.specs.declared.band.TheConstants.{BAND_ROWS, TEXT_TOP, MARGIN}
use Rattle.bp_burn.specs.declared.paper.TheConstants.{SLIP_DOTS}
use Rattle.bp_burn.specs.declared.slips.TheConstants.{SLIP_WIDTH, SLIP_HEIGHT, SLIP_TOP, SLIP_LEFT}

-- the pixel of the texts in the band below a page of these sides: the designation at the left, and
-- the label at the right
abbrev pub band_texts : ℕ → ℕ → List ℕ → List ℕ → ℕ → ℕ → Bool
band_texts width height label designation r c =
    is_drawn designation (height + TEXT_TOP) MARGIN 0 r c
    || is_drawn label (height + TEXT_TOP) width (MARGIN + columns_of label) r c

-- the page with its band: 32 white rows more, and the two texts in them
abbrev pub banded : Image → List ℕ → List ℕ → Image
banded p label designation =
    let height = p.height + BAND_ROWS in
    let texts = band_texts p.width p.height label designation in
    record p { height = height; rows = grid_of p.width height (λ r c. texts r c || pixel p r c) }

-- the page that goes out: its boxes covered, with its band
abbrev pub produced_of : Ink → Image → List Stamp → List ℕ → List ℕ → Image
produced_of ink p stamps label designation = banded (covered ink p stamps) label designation

-- dots to the inch
abbrev pub slip_resolution : Res
slip_resolution = record { num = SLIP_DOTS; den = 1 }

-- what a slip sheet says
abbrev pub slip_text : Basis → List ℕ
slip_text basis = codes "DOCUMENT WITHHELD - " ++ basis_code basis

-- the sheet that stands for a document withheld on this ground, with its band
abbrev pub slip_of : Basis → List ℕ → List ℕ → Image
slip_of basis label designation =
    let paper = white_image SLIP_WIDTH SLIP_HEIGHT slip_resolution slip_resolution Inch in
    banded (inked paper (is_drawn (slip_text basis) SLIP_TOP SLIP_LEFT 0)) label designation
