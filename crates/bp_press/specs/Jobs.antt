-- The images that jobs make.
use Rattle.std.specs.Prelude.{◌+◌, ℕ, IsTrue, List, is_some}
use Rattle.bp_rows.specs.Image.{Image}
use Rattle.bp_t6.specs.Written.{bits_strip}
use Rattle.bp_rows.specs.declared.resolution.Unit.TheVariants.{Inch}
use Rattle.bp_burn.specs.Band.{produced_of, slip_of, slip_resolution}
use Rattle.bp_burn.specs.Drawn.{has_glyphs}
use Rattle.bp_burn.specs.declared.band.TheConstants.{BAND_ROWS}
use Rattle.bp_burn.specs.declared.slips.TheConstants.{SLIP_HEIGHT, SLIP_WIDTH}
use Rattle.bp_matter.specs.declared.kept_page.Frame.{Frame}
use Rattle.bp_matter.specs.LookUps.{page_with}
use Rattle.bp_matter.specs.Matter.{Matter}
use Rattle.bp_press.specs.Contents.{page_image}
use Rattle.bp_press.specs.declared.jobs.Job.{Job}
use Rattle.bp_press.specs.declared.jobs.Job.TheVariants as jobs

-- the page or the sheet that a job makes
abbrev pub page_of_job : Matter → Job → Image
page_of_job m (jobs.Image ink doc page stamps label designation) =
    produced_of ink (page_image m doc.0 page.0) stamps label designation
page_of_job m (jobs.Slip basis label designation) = slip_of basis label designation

-- its strip
abbrev pub strip_by : Matter → Job → List ℕ
strip_by m job = bits_strip (page_of_job m job)

-- what stands in its band is drawn with the glyphs that there are
pub record HasBand (label designation : List ℕ) : Type 0 where
  pub named : IsTrue (has_glyphs label)
  pub stamped : IsTrue (has_glyphs designation)

-- its page is one of the matter
pub record HasPage (m : Matter) (doc page : ℕ) (label designation : List ℕ) : Type 0 where
  pub there : IsTrue (is_some (page_with doc page m))
  pub band : HasBand label designation

-- what making it needs
abbrev pub IsCodable : Matter → Job → Type 0
IsCodable m (jobs.Image ink doc page stamps label designation) =
    HasPage m doc.0 page.0 label designation
IsCodable m (jobs.Slip basis label designation) = HasBand label designation

-- what a sheet has beside its rows
abbrev pub sheet_frame : Frame
sheet_frame = record {
  width = SLIP_WIDTH;
  height = SLIP_HEIGHT + BAND_ROWS;
  xres = slip_resolution;
  yres = slip_resolution;
  unit = Inch;
}
