-- Pages that stand in their file in one strip of Group 4 (TIFF 6.0, section 11, Compression 4).
use Rattle.std.specs.Prelude.{◌≡◌, ◌≤◌, true, false}
use Rattle.bp_codes.specs.declared.span.Fill.TheVariants.{High}
use Rattle.bp_matter.specs.declared.kept_page.Frame.{Frame}
use Rattle.bp_rows.specs.Limits.{sides_are_imported}
use Rattle.bp_tiff.specs.declared.layout.Layout.{Layout}

-- what a file says of its page beside the rows
abbrev pub frame_of : Layout → Frame
frame_of l = record {
  width = l.sides.width;
  height = l.sides.height;
  xres = l.scale.xres;
  yres = l.scale.yres;
  unit = l.scale.unit;
}

-- all rows stand in one strip of Group 4, white as 0 and the first bit highest, and the sides are
-- those of an import
pub record IsOneStrip (l : Layout) : Type 0 where
  pub coded : l.coding.is_t6 ≡ true
  pub white : l.coding.zero_is_black ≡ false
  pub order : l.coding.fill ≡ High
  pub one : l.strips.count ≡ 1
  pub rows : l.sides.height ≤ l.strips.rows
  pub sides : sides_are_imported l.sides.width l.sides.height ≡ true
