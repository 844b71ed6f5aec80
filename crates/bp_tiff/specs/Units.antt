-- The unit of length of a page's resolutions (TIFF 6.0, section 8, ResolutionUnit).
use Rattle.std.specs.Prelude.{ℕ, Option, Some, None, ◌==◌, if◌then◌else◌}
use Rattle.bp_rows.specs.declared.resolution.Unit.{Unit as LengthUnit}
use Rattle.bp_rows.specs.declared.resolution.Unit.TheVariants as units

-- its code in a file
-- by TIFF 6.0, section 8, ResolutionUnit
abbrev pub unit_code : LengthUnit → ℕ
unit_code units.None = 1
unit_code units.Inch = 2
unit_code units.Centimetre = 3

-- the unit of a code, where there is one
-- by TIFF 6.0, section 8, ResolutionUnit
abbrev pub unit_of : ℕ → Option LengthUnit
unit_of code =
    if code == 1 then Some units.None
    else (if code == 2 then Some units.Inch
    else (if code == 3 then Some units.Centimetre
    else None))
