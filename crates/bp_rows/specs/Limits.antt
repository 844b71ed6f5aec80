-- The sides that a page may have, in pixels.
use Rattle.std.specs.Prelude.{ℕ, ◌*◌, Bool, nat_le, nat_lt, ◌&&◌}
use Rattle.bp_rows.specs.declared.limits.TheConstants.{MAX_WIDTH, MAX_HEIGHT, MAX_PIXELS, MAX_IMPORT_HEIGHT, MAX_IMPORT_PIXELS}

-- neither side is 0, and neither passes its limit
abbrev pub are_within : ℕ → ℕ → ℕ → ℕ → Bool
are_within max_width max_height width height =
    nat_lt 0 width && nat_le width max_width && nat_lt 0 height && nat_le height max_height

-- the sides of any page: those of an imported one, and 32 rows of a band
abbrev pub sides_are_allowed : ℕ → ℕ → Bool
sides_are_allowed width height =
    are_within MAX_WIDTH MAX_HEIGHT width height && nat_le (width * height) MAX_PIXELS

-- the sides of a page that comes in
abbrev pub sides_are_imported : ℕ → ℕ → Bool
sides_are_imported width height =
    are_within MAX_WIDTH MAX_IMPORT_HEIGHT width height
    && nat_le (width * height) MAX_IMPORT_PIXELS
