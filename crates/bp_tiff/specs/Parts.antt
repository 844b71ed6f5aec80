-- A page file in two parts.
use Rattle.std.specs.Prelude.{ℕ, List, ◌++◌}
use Rattle.bp_tiff.specs.declared.writing.Strip.{Strip}
use Rattle.bp_tiff.specs.declared.writing.Strip.TheVariants.{Lent, Made}
use Rattle.bp_tiff.specs.declared.writing.TiffParts.{TiffParts}

-- the bytes of the strip
abbrev pub bytes_in : Strip → List ℕ
bytes_in (Lent bytes) = bytes.now
bytes_in (Made bytes) = bytes

-- the file: what stands before the strip, and the strip
abbrev pub file_in : TiffParts → List ℕ
file_in parts = parts.head ++ bytes_in parts.strip
