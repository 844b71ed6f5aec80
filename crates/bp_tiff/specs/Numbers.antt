-- Numbers in a file, in its byte order (TIFF 6.0, section 2).
use Rattle.std.specs.Prelude.{ℕ, List, take, drop}
use Rattle.std.specs.Int.{from_le_bytes, from_be_bytes, w16, w32}
use Rattle.bp_tiff.specs.declared.numbers.ByteOrder.{ByteOrder}
use Rattle.bp_tiff.specs.declared.numbers.ByteOrder.TheVariants.{Little, Big}

-- the number of two bytes at a place
-- by TIFF 6.0, section 2, Image File Header
abbrev pub short_at : ByteOrder → List ℕ → ℕ → ℕ
short_at Little bytes at = from_le_bytes w16 (take 2 (drop at bytes))
short_at Big bytes at = from_be_bytes w16 (take 2 (drop at bytes))

-- the number of four bytes at a place
-- by TIFF 6.0, section 2, Image File Header
abbrev pub long_at : ByteOrder → List ℕ → ℕ → ℕ
long_at Little bytes at = from_le_bytes w32 (take 4 (drop at bytes))
long_at Big bytes at = from_be_bytes w32 (take 4 (drop at bytes))
