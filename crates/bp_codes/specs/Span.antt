-- The bits of a span.
use Rattle.std.specs.Prelude.{Bool, List}
use Rattle.bp_codes.specs.declared.span.BitSpan.{BitSpan}
use Rattle.bp_codes.specs.Bits.{bits_of}

-- the bits of a span in turn
abbrev pub span_bits : BitSpan → List Bool
span_bits span = bits_of span.fill span.bytes.now
