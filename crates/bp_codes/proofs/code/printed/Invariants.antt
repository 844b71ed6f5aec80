use Rattle.std.proofs.Common.{◌≡◌, take}
use Rattle.bp_codes.specs.Bits.{number_of_bits}
use Rattle.bp_codes.specs.CodeLists.{bits_in_print}
use Rattle.bp_codes.proofs.code.printed.Given as goal

abbrev pub invariant-loop-byte : goal.invariant-loop-byte
invariant-loop-byte l = l.bits ≡ number_of_bits (bits_in_print (take l.byte-index l.byte-items))
