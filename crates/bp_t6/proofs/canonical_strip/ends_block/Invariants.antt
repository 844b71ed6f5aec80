use Rattle.std.proofs.Common.{ℕ, ◌+◌, ◌<◌, ◌≡◌, get_or, false}
use Rattle.bp_codes.specs.Span.{span_bits}
use Rattle.bp_t6.specs.declared.canonical_strip.TheConstants.{BLOCK_END}
use Rattle.bp_t6.proofs.canonical_strip.ends_block.Given as goal

abbrev pub invariant-loop-i : goal.invariant-loop-i
invariant-loop-i l = (j : ℕ) → j < l.i → get_or (span_bits l.span) (l.at + j) false ≡ get_or BLOCK_END j false
