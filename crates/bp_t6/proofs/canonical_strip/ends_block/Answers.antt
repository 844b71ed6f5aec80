use Rattle.std.proofs.Common.{ℕ, ◌+◌, ◌-◌, ◌≡◌, get_or, false, ap, sym, ◌∙◌, arith, inl, inr}
use Rattle.std.proofs.lemmas.Bool.{cases_lt}
use Rattle.bp_codes.specs.Span.{span_bits}
use Rattle.bp_t6.specs.declared.canonical_strip.TheConstants.{BLOCK_END}
use Rattle.bp_t6.proofs.MissingLemmas.{read_bit, test_same}
use Rattle.bp_t6.proofs.CanonicalStripLemmas.{block_ended}
use Rattle.bp_t6.proofs.canonical_strip.ends_block.Goals as goal

pub loop-i-preserved : goal.loop-i-preserved
loop-i-preserved c = λ j h.
    let bits = span_bits c.args.span.now in let i = c.loop-i.i in
    elim (cases_lt j i) [
      | inl less ↦ c.loop-i.invariant j less
      | inr more ↦
          let last : j ≡ i = omega arith in
          ap (λ n. get_or bits (c.args.at + n) false) last
          ∙ read_bit bits (c.args.at + i) c.bit.result c.bit.ensures
          ∙ test_same c.bit.result (get_or BLOCK_END i false) c.if-bit-i.false
          ∙ ap (λ n. get_or BLOCK_END n false) (sym last)
    ]

pub returns : goal.returns
returns c = λ e.
    block_ended (span_bits c.args.span.now) c.args.at (c.len.result - c.args.at) c.requires (ap (λ n. n - c.args.at) c.len.ensures)
    c.if-left-lt-END_BITS.false (omega (arith, c.if-left.false)) (λ j h. c.loop-i.invariant j (omega (arith, h, c.loop-i-test.false)))
