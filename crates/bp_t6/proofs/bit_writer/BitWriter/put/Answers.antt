use Rattle.std.proofs.Common.{◌≡◌, ◌<◌, ◌^◌, ◌++◌, ℕ, ◌+◌, ◌-◌, ◌*◌, ◌/◌, ◌%◌, List, bit_or, w32, ap, sym, ◌∙◌, subst, arith}
use Rattle.std.specs.Int.{to_be_bytes}
use Rattle.bp_codes.specs.Bits.{code_bits}
use Rattle.bp_t6.specs.Gathered.{gathered, IsGathered, IsOut}
use Rattle.bp_t6.proofs.GatherLemmas.{held_is, held_below, put_held, word_out, word_fits, mask_is}
use Rattle.bp_t6.proofs.bit_writer.BitWriter.put.Goals as goal

kept : {bytes : List ℕ} {held fill : ℕ} → IsOut bytes held fill → IsGathered held fill
kept o = record { few = o.few; small = o.small }

pub invariant_of-self : goal.invariant_of-self
invariant_of-self c =
    let s = c.self.inside in let code = c.args.code in
    let is = ap (λ b. bit_or (s.held * 2 ^ code.len % 18446744073709551616) b) c.from.ensures ∙ held_is s.held s.fill code.bits code.len (kept c.self.invariant) c.requires.short c.requires.fits in
    let few : s.fill + c.from-2.result < 32 = omega arith in
    let size : s.fill + code.len ≡ s.fill + c.from-2.result = ap (λ n. s.fill + n) (sym c.from-2.ensures) in
    record {
      words = c.self.invariant.words;
      few = few;
      small = subst (λ (v : ℕ). v < 2 ^ (s.fill + c.from-2.result)) (sym is) (subst (λ (n : ℕ). s.held * 2 ^ code.len + code.bits < 2 ^ n) size (held_below s.held s.fill code.bits code.len (kept c.self.invariant) c.requires.fits));
      fit = c.self.invariant.fit;
    }

pub returns-then-fill-lt32-clause-ok : goal.returns-then-fill-lt32-clause-ok
returns-then-fill-lt32-clause-ok c =
    let s = c.self.inside in let code = c.args.code in
    let is = ap (λ b. bit_or (s.held * 2 ^ code.len % 18446744073709551616) b) c.from.ensures ∙ held_is s.held s.fill code.bits code.len (kept c.self.invariant) c.requires.short c.requires.fits in
    ap (λ v. gathered s.bytes.items v (s.fill + c.from-2.result)) is
    ∙ ap (λ n. gathered s.bytes.items (s.held * 2 ^ code.len + code.bits) (s.fill + n)) c.from-2.ensures
    ∙ put_held s.bytes.items s.held s.fill code.bits code.len (kept c.self.invariant) c.requires.fits
    ∙ ap (λ bs. bs ++ code_bits code) c.self.view_is

pub overflow_cast-word-2 : goal.overflow_cast-word-2
overflow_cast-word-2 c =
    let s = c.self.inside in let code = c.args.code in
    let is = ap (λ b. bit_or (s.held * 2 ^ code.len % 18446744073709551616) b) c.from.ensures ∙ held_is s.held s.fill code.bits code.len (kept c.self.invariant) c.requires.short c.requires.fits in
    let size : s.fill + code.len ≡ s.fill + c.from-2.result = ap (λ n. s.fill + n) (sym c.from-2.ensures) in
    let small = subst (λ (v : ℕ). v < 2 ^ (s.fill + c.from-2.result)) (sym is) (subst (λ (n : ℕ). s.held * 2 ^ code.len + code.bits < 2 ^ n) size (held_below s.held s.fill code.bits code.len (kept c.self.invariant) c.requires.fits)) in
    omega (arith, word_fits (bit_or (s.held * 2 ^ code.len % 18446744073709551616) c.from.result) (s.fill + c.from-2.result) (s.fill + c.from-2.result - 32) (omega arith) small)

pub returns-clause-ok : goal.returns-clause-ok
returns-clause-ok c =
    let s = c.self.inside in let code = c.args.code in
    let held = bit_or (s.held * 2 ^ code.len % 18446744073709551616) c.from.result in
    let rest = s.fill + c.from-2.result - 32 in
    let is : held ≡ s.held * 2 ^ code.len + code.bits = ap (λ b. bit_or (s.held * 2 ^ code.len % 18446744073709551616) b) c.from.ensures ∙ held_is s.held s.fill code.bits code.len (kept c.self.invariant) c.requires.short c.requires.fits in
    let size : s.fill + code.len ≡ 32 + rest = omega arith in
    let low : rest < 32 = omega (arith, c.self.invariant.few) in
    let bytes : c.extend_from_slice.new.self.items ≡ s.bytes.items ++ to_be_bytes w32 (held / 2 ^ rest) = c.in_ok-extend_from_slice.ensures.items ∙ ap (λ bs. s.bytes.items ++ bs) c.to_be_bytes.ensures in
    ap (λ v. gathered c.extend_from_slice.new.self.items v rest) (mask_is held rest low)
    ∙ ap (λ bs. gathered bs (held % 2 ^ rest) rest) bytes
    ∙ word_out s.bytes.items held (s.fill + code.len) rest size
    ∙ ap (λ v. gathered s.bytes.items v (s.fill + code.len)) is
    ∙ put_held s.bytes.items s.held s.fill code.bits code.len (kept c.self.invariant) c.requires.fits
    ∙ ap (λ bs. bs ++ code_bits code) c.self.view_is
