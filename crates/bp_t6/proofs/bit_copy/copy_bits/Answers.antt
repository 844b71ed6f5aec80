use Rattle.std.proofs.Common.{◌≡◌, ◌+◌, ◌≤◌, ◌++◌, length, take, take-add, take_all, ap, sym, ◌∙◌, arith, append-nil, append_assoc}
use Rattle.bp_codes.specs.Bits.{code_bits}
use Rattle.bp_t6.proofs.MarkLemmas.{continues_put}
use Rattle.bp_t6.proofs.bit_copy.copy_bits.Goals as goal

pub loop-at-init : goal.loop-at-init
loop-at-init c = record {
  within = omega arith;
  copied = sym (append-nil c.args.out.now);
}

pub returns-in_err-put-clause-begins : goal.returns-in_err-put-clause-begins
returns-in_err-put-clause-begins c =
    continues_put c.args.out.now c.put.new.self (take c.loop-at.at c.args.code.now)
    (c.in_err-put.ensures.err ∙ c.loop-at.invariant.copied)

pub loop-at-preserved : goal.loop-at-preserved
loop-at-preserved c =
    let so = c.loop-at.invariant in
    let code = c.args.code.now in
    let first = c.args.out.now in
    let at = c.loop-at.at in
    let piece = c.piece-piece.result in
    record {
      within = omega (arith, c.piece-piece.ensures.few, c.from-at.ensures);
      copied = c.in_ok-put.ensures.ok
          ∙ ap (λ bs. bs ++ code_bits piece) so.copied
          ∙ append_assoc first (take at code) (code_bits piece)
          ∙ ap (λ bs. first ++ (take at code ++ bs)) c.piece-piece.ensures.bits
          ∙ ap (λ bs. first ++ bs) (sym (take-add at piece.len code))
          ∙ ap (λ n. first ++ take (at + n) code) (sym c.from-at.ensures);
    }

pub returns-clause-copied : goal.returns-clause-copied
returns-clause-copied c =
    let so = c.loop-at.invariant in
    let all : length c.args.code.now ≤ c.loop-at.at = omega (arith, c.len-to.ensures, c.loop-at-test.false) in
    so.copied ∙ ap (λ bs. c.args.out.now ++ bs) (take_all c.loop-at.at c.args.code.now all)

pub returns-clause-begins : goal.returns-clause-begins
returns-clause-begins c =
    continues_put c.args.out.now c.loop-at.out (take c.loop-at.at c.args.code.now) c.loop-at.invariant.copied
