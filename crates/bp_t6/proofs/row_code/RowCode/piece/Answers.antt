use Rattle.std.proofs.Common.{◌≡◌, ◌+◌, ◌-◌, ◌<◌, ◌≤◌, List, Bool, ap, drop, take, length, sym, ◌∙◌, arith}
use Rattle.bp_codes.specs.Span.{span_bits}
use Rattle.bp_t6.proofs.CopyLemmas.{length-range, piece_lies}
use Rattle.bp_t6.proofs.row_code.RowCode.piece.Goals as goal

pub overflow_add-first : goal.overflow_add-first
overflow_add-first c =
    let s = c.self.inside in
    let long = ap (λ (bs : List Bool). length bs) (sym c.self.view_is) ∙ length-range (span_bits s.span) s.from s.to c.self.invariant.within in
    omega (arith, c.requires, long)

pub overflow_sub-left : goal.overflow_sub-left
overflow_sub-left c =
    let s = c.self.inside in
    let long = ap (λ (bs : List Bool). length bs) (sym c.self.view_is) ∙ length-range (span_bits s.span) s.from s.to c.self.invariant.within in
    omega (arith, c.requires, long)

pub piece_at-requires-clause-some : goal.piece_at-requires-clause-some
piece_at-requires-clause-some c =
    let s = c.self.inside in
    let long = ap (λ (bs : List Bool). length bs) (sym c.self.view_is) ∙ length-range (span_bits s.span) s.from s.to c.self.invariant.within in
    omega (arith, c.requires, long)

pub piece_at-requires-clause-within : goal.piece_at-requires-clause-within
piece_at-requires-clause-within c =
    let s = c.self.inside in
    let long = ap (λ (bs : List Bool). length bs) (sym c.self.view_is) ∙ length-range (span_bits s.span) s.from s.to c.self.invariant.within in
    omega (arith, c.requires, long, c.self.invariant.within)

pub returns-clause-few : goal.returns-clause-few
returns-clause-few c =
    let s = c.self.inside in
    let long = ap (λ (bs : List Bool). length bs) (sym c.self.view_is) ∙ length-range (span_bits s.span) s.from s.to c.self.invariant.within in
    omega (arith, c.requires, long, c.piece_at.ensures.few)

pub returns-clause-bits : goal.returns-clause-bits
returns-clause-bits c =
    let s = c.self.inside in
    let at = c.args.at in
    let len = c.piece_at.result.len in
    let long = ap (λ (bs : List Bool). length bs) (sym c.self.view_is) ∙ length-range (span_bits s.span) s.from s.to c.self.invariant.within in
    c.piece_at.ensures.bits
    ∙ piece_lies (span_bits s.span) s.from s.to at len (omega (arith, c.requires, long, c.piece_at.ensures.few))
    ∙ ap (λ (bs : List Bool). take len (drop at bs)) c.self.view_is
