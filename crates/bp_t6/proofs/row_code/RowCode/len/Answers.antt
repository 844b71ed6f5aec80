use Rattle.std.proofs.Common.{List, Bool, ap, length, sym, ◌∙◌}
use Rattle.bp_codes.specs.Span.{span_bits}
use Rattle.bp_t6.proofs.CopyLemmas.{length-range}
use Rattle.bp_t6.proofs.row_code.RowCode.len.Goals as goal

pub returns : goal.returns
returns c =
    let s = c.self.inside in
    sym (length-range (span_bits s.span) s.from s.to c.self.invariant.within) ∙ ap (λ (bs : List Bool). length bs) c.self.view_is
