use Rattle.std.proofs.Common.{◌≡◌, ◌+◌, ℕ, List, refl, ap, sym, subst, arith}
use Rattle.bp_core.specs.Answers.{IfRule}
use Rattle.bp_codes.specs.Span.{span_bits}
use Rattle.bp_codes.proofs.BitListLemmas.{length-bits_of}
use Rattle.bp_rows.specs.Changes.{Shows}
use Rattle.bp_t6.specs.Reading.{RowIsRead}
use Rattle.bp_t6.specs.SoFar.{ReadSoFar, HasRead}
use Rattle.bp_t6.specs.Strips.{SaysFault}
use Rattle.bp_t6.proofs.SoFarLemmas.{bit_more, line_shown, line_stops}
use Rattle.bp_t6.proofs.strip_rows.StripRows.next_row.Goals as goal

pub returns-in-Err-clause-fault : goal.returns-in-Err-clause-fault
returns-in-Err-clause-fault c = λ lines has none.
    let s = c.self.inside in
    let old : ReadSoFar = record { bits = span_bits s.span; width = s.width; row = s.row; at = s.at; above = s.above.items; fault = s.fault } in
    let had : HasRead old lines = subst (λ (r : ReadSoFar). HasRead r lines) (sym c.self.view_is) has in
    subst (λ (r : ReadSoFar). IfRule (SaysFault r.bits r.width (r.row + 1) 0) c.refusal_of-refused.result) c.self.view_is
    (line_stops old lines c.in-Err.stop c.refusal_of-refused.result had c.self.invariant.within
    (λ over shows. c.in-Err.ensures.fault over (subst (λ (ps : List ℕ). Shows ps s.width over) (sym c.deref.ensures.value) shows))
    c.refusal_of-refused.ensures)

pub overflow_add-self : goal.overflow_add-self
overflow_add-self c =
    let s = c.self.inside in
    omega (arith, c.self.invariant.bits_a_row, c.self.invariant.within, length-bits_of s.span.fill s.span.bytes.now, s.span.short)

pub invariant_of-self : goal.invariant_of-self
invariant_of-self c =
    let s = c.self.inside in
    let over = c.self.invariant.over in
    let one = c.in-Ok.ensures.read over (subst (λ (ps : List ℕ). Shows ps s.width over) (sym c.deref.ensures.value) c.self.invariant.shows) in
    let more = bit_more (span_bits s.span) over one.row c.read_row.new.line.items s.at c.in-Ok.next s.width one c.in-Ok.ensures.next in
    record {
      some = c.self.invariant.some;
      wide = c.self.invariant.wide;
      within = c.in-Ok.ensures.next;
      bits_a_row = omega (arith, more, c.self.invariant.bits_a_row);
      over = one.row;
      shows = subst (λ (ps : List ℕ). Shows ps s.width one.row) (sym (ap (λ v. v.items) c.swap.ensures.y_after)) one.shows;
    }

pub returns-in-Ok-clause-next : goal.returns-in-Ok-clause-next
returns-in-Ok-clause-next c = λ lines has.
    let s = c.self.inside in let bits = span_bits s.span in
    let old : ReadSoFar = record { bits = bits; width = s.width; row = s.row; at = s.at; above = s.above.items; fault = s.fault } in
    let new : ReadSoFar = record { bits = bits; width = s.width; row = s.row + 1; at = c.in-Ok.next; above = c.swap.new.y.items; fault = s.fault } in
    let had : HasRead old lines = subst (λ (r : ReadSoFar). HasRead r lines) (sym c.self.view_is) has in
    let swapped : c.swap.new.y.items ≡ c.read_row.new.line.items = ap (λ v. v.items) c.swap.ensures.y_after in
    line_shown old new lines had refl refl refl
    (λ over shows. subst (λ (ps : List ℕ). RowIsRead over bits s.at c.in-Ok.next s.width ps) (sym swapped)
    (c.in-Ok.ensures.read over (subst (λ (ps : List ℕ). Shows ps s.width over) (sym c.deref.ensures.value) shows)))
