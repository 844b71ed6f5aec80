use Rattle.std.proofs.Common.{◌≡◌, ◌+◌, ℕ, List, None, vec_capacity, refl, ap, sym, subst, arith}
use Rattle.bp_core.specs.declared.refusals.Refusal.TheVariants as refusals
use Rattle.bp_codes.specs.Span.{span_bits}
use Rattle.bp_codes.proofs.BitListLemmas.{length-bits_of}
use Rattle.bp_rows.specs.Changes.{Shows}
use Rattle.bp_t6.specs.declared.reading.Stop.TheVariants as answers
use Rattle.bp_t6.specs.Reading.{RowIsRead}
use Rattle.bp_t6.specs.SoFar.{ReadSoFar, HasNextRow, HasRead}
use Rattle.bp_t6.specs.Strips.{fault_rule}
use Rattle.bp_t6.proofs.SoFarLemmas.{bit_more, line_shown, line_stops}
use Rattle.bp_t6.proofs.page_rows.PageRows.next_row.Goals as goal

-- a fault of the row would be one of the page's strip
pub unreachable-requires : goal.unreachable-requires
unreachable-requires c =
    let s = c.self.inside in
    let fault = c.in-Err._fault in
    let old : ReadSoFar = record { bits = span_bits s.span; width = s.width; row = s.row; at = s.at; above = s.above.items; fault = None } in
    let next : HasNextRow old = subst (λ (r : ReadSoFar). HasNextRow r) (sym c.self.view_is) c.requires in
    let rule = fault_rule fault.kind s.row fault.bit in
    c.rows_law.ensures.never next.page s.row old rule next.is next.left next.reads
    (line_stops old _ (answers.Fault fault) (refusals.Rule rule) next.reads.read c.self.invariant.reads.within
    (λ over shows. c.in-Err.ensures.fault over (subst (λ (ps : List ℕ). Shows ps s.width over) (sym c.deref.ensures.value) shows))
    refl)

pub overflow_add-self : goal.overflow_add-self
overflow_add-self c =
    let s = c.self.inside in let reads = c.self.invariant.reads in
    omega (arith, reads.bits_a_row, reads.within, length-bits_of s.span.fill s.span.bytes.now, s.span.short)

pub invariant_of-self : goal.invariant_of-self
invariant_of-self c =
    let s = c.self.inside in let reads = c.self.invariant.reads in
    let over = reads.over in
    let one = c.in-Ok.ensures.read over (subst (λ (ps : List ℕ). Shows ps s.width over) (sym c.deref.ensures.value) reads.shows) in
    let more = bit_more (span_bits s.span) over one.row c.read_row_in_room.new.line.items s.at c.in-Ok.next s.width one c.in-Ok.ensures.next in
    record {
      reads = record {
        some = reads.some;
        wide = reads.wide;
        within = c.in-Ok.ensures.next;
        bits_a_row = omega (arith, more, reads.bits_a_row);
        over = one.row;
        shows = subst (λ (ps : List ℕ). Shows ps s.width one.row) (sym (ap (λ v. v.items) c.swap.ensures.y_after)) one.shows;
      };
      above_room = omega (arith, c.self.invariant.line_room, c.in-Ok.ensures.room, ap (λ v. vec_capacity v) c.swap.ensures.y_after);
      line_room = omega (arith, c.self.invariant.above_room, ap (λ v. vec_capacity v) c.swap.ensures.x_after);
    }

pub returns-clause-next : goal.returns-clause-next
returns-clause-next c = λ lines has.
    let s = c.self.inside in let bits = span_bits s.span in
    let old : ReadSoFar = record { bits = bits; width = s.width; row = s.row; at = s.at; above = s.above.items; fault = None } in
    let new : ReadSoFar = record { bits = bits; width = s.width; row = s.row + 1; at = c.in-Ok.next; above = c.swap.new.y.items; fault = None } in
    let had : HasRead old lines = subst (λ (r : ReadSoFar). HasRead r lines) (sym c.self.view_is) has in
    let swapped : c.swap.new.y.items ≡ c.read_row_in_room.new.line.items = ap (λ v. v.items) c.swap.ensures.y_after in
    line_shown old new lines had refl refl refl
    (λ over shows. subst (λ (ps : List ℕ). RowIsRead over bits s.at c.in-Ok.next s.width ps) (sym swapped)
    (c.in-Ok.ensures.read over (subst (λ (ps : List ℕ). Shows ps s.width over) (sym c.deref.ensures.value) shows)))
