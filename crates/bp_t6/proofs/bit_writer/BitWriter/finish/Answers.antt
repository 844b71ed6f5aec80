use Rattle.std.proofs.Common.{◌+◌, ◌/◌, ◌++◌, take, ap, ◌∙◌, arith, w32}
use Rattle.std.specs.Int.{to_be_bytes}
use Rattle.bp_rows.specs.Packed.{packed_row}
use Rattle.bp_t6.specs.Gathered.{IsGathered}
use Rattle.bp_t6.proofs.FinishLemmas.{finished, shift_is, shift_small}
use Rattle.bp_t6.proofs.bit_writer.BitWriter.finish.Goals as goal

pub overflow_cast-word-2 : goal.overflow_cast-word-2
overflow_cast-word-2 c =
    let k : IsGathered c.self.inside.held c.self.inside.fill = record { few = c.self.invariant.few; small = c.self.invariant.small } in
    omega (arith, shift_is c.self.inside.held c.self.inside.fill k, shift_small c.self.inside.held c.self.inside.fill k)

pub returns-clause-bytes : goal.returns-clause-bytes
returns-clause-bytes c =
    let s = c.self.inside in
    let k : IsGathered s.held s.fill = record { few = c.self.invariant.few; small = c.self.invariant.small } in
    ap (λ v. v.items) c.replace.ensures.value ∙ c.in_ok-extend_from_slice.ensures.items
    ∙ ap (λ bs. s.bytes.items ++ take ((s.fill + 7) / 8) bs) (c.to_be_bytes-last.ensures ∙ ap (to_be_bytes w32) (shift_is s.held s.fill k))
    ∙ finished s.bytes.items s.held s.fill ((s.fill + 7) / 8) k c.self.invariant.fit (omega arith)
    ∙ ap packed_row c.self.view_is
