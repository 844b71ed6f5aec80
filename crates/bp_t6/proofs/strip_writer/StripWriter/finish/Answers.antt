use Rattle.std.proofs.Common.{ap, ◌∙◌, ◌++◌}
use Rattle.bp_codes.specs.CodeLists.{end_of_block}
use Rattle.bp_rows.specs.Packed.{packed_row}
use Rattle.bp_t6.specs.SoFar.{AddedSoFar}
use Rattle.bp_t6.proofs.SoFarLemmas.{none_added, strip_ended}
use Rattle.bp_t6.proofs.strip_writer.StripWriter.finish.Goals as goal

pub returns-clause-strip : goal.returns-clause-strip
returns-clause-strip c = λ p same has.
    strip_ended p c.args.self.now _ same has
    (c.from_vec.ensures ∙ c.in_ok-finish.ensures.bytes ∙ ap (λ (w : AddedSoFar). packed_row (w.bits ++ end_of_block)) c.self.view_is)

pub returns-clause-none : goal.returns-clause-none
returns-clause-none c = none_added _ c.in_ok-finish.ensures.out c.in_ok-finish.ensures.above
