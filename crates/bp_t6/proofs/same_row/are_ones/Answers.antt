use Rattle.std.proofs.Common.{◌-◌, ◌/◌, ◌^◌, sym, ◌∙◌, arith}
use Rattle.std.proofs.lemmas.Bool.{eqb-true}
use Rattle.bp_t6.proofs.SameRowLemmas.{ones_at}
use Rattle.bp_t6.proofs.same_row.are_ones.Goals as goal

pub returns : goal.returns
returns c = λ bits ahead is.
    let count = c.args.count in
    ones_at c.args.word count bits ahead c.requires.few (omega arith) (eqb-true (c.args.word / 2 ^ (64 - count)) (18446744073709551615 / 2 ^ (64 - count)) is)
