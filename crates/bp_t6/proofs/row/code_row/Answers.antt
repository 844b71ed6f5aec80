use Rattle.bp_t6.proofs.MarkLemmas.{continues_then}
use Rattle.bp_t6.proofs.row.code_row.Goals as goal

pub returns-in_err-stand-clause-begins : goal.returns-in_err-stand-clause-begins
returns-in_err-stand-clause-begins c = continues_then _ c.loop-stand.out _ c.loop-stand.invariant.begins c.code_mode.ensures.begins
