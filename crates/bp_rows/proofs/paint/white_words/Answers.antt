use Rattle.std.proofs.Common.{arith}
use Rattle.std.proofs.lemmas.List.{take-replicate}
use Rattle.bp_rows.proofs.paint.white_words.Goals as goal

pub returns : goal.returns
returns c = take-replicate _ 2504 0 (omega arith)
