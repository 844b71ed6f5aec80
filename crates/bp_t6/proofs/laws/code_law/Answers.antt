use Rattle.bp_t6.proofs.CopyLemmas.{code_lies}
use Rattle.bp_t6.proofs.OneReadingLemmas.{AreFree}
use Rattle.bp_t6.proofs.laws.code_law.Goals as goal

free_of : (c : goal.After-mode_laws) → AreFree
free_of c = record { white = c.white_laws.ensures.prefix_free; black = c.black_laws.ensures.prefix_free; modes = c.mode_laws.ensures.prefix_free }

pub returns-clause-order : goal.returns-clause-order
returns-clause-order c = λ p count old new page less before after. (code_lies p count old new (free_of c) page less before after).0

pub returns-clause-code : goal.returns-clause-code
returns-clause-code c = λ p count old new page less before after. (code_lies p count old new (free_of c) page less before after).1
