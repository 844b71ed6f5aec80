use Rattle.bp_matter.proofs.SegmentLemmas.{are_written, rows_of-injective}
use Rattle.bp_matter.proofs.laws.rows_law.Goals as goal

pub returns : goal.returns
returns c = λ m n v w e. rows_of-injective c.strip_law.ensures m n (are_written m v) (are_written n w) e
