use Rattle.bp_bates.proofs.LabelLemmas.{labels_same}
use Rattle.bp_bates.proofs.PrefixLemmas.{IsGood-from_test}
use Rattle.bp_bates.proofs.labels.labels_tell_apart.Goals as goal

pub returns : goal.returns
returns c = λ p q v w m n good good' small small' e.
    labels_same p q v w m n (IsGood-from_test p v good) (IsGood-from_test q w good') small small' e
