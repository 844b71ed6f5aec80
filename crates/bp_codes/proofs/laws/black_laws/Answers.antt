use Rattle.std.proofs.Common.{refl}
use Rattle.bp_codes.specs.CodeLists.{black_codes}
use Rattle.bp_codes.proofs.PrefixFreeLemmas.{prefix_free, reads_back, cut_means_ends}
use Rattle.bp_codes.proofs.laws.black_laws.Goals as goal

pub returns-clause-prefix_free : goal.returns-clause-prefix_free
unfolding black_codes
returns-clause-prefix_free c = prefix_free black_codes refl

pub returns-clause-reads_back : goal.returns-clause-reads_back
unfolding black_codes
returns-clause-reads_back c = reads_back black_codes (prefix_free black_codes refl) refl

pub returns-clause-cut : goal.returns-clause-cut
unfolding black_codes
returns-clause-cut c = cut_means_ends black_codes (prefix_free black_codes refl)
