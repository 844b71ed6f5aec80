use Rattle.std.proofs.Common.{refl}
use Rattle.bp_codes.specs.CodeLists.{white_codes}
use Rattle.bp_codes.proofs.PrefixFreeLemmas.{prefix_free, reads_back, cut_means_ends}
use Rattle.bp_codes.proofs.laws.white_laws.Goals as goal

pub returns-clause-prefix_free : goal.returns-clause-prefix_free
unfolding white_codes
returns-clause-prefix_free c = prefix_free white_codes refl

pub returns-clause-reads_back : goal.returns-clause-reads_back
unfolding white_codes
returns-clause-reads_back c = reads_back white_codes (prefix_free white_codes refl) refl

pub returns-clause-cut : goal.returns-clause-cut
unfolding white_codes
returns-clause-cut c = cut_means_ends white_codes (prefix_free white_codes refl)
