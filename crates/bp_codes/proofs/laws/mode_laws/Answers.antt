use Rattle.std.proofs.Common.{refl}
use Rattle.bp_codes.specs.CodeLists.{mode_codes}
use Rattle.bp_codes.proofs.PrefixFreeLemmas.{prefix_free, reads_back, cut_means_ends}
use Rattle.bp_codes.proofs.laws.mode_laws.Goals as goal

pub returns-clause-prefix_free : goal.returns-clause-prefix_free
unfolding mode_codes
returns-clause-prefix_free c = prefix_free mode_codes refl

pub returns-clause-reads_back : goal.returns-clause-reads_back
unfolding mode_codes
returns-clause-reads_back c = reads_back mode_codes (prefix_free mode_codes refl) refl

pub returns-clause-cut : goal.returns-clause-cut
unfolding mode_codes
returns-clause-cut c = cut_means_ends mode_codes (prefix_free mode_codes refl)
