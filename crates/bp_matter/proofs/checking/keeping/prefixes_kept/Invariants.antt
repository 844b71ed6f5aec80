use Rattle.std.proofs.Common.{◌≡◌, length}
use Rattle.std.specs.List.{list_all}
use Rattle.bp_matter.specs.ValidProductions.{has_prefix}
use Rattle.bp_matter.proofs.KeepLemmas.{Kept}
use Rattle.bp_matter.proofs.checking.keeping.prefixes_kept.Given as goal

abbrev pub invariant-loop-row : goal.invariant-loop-row
invariant-loop-row l = Kept l.prefixes l.left l.kept

abbrev pub decreases-loop-row : goal.decreases-loop-row
decreases-loop-row l = length l.left

abbrev pub invariant-loop-first : goal.invariant-loop-first
invariant-loop-first l = list_all (has_prefix l.prefixes) l.productions ≡ list_all (has_prefix l.prefixes) l.rest

abbrev pub decreases-loop-first : goal.decreases-loop-first
decreases-loop-first l = length l.rest
