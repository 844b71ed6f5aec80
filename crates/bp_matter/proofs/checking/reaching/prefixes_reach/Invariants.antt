use Rattle.std.proofs.Common.{◌≡◌, length}
use Rattle.std.specs.List.{list_all}
use Rattle.bp_matter.specs.ValidPrefixes.{is_used, spans_reach}
use Rattle.bp_matter.proofs.ReachLemmas.{Reached}
use Rattle.bp_matter.proofs.checking.reaching.prefixes_reach.Given as goal

abbrev pub invariant-loop-row : goal.invariant-loop-row
invariant-loop-row l = Reached l.productions l.left l.reached

abbrev pub decreases-loop-row : goal.decreases-loop-row
decreases-loop-row l = length l.left

abbrev pub invariant-loop-first : goal.invariant-loop-first
invariant-loop-first l = record {
  used : list_all (is_used l.productions) l.prefixes ≡ list_all (is_used l.productions) l.rest;
  reach : list_all (spans_reach l.productions) l.prefixes ≡ list_all (spans_reach l.productions) l.rest;
}

abbrev pub decreases-loop-first : goal.decreases-loop-first
decreases-loop-first l = length l.rest
