use Rattle.std.proofs.Common.{◌≡◌, length}
use Rattle.std.specs.List.{list_all}
use Rattle.bp_matter.specs.ValidProductions.{production_fits}
use Rattle.bp_matter.proofs.checking.productions.productions_fit.Given as goal

abbrev pub invariant-loop-first : goal.invariant-loop-first
invariant-loop-first l = list_all (production_fits l.fields l.docs l.pages) l.rows ≡ list_all (production_fits l.fields l.docs l.pages) l.rest

abbrev pub decreases-loop-first : goal.decreases-loop-first
decreases-loop-first l = length l.rest
