use Rattle.std.proofs.Common.{◌≡◌, ◌+◌, length, Some}
use Rattle.std.specs.Prelude.{vec_len}
use Rattle.bp_matter.specs.ValidProductions.{blank, all_marked_on}
use Rattle.bp_matter.proofs.checking.productions.stand_once.Given as goal

abbrev pub invariant-loop-first : goal.invariant-loop-first
invariant-loop-first l = record {
  so_far : all_marked_on (Some (blank l.docs)) l.productions ≡ all_marked_on (Some l.marks.items) l.rest;
  same : vec_len l.marks ≡ l.docs + 1;
}

abbrev pub decreases-loop-first : goal.decreases-loop-first
decreases-loop-first l = length l.rest
