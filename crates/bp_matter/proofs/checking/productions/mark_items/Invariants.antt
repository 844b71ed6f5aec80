use Rattle.std.proofs.Common.{◌≡◌, length, Some}
use Rattle.std.specs.Prelude.{vec_len}
use Rattle.bp_matter.specs.ValidProductions.{marked_on}
use Rattle.bp_matter.proofs.checking.productions.mark_items.Given as goal

abbrev pub invariant-loop-first : goal.invariant-loop-first
invariant-loop-first l = record {
  so_far : marked_on (Some l.initial.marks.items) l.items ≡ marked_on (Some l.marks.items) l.rest;
  same : vec_len l.marks ≡ vec_len l.initial.marks;
}

abbrev pub decreases-loop-first : goal.decreases-loop-first
decreases-loop-first l = length l.rest
