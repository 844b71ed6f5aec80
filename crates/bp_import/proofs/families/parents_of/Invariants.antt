use Rattle.std.proofs.Common.{◌≡◌, ◌+◌, length}
use Rattle.std.specs.Option.{option_copied}
use Rattle.bp_core.proofs.InTurnLemmas.{after_front}
use Rattle.bp_import.specs.Families.{parents_from, parents_of}
use Rattle.bp_import.proofs.families.parents_of.Given as goal

-- the parents so far and those of the records that are left
abbrev pub invariant-loop-doc : goal.invariant-loop-doc
invariant-loop-doc l = record {
  told : after_front l.parents.items (parents_from (l.number + 1) (option_copied l.before) l.parent l.rest) ≡ parents_of l.fn.docs;
  counted : l.number + length l.rest ≡ length l.fn.docs;
}

abbrev pub decreases-loop-doc : goal.decreases-loop-doc
decreases-loop-doc l = length l.rest
