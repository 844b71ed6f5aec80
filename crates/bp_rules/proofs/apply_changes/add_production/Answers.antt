use Rattle.std.proofs.Common.{subst, sym}
use Rattle.bp_matter.specs.Matter.{Shown, prefix_key}
use Rattle.bp_matter.specs.Valid.{IsValid}
use Rattle.bp_matter.proofs.NumberedLemmas.{numbered-ascends}
use Rattle.bp_rules.specs.Changes.{with_produced}
use Rattle.bp_rules.proofs.apply_changes.add_production.Goals as goal

pub produce-requires-clause-order : goal.produce-requires-clause-order
produce-requires-clause-order c = numbered-ascends prefix_key c.tables.inside.prefixes.items c.tables.invariant.prefixes.numbered

pub invariant_of-tables : goal.invariant_of-tables
invariant_of-tables c =
    rw (c.produce.ensures.prefixes, c.produce.ensures.productions) (subst (λ (s : Shown). IsValid (with_produced c.args.prefix c.args.row s.matter)) (sym c.tables.view_is) c.requires.valid)
