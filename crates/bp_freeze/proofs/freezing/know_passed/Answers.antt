use Rattle.std.proofs.Common.{arith}
use Rattle.bp_freeze.specs.Seeing.{decisions_of}
use Rattle.bp_freeze.proofs.FamilyLemmas.{many_parents}
use Rattle.bp_freeze.proofs.RuleLemmas.{in-range, range-passed}
use Rattle.bp_freeze.proofs.freezing.know_passed.Goals as goal

pub returns-clause-from : goal.returns-clause-from
returns-clause-from c = (in-range c.args.request.now _ (range-passed (decisions_of c.args.tables.now.matter) c.args.request.now c.requires)).from

pub returns-clause-order : goal.returns-clause-order
returns-clause-order c = (in-range c.args.request.now _ (range-passed (decisions_of c.args.tables.now.matter) c.args.request.now c.requires)).order

pub returns-clause-to : goal.returns-clause-to
returns-clause-to c =
    let within = in-range c.args.request.now _ (range-passed (decisions_of c.args.tables.now.matter) c.args.request.now c.requires) in
    omega (arith, within.to, many_parents c.args.tables.now.matter)
