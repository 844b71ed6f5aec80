use Rattle.std.proofs.Common.{◌∙◌, ap}
use Rattle.bp_rules.specs.Beginning.{begun}
use Rattle.bp_demo.proofs.TableLemmas.{demo_made}
use Rattle.bp_demo.proofs.tables.demo_tables.Goals as goal

pub returns : goal.returns
returns g c =
    demo_made c.args.seed c.args.pages c.in_ok-asked.asked c.in_ok-tables.tables.matter c.make_all.new.tables.matter
    c.in_ok-asked.ensures (c.in_ok-tables.ensures ∙ ap begun c.digest_of.ensures) c.in_ok-make_all.ensures
