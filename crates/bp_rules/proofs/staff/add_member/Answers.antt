use Rattle.bp_rules.proofs.ReviewingLemmas.{staff-decided}
use Rattle.bp_rules.proofs.staff.add_member.Goals as goal

pub returns : goal.returns
returns c =
    staff-decided c.args.tables.now.matter c.args.row c.in_ok-change.change c.in_ok-change.ensures c.order_law.ensures c.know_valid.ensures c.requires.number c.requires.few c.requires.name c.as_str-text.ensures.scalars c.know_digest.ensures c.requires.new
