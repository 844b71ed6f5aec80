use Rattle.bp_rules.proofs.FreezingLemmas.{CanBeKept, can-be-kept}
use Rattle.bp_rules.proofs.productions.know_kept.Goals as goal

pub returns : goal.returns
returns c =
    let m = c.args.tables.now.matter in
    let f = c.args.production.now in
    let can : CanBeKept m f = can-be-kept m f c.order_law.ensures c.requires.new (c.frozen_is_valid.ensures m c.args.request.now f c.know_valid.ensures c.requires.answer) in
    record {
      made = can.made;
      prefix = can.prefix;
      row = can.row;
      number = can.number;
      productions = can.productions;
      next = can.next;
    }
