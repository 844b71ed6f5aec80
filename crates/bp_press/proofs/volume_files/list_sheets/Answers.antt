use Rattle.std.proofs.Common.{rules}
use Rattle.bp_press.proofs.ListLemmas.{sheets_begin, sheets_end, sheets_turn}
use Rattle.bp_press.proofs.volume_files.list_sheets.Goals as goal

pub loop-sheet-init : goal.loop-sheet-init
loop-sheet-init c = record {
  so_far = λ f m fit. sheets_begin f m c.args.item.now c.args.basis c.args.place c.args.list.now.items;
  within = search rules;
}

pub loop-sheet-preserved : goal.loop-sheet-preserved
loop-sheet-preserved c = record {
  so_far = λ f m fit.
      sheets_turn f m c.args.item c.args.basis c.args.place c.loop-sheet.sheet c.args.list.now.items c.loop-sheet.list.items _ fit c.requires.withheld c.requires.places
      (search rules) (search rules) (search rules) (c.loop-sheet.invariant.so_far f m fit);
  within = search rules;
}

pub returns : goal.returns
returns c = λ f m fit.
    sheets_end f m c.args.item.now c.args.basis c.args.place c.loop-sheet.sheet c.args.list.now.items c.loop-sheet.list.items c.requires.withheld (search rules) (c.loop-sheet.invariant.so_far f m fit)
