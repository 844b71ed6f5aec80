use Rattle.std.proofs.Common.{rules}
use Rattle.bp_press.proofs.ListLemmas.{pages_begin, pages_end, pages_turn}
use Rattle.bp_press.proofs.volume_files.list_pages.Goals as goal

pub loop-page-init : goal.loop-page-init
loop-page-init g c = record {
  so_far = λ f fit own. pages_begin f (g.P.Shows.matter c.args.shown.now) c.args.item.now c.args.place c.args.list.now.items;
  within = search rules;
}

pub loop-page-preserved : goal.loop-page-preserved
loop-page-preserved g c = record {
  so_far = λ f fit own.
      pages_turn f (g.P.Shows.matter c.args.shown.now) c.args.item c.args.place c.loop-page.page c.args.list.now.items c.loop-page.list.items _ fit own c.requires.shown c.requires.places
      (search rules) (search rules) (search rules) (c.loop-page.invariant.so_far f fit own);
  within = search rules;
}

pub returns : goal.returns
returns g c = λ f fit own.
    pages_end f (g.P.Shows.matter c.args.shown.now) c.args.item.now c.args.place c.loop-page.page c.args.list.now.items c.loop-page.list.items c.requires.shown (search rules) (c.loop-page.invariant.so_far f fit own)
