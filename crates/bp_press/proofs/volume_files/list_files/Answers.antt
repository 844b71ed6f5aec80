use Rattle.bp_press.proofs.ListLemmas.{all_listed}
use Rattle.bp_press.proofs.volume_files.list_files.Goals as goal

pub returns : goal.returns
returns g c =
    all_listed c.args.production.now (g.P.Shows.matter c.args.shown.now) c.new-list.result.items _ _ _ _ c.requires.pressed c.new-list.ensures.items c.in_ok-list_items.ensures
    c.in_ok-push.ensures.items c.in_ok-push-2.ensures.items c.in_ok-push-3.ensures.items
