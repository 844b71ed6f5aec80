use Rattle.bp_press.proofs.SoughtLemmas.{all_sought}
use Rattle.bp_press.proofs.sought.list_sought.Goals as goal

pub returns : goal.returns
returns g c =
    all_sought c.args.production.now (g.P.Shows.matter c.args.shown.now) c.args.path.now c.new-list.result.items _ _ _ _ c.requires.pressed c.new-list.ensures.items c.in_ok-list_holders.ensures
    c.in_ok-push.ensures.items c.in_ok-push-2.ensures.items c.in_ok-push-3.ensures.items
