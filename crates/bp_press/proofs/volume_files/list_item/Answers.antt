use Rattle.bp_press.proofs.ListLemmas.{text_listed}
use Rattle.bp_press.proofs.volume_files.list_item.Goals as goal

pub returns : goal.returns
returns g c = λ f fit own.
    text_listed f (g.P.Shows.matter c.args.shown.now) c.args.item c.args.place c.args.list.now.items _ c.push.new.self.items fit own c.requires.places (c.in_ok-list_images.ensures f fit own) c.in_ok-push.ensures.items
