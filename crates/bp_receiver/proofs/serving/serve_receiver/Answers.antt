use Rattle.bp_receiver.specs.EventServing.{desk_view}
use Rattle.bp_receiver.proofs.EventServingLemmas.{door-delivered}
use Rattle.bp_receiver.proofs.serving.serve_receiver.Goals as goal

pub returns-clause-served : goal.returns-clause-served
returns-clause-served g c =
    door-delivered (λ v. desk_view v.0 (g.K.Keeper.shows v.1)) _ _ _ _ _ _ c.serve.ensures.served
