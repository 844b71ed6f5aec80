use Rattle.std.proofs.Common.{List, [], ◌∷◌, ◌++◌, ◌∙◌, ap, append_assoc}
use Rattle.bp_demo.specs.declared.calls.KeyedCall.{KeyedCall}
use Rattle.bp_demo.proofs.calls.add_two.Goals as goal

pub returns : goal.returns
returns c =
    c.in_ok-push-2.ensures.items ∙ ap (λ (calls : List KeyedCall). calls ++ c.args.second ∷ []) c.in_ok-push.ensures.items
    ∙ append_assoc c.args.calls.now.items (c.args.first ∷ []) (c.args.second ∷ [])
