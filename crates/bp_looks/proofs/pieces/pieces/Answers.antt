use Rattle.std.proofs.Common.{◌∙◌, List, ℕ, ap, map}
use Rattle.std.specs.Str.{chars}
use Rattle.bp_looks.specs.Pieces.{pieces_of}
use Rattle.bp_looks.proofs.PieceLemmas.{pieces-chars}
use Rattle.bp_looks.proofs.StepLemmas.{texts-now}
use Rattle.bp_looks.proofs.pieces.pieces.Goals as goal

pub returns : goal.returns
returns c =
    texts-now c.in_ok-pieces.pieces.items
    ∙ (ap (λ (l : List (List ℕ)). map chars l) c.in_ok-pieces.ensures
    ∙ (ap (λ (l : List ℕ). map chars (pieces_of l)) c.as_str.ensures.bytes
    ∙ pieces-chars c.args.value.now c.as_str.ensures.scalars))
