-- What a loop has found so far, against what all pieces give together.
use Rattle.std.proofs.Common.{◌≡◌, Result, Ok, Err, List, [], ◌∷◌, ◌++◌, refl, ap, append_assoc}
use Rattle.bp_core.specs.InTurn.{onto}
use Rattle.bp_core.specs.declared.rules.Rule.{Rule}
use Rattle.bp_core.proofs.InTurnLemmas.{after_front}

-- one more value at the end of those that were found
pub front_onto : {V : Type 0} (front : List V) (value : V) (r : Result (List V) Rule)
    → after_front (front ++ value ∷ []) r ≡ after_front front (onto value r)
front_onto front value (Ok values) = ap Ok (append_assoc front (value ∷ []) values)
front_onto front value (Err rule) = refl
