use Rattle.std.proofs.Common.{◌≡◌, ℕ, List, [], ◌∷◌, ◌++◌, append_assoc, refl, sym}
use Rattle.std.specs.List.{join_with_byte}
use Rattle.std.proofs.Output.{has_written_append, has_written_of_eq}
use Rattle.bp_core.proofs.rules.RuleDisplay.fmt.Goals as goal

-- the two writes, joined
joined : (number name line a b : List ℕ) → (number ++ 32 ∷ (name ++ 32 ∷ line)) ++ 32 ∷ (a ++ 32 ∷ b) ≡ join_with_byte 32 (number ∷ name ∷ line ∷ a ∷ b ∷ [])
joined number name line a b = simp append_assoc

pub returns-clause-writes : goal.returns-clause-writes
returns-clause-writes g c plain ok =
    let first = c.in_ok-write.ensures.writes plain refl in
    rw (sym c.number-number.ensures, sym c.name-name.ensures)
    (has_written_of_eq _ _ _ _ _ (joined _ _ _ _ _) (has_written_append _ _ _ _ _ _ first (c.write-2.ensures.writes first.plain ok)))
