-- Steps one after another: each has a value, or the first rule that is broken.
use Rattle.std.specs.Prelude.{ℕ, ◌+◌, Bool, List, [], ◌∷◌, ◌++◌, Result, Ok, Err, if◌then◌else◌}
use Rattle.bp_core.specs.declared.rules.Rule.{Rule}
use Rattle.bp_core.specs.InTurn.{onto}
use Rattle.bp_core.specs.RuleSteps.{◌>>=◌}

-- a test passes, or a rule is broken
abbrev pub must_pass : Bool → Rule → Result (Unit {0}) Rule
must_pass passes rule = if passes then Ok tt else Err rule

-- the value of the first before those of the others; the first rule that is broken stops all
abbrev pub in_turn : {V : Type 0} → Result V Rule → Result (List V) Rule → Result (List V) Rule
in_turn (Ok value) others = onto value others
in_turn (Err rule) others = Err rule

-- values before those that come next
abbrev pub behind : {V : Type 0} → List V → Result (List V) Rule → Result (List V) Rule
behind front (Ok values) = Ok (front ++ values)
behind front (Err rule) = Err rule

-- a step for each piece, counted from n
abbrev pub each : {X V : Type 0} → (ℕ → X → Result V Rule) → ℕ → List X → Result (List V) Rule
each step n [] = Ok []
each step n (piece ∷ pieces) = in_turn (step n piece) (each step (n + 1) pieces)
