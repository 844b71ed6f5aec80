-- What is read in one piece after another: lines of a file, or records.
use Rattle.std.specs.Prelude.{ℕ, ◌+◌, List, [], ◌∷◌, Option, Some, None, Result, Ok, Err}
use Rattle.bp_core.specs.declared.rules.Rule.{Rule}

-- a value before the others
abbrev pub onto : {V : Type 0} → V → Result (List V) Rule → Result (List V) Rule
onto value (Ok values) = Ok (value ∷ values)
onto value (Err rule) = Err rule

-- a value before the others, or the rule where there is none
abbrev pub first_then : {V : Type 0} → Option V → Rule → Result (List V) Rule
    → Result (List V) Rule
first_then None rule others = Err rule
first_then (Some value) rule others = onto value others

-- what is read in each piece, counted from n, or the rule of the first in which nothing is
abbrev pub read_each : {X V : Type 0} → (X → Option V) → (ℕ → Rule) → ℕ → List X
    → Result (List V) Rule
read_each read rule n [] = Ok []
read_each read rule n (piece ∷ pieces) =
    first_then (read piece) (rule n) (read_each read rule (n + 1) pieces)
