-- Steps of which each may break a rule: by `do`, what the last of them gives, or the first broken rule.
use Rattle.std.specs.Prelude.{Result, Ok, Err}
use Rattle.bp_core.specs.declared.rules.Rule.{Rule}

infixl 10 ◌>>=◌
-- what the next step gives of the value of the one before
abbrev pub ◌>>=◌ : {A B : Type 0} → Result A Rule → (A → Result B Rule) → Result B Rule
Ok value >>= next = next value
Err rule >>= next = Err rule
