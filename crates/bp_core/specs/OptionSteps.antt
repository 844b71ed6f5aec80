-- Steps of which each may find nothing: by `do`, what the last of them gives.
use Rattle.std.specs.Prelude.{Option}
use Rattle.std.specs.Option.{option_and_then}

infixl 10 ◌>>=◌
-- what the next step gives of the value of the one before
abbrev pub ◌>>=◌ : {A B : Type 0} → Option A → (A → Option B) → Option B
found >>= next = option_and_then next found
