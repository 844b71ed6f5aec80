-- The doors of the program.
use Rattle.std.specs.Prelude.{ℕ, zero, suc, ◌+◌, List, [], ◌∷◌, ◌++◌}
use Rattle.bp_outside.specs.declared.system.tcp_door.TheConstants.{BASE_PORT}

-- the ports of the desks from 1 to a number
abbrev pub ports_to : ℕ → List ℕ
ports_to zero = []
ports_to (suc desk) = ports_to desk ++ (BASE_PORT + suc desk) ∷ []
