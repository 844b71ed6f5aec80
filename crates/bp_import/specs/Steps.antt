-- A step that only tests.
use Rattle.std.specs.Prelude.{Bool, Result, Ok, Err, if◌then◌else◌}
use Rattle.bp_core.specs.declared.rules.Rule.{Rule}

-- a test passes, or a rule is broken
abbrev pub demanded : Bool → Rule → Result (Unit {0}) Rule
demanded passes rule = if passes then Ok tt else Err rule
