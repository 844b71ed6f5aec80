-- The answer to a file whose page isn't asked for.
use Rattle.std.specs.Prelude.{Result, Ok, Err}
use Rattle.bp_core.specs.declared.rules.Rule.{Rule}
use Rattle.bp_rows.specs.Image.{Image}

-- the answer to a file, whose page is let go: that it holds one, or the first rule that it breaks
abbrev pub judged : Result Image Rule → Result (Unit {0}) Rule
judged (Ok p) = Ok tt
judged (Err rule) = Err rule
