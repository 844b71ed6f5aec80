-- Reading a stream of bytes to its end, up to a limit. A reader's bytes are known or not.
use Rattle.std.specs.Prelude.{◌≡◌, ℕ, ◌<◌, ◌≤◌, ⊤, List, length, Vec, Option, Result, Ok, Err}
use Rattle.std.specs.declared.alloc.Global.{Global}
use Rattle.std.specs.Io.KnownBytes.{Consumes}
use Rattle.bp_outside.specs.declared.refusals.ReadRefusal.{ReadRefusal}
use Rattle.bp_outside.specs.declared.refusals.ReadRefusal.TheVariants.{Absent, TooLong, Failed, OutOfMemory}

-- what the answer says of the bytes that the reader had: all of them, or more than max; nothing
-- where the reading failed or memory ran out
abbrev pub ReadsWhole : ℕ → Result (Vec ℕ Global) ReadRefusal → List ℕ → Type 0
ReadsWhole max (Ok bytes) known = known ≡ bytes.items
ReadsWhole max (Err Absent) known = ⊥
ReadsWhole max (Err TooLong) known = max < length known
ReadsWhole max (Err Failed) known = ⊤
ReadsWhole max (Err OutOfMemory) known = ⊤

-- a reader lost at most so many bytes from its front
pub record TakesAtMost (most : ℕ) (before after : Option (List ℕ)) : Type 0 where
  pub taken : List ℕ
  pub few : length taken ≤ most
  pub consumed : Consumes before after taken
