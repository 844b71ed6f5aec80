-- Where one stream of bytes is written to, as standard output.
use Rattle.std.specs.Prelude.{◌≡◌, ℕ, ◌<◌, ◌≤◌, Bool, List, ◌++◌, length, take, Option, Result, Ok, Err}
use Rattle.std.specs.Option.{option_map}
use Rattle.bp_outside.specs.Counts.{risen}
use Rattle.bp_outside.specs.declared.refusals.OutRefusal.{OutRefusal}
use Rattle.bp_outside.specs.declared.refusals.OutRefusal.TheVariants.{Failed, OutOfMemory}

-- what is known of an out: the bytes written, if they are told; how often a write failed; and
-- whether it is sure, one that can't fail
pub record OutView : Type 0 where
  pub written : Option (List ℕ)
  pub faults : ℕ
  pub sure : Bool

-- the out with these bytes written as well
abbrev pub with_written : OutView → List ℕ → OutView
with_written out bytes =
    record out { written = option_map (λ written. written ++ bytes) out.written }

-- the out after a refusal: as it was, but for the count of faults
abbrev pub out_after_refusal : OutView → OutRefusal → OutView
out_after_refusal out Failed = record out { faults = risen out.faults }
out_after_refusal out OutOfMemory = out

-- the first so many bytes of a piece were written: at most the piece, and at least one byte where
-- it has one
pub record OutWritesFirst (out : OutView) (piece : List ℕ) (count : ℕ) (after : OutView)
    : Type 0 where
  pub within : count ≤ length piece
  pub some : 0 < length piece → 0 < count
  pub written : after ≡ with_written out (take count piece)

-- some prefix of a piece was written
pub record OutWritesPrefix (out : OutView) (piece : List ℕ) (after : OutView) : Type 0 where
  pub count : ℕ
  pub written : after ≡ with_written out (take count piece)

-- what a write of a piece leaves
abbrev pub OutWrites : OutView → List ℕ → Result ℕ OutRefusal → OutView → Type 0
OutWrites out piece (Ok count) after = OutWritesFirst out piece count after
OutWrites out piece (Err refusal) after =
    OutWritesPrefix (out_after_refusal out refusal) piece after

-- what a write of a whole piece leaves
abbrev pub WritesAll : OutView → List ℕ → Result (Unit {0}) OutRefusal → OutView → Type 0
WritesAll out piece (Ok _) after = after ≡ with_written out piece
WritesAll out piece (Err refusal) after =
    OutWritesPrefix (out_after_refusal out refusal) piece after
