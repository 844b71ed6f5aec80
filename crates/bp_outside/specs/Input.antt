-- The input of one exchange at a door, read until it is enough.
use Rattle.std.specs.Prelude.{◌≡◌, ◌⊎◌, ℕ, ◌<◌, ◌≤◌, Bool, true, false, List, [], ◌++◌, length, Vec, Result, Ok, Err}
use Rattle.std.specs.declared.alloc.Global.{Global}
use Rattle.bp_outside.specs.Door.{DoorView, door_after_refusal, changed, took}
use Rattle.bp_outside.specs.declared.input.InputStop.{InputStop}
use Rattle.bp_outside.specs.declared.input.InputStop.TheVariants.{LackedMemory, Refused}
use Rattle.bp_outside.specs.declared.input.TheConstants.{INPUT_CHUNK}
use Rattle.bp_outside.specs.declared.refusals.DoorRefusal.{DoorRefusal}

-- the last read was still needed: at most so many bytes came with it, and of those before it was
-- told that they aren't enough
pub record WasNeeded (Tells : List ℕ → Bool → Type 0) (bytes : List ℕ) : Type 0 where
  pub front : List ℕ
  pub last : List ℕ
  pub all : bytes ≡ front ++ last
  pub few : length last ≤ INPUT_CHUNK
  pub needed : (bytes ≡ []) ⊎ Tells front false

-- these bytes were read: they are told to be enough, or are all that there were
pub record TakesWhole (Tells : List ℕ → Bool → Type 0) (before : DoorView) (bytes : List ℕ)
    (after : DoorView) : Type 0 where
  pub ended : Bool
  pub read : after ≡ changed (took bytes ended) before
  pub whole : Tells bytes true ⊎ (ended ≡ true)
  pub needed : WasNeeded Tells bytes

-- some bytes were read, each as far as it was needed, and lost for want of memory
pub record TakesPart (Tells : List ℕ → Bool → Type 0) (before after : DoorView) : Type 0 where
  pub some : List ℕ
  pub read : after ≡ changed (took some false) before
  pub needed : WasNeeded Tells some

-- some bytes were read, which were told not to be enough, and then a read was refused
pub record InputStopsAt (Tells : List ℕ → Bool → Type 0) (before : DoorView) (refusal : DoorRefusal)
    (after : DoorView) : Type 0 where
  pub some : List ℕ
  pub read : after ≡ door_after_refusal (changed (took some false) before) refusal
  pub short : Tells some false

-- what reading an input leaves
abbrev pub TakesInput : (List ℕ → Bool → Type 0) → DoorView → Result (Vec ℕ Global) InputStop
    → DoorView → Type 0
TakesInput Tells before (Ok bytes) after = TakesWhole Tells before bytes.items after
TakesInput Tells before (Err LackedMemory) after = TakesPart Tells before after
TakesInput Tells before (Err (Refused refusal)) after = InputStopsAt Tells before refusal after

-- some bytes, at most as many as there was room for, were read and put behind those before
pub record TakesMore (room : ℕ) (before : DoorView) (bytes now : List ℕ) (after : DoorView)
    : Type 0 where
  pub more : List ℕ
  pub some : 0 < length more
  pub few : length more ≤ room
  pub all : now ≡ bytes ++ more
  pub read : after ≡ changed (took more false) before

-- some bytes, at most as many as there was room for, were read, and lost for want of memory
pub record LosesSome (room : ℕ) (before after : DoorView) : Type 0 where
  pub some : List ℕ
  pub few : length some ≤ room
  pub read : after ≡ changed (took some false) before

-- what one read of an input leaves: more bytes, or the end
abbrev pub TakesSome : ℕ → DoorView → List ℕ → Result Bool InputStop → List ℕ → DoorView → Type 0
TakesSome room before bytes (Ok true) now after = TakesMore room before bytes now after
TakesSome room before bytes (Ok false) now after =
    (now ≡ bytes) × (after ≡ changed (took [] true) before)
TakesSome room before bytes (Err LackedMemory) now after = LosesSome room before after
TakesSome room before bytes (Err (Refused refusal)) now after =
    after ≡ door_after_refusal before refusal
