-- Bytes that are added to the open file of a folder, or pass at the open stream of a door.
use Rattle.std.specs.Prelude.{ℕ, Option, Some, None, Result, List}
use Rattle.std.specs.Io.KnownBytes.{ReadConsumes, WriteAppends}

-- what the answer says of the bytes that were written, where they are known: as many first bytes of
-- the piece were added as it says. A file is open before and after
abbrev pub AppendsTo : {F E : Type 0} → (F → Option (List ℕ)) → Option F → Option F
    → Result ℕ E → List ℕ → Type 0
AppendsTo contents (Some old) (Some new) result piece =
    WriteAppends (contents old) (contents new) result piece
AppendsTo contents None new result piece = ⊥
AppendsTo contents (Some old) None result piece = ⊥

-- what the answer says of the bytes that are left to read, where they are known: as many of the
-- next ones stand at the front of the room as it says. A stream is open before and after
abbrev pub ReadsFrom : {S E : Type 0} → (S → Option (List ℕ)) → Option S → Option S
    → Result ℕ E → List ℕ → Type 0
ReadsFrom remaining (Some old) (Some new) result room =
    ReadConsumes (remaining old) (remaining new) result room
ReadsFrom remaining None new result room = ⊥
ReadsFrom remaining (Some old) None result room = ⊥
