-- What the system's answers say to a source, a folder and an out.
use Rattle.std.specs.Prelude.{ℕ, ◌==◌, not, ◌&&◌, Result, Ok, Err, if◌then◌else◌}
use Rattle.std.specs.declared.io.Error.{Error}
use Rattle.std.specs.declared.io.ErrorKind.{ErrorKind}
use Rattle.std.specs.declared.io.ErrorKind.TheVariants.{InvalidFilename, InvalidInput, NotADirectory, NotFound}
use Rattle.bp_outside.specs.Counts.{risen}
use Rattle.bp_outside.specs.declared.refusals.DoorRefusal.{DoorRefusal}
use Rattle.bp_outside.specs.declared.refusals.DoorRefusal.TheVariants as doors
use Rattle.bp_outside.specs.declared.refusals.ReadRefusal.{ReadRefusal}
use Rattle.bp_outside.specs.declared.refusals.ReadRefusal.TheVariants.{Absent, Failed}

-- how many bytes of a piece of that length a write took; failed where it was an error, and where it
-- took nothing of a piece that has any
abbrev pub write_answer : {E : Type 0} → E → ℕ → Result ℕ Error → Result ℕ E
write_answer failed length (Ok count) =
    if (count == 0) && not (length == 0) then Err failed else Ok count
write_answer failed length (Err error) = Err failed

-- how many bytes a read at a door gave; failed where it was an error
abbrev pub read_answer : Result ℕ Error → Result ℕ DoorRefusal
read_answer (Ok count) = Ok count
read_answer (Err error) = Err doors.Failed

-- a count of faults after an answer: an error raises it
abbrev pub after_answer : {T E : Type 0} → Result T E → ℕ → ℕ
after_answer (Ok _) faults = faults
after_answer (Err _) faults = risen faults

-- why a file couldn't be opened to be read. A path below a plain file is no file, nor is one with a
-- NUL or with a name that is too long for a file
abbrev pub opening_refusal : ErrorKind → ReadRefusal
opening_refusal NotFound = Absent
opening_refusal NotADirectory = Absent
opening_refusal InvalidFilename = Absent
opening_refusal InvalidInput = Absent
opening_refusal _ = Failed
